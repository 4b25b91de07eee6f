use Rattle.std.proofs.Common.{◌++◌, length, sym, ◌∙◌, ap, ap₂, arith}
use Rattle.ansi_style.specs.States.{rendition_of}
use Rattle.ansi_style.specs.Written.{close}
use Rattle.ansi_cells.proofs.SliceLemmas.{sliced-nothing, alone-bytes, before_text, whole-bytes}
use Rattle.ansi_cells.proofs.slices.ascii_slice.Goals as goal

pub returns-in-Nothing-clause-bytes : goal.returns-in-Nothing-clause-bytes
returns-in-Nothing-clause-bytes g c = sliced-nothing c.args.text.now c.args.start c.args.end c.in-Nothing.ensures.1

-- the stretch alone

pub returns-then-is_middle_alone-clause-bytes : goal.returns-then-is_middle_alone-clause-bytes
returns-then-is_middle_alone-clause-bytes g c =
    let are = c.in-Parts.ensures.1.parts_are in
    alone-bytes c.in-Parts.parts are.whole (sym c.is_middle_alone.ensures ∙ c.if-is_middle_alone.true) ∙ are.bytes

pub returns-then-is_middle_alone-clause-len : goal.returns-then-is_middle_alone-clause-len
returns-then-is_middle_alone-clause-len g c =
    let are = c.in-Parts.ensures.1.parts_are in
    omega (arith, are.len, ap length (alone-bytes c.in-Parts.parts are.whole (sym c.is_middle_alone.ensures ∙ c.if-is_middle_alone.true)))

-- with a start or a close

pub returns-clause-bytes : goal.returns-clause-bytes
returns-clause-bytes g c =
    let p = c.in-Parts.parts in
    let are = c.in-Parts.ensures.1 in
    ap₂ (λ l s. before_text p are.none_before are.none_after ++ p.text.now ++ (l ++ close (rendition_of s))) c.ending.ensures.link_end c.ending.ensures.style
    ∙ sym (whole-bytes p are.none_before are.none_after are.parts_are.whole) ∙ are.parts_are.bytes

pub returns-clause-len : goal.returns-clause-len
returns-clause-len g c =
    let p = c.in-Parts.parts in
    let are = c.in-Parts.ensures.1 in
    omega (
      arith,
      are.parts_are.len,
      ap length (whole-bytes p are.none_before are.none_after are.parts_are.whole
          ∙ sym (ap₂ (λ l s. before_text p are.none_before are.none_after ++ p.text.now ++ (l ++ close (rendition_of s))) c.ending.ensures.link_end c.ending.ensures.style)),
    )
