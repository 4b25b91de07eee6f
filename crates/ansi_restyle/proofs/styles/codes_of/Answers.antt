use Rattle.std.proofs.Common.{rules, ◌++◌, string_bytes, ◌∙◌, ap}
use Rattle.ansi_style.specs.Rendition.{known}
use Rattle.ansi_style.specs.States.{rendition_of}
use Rattle.ansi_style.specs.Written.{start}
use Rattle.ansi_style.proofs.StyleLemmas.{IsStyle-rendition_of}
use Rattle.ansi_restyle.specs.Restyled.{is_change}
use Rattle.ansi_restyle.specs.Styles.{selected}
use Rattle.ansi_restyle.proofs.CodeListLemmas.{joined-begun, joined-next, joined-pushed, joined-done, selected-codes_of, is_change-codes_of}
use Rattle.ansi_restyle.proofs.styles.codes_of.Goals as goal

-- nothing is written yet, and the start's sequences are left
pub loop-sequence-init : goal.loop-sequence-init
loop-sequence-init g c =
    let style = c.args.style.now in
    let begun = ap (λ u. u ++ start (rendition_of style)) c.new-start.ensures.bytes in
    record {
      separator_text = search rules;
      rest_text = search rules;
      so_far = joined-begun (rendition_of style) (string_bytes c.new-codes.result) c.as_str-rest.result.now (IsStyle-rendition_of style) c.new-codes.ensures.bytes
          (c.as_str-rest.ensures.value ∙ c.in_ok-write_start.ensures.bytes ∙ begun);
    }

pub range_from-requires : goal.range_from-requires
range_from-requires g c = λ _. (joined-next c.in-Some.sequence c.in-Some.more c.loop-sequence.invariant.so_far c.in-Some.ensures.cases).boundary

-- over a sequence
pub loop-sequence-preserved : goal.loop-sequence-preserved
loop-sequence-preserved g c = record {
  separator_text = search rules;
  rest_text = search rules;
  so_far = joined-pushed c.in-Some.sequence c.in-Some.more (string_bytes c.push_str.new.self) c.range_from.result.now (string_bytes c.push_str-in-Some.new.self) c.loop-sequence.invariant.so_far c.in-Some.ensures.cases
      c.in_ok-push_str.ensures.bytes c.range_from.ensures.value c.in_ok-push_str-2.ensures.bytes;
}

-- no sequence is left
pub returns-clause-codes : goal.returns-clause-codes
returns-clause-codes g c = joined-done c.loop-sequence.invariant.so_far c.in_default.ensures.cases

pub returns-clause-selected : goal.returns-clause-selected
returns-clause-selected g c =
    let style = c.args.style.now in
    ap (λ u. known (selected u)) (joined-done c.loop-sequence.invariant.so_far c.in_default.ensures.cases) ∙ selected-codes_of (rendition_of style) (IsStyle-rendition_of style)

pub returns-clause-change : goal.returns-clause-change
returns-clause-change g c =
    let style = c.args.style.now in
    ap is_change (joined-done c.loop-sequence.invariant.so_far c.in_default.ensures.cases) ∙ is_change-codes_of (rendition_of style) (IsStyle-rendition_of style)
