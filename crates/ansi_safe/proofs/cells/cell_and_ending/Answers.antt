use Rattle.std.proofs.Common.{◌≡◌, is_some, sym, ◌∙◌, ap}
use Rattle.std.proofs.lemmas.Bool.{false≢true}
use Rattle.std.proofs.lemmas.Result.{IfOk-weaker}
use Rattle.ansi_items.specs.Plain.{marks}
use Rattle.ansi_style.specs.Reading.{style_after_from}
use Rattle.ansi_style.specs.States.{rendition_of}
use Rattle.ansi_style.specs.Styled.{style_after}
use Rattle.ansi_safe.specs.declared.cells.Place.TheVariants.{Cell}
use Rattle.ansi_safe.specs.Cells.{cell}
use Rattle.ansi_safe.specs.Links.{link_of, link_end}
use Rattle.ansi_safe.proofs.CellLemmas.{placed-stays, placed_stays}
use Rattle.ansi_safe.proofs.cells.cell_and_ending.Goals as goal

-- the text stays as it is

pub returns-in-Some-clause-bytes : goal.returns-in-Some-clause-bytes
returns-in-Some-clause-bytes g c = sym (placed-stays Cell c.args.text.now c.utf8.text (sym c.in-Some.ensures.none))

pub returns-in-Some-clause-link_end : goal.returns-in-Some-clause-link_end
returns-in-Some-clause-link_end g c =
    let stays : cell c.args.text.now ≡ c.args.text.now = placed-stays Cell c.args.text.now c.utf8.text (sym c.in-Some.ensures.none) in
    c.ending.ensures.link_end ∙ ap link_end (c.in-Some.ensures.link ∙ ap (λ u. link_of (marks u)) (sym stays))

pub returns-in-Some-clause-style : goal.returns-in-Some-clause-style
returns-in-Some-clause-style g c =
    let stays : cell c.args.text.now ≡ c.args.text.now = placed-stays Cell c.args.text.now c.utf8.text (sym c.in-Some.ensures.none) in
    ap rendition_of c.ending.ensures.style ∙ c.in-Some.ensures.style ∙ ap (λ s. style_after_from s c.args.text.now) c.plain_style.ensures ∙ ap style_after (sym stays)

pub returns-in-Some-clause-borrowed : goal.returns-in-Some-clause-borrowed
returns-in-Some-clause-borrowed g c = (λ _. placed-stays Cell c.args.text.now c.utf8.text (sym c.in-Some.ensures.none), λ _. tt)

-- it doesn't

pub returns-clause-borrowed : goal.returns-clause-borrowed
returns-clause-borrowed g c =
    IfOk-weaker c.written_cell.result _ _ (λ r owned. (λ borrowed. absurd (owned borrowed), λ same. absurd (false≢true (sym (ap is_some c.in_default.is) ∙ c.pen_if_cell.ensures.none ∙ placed_stays Cell c.args.text.now c.utf8.text same)))) c.written_cell.ensures.owned

pub returns-clause-takes_no_memory : goal.returns-clause-takes_no_memory
returns-clause-takes_no_memory g c = λ same. absurd (false≢true (sym (ap is_some c.in_default.is) ∙ c.pen_if_cell.ensures.none ∙ placed_stays Cell c.args.text.now c.utf8.text same))
