use Rattle.std.proofs.lemmas.Bool.{false≢true}
use Rattle.std.proofs.lemmas.Result.{IfOk-weaker}
use Rattle.std.proofs.Common.{false, is_some, ◌≡◌, drop, true, sym, ◌∙◌, ap, ap₂}
use Rattle.ansi_items.specs.Plain.{marks}
use Rattle.ansi_style.specs.Reading.{style_after_from}
use Rattle.ansi_style.specs.States.{rendition_of}
use Rattle.ansi_style.specs.Styled.{style_after}
use Rattle.ansi_safe.specs.Cells.{is_cell}
use Rattle.ansi_safe.specs.Links.{link_of, link_end}
use Rattle.ansi_safe.proofs.CellTextLemmas.{cell-after, style-after, link-after}
use Rattle.ansi_safe.proofs.cells.cell_and_ending_after.Goals as goal

pub returns-in-Some-clause-bytes : goal.returns-in-Some-clause-bytes
returns-in-Some-clause-bytes g c =
    let rest : is_cell (drop c.args.known c.args.text.now) ≡ true = ap is_cell (sym c.range_from.ensures.value) ∙ sym c.in-Some.ensures.none in
    sym (cell-after c.args.text.now c.args.known c.utf8.text c.requires.boundary c.requires.stays rest)

pub returns-in-Some-clause-link_end : goal.returns-in-Some-clause-link_end
returns-in-Some-clause-link_end g c =
    let t = c.args.text.now in
    let rest : is_cell (drop c.args.known t) ≡ true = ap is_cell (sym c.range_from.ensures.value) ∙ sym c.in-Some.ensures.none in
    let stays = cell-after t c.args.known c.utf8.text c.requires.boundary c.requires.stays rest in
    c.ending.ensures.link_end ∙ ap link_end (c.in-Some.ensures.link ∙ ap (λ u. link_of (marks u)) c.range_from.ensures.value ∙ sym (link-after t c.args.known c.utf8.text c.requires.boundary c.requires.stays rest c.requires.link) ∙ ap (λ u. link_of (marks u)) (sym stays))

pub returns-in-Some-clause-style : goal.returns-in-Some-clause-style
returns-in-Some-clause-style g c =
    let t = c.args.text.now in
    let rest : is_cell (drop c.args.known t) ≡ true = ap is_cell (sym c.range_from.ensures.value) ∙ sym c.in-Some.ensures.none in
    let stays = cell-after t c.args.known c.utf8.text c.requires.boundary c.requires.stays rest in
    ap rendition_of c.ending.ensures.style ∙ c.in-Some.ensures.style ∙ ap₂ style_after_from c.requires.style c.range_from.ensures.value ∙ sym (style-after t c.args.known c.utf8.text c.requires.boundary c.requires.stays rest) ∙ ap style_after (sym stays)

pub returns-in-Some-clause-borrowed : goal.returns-in-Some-clause-borrowed
returns-in-Some-clause-borrowed g c =
    let rest : is_cell (drop c.args.known c.args.text.now) ≡ true = ap is_cell (sym c.range_from.ensures.value) ∙ sym c.in-Some.ensures.none in
    (λ _. cell-after c.args.text.now c.args.known c.utf8.text c.requires.boundary c.requires.stays rest, λ _. tt)

pub returns-clause-borrowed : goal.returns-clause-borrowed
returns-clause-borrowed g c =
    let gone : is_cell (drop c.args.known c.args.text.now) ≡ false = ap is_cell (sym c.range_from.ensures.value) ∙ sym c.pen_if_cell.ensures.none ∙ ap is_some c.in_default.is in
    IfOk-weaker c.written_cell.result _ _ (λ r owned. (λ borrowed. absurd (owned borrowed), λ same. absurd (false≢true (sym gone ∙ c.requires.rest same)))) c.written_cell.ensures.owned

pub returns-clause-takes_no_memory : goal.returns-clause-takes_no_memory
returns-clause-takes_no_memory g c =
    let gone : is_cell (drop c.args.known c.args.text.now) ≡ false = ap is_cell (sym c.range_from.ensures.value) ∙ sym c.pen_if_cell.ensures.none ∙ ap is_some c.in_default.is in
    λ same. absurd (false≢true (sym gone ∙ c.requires.rest same))
