use Rattle.std.proofs.Common.{◌≡◌, false, true, chars, sym, ◌∙◌, ap}
use Rattle.std.proofs.lemmas.Bool.{and_parts}
use Rattle.std.specs.List.{list_all}
use Rattle.ansi_items.specs.Plain.{marks}
use Rattle.ansi_style.proofs.MarkLemmas.{marks-bare}
use Rattle.ansi_style.specs.Reading.{after_marks, style_after_from}
use Rattle.ansi_safe.specs.Cells.{run_stays, stays_in, is_placed}
use Rattle.ansi_safe.specs.Links.{link_of}
use Rattle.ansi_safe.specs.Safe.{all_allowed}
use Rattle.ansi_safe.proofs.CellLemmas.{run-is_placed, stays_after_ordinary, placed-ordinary}
use Rattle.ansi_safe.proofs.RestLemmas.{style_from-ordinary, link-ordinary}
use Rattle.ansi_safe.proofs.SafeLemmas.{allowed-bare}
use Rattle.ansi_safe.proofs.cells.after_staying.Goals as goal

-- all characters stay

pub returns-then-run_stays-clause-stays : goal.returns-then-run_stays-clause-stays
returns-then-run_stays-clause-stays c =
    let split = c.split_ordinary.ensures in
    let stays : run_stays c.args.place (chars c.args.text.now) ≡ true = stays_after_ordinary c.args.place (chars c.args.text.now) c.split_ordinary.result.0.now (chars c.split_ordinary.result.1.now) split.utf8 split.ordinary split.chars ∙ sym c.run_stays.ensures ∙ c.if-run_stays.true in
    run-is_placed c.args.place c.args.text.now c.utf8.text stays

pub returns-then-run_stays-clause-style : goal.returns-then-run_stays-clause-style
returns-then-run_stays-clause-style c s =
    let split = c.split_ordinary.ensures in
    let stays : run_stays c.args.place (chars c.args.text.now) ≡ true = stays_after_ordinary c.args.place (chars c.args.text.now) c.split_ordinary.result.0.now (chars c.split_ordinary.result.1.now) split.utf8 split.ordinary split.chars ∙ sym c.run_stays.ensures ∙ c.if-run_stays.true in
    let allowed = and_parts (all_allowed (chars c.args.text.now)) (list_all (stays_in c.args.place) (chars c.args.text.now)) stays in
    ap (after_marks s) (marks-bare c.args.text.now (allowed-bare c.args.text.now c.utf8.text allowed.0))

pub returns-then-run_stays-clause-link : goal.returns-then-run_stays-clause-link
returns-then-run_stays-clause-link c =
    let split = c.split_ordinary.ensures in
    let stays : run_stays c.args.place (chars c.args.text.now) ≡ true = stays_after_ordinary c.args.place (chars c.args.text.now) c.split_ordinary.result.0.now (chars c.split_ordinary.result.1.now) split.utf8 split.ordinary split.chars ∙ sym c.run_stays.ensures ∙ c.if-run_stays.true in
    let allowed = and_parts (all_allowed (chars c.args.text.now)) (list_all (stays_in c.args.place) (chars c.args.text.now)) stays in
    ap link_of (marks-bare c.args.text.now (allowed-bare c.args.text.now c.utf8.text allowed.0))

-- the front is ordinary

pub returns-else-not-starts_with-clause-stays : goal.returns-else-not-starts_with-clause-stays
returns-else-not-starts_with-clause-stays c =
    let split = c.split_ordinary.ensures in
    ap (is_placed c.args.place) split.spelled ∙ placed-ordinary c.args.place c.split_ordinary.result.0.now c.split_ordinary.result.1.now split.utf8 split.ordinary

pub returns-else-not-starts_with-clause-style : goal.returns-else-not-starts_with-clause-style
returns-else-not-starts_with-clause-style c s =
    let split = c.split_ordinary.ensures in
    ap (style_after_from s) split.spelled ∙ style_from-ordinary s false c.split_ordinary.result.0.now c.split_ordinary.result.1.now split.ordinary

pub returns-else-not-starts_with-clause-link : goal.returns-else-not-starts_with-clause-link
returns-else-not-starts_with-clause-link c =
    let split = c.split_ordinary.ensures in
    ap (λ u. link_of (marks u)) split.spelled ∙ link-ordinary false c.split_ordinary.result.0.now c.split_ordinary.result.1.now split.ordinary
