use Rattle.std.proofs.Common.{◌==◌, ◌∙◌, length, sym}
use Rattle.std.proofs.lemmas.Bool.{and_parts, eqb-true}
use Rattle.std.proofs.lemmas.List.{nil_from_length}
use Rattle.ansi_safe.specs.Links.{ending}
use Rattle.ansi_safe.specs.Safe.{is_safe}
use Rattle.ansi_view_runs.specs.LineViews.{line_of}
use Rattle.ansi_view_runs.proofs.StayLemmas.{empty_stays, line_stays}
use Rattle.ansi_view_runs.proofs.view.stays.Goals as goal

-- a line without a text has none
pub returns-then-is_empty-clause-bytes : goal.returns-then-is_empty-clause-bytes
returns-then-is_empty-clause-bytes c = λ empty.
    (empty_stays c.args.view c.args.opening.now (line_of c.args.line.now) c.args.text.now c.requires (eqb-true _ _ (sym c.is_empty.ensures ∙ empty))).0

-- a safe text that ends what it opens stays as it is
pub returns-then-is_empty-2-clause-bytes : goal.returns-then-is_empty-2-clause-bytes
returns-then-is_empty-2-clause-bytes c = λ both.
    let text = c.args.text.now in
    let none = nil_from_length c.args.opening.now (eqb-true _ _ (sym c.is_empty-else-is_empty.ensures ∙ c.if-is_empty-2.true)) in
    let parts = and_parts (is_safe c.args.view.policy.links text) (length (ending text) == 0) (sym c.is_safe_and_closed.ensures ∙ both) in
    (line_stays c.args.view c.args.opening.now (line_of c.args.line.now) text c.requires none parts.0 parts.1).0

-- and leaves nothing open
pub returns-then-is_empty-2-clause-opening : goal.returns-then-is_empty-2-clause-opening
returns-then-is_empty-2-clause-opening c = λ both.
    let text = c.args.text.now in
    let none = nil_from_length c.args.opening.now (eqb-true _ _ (sym c.is_empty-else-is_empty.ensures ∙ c.if-is_empty-2.true)) in
    let parts = and_parts (is_safe c.args.view.policy.links text) (length (ending text) == 0) (sym c.is_safe_and_closed.ensures ∙ both) in
    (line_stays c.args.view c.args.opening.now (line_of c.args.line.now) text c.requires none parts.0 parts.1).1
