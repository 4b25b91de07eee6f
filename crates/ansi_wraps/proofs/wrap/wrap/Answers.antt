use Rattle.std.proofs.Common.{All, map, IsTrue, sym, ◌∙◌, ap, subst}
use Rattle.std.specs.List.{list_all}
use Rattle.ansi_cells.specs.Wrapped.{CarriedPart}
use Rattle.ansi_items.specs.Plain.{plain}
use Rattle.ansi_safe.specs.declared.policy.Links.TheVariants.{Keep}
use Rattle.ansi_safe.specs.Cells.{paragraph}
use Rattle.ansi_safe.specs.Links.{IsClosed}
use Rattle.ansi_safe.specs.Safe.{is_safe}
use Rattle.ansi_cells.specs.OneLine.{is_one_line}
use Rattle.ansi_wraps.proofs.CleanLineLemmas.{clean-wrapped}
use Rattle.ansi_cells.proofs.IndentLawLemmas.{wrapped_are_shut}
use Rattle.ansi_cells.proofs.OneLineLemmas.{clean-safe, clean-one_line, safe-paragraph}
use Rattle.ansi_clusters.specs.Lines.{lines}
use Rattle.ansi_clusters.proofs.FirstFitLemmas.{lines-first_fit}
use Rattle.ansi_wraps.proofs.LentLemmas.{wrapped-bare}
use Rattle.ansi_cells.specs.Screens.{screen}
use Rattle.ansi_cells.proofs.WrapScreenLemmas.{wrapped-screens}
use Rattle.ansi_wraps.proofs.wrap.wrap.Goals as goal

pub returns-clause-first_fit : goal.returns-clause-first_fit
returns-clause-first_fit g c =
    let x = plain (paragraph c.args.text.now) in
    (lines c.args.width x, lines-first_fit c.args.width x, c.wrapped_lines.ensures)

pub returns-clause-safe : goal.returns-clause-safe
returns-clause-safe g c = subst (All (λ (l : CarriedPart). IsTrue (is_safe Keep l.bytes))) (sym c.wrapped_lines.ensures) (λ k d lt. clean-safe (clean-wrapped c.args.text.now c.args.width c.utf8.text k d lt))

pub returns-clause-one_line : goal.returns-clause-one_line
returns-clause-one_line g c = subst (All (λ (l : CarriedPart). IsTrue (is_one_line l.bytes))) (sym c.wrapped_lines.ensures) (λ k d lt. clean-one_line (clean-wrapped c.args.text.now c.args.width c.utf8.text k d lt))

pub returns-clause-closed : goal.returns-clause-closed
returns-clause-closed g c = subst (All (λ (l : CarriedPart). IsClosed l.bytes)) (sym c.wrapped_lines.ensures) (λ k d lt. (wrapped_are_shut c.args.text.now c.args.width (safe-paragraph c.args.text.now c.utf8.text) k d lt).closed)

pub returns-clause-screen : goal.returns-clause-screen
returns-clause-screen g c = ap (map (λ (l : CarriedPart). screen l.bytes)) c.wrapped_lines.ensures ∙ wrapped-screens c.args.text.now c.args.width c.utf8.text (safe-paragraph c.args.text.now c.utf8.text)

pub returns-clause-takes_no_memory : goal.returns-clause-takes_no_memory
returns-clause-takes_no_memory g c =
    λ same none. ap (list_all (λ (l : CarriedPart). l.borrowed)) c.wrapped_lines.ensures ∙ wrapped-bare c.args.text.now c.args.width same none
