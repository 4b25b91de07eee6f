use Rattle.std.proofs.Common.{All, map, IsTrue, sym, ◌∙◌, ap, ap₂, subst}
use Rattle.std.specs.List.{list_all}
use Rattle.ansi_safe.specs.declared.policy.Links.TheVariants.{Keep}
use Rattle.ansi_safe.specs.Links.{IsClosed}
use Rattle.ansi_safe.specs.Safe.{is_safe}
use Rattle.ansi_cells.specs.Indents.{indented}
use Rattle.ansi_cells.specs.OneLine.{is_one_line}
use Rattle.ansi_cells.specs.Wrapped.{CarriedPart, wrapped}
use Rattle.ansi_wraps.proofs.CleanLineLemmas.{clean-wrapped_with}
use Rattle.ansi_cells.proofs.IndentLawLemmas.{shut-wrapped_with}
use Rattle.ansi_cells.proofs.IndentLemmas.{indented-borrowed}
use Rattle.ansi_cells.proofs.OneLineLemmas.{clean-safe, clean-one_line, safe-paragraph}
use Rattle.ansi_cells.specs.Screens.{screen}
use Rattle.ansi_cells.proofs.RowLemmas.{screens-wrapped_with}
use Rattle.ansi_wraps.proofs.wrap.indents.wrap_with.Goals as goal

pub returns-clause-lines : goal.returns-clause-lines
returns-clause-lines g c = ap (indented c.args.to.now.first_indent.now c.args.to.now.indent.now) (c.wrap.ensures.lines ∙ ap (wrapped c.args.text.now) c.text_width.ensures.width)

pub returns-clause-takes_no_memory : goal.returns-clause-takes_no_memory
returns-clause-takes_no_memory g c =
    λ same bare first later.
    ap₂ (λ f l. list_all (λ (k : CarriedPart). k.borrowed) (indented f l c.wrap.result)) first later
    ∙ indented-borrowed c.wrap.result (c.wrap.ensures.takes_no_memory same bare)

pub returns-clause-safe : goal.returns-clause-safe
returns-clause-safe g c = subst (All (λ (l : CarriedPart). IsTrue (is_safe Keep l.bytes))) (sym (returns-clause-lines g c)) (λ k d lt. clean-safe (clean-wrapped_with c.args.text.now c.args.to.now.first_indent.now c.args.to.now.indent.now c.args.to.now.width c.utf8.text c.text_width.ensures.first c.text_width.ensures.later k d lt))

pub returns-clause-one_line : goal.returns-clause-one_line
returns-clause-one_line g c = subst (All (λ (l : CarriedPart). IsTrue (is_one_line l.bytes))) (sym (returns-clause-lines g c)) (λ k d lt. clean-one_line (clean-wrapped_with c.args.text.now c.args.to.now.first_indent.now c.args.to.now.indent.now c.args.to.now.width c.utf8.text c.text_width.ensures.first c.text_width.ensures.later k d lt))

pub returns-clause-closed : goal.returns-clause-closed
returns-clause-closed g c = subst (All (λ (l : CarriedPart). IsClosed l.bytes)) (sym (returns-clause-lines g c)) (λ k d lt. (shut-wrapped_with c.args.text.now c.args.to.now.first_indent.now c.args.to.now.indent.now c.args.to.now.width (safe-paragraph c.args.text.now c.utf8.text) c.text_width.ensures.first c.text_width.ensures.later k d lt).closed)

pub returns-clause-screen : goal.returns-clause-screen
returns-clause-screen g c =
    ap (map (λ (l : CarriedPart). screen l.bytes)) (returns-clause-lines g c)
    ∙ screens-wrapped_with c.args.text.now c.args.to.now.first_indent.now c.args.to.now.indent.now c.args.to.now.width c.utf8.text c.text_width.ensures.first c.text_width.ensures.later
