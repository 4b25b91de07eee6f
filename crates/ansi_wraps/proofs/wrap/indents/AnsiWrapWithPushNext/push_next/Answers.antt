use Rattle.std.proofs.Common.{List, sym, ◌∙◌, ap, subst, string_bytes}
use Rattle.std.proofs.lemmas.Bool.{false≢true}
use Rattle.ansi_cells.specs.Indents.{after_indent, indented}
use Rattle.ansi_split.specs.Splits.{CarriedPart, PushesPart}
use Rattle.ansi_style.proofs.FrontLemmas.{begins_same, begins_itself}
use Rattle.ansi_cells.proofs.IndentLemmas.{filled, pushes-indented}
use Rattle.ansi_wraps.proofs.wrap.indents.AnsiWrapWithPushNext.push_next.Goals as goal

-- there was no memory for the indent
pub returns-in-Err : goal.returns-in-Err
returns-in-Err g c =
    let s = c.self.inside in
    let first = filled s.lines (λ none. false≢true (sym (c.has_next.ensures.1 none) ∙ c.if-not-has_next.false)) in (
      after_indent s.next_indent.now first.0,
      indented s.indent.now s.indent.now first.1,
      sym c.self.view_is ∙ ap (indented s.next_indent.now s.indent.now) first.2,
      ap (indented s.indent.now s.indent.now) c.finish.ensures,
      begins_same _ _ _ c.in-Err.ensures.kept (begins_itself _),
      λ lent. c.in-Err.ensures.kept,
    )

pub returns : goal.returns
returns g c =
    let s = c.self.inside in
    subst (λ (ls : List CarriedPart). PushesPart ls c.push_next.result (indented s.indent.now s.indent.now c.push_next.new.self) (string_bytes c.args.out.now) (string_bytes c.push_next.new.out)) c.self.view_is
    (pushes-indented s.next_indent.now s.indent.now _ _ _ s.lines c.push_next.new.self c.push_next.result (λ none. false≢true (sym (c.has_next.ensures.1 none) ∙ c.if-not-has_next.false)) c.in_default.ensures.bytes c.push_next.ensures)
