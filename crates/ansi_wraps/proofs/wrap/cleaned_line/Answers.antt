use Rattle.std.proofs.Common.{false, refl, ap}
use Rattle.std.specs.declared.alloc.AllocError.{AllocError}
use Rattle.std.specs.declared.borrow.CowStr.TheVariants.{Owned}
use Rattle.ansi_cells.specs.Wrapped.{lent_lines}
use Rattle.ansi_wraps.specs.WrapStates.{span_lines}
use Rattle.ansi_wraps.proofs.LentLemmas.{gives-written}
use Rattle.ansi_wraps.proofs.wrap.cleaned_line.Goals as goal

-- the line is written
pub returns-in-Ok-clause-line : goal.returns-in-Ok-clause-line
returns-in-Ok-clause-line g c =
    let t = c.args.text.now in
    gives-written AllocError (span_lines t c.args.spans.now) (span_lines t c.next.new.self) c.in_ok-next.field-0 (Owned c.in-Ok.line) c.in_ok-next.ensures.lines c.in-Ok.ensures.bytes (λ lent. lent) c.in-Ok.ensures.len

-- there was no memory for it
pub returns-in-Err-clause-line : goal.returns-in-Err-clause-line
returns-in-Err-clause-line g c =
    let t = c.args.text.now in
    (record c.in_ok-next.field-0 { borrowed = false }, lent_lines false (span_lines t c.next.new.self), ap (lent_lines false) c.in_ok-next.ensures.lines, refl, ap (lent_lines false) (c.finish.ensures.lines t))

pub returns-in-Err-clause-spans : goal.returns-in-Err-clause-spans
returns-in-Err-clause-spans g c = c.finish.ensures.spans c.args.text.now
