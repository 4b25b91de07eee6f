use Rattle.std.proofs.Common.{◌≡◌, ◌==◌, false, ◌&&◌, ◌++◌, length, string_bytes, sym, ◌∙◌, ap, ap₂, arith, length-append}
use Rattle.std.proofs.lemmas.Bool.{false≢true}
use Rattle.ansi_cells.specs.Indents.{shown_indent}
use Rattle.ansi_wraps.proofs.wrap.indents.after_indent.Goals as goal

pub returns-clause-line : goal.returns-clause-line
returns-clause-line g c l is =
    let t = c.args.indent.now in
    let some : (length t == 0) ≡ false = sym c.is_empty.ensures ∙ c.if-is_empty.false in
    let indent = c.as_str.ensures.value ∙ c.in_ok-indent.ensures.bytes in
    let bytes : string_bytes c.push_str-2.new.self ≡ shown_indent t ++ l.bytes
    = c.in_ok-push_str-2.ensures.bytes
    ∙ ap₂ (λ u v. u ++ v) (c.in_ok-push_str.ensures.bytes ∙ ap₂ (λ u v. u ++ v) c.in_ok-out.ensures.bytes indent) (c.as_str-2.ensures.value ∙ is.0) in (
      bytes,
      (λ lent. absurd lent, λ lent. absurd (false≢true (sym (ap (λ b. b && l.borrowed) some) ∙ lent))),
      omega (arith, ap length bytes, length-append (shown_indent t) l.bytes, ap length is.0, is.2),
    )
