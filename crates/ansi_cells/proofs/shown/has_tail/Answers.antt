use Rattle.std.proofs.Common.{◌≡◌, Bool, true, false, not, ◌&&◌, nat_le, refl, sym, ◌∙◌, ap, arith}
use Rattle.std.proofs.lemmas.Bool.{le-leb, lt-leb, and_right}
use Rattle.ansi_items.specs.Plain.{plain}
use Rattle.ansi_safe.specs.Cells.{cell}
use Rattle.ansi_clusters.specs.Columns.{columns}
use Rattle.ansi_cells.proofs.TailForLemmas.{has_tail-seen}
use Rattle.ansi_cells.proofs.shown.has_tail.Goals as goal

and_true : (b : Bool) → (b && true) ≡ b
and_true true = refl
and_true false = refl

-- the tail is too wide
pub returns-then-width : goal.returns-then-width
returns-then-width c =
    let t = cell c.args.text.now in
    let tail = c.args.tail.now in
    let wide = columns (plain (cell tail)) in
    sym (has_tail-seen t tail c.args.width c.utf8.tail ∙ and_right (not (nat_le (columns (plain t)) c.args.width)) (nat_le wide c.args.width) (lt-leb wide c.args.width (omega (arith, c.width.ensures, c.if-width.true))))

-- it isn't, so the text decides
pub returns : goal.returns
returns c =
    let t = cell c.args.text.now in
    let tail = c.args.tail.now in
    let wide = columns (plain (cell tail)) in
    let more = not (nat_le (columns (plain t)) c.args.width) in
    let fits : nat_le wide c.args.width ≡ true = le-leb wide c.args.width (omega (arith, c.width.ensures, c.if-width.false)) in
    ap not c.longest-is_all.ensures.all ∙ sym (and_true more) ∙ ap (λ b. more && b) (sym fits) ∙ sym (has_tail-seen t tail c.args.width c.utf8.tail)
