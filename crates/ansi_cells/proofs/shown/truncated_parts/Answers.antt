use Rattle.std.proofs.Common.{refl, sym, subst, ◌≡◌, arith}
use Rattle.std.proofs.lemmas.Bool.{false≢true}
use Rattle.ansi_safe.specs.Cells.{cell}
use Rattle.ansi_safe.proofs.CellTextLemmas.{length-cell}
use Rattle.ansi_cells.specs.Shown.{KeptStays}
use Rattle.ansi_cells.proofs.KeptLemmas.{kept-part, truncated-front}
use Rattle.ansi_cells.proofs.ShownLemmas.{cut-ending, cut-bytes, cut-length}
use Rattle.ansi_cells.proofs.shown.truncated_parts.Goals as goal

-- the front is in the text
pub kept_cell-requires-clause-boundary : goal.kept_cell-requires-clause-boundary
kept_cell-requires-clause-boundary g c = c.truncation-cut.ensures.walk.run.start_boundary

pub returns-in_err-front-clause-takes_no_memory : goal.returns-in_err-front-clause-takes_no_memory
unfolding KeptStays
returns-in_err-front-clause-takes_no_memory g c =
    let end = c.truncation-cut.ensures in
    let kept = kept-part c.args.text.now c.utf8.text c.truncation-cut.result.end c.args.width c.args.tail.now end.walk end.fits refl in
    λ all. absurd (false≢true (rw c.in_err-front.was at (c.kept_cell.ensures.takes_no_memory (subst (λ u. cell u ≡ u) (sym kept) all))))

pub returns-2-clause-bytes : goal.returns-2-clause-bytes
returns-2-clause-bytes g c =
    let end = c.truncation-cut.ensures in
    let made = c.in_ok-front.ensures in
    cut-bytes (truncated-front c.args.text.now c.utf8.text c.truncation-cut.result.end c.args.width c.args.tail.now end.walk end.fits refl made.bytes (sym made.bytes) made.style refl made.link_end refl end.tail).cut

pub returns-2-clause-ending : goal.returns-2-clause-ending
returns-2-clause-ending g c =
    let end = c.truncation-cut.ensures in
    let made = c.in_ok-front.ensures in
    cut-ending (truncated-front c.args.text.now c.utf8.text c.truncation-cut.result.end c.args.width c.args.tail.now end.walk end.fits refl made.bytes (sym made.bytes) made.style refl made.link_end refl end.tail).cut

pub returns-2-clause-borrowed : goal.returns-2-clause-borrowed
unfolding KeptStays
returns-2-clause-borrowed g c =
    let end = c.truncation-cut.ensures in
    let kept = kept-part c.args.text.now c.utf8.text c.truncation-cut.result.end c.args.width c.args.tail.now end.walk end.fits refl in
    let borrowed = c.in_ok-front.ensures.borrowed in
    (λ b. subst (λ u. cell u ≡ u) kept (borrowed.0 b), λ stays. borrowed.1 (subst (λ u. cell u ≡ u) (sym kept) stays))

pub returns-2-clause-len : goal.returns-2-clause-len
returns-2-clause-len g c =
    let t = c.args.text.now in
    let end = c.truncation-cut.ensures in
    let made = c.in_ok-front.ensures in
    let cut = truncated-front t c.utf8.text c.truncation-cut.result.end c.args.width c.args.tail.now end.walk end.fits refl made.bytes (sym made.bytes) made.style refl made.link_end refl end.tail in
    omega (arith, cut-length cut.cut, length-cell t c.utf8.text)
