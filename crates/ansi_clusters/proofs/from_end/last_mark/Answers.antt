use Rattle.std.proofs.Common.{◌≡◌, ◌∷◌, Some, None, length, take, drop, sym, ◌∙◌, ap, subst, arith}
use Rattle.std.specs.Str.{IsUtf8, IsCharBoundary}
use Rattle.memchr.specs.Find.{IsLastByte, is_byte}
use Rattle.ansi_items.specs.Bytes.{escape}
use Rattle.ansi_items.specs.Pieces.{spelling, pieces_of}
use Rattle.ansi_clusters.proofs.ReverseLemmas.{first_of}
use Rattle.ansi_clusters.proofs.LastMarkLemmas.{plain-no_mark, mark-alone, mark-after, mark-reaching}
use Rattle.ansi_clusters.proofs.from_end.last_mark.Goals.{in-Some, in_default-2, in_default}
use Rattle.ansi_clusters.proofs.from_end.last_mark.Goals as goal

pub returns-in_err-last : goal.returns-in_err-last
returns-in_err-last c =
    let none : IsLastByte (is_byte escape) c.args.text.now None = rw (c.in_err-last.was, c.as_bytes-bytes.ensures.value) at c.memrchr.ensures in
    rw c.from_residual.ensures (plain-no_mark c.args.text.now none)

pub returns : goal.returns
returns c =
    let t = c.args.text.now in
    let last = c.in_ok-last.last in
    let found : IsLastByte (is_byte escape) t (Some last) = rw (c.in_ok-last.was, c.as_bytes-bytes.ensures.value) at c.memrchr.ensures in
    let n = c.first_len-2.result in
    let len = c.first_len-2.ensures in
    elim c.match-memrchr.branch [
      | in-Some w ↦ (
          let opening = w.in-Some.opening in
          let before : IsLastByte (is_byte escape) (take last t) (Some opening) = rw (w.in-Some.is, c.as_bytes-bytes.ensures.value) at c.memrchr-2.ensures in
          let here : c.range_from-2.result.now ≡ drop opening t = c.range_from-2.ensures.value ∙ ap (λ i. drop i t) w.start-is in
          let first : pieces_of (drop opening t) ≡ len.first.0 ∷ len.first.1 = ap pieces_of (sym here) ∙ len.first.2 in
          let opened = ap pieces_of (sym w.range_from.ensures.value) ∙ w.first_len.ensures.first.2 in
          let same : spelling len.first.0 ≡ spelling w.first_len.ensures.first.0 = ap first_of (sym first ∙ opened) in
          rw w.start-is (mark-reaching t opening last n len.first.0 len.first.1 c.utf8.text (subst IsUtf8 here c.range_from-2.utf8) found before first len.first.3
          (omega (arith, w.if-last-opening.true, w.first_len.ensures.first.3, ap length same, len.first.3)) (subst (λ x. IsCharBoundary x n) here len.boundary)))
      | in_default-2 w ↦ (
          let opening = w.in-Some.opening in
          let before : IsLastByte (is_byte escape) (take last t) (Some opening) = rw (w.in-Some.is, c.as_bytes-bytes.ensures.value) at c.memrchr-2.ensures in
          let here : c.range_from-2.result.now ≡ drop last t = c.range_from-2.ensures.value ∙ ap (λ i. drop i t) w.start-is in
          let first : pieces_of (drop last t) ≡ len.first.0 ∷ len.first.1 = ap pieces_of (sym here) ∙ len.first.2 in
          let opened = ap pieces_of (sym w.range_from.ensures.value) ∙ w.first_len.ensures.first.2 in
          rw w.start-is (mark-after t opening last n len.first.0 w.first_len.ensures.first.0 len.first.1 w.first_len.ensures.first.1 c.utf8.text (subst IsUtf8 here c.range_from-2.utf8) found before opened
          (omega (arith, w.if-last-opening.false, w.first_len.ensures.first.3)) first len.first.3 len.some (subst (λ x. IsCharBoundary x n) here len.boundary)))
      | in_default w ↦ (
          let before : IsLastByte (is_byte escape) (take last t) None = rw (w.in_default.is, c.as_bytes-bytes.ensures.value) at c.memrchr-2.ensures in
          let here : c.range_from-2.result.now ≡ drop last t = c.range_from-2.ensures.value ∙ ap (λ i. drop i t) w.start-is in
          let first : pieces_of (drop last t) ≡ len.first.0 ∷ len.first.1 = ap pieces_of (sym here) ∙ len.first.2 in
          rw w.start-is (mark-alone t last n len.first.0 len.first.1 c.utf8.text (subst IsUtf8 here c.range_from-2.utf8) found before first len.first.3 len.some (subst (λ x. IsCharBoundary x n) here len.boundary)))
    ]
