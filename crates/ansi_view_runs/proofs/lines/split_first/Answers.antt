use Rattle.std.proofs.Common.{◌<◌, ◌∙◌, sym, subst, arith, not, List, ℕ}
use Rattle.std.specs.List.{position_or_len}
use Rattle.std.proofs.lemmas.List.Sums.{prefix_len-le-length}
use Rattle.ansi_view_runs.specs.Lines.{Line, is_line_feed, max_piece, split_end}
use Rattle.ansi_view_runs.specs.LineViews.{BeginsWithLine}
use Rattle.ansi_view_runs.proofs.LineLemmas.{found_at, begins_ended, begins_long}
use Rattle.ansi_view_runs.proofs.lines.split_first.Goals as goal

-- more bytes than a piece are in front of the first line feed
pub returns-then-end-gt-MAX_PIECE-clause-first : goal.returns-then-end-gt-MAX_PIECE-clause-first
returns-then-end-gt-MAX_PIECE-clause-first c =
    let b = c.args.bytes.now in
    let place = c.unwrap_or-end.ensures ∙ found_at b _ c.memchr.ensures in
    let far : max_piece < position_or_len is_line_feed b = omega (arith, sym place, c.if-end-gt-MAX_PIECE.true) in
    rw (c.split_at.ensures.front, c.split_at.ensures.back, c.piece_len.ensures) (begins_long b far)

-- the first line feed comes within a piece
pub returns-then-end-bytes-clause-first : goal.returns-then-end-bytes-clause-first
returns-then-end-bytes-clause-first c =
    let b = c.args.bytes.now in
    let n = c.unwrap_or-end.result in
    let place = c.unwrap_or-end.ensures ∙ found_at b _ c.memchr.ensures in
    let begins : BeginsWithLine b (split_end n b).0 (split_end n b).1 = begins_ended b n place (omega (arith, c.if-end-bytes.true)) (omega (arith, c.if-end-gt-MAX_PIECE.false)) in
    subst (λ (f : Line × List ℕ). BeginsWithLine b f.0 f.1) (sym c.split_ended.ensures) begins

-- there is none
pub returns-clause-none : goal.returns-clause-none
returns-clause-none c =
    let b = c.args.bytes.now in
    let place = c.unwrap_or-end.ensures ∙ found_at b _ c.memchr.ensures in
    let within = prefix_len-le-length (λ x. not (is_line_feed x)) b in
    (omega (arith, sym place, within, c.if-end-bytes.false), omega (arith, c.if-end-bytes.false, c.if-end-gt-MAX_PIECE.false))
