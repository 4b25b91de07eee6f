use Rattle.std.proofs.Common.{◌≡◌, ◌+◌, ◌-◌, suc, None, Some, ◌∷◌, ◌++◌, take, drop, slice_index, nat_eq, sym, ◌∙◌, ap, ap₂, subst, arith}
use Rattle.memchr.specs.Find.{IsFirstByte, is_byte2}
use Rattle.std.proofs.lemmas.Str.{IsCharBoundary-after_ascii}
use Rattle.ansi_cells.specs.Tabs.{is_stop}
use Rattle.ansi_cells.proofs.TabLemmas.{none_at, none_up_to, around, stop_small, stop_byte, stop_of}
use Rattle.ansi_cells.proofs.tabs.split_stop.Goals as goal

-- there is none
pub returns-in_err-at : goal.returns-in_err-at
returns-in_err-at c =
    let first : IsFirstByte (is_byte2 9 10) c.args.run.now None = rw c.in_err-at.was at (subst (λ u. IsFirstByte (is_byte2 9 10) u c.memchr2.result) c.as_bytes.ensures.value c.memchr2.ensures) in
    rw c.from_residual.ensures (none_at is_stop c.args.run.now first)

-- a character ends after it
pub range_from-requires : goal.range_from-requires
range_from-requires c =
    let first : IsFirstByte (is_byte2 9 10) c.args.run.now (Some c.in_ok-at.at) = rw c.in_ok-at.was at (subst (λ u. IsFirstByte (is_byte2 9 10) u c.memchr2.result) c.as_bytes.ensures.value c.memchr2.ensures) in
    λ _. IsCharBoundary-after_ascii c.args.run.now c.in_ok-at.at c.utf8.run first.0.high (stop_small (slice_index c.args.run.now c.in_ok-at.at) first.1)

pub returns : goal.returns
returns c =
    let x = c.args.run.now in
    let n = c.in_ok-at.at in
    let first : IsFirstByte (is_byte2 9 10) x (Some n) = rw c.in_ok-at.was at (subst (λ u. IsFirstByte (is_byte2 9 10) u c.memchr2.result) c.as_bytes.ensures.value c.memchr2.ensures) in
    let count : n - 0 ≡ n = omega arith in
    let next : n + 1 ≡ suc n = omega arith in
    let front : c.range.result.now ≡ take n x = c.range.ensures.value ∙ ap (λ k. take k x) count in
    let rest : c.range_from.result.now ≡ drop (suc n) x = c.range_from.ensures.value ∙ ap (λ k. drop k x) next in
    let byte : slice_index x n ≡ stop_of (nat_eq (slice_index c.as_bytes-2.result.now n) 0x09) = stop_byte (slice_index x n) first.1 ∙ ap (λ u. stop_of (nat_eq (slice_index u n) 0x09)) (sym c.as_bytes-2.ensures.value) in
    (rw front (none_up_to is_stop x n first.0), around x n first.0.high ∙ ap₂ (λ u v. u ++ v) (sym front) (ap₂ (λ b v. b ∷ v) byte (sym rest)))
