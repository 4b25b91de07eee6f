use Rattle.ansi_search.proofs.Common.{◌≡◌, ◌+◌, length, slice_index, arith, OccursAt, Passes, is_byte, IsFirst-agree, IsFirst-wider, OccursAt-byte, byte-OccursAt}
use Rattle.ansi_search.proofs.search.matches.find_bytes.Goals as goal

-- a pattern of one byte occurs exactly where that byte does
pub returns-in-len1 : goal.returns-in-len1
returns-in-len1 c =
    let hay = c.args.run.now in
    let p = c.args.pat.now in
    let one : length p ≡ 1 = omega (arith, c.in-len1.len_at_least, c.in-len1.len_below) in
    IsFirst-wider (OccursAt hay p) 0 (length hay) (length hay + 1) (omega arith) (λ k occurs. omega (arith, one, occurs.fits)) c.memchr.result
    (IsFirst-agree (Passes (is_byte (slice_index p 0)) hay) (OccursAt hay p) 0 (length hay) (OccursAt-byte hay p one) (λ k inside occurs. byte-OccursAt hay p one k occurs) c.memchr.result
    c.memchr.ensures)
