-- The plain text of what is kept of a whole text is what std's `trim`, `strip_prefix` and `strip_suffix` leave.
use Rattle.ansi_slice.proofs.Common.{◌≡◌, ℕ, ◌-◌, List, ◌++◌, take, drop, length, refl, sym, ◌∙◌, ap, subst, arith, length-append, length-take, nat_eq, IsTrue, Decides-eqb, ends_is, IsCharBoundary-from_take, IsCharBoundary-from_drop, take-append_seam, drop-append_seam, starts_with, ends_with, IsUtf8, IsCharBoundary, trim, FindsTextPrefix, FindsTextSuffix, StripsPrefix, StripsSuffix, plain, is_whole, without_prefix, without_suffix, trim_interval, trimmed, IsUtf8-plain}
use Rattle.ansi_search.proofs.SliceLemmas.{slice_range-past}
use Rattle.ansi_slice.proofs.TrimLemmas.{slice_range-trim_interval}
use Rattle.ansi_search.proofs.MatchLemmas.{starts_with-splits}
use Rattle.ansi_slice.proofs.KeptLemmas.{plain-kept}

pub ends_with-splits : (x p : List ℕ) → IsTrue (ends_with nat_eq x p) → x ≡ take (length x - length p) x ++ p
ends_with-splits x p ends = (ends_is Decides-eqb x p (ends_with nat_eq x p) refl).0 ends

-- A prefix or suffix that is a text ends, or begins, at a character.

pub after_prefix : (x p : List ℕ) → IsUtf8 x → IsUtf8 p → x ≡ p ++ drop (length p) x → IsCharBoundary x (length p)
after_prefix x p utf8_x utf8_p split = grind (arith, IsCharBoundary-from_take, length-append, take-append_seam)

pub before_suffix : (x p : List ℕ) → IsUtf8 p → x ≡ take (length x - length p) x ++ p → IsCharBoundary x (length x - length p)
before_suffix x p utf8_p split =
    let from = length x - length p in
    let front = take from x in
    let size : length front ≡ from = omega (arith, length-take from x) in
    let back : drop from x ≡ p = ap (λ n. drop n x) (sym size) ∙ ap (drop (length front)) split ∙ drop-append_seam front p in
    IsCharBoundary-from_drop x from (omega arith) (subst IsUtf8 (sym back) utf8_p)

-- What is left of the plain text of a whole text.

pub plain-trimmed : (t : List ℕ) → IsUtf8 t → IsTrue (is_whole t) → plain (trimmed t) ≡ trim (plain t)
plain-trimmed t utf8 whole =
    let i = trim_interval (plain t) in
    plain-kept t i.0 i.1 whole ∙ slice_range-trim_interval (plain t) (IsUtf8-plain t utf8)

pub plain-without_prefix : (t p : List ℕ) → IsUtf8 t → IsUtf8 p → IsTrue (is_whole t) → IsTrue (starts_with nat_eq (plain t) p)
    → StripsPrefix (FindsTextPrefix p) (plain t) (plain (without_prefix t p))
plain-without_prefix t p utf8_t utf8_p whole begins =
    let x = plain t in
    let n = length p in
    let split = starts_with-splits x p begins in
    let left : plain (without_prefix t p) ≡ drop n x = plain-kept t n (length x) whole ∙ slice_range-past x n (length x) (omega arith) in
    (n, (refl, split, after_prefix x p (IsUtf8-plain t utf8_t) utf8_p split), left, omega (arith, ap length left, ap length split, length-append p (drop n x)))

pub plain-without_suffix : (t p : List ℕ) → IsUtf8 p → IsTrue (is_whole t) → IsTrue (ends_with nat_eq (plain t) p)
    → StripsSuffix (FindsTextSuffix p) (plain t) (plain (without_suffix t p))
plain-without_suffix t p utf8_p whole ends =
    let x = plain t in
    let n = length x - length p in
    let split = ends_with-splits x p ends in
    let all : n - 0 ≡ n = omega arith in
    let left : plain (without_suffix t p) ≡ take n x = plain-kept t 0 n whole ∙ ap (λ k. take k x) all in
    (length p, (refl, split, before_suffix x p utf8_p split), left, omega (arith, ap length left, ap length split, length-append (take n x) p))
