-- What is kept of a text up to a place in its last run.
use Rattle.std.proofs.lemmas.List.Folds.{drop_split}
use Rattle.std.proofs.lemmas.List.{drop-take}
use Rattle.std.specs.Cmp.Lexicographic.{same_text}
use Rattle.ansi_slice.proofs.Common.{Bool, ◌≡◌, ℕ, zero, suc, ◌+◌, ◌-◌, ◌<◌, ◌≤◌, true, List, ◌∷◌, ◌++◌, length, take, drop, sym, ◌∙◌, ap, ap₂, subst, arith, append-nil, length-append, length-drop, drop_all, take-append-drop, drop-append_seam, drop-drop, nat_eq, starts_with, ends_with, slice_range, IsUtf8, IsUtf8-append, IsUtf8-drop, IsCharBoundary, IsCharBoundary-from_drop, Text, ArePieces, pieces_of, pieces_are, pieces_of-unique, plain_of, plain, offset_of, bytes_before, kept, sequences_up_to}
use Rattle.ansi_search.specs.Offsets.{IsLastRun}
use Rattle.ansi_search.proofs.SliceLemmas.{length-slice_range, drop-append}
use Rattle.ansi_search.proofs.EndLemmas.{ends_with-starts_with}
use Rattle.ansi_search.proofs.OffsetLemmas.{bytes_before-last, after_of, after_of-last, pieces_of-after}
use Rattle.ansi_slice.proofs.KeptWalkLemmas.{kept-all}
use Rattle.ansi_slice.proofs.StretchLemmas.{kept-none, kept-stretch, sequences_up_to-text}

ends_with-within : (p b w : List ℕ) → length p ≤ length w → ends_with nat_eq (b ++ w) p ≡ ends_with nat_eq w p
ends_with-within p b w fits =
    let n = length (b ++ w) - length p in
    let left : n - length b ≡ length w - length p = omega (arith, length-append b w) in
    let tail : drop n (b ++ w) ≡ drop (length w - length p) w = drop-append n b w ∙ ap₂ (λ u k. u ++ drop k w) (drop_all n b (omega (arith, length-append b w, fits))) left in
    sym (ends_with-starts_with (b ++ w) p) ∙ ap (λ u. starts_with nat_eq u p) tail ∙ ends_with-starts_with w p

module _ (t : List ℕ) (m e : ℕ) (is : IsLastRun t m e) (some : m < e) where
  abbrev pub w : List ℕ
  w = slice_range t m e

  size : length w ≡ e - m
  size = length-slice_range t m e (omega (arith, some)) is.boundary.0

  count : is.end.before + (e - m) ≡ length (plain t)
  count =
      let all : plain (drop m t) ≡ w = ap plain_of is.pieces ∙ ap (λ v. w ++ v) is.bare ∙ append-nil w in
      omega (arith, size, is.end.count, ap length all)

  -- the run ends the plain text
  pub last_run-plain : plain t ≡ take is.end.before (plain t) ++ w
  last_run-plain = sym (take-append-drop is.end.before (plain t)) ∙ ap (λ v. take is.end.before (plain t) ++ v) (is.end.rest ∙ ap plain_of is.pieces ∙ ap (λ v. w ++ v) is.bare ∙ append-nil w)

  -- the sequences after it
  after : is.marks ≡ pieces_of (drop e t)
  after =
      let are = subst (ArePieces (drop m t)) is.pieces (pieces_are (drop m t)) in
      let all : m + length w ≡ e = omega (arith, size, some) in
      let rest : are.0 ≡ drop e t = sym (drop-append_seam w are.0) ∙ ap (drop (length w)) (sym are.1) ∙ drop-drop (length w) m t ∙ ap (λ k. drop k t) all in
      pieces_of-unique (drop e t) is.marks (subst (λ u. ArePieces u is.marks) rest are.3)

  -- of some of its bytes and those sequences only the sequences are kept
  only_marks : (v : List ℕ) (i : ℕ) → pieces_of (drop i t) ≡ Text v ∷ is.marks → length v ≤ e → kept (drop i t) 0 0 ≡ drop e t
  only_marks v i first short =
      let top = length t - length v in
      kept-none (drop i t) (length t) (omega (arith, length-drop i t)) ∙ ap (sequences_up_to (length t)) first
      ∙ sequences_up_to-text (length t) v is.marks (omega (arith, short, is.boundary.0)) ∙ ap (sequences_up_to top) after
      ∙ sym (kept-none (drop e t) top (omega (arith, length-drop e t, short)))
      ∙ kept-all (drop e t) 0 (omega (arith, ap (λ ps. length (plain_of ps)) (sym after), ap length is.bare))

  pub kept-last_run : (n : ℕ) → n ≤ e - m → kept t 0 (length (plain t) - n) ≡ take (e - n) t ++ drop e t
  kept-last_run zero fits = kept-all t (length (plain t) - 0) (omega arith) ∙ sym (take-append-drop e t) ∙ ap (λ k. take k t ++ drop e t) (let all : e ≡ e - 0 = omega arith in all)
  kept-last_run (suc n) fits =
      let k = e - m - suc n in
      let i = e - suc n in
      let inside : k < length w = omega (arith, size, fits, some) in
      let place : length (plain t) - suc n ≡ is.end.before + k = omega (arith, count, fits) in
      let sum : m + k ≡ i = omega (arith, fits, some) in
      let here : offset_of (drop m t) k ≡ k = ap (bytes_before k) is.pieces ∙ bytes_before-last k w is.marks inside in
      let there : offset_of t (length (plain t) - suc n) ≡ i = ap (offset_of t) place ∙ is.end.offset k ∙ ap (λ j. m + j) here ∙ sum in
      let first : pieces_of (drop i t) ≡ Text (drop k w) ∷ is.marks
      = ap (λ j. pieces_of (drop j t)) (sym sum) ∙ ap pieces_of (sym (drop-drop k m t)) ∙ ap (λ j. pieces_of (drop j (drop m t))) (sym here) ∙ pieces_of-after (drop m t) k ∙ ap (after_of k) is.pieces ∙ after_of-last k w is.marks inside in
      kept-stretch t (length (plain t) - suc n) ∙ ap (λ j. take j t ++ kept (drop j t) 0 0) there ∙ ap (λ v. take i t ++ v) (only_marks (drop k w) i first (omega (arith, length-drop k w, size)))

  -- a suffix that is no longer than the run is in it
  pub last_run-ends : (p : List ℕ) → length p ≤ e - m → ends_with nat_eq (plain t) p ≡ ends_with nat_eq w p
  last_run-ends p fits = ap (λ x. ends_with nat_eq x p) last_run-plain ∙ ends_with-within p (take is.end.before (plain t)) w (omega (arith, fits, size))

  -- and where it begins
  pub last_run-suffix : (p : List ℕ) → IsUtf8 t → IsUtf8 p → length p ≤ e - m → ends_with nat_eq w p ≡ true → IsCharBoundary t (e - length p)
  last_run-suffix p utf8 suffix_utf8 fits ends =
      let k = e - m - length p in
      let i = e - length p in
      let start : length w - length p ≡ k = omega (arith, size) in
      let both : e - m ≡ k + length p = omega (arith, fits) in
      let all : length p ≡ e - i = omega (arith, fits) in
      let sum : m + k ≡ i = omega (arith, fits, some) in
      let same : p ≡ slice_range t i e
      = same_text p (drop (length w - length p) w) (sym ends) ∙ ap₂ (λ n j. drop n (take j (drop m t))) start both ∙ drop-take k (length p) (drop m t)
      ∙ ap₂ (λ n u. take n u) all (drop-drop k m t ∙ ap (λ j. drop j t) sum) in
      let tail : drop i t ≡ p ++ drop e t = drop_split t i e (omega arith) ∙ ap (λ v. v ++ drop e t) (sym same) in
      IsCharBoundary-from_drop t i (omega (arith, is.boundary.0)) (subst IsUtf8 (sym tail) (IsUtf8-append p (drop e t) suffix_utf8 (IsUtf8-drop t e utf8 is.boundary)))

-- by the test that the code makes
pub last_run-test : (p : List ℕ) {t x q : List ℕ} {m e : ℕ} {b : Bool} → IsLastRun t m e → m + length p < e → x ≡ t → q ≡ p → b ≡ ends_with nat_eq (slice_range x m e) q → b ≡ ends_with nat_eq (plain t) p
last_run-test p {t} {m = m} {e = e} is short x_is q_is test =
    test ∙ ap₂ (λ u v. ends_with nat_eq (slice_range u m e) v) x_is q_is ∙ sym (last_run-ends t m e is (omega (arith, short)) p (omega (arith, short)))

pub last_run-cut : {t p : List ℕ} {m e : ℕ} → IsUtf8 t → IsUtf8 p → IsLastRun t m e → m + length p < e → ends_with nat_eq (plain t) p ≡ true → IsCharBoundary t (e - length p)
last_run-cut {t} {p} {m} {e} utf8 suffix_utf8 is short ends =
    let some : m < e = omega (arith, short) in
    let fits : length p ≤ e - m = omega (arith, short) in
    last_run-suffix t m e is some p utf8 suffix_utf8 fits (sym (last_run-ends t m e is some p fits) ∙ ends)
