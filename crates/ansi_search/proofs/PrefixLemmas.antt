-- A pattern that a plain text goes on with from a place on, met run by run.
use Rattle.ansi_search.proofs.Common.{◌≡◌, ◌≢◌, ℕ, ◌+◌, ◌-◌, ◌<◌, ◌≤◌, inl, inr, min, ◌&&◌, List, ◌∷◌, ◌++◌, length, take, drop, nat_eq, refl, sym, ◌∙◌, ap, arith, IsFalse, slice_index, and_parts, cases_lt, eqb-true, true≢false, take-append-le, take_all, drop-take, drop_all, get_or-take, get_or-drop, length-drop, length-append, length-take-le, pointwise, starts_with, list_all, Nowhere, Passes, is_byte, escape, is_plain_byte, Piece, Text, ArePieces, plain, has_escape, plain-bare, []}
use Rattle.ansi_search.proofs.EndLemmas.{starts_with-across}
use Rattle.ansi_search.proofs.MatchLemmas.{no_escape-found}
use Rattle.ansi_search.proofs.SliceLemmas.{drop-append}
use Rattle.ansi_items.proofs.JoinLemmas.{plain-front}

-- the first bytes have no ESC, and are all or not

front-all : (t w : List ℕ) (n most : ℕ) → w ≡ take n t → n ≡ min most (length t) → IsFalse (has_escape w) → length t ≤ most → plain t ≡ w ++ plain []
front-all t w n most is size none all = plain-front t w n is (ap has_escape (sym is) ∙ none) ∙ ap (λ u. w ++ plain u) (drop_all n t (omega (arith, size, all)))

pub front-short : (t w : List ℕ) (n most : ℕ) → w ≡ take n t → n ≡ min most (length t) → IsFalse (has_escape w) → length w < most → plain t ≡ w ++ plain []
front-short t w n most is size none short = front-all t w n most is size none (omega (arith, size, short, ap length is, length-take-le n t (omega (arith, size))))

pub front-bare : (t w : List ℕ) (n most : ℕ) → w ≡ take n t → n ≡ min most (length t) → IsFalse (has_escape w) → take most (plain t) ≡ take most (w ++ plain [])
front-bare t w n most is size none = elim (cases_lt most (length t)) [
  | inl short ↦ (
      let len : most ≤ length w = omega (arith, ap length is, length-take-le n t (omega (arith, size)), size, short) in
      ap (take most) (plain-front t w n is (ap has_escape (sym is) ∙ none)) ∙ take-append-le most w (plain (drop n t)) len ∙ sym (take-append-le most w (plain []) len)
      )
  | inr all ↦ ap (take most) (front-all t w n most is size none all)
]

-- none is found before an offset
pub bare_before : (t : List ℕ) (n len : ℕ) → len ≤ n → len ≤ length t → Nowhere (Passes (is_byte escape) (take n t)) 0 len → IsFalse (has_escape (take len t))
bare_before t n len within inside none = grind (arith, get_or-take, length-take-le, no_escape-found)

pub escape_after_run : (t : List ℕ) (n len : ℕ) → len < n → Passes (is_byte escape) (take n t) len → slice_index (drop len t) 0 ≡ escape
escape_after_run t n len inside passes = grind (arith, eqb-true, get_or-drop, get_or-take)

no_text : (u w : List ℕ) (ps : List Piece) → ArePieces u (Text w ∷ ps) → slice_index u 0 ≢ escape
no_text u [] ps are escapes = are.2.0 refl
no_text u (b ∷ w) ps are escapes =
    let first : b ≡ escape = sym (ap (λ v. slice_index v 0) are.1) ∙ escapes in
    true≢false (sym (and_parts (is_plain_byte b) (list_all is_plain_byte w) are.2.1).0 ∙ ap is_plain_byte first)

-- Whether the pattern is there.

-- it depends on the bytes up to the pattern's end alone
starts_with-front : (x z p : List ℕ) (k n top : ℕ) → n ≡ min (k + length p) top → length x ≤ top → length z ≤ top → take n x ≡ take n z → starts_with nat_eq (drop k x) p ≡ starts_with nat_eq (drop k z) p
starts_with-front x z p k n top is inside within same = elim (cases_lt top (k + length p)) [
  | inl long ↦ (
      let all : x ≡ z = sym (take_all n x (omega (arith, is, long, inside))) ∙ same ∙ take_all n z (omega (arith, is, long, within)) in
      ap (λ v. starts_with nat_eq (drop k v) p) all
      )
  | inr fits ↦ (
      let sum : n ≡ k + length p = omega (arith, is, fits) in
      let front : take (length p) (drop k x) ≡ take (length p) (drop k z)
      = sym (drop-take k (length p) x) ∙ ap (λ m. drop k (take m x)) (sym sum) ∙ ap (drop k) same ∙ ap (λ m. drop k (take m z)) sum ∙ drop-take k (length p) z in
      ap (pointwise nat_eq p) front
      )
]

-- over a run, of which the first bytes aren't counted
pub starts_with-run : (x w y p front : List ℕ) (k n top : ℕ) → n ≡ min (k + length p) top → length x ≤ top → length w + length y ≤ top → take n x ≡ take n (w ++ y) → length w ≤ n → front ≡ drop k w
    → starts_with nat_eq (drop k x) p ≡ (starts_with nat_eq p front && starts_with nat_eq (drop (k - length w) y) (drop (length front) p))
starts_with-run x w y p front k n top is inside within same most front_is =
    let size : length front ≡ length w - k = ap length front_is ∙ length-drop k w in
    starts_with-front x (w ++ y) p k n top is inside (omega (arith, length-append w y, within)) same
    ∙ ap (λ v. starts_with nat_eq v p) (drop-append k w y ∙ ap (λ v. v ++ drop (k - length w) y) (sym front_is))
    ∙ starts_with-across p front (drop (k - length w) y) (omega (arith, size, most, is))

-- its first bytes alone decide, if they have no ESC
pub starts_with-bare : (t p : List ℕ) (n : ℕ) → n ≡ min (length p) (length t) → IsFalse (has_escape (take n t)) → starts_with nat_eq t p ≡ starts_with nat_eq (plain t) p
starts_with-bare t p n size none = elim (cases_lt (length t) (length p)) [
  | inl short ↦ (
      let all : take n t ≡ t = take_all n t (omega (arith, size, short)) in
      ap (λ x. starts_with nat_eq x p) (sym (plain-bare t (ap has_escape (sym all) ∙ none)))
      )
  | inr fits ↦ (
      let all : n ≡ length p = omega (arith, size, fits) in
      let len : length p ≡ length (take n t) = sym all ∙ sym (length-take-le n t (omega (arith, size))) in
      let front : take (length p) (take n t ++ plain []) ≡ take (length p) t
      = take-append-le (length p) (take n t) (plain []) (omega (arith, len)) ∙ take_all (length p) (take n t) (omega (arith, len)) ∙ ap (λ k. take k t) all in
      sym (ap (pointwise nat_eq p) (front-bare t (take n t) n (length p) refl size none ∙ front))
      )
]
