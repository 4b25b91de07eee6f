-- The first run of a text: past the marks before it, and up to its end, or that of a part at its front.
use Rattle.std.proofs.Common.{◌≡◌, ◌≢◌, ◌⊎◌, inl, inr, ℕ, zero, suc, ◌+◌, ◌-◌, ◌<◌, ◌≤◌, Bool, true, false, List, [], ◌∷◌, ◌++◌, length, take, drop, slice_index, slice_range, get_or, refl, sym, ◌∙◌, ap, subst, arith, if◌then◌else◌}
use Rattle.std.specs.List.{list_all}
use Rattle.std.specs.Str.{IsUtf8, IsCharBoundary}
use Rattle.std.proofs.Math.Nat.{eq-or-lt_of_le}
use Rattle.std.proofs.lemmas.Bool.{and_parts}
use Rattle.std.proofs.lemmas.Bool.Decides.{nat_tests}
use Rattle.std.proofs.lemmas.List.{take-take, length-take-le, get_or-take, get_or-drop}
use Rattle.std.proofs.lemmas.List.Sums.{prefix_len_stops, prefix_len-le-length}
use Rattle.std.proofs.lemmas.Str.{IsUtf8-take, IsCharBoundary-from_take, IsCharBoundary-before_ascii}
use Rattle.ansi_items.specs.Bytes.{escape, is_plain_byte}
use Rattle.ansi_items.specs.Counts.{before_escape}
use Rattle.ansi_items.specs.Pieces.{Piece, Text, spelling, ArePieces, pieces_of}
use Rattle.ansi_items.specs.declared.ansitok.Item.{Item}
use Rattle.ansi_items.specs.Scans.{GivesItem, piece_of}
use Rattle.ansi_items.proofs.PieceLemmas.{pieces_are}
use Rattle.ansi_items.proofs.SequenceLemmas.{all-run}
use Rattle.ansi_search.specs.Offsets.{bytes_before, offset_of}
use Rattle.ansi_search.proofs.SliceLemmas.{length-slice_range}

-- ---- past the marks

-- the first run is after the mark that an ESC begins
pub first-past : {t : List ℕ} {start : ℕ} {item : Item} → GivesItem (record { text = t; offset = start }) item (record { text = t; offset = item.end }) → slice_index t start ≡ escape
    → start + offset_of (drop start t) 0 ≡ item.end + offset_of (drop item.end t) 0
first-past {t} {start} {item} gives is = by (piece_of t item) gives.piece gives.bytes
  where
    size : length (slice_range t item.start item.end) ≡ item.end - start
    size = length-slice_range t item.start item.end (omega (arith, gives.forward)) gives.end_boundary.0 ∙ ap (λ n. item.end - n) gives.start

    no-escape : (b : ℕ) → b ≡ escape → is_plain_byte b ≡ true → ⊥
    no-escape b is plain = grind (arith, nat_tests, is, plain)

    no-text : (w rest : List ℕ) → drop start t ≡ w ++ rest → w ≢ [] → list_all is_plain_byte w ≡ true → ⊥
    no-text [] rest split some all = some refl
    no-text (b ∷ w) rest split some all =
        let here : start + 0 ≡ start = omega arith in
        let first : b ≡ escape = sym (ap (λ u. slice_index u 0) split) ∙ get_or-drop start t 0 0 ∙ ap (slice_index t) here ∙ is in
        let plain : is_plain_byte b ≡ true = (and_parts (is_plain_byte b) (list_all is_plain_byte w) all).0 in
        no-escape b first plain

    by : (p : Piece) → pieces_of (drop start t) ≡ p ∷ pieces_of (drop item.end t) → slice_range t item.start item.end ≡ spelling p → start + offset_of (drop start t) 0 ≡ item.end + offset_of (drop item.end t) 0
    by (Text w) pieces bytes =
        let are = subst (ArePieces (drop start t)) pieces (pieces_are (drop start t)) in
        absurd (no-text w are.0 are.1 are.2.0 are.2.1)
    by p pieces bytes = omega (arith, ap (bytes_before 0) pieces, ap length bytes, size, gives.start, gives.forward)

-- ---- up to its end

-- a boundary of a part at the front of t is one of t
pub boundary-near : {t : List ℕ} {n : ℕ} → IsUtf8 t → IsCharBoundary t n → (i : ℕ) → i ≤ n → IsCharBoundary (take n t) i → IsCharBoundary t i
boundary-near {t} {n} utf8 part i le here =
    IsCharBoundary-from_take t i utf8 (omega (arith, le, part.0)) (subst IsUtf8 (take-take i n t le) (IsUtf8-take (take n t) i (IsUtf8-take t n utf8 part) here))

module _ (t : List ℕ) (n : ℕ) (part : IsCharBoundary t n) where
  size : length (take n t) ≡ n
  size = length-take-le n t part.0

  near-within : before_escape (take n t) ≤ n
  near-within = omega (arith, size, prefix_len-le-length is_plain_byte (take n t))

  -- it ends before an ESC, or with the part
  pub near-boundary : IsCharBoundary t (before_escape (take n t))
  near-boundary = by (before_escape (take n t)) refl near-within
    where
      low : (b : ℕ) → is_plain_byte b ≡ false → b < 128
      low b is = grind (arith, nat_tests, is)

      by : (m : ℕ) → m ≡ before_escape (take n t) → m ≤ n → IsCharBoundary t m
      by m is le = elim (eq-or-lt_of_le le) [
        | inl same ↦ subst (IsCharBoundary t) (sym same) part
        | inr less ↦ (
            let stops : is_plain_byte (get_or t m 0) ≡ false
            = ap is_plain_byte (sym (get_or-take n t m 0 less)) ∙ ap (λ k. is_plain_byte (get_or (take n t) k 0)) is ∙ prefix_len_stops is_plain_byte (take n t) 0 (omega (arith, is, less, size)) in
            IsCharBoundary-before_ascii t m (omega (arith, less, part.0)) (low (get_or t m 0) stops))
      ]

  pub near-bytes : list_all is_plain_byte (take (before_escape (take n t)) t) ≡ true
  near-bytes = ap (list_all is_plain_byte) (sym (take-take (before_escape (take n t)) n t near-within)) ∙ all-run is_plain_byte (take n t)

-- it is empty only if nothing or a mark comes first
pub near-none : (t : List ℕ) (n : ℕ) → (0 < length t → 0 < n) → before_escape (take n t) ≡ 0 → (t ≡ []) ⊎ (slice_index t 0 ≡ escape)
near-none [] n some none = inl refl
near-none (b ∷ t) zero some none = absurd (omega (arith, some (omega arith)))
near-none (b ∷ t) (suc n) some none = inr (stops (is_plain_byte b) refl none)
  where
    stops : (p : Bool) → p ≡ is_plain_byte b → (if p then 1 + before_escape (take n t) else 0) ≡ 0 → b ≡ escape
    stops true is none = absurd (omega (arith, none))
    stops false is none = grind (arith, nat_tests, is)
