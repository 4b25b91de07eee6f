-- The offsets of the plain bytes of a text, from one place to a later one.
use Rattle.std.proofs.Common.{◌≡◌, ◌≢◌, ℕ, ◌+◌, ◌-◌, inl, inr, true, List, [], ◌∷◌, ◌++◌, length, take, drop, refl, sym, ◌∙◌, ap, arith, length-append}
use Rattle.std.specs.List.{list_all}
use Rattle.std.proofs.lemmas.Bool.{cases_lt, and_from}
use Rattle.std.proofs.lemmas.List.{length-drop}
use Rattle.ansi_items.specs.Bytes.{is_plain_byte}
use Rattle.ansi_items.specs.Pieces.{Piece, Text, ArePieces, pieces_of, after_text}
use Rattle.ansi_items.specs.Plain.{marks, marks_up_to, plain}
use Rattle.ansi_items.proofs.PieceLemmas.{pieces_are}
use Rattle.ansi_items.proofs.JoinLemmas.{pieces_of-run}
use Rattle.ansi_search.specs.Offsets.{bytes_before, offset_of}
use Rattle.ansi_split.proofs.AfterLemmas.{is_cut_after}
use Rattle.ansi_search.proofs.OffsetLemmas.{bytes_before-last, bytes_before-text, after_of, after_of-last, after_of-text, pieces_of-after}

-- The bytes before a place, and from there to a later one.

bytes_before-add : (n m : ℕ) (ps : List Piece) → bytes_before (n + m) ps ≡ bytes_before n ps + bytes_before m (after_of n ps)
bytes_before-add n m [] = refl
bytes_before-add n m (Text w ∷ ps) = elim (cases_lt n (length w)) [
  | inl last ↦ (
      let from = ap (bytes_before m) (after_of-last n w ps last) in
      let here = bytes_before-last n w ps last in
      let size = length-drop n w in
      elim (cases_lt (n + m) (length w)) [
        | inl inside ↦ omega (arith, bytes_before-last (n + m) w ps inside, here, from, bytes_before-last m (drop n w) ps (omega (arith, size)))
        | inr past ↦
            let left : n + m - length w ≡ m - length (drop n w) = omega (arith, size) in
            omega (arith, bytes_before-text (n + m) w ps past, here, from, bytes_before-text m (drop n w) ps (omega (arith, size)), ap (λ k. bytes_before k ps) left, size)
      ])
  | inr within ↦
      let left : n + m - length w ≡ (n - length w) + m = omega arith in
      omega (
        arith,
        bytes_before-text (n + m) w ps (omega arith),
        bytes_before-text n w ps within,
        ap (bytes_before m) (after_of-text n w ps within),
        ap (λ k. bytes_before k ps) left,
        bytes_before-add (n - length w) m ps,
      )
]
bytes_before-add n m (p ∷ ps) = omega (arith, bytes_before-add n m ps)

-- a later place, by the text from the earlier one on
pub offset_of-add : (t : List ℕ) (n m : ℕ) → offset_of t (n + m) ≡ offset_of t n + offset_of (drop (offset_of t n) t) m
offset_of-add t n m = bytes_before-add n m (pieces_of t) ∙ ap (λ ps. offset_of t n + bytes_before m ps) (sym (pieces_of-after t n))

-- The text before a place has the plain bytes and the marks up to there.

pub plain-before : (t : List ℕ) (n : ℕ) → plain (take (offset_of t n) t) ≡ take n (plain t)
plain-before t n = (is_cut_after t n (offset_of t n) refl).plain_front

pub marks-before : (t : List ℕ) (n : ℕ) → marks (take (offset_of t n) t) ≡ marks_up_to n (marks t)
marks-before t n = (is_cut_after t n (offset_of t n) refl).marks_front

-- A text that begins with plain bytes.

-- the place after these bytes
bytes_before-past_text : (w v : List ℕ) (ps : List Piece) → ArePieces v ps → bytes_before (length w) (after_text w ps) ≡ length w + bytes_before 0 ps
bytes_before-past_text w v (Text [] ∷ ps) are = absurd (are.2.0 refl)
bytes_before-past_text w v (Text (b ∷ u) ∷ ps) are =
    omega (arith, bytes_before-last (length w) (w ++ b ∷ u) ps (omega (arith, length-append w (b ∷ u))), bytes_before-last 0 (b ∷ u) ps (omega arith))
bytes_before-past_text w v ps are = (let none : length w - length w ≡ 0 = omega arith in bytes_before-text (length w) w ps (omega arith) ∙ ap (λ k. length w + bytes_before k ps) none)

pub offset_of-run : (w v : List ℕ) → w ≢ [] → list_all is_plain_byte w ≡ true → offset_of (w ++ v) (length w) ≡ length w + offset_of v 0
offset_of-run w v some all = ap (bytes_before (length w)) (pieces_of-run w v some all) ∙ bytes_before-past_text w v (pieces_of v) (pieces_are v)

-- if a text begins with a plain byte, the offset of that byte is 0
pub offset_of-plain : (b : ℕ) (v : List ℕ) → is_plain_byte b ≡ true → offset_of (b ∷ v) 0 ≡ 0
offset_of-plain b v is =
    let e = pieces_of-run (b ∷ []) v (λ e. cc) (and_from _ _ is refl) in
    ap (bytes_before 0) e ∙ first (pieces_of v)
  where
    first : (ps : List Piece) → bytes_before 0 (after_text (b ∷ []) ps) ≡ 0
    first (Text u ∷ ps) = bytes_before-last 0 (b ∷ u) ps (omega arith)
    first ps = bytes_before-last 0 (b ∷ []) ps (omega arith)
