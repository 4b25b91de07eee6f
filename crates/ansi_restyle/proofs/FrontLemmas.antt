-- A text in two at a plain byte: the pieces of the first. If the text is whole, both are, and the second is read in the style after the first.
use Rattle.std.proofs.Common.{◌≡◌, ◌≢◌, ℕ, suc, ◌+◌, ◌-◌, ◌<◌, ◌≤◌, inl, inr, true, List, [], ◌∷◌, ◌++◌, length, take, drop, refl, sym, ◌∙◌, ap, subst, arith, IsTrue, if◌then◌else◌, nat_lt, slice_index}
use Rattle.std.proofs.lemmas.Bool.{cases_lt, cond_both, lt-ltb, le-ltb}
use Rattle.std.proofs.lemmas.List.{take-append-drop, take-append-le, take_all, take-take, length-take, length-take-le, length-map}
use Rattle.std.proofs.lemmas.List.FromFn.{length-range_with_len}
use Rattle.std.specs.List.{range_with_len}
use Rattle.ansi_items.specs.Bytes.{escape, is_plain_byte}
use Rattle.ansi_items.specs.Sequences.{IsSequence}
use Rattle.ansi_items.specs.Pieces.{Piece, Text, Sequence, LoneEscape, ArePieces, StandsBefore, spelling, pieces_of}
use Rattle.ansi_items.specs.Plain.{plain, are_whole, is_whole}
use Rattle.ansi_items.proofs.PieceLemmas.{pieces_are, pieces_of-unique}
use Rattle.ansi_items.proofs.PlainLemmas.{one_text, one_text_are}
use Rattle.ansi_style.specs.declared.state.rendition.Rendition.{Rendition}
use Rattle.ansi_style.specs.Reading.{after_marks, style_after_from, style_within, styled_from}
use Rattle.ansi_style.proofs.SpelledLemmas.{styled_from-append, style_after_from-append}
use Rattle.ansi_search.specs.Offsets.{bytes_before, offset_of}
use Rattle.ansi_search.proofs.SliceLemmas.{list_all-parts}
use Rattle.ansi_search.proofs.OffsetLemmas.{bytes_before-last, bytes_before-text, after_of, take-after, pieces_of-after}
use Rattle.ansi_split.proofs.AfterLemmas.{is_cut_after}
use Rattle.ansi_restyle.specs.Restyled.{front, rest}
use Rattle.ansi_restyle.proofs.OtherLemmas.{kept_of, kept-append}

-- the pieces of the front
abbrev pub front_pieces : ℕ → List Piece → List Piece
front_pieces n [] = []
front_pieces n (Text w ∷ ps) = if nat_lt n (length w) then one_text (take n w) else Text w ∷ front_pieces (n - length w) ps
front_pieces n (p ∷ ps) = p ∷ front_pieces n ps

pub front_pieces-last : (n : ℕ) (w : List ℕ) (ps : List Piece) → n < length w → front_pieces n (Text w ∷ ps) ≡ one_text (take n w)
front_pieces-last n w ps last = ap (λ b. if b then one_text (take n w) else Text w ∷ front_pieces (n - length w) ps) (lt-ltb n (length w) last)

pub front_pieces-text : (n : ℕ) (w : List ℕ) (ps : List Piece) → length w ≤ n → front_pieces n (Text w ∷ ps) ≡ Text w ∷ front_pieces (n - length w) ps
front_pieces-text n w ps within = ap (λ b. if b then one_text (take n w) else Text w ∷ front_pieces (n - length w) ps) (le-ltb n (length w) within)

-- A piece stands before a front of what follows it.

first_byte : (n : ℕ) (rest : List ℕ) → take n rest ≢ [] → (rest ≢ []) × (slice_index (take n rest) 0 ≡ slice_index rest 0)
first_byte n rest some = grind arith

stands_alone : (n : ℕ) (rest : List ℕ) → StandsBefore LoneEscape rest → StandsBefore LoneEscape (take n rest)
stands_alone n rest alone = λ m whole. elim (cases_lt (suc n) m) [
  | inl longer ↦ (
      let t = escape ∷ rest in
      let all : take m (take (suc n) t) ≡ take (suc n) t = take_all m (take (suc n) t) (omega (arith, length-take (suc n) t)) in
      alone (suc n) (subst IsSequence all whole))
  | inr shorter ↦ alone m (subst IsSequence (take-take m (suc n) (escape ∷ rest) shorter) whole)
]

stands_before : (p : Piece) (n : ℕ) (rest : List ℕ) → StandsBefore p rest → StandsBefore p (take n rest)
stands_before (Text w) n rest stands = (stands.0, stands.1, λ some. (let first = first_byte n rest some in first.1 ∙ stands.2 first.0))
stands_before (Sequence w) n rest stands = stands
stands_before LoneEscape n rest stands = stands_alone n rest stands

pub piece_before : (t : List ℕ) (p : Piece) (rest : List ℕ) (n : ℕ) (qs : List Piece) → t ≡ spelling p ++ rest → StandsBefore p rest → ArePieces (take n rest) qs → ArePieces (take (length (spelling p) + n) t) (p ∷ qs)
piece_before t p rest n qs spelled stands are =
    (take n rest, ap (take (length (spelling p) + n)) spelled ∙ take-after (spelling p) rest n, stands_before p n rest stands, are)

front_are : (n : ℕ) (t : List ℕ) (ps : List Piece) → ArePieces t ps → ArePieces (take (bytes_before n ps) t) (front_pieces n ps)
front_are n t [] are = refl
front_are n t (Text w ∷ ps) are = elim (cases_lt n (length w)) [
  | inl last ↦ (
      let cut : take n t ≡ take n w = ap (take n) are.1 ∙ take-append-le n w are.0 (omega arith) in
      rw (bytes_before-last n w ps last, front_pieces-last n w ps last, cut) (one_text_are (take n w) (list_all-parts is_plain_byte n w are.2.1).0))
  | inr within ↦
      rw (bytes_before-text n w ps within, front_pieces-text n w ps within)
      (piece_before t (Text w) are.0 (bytes_before (n - length w) ps) (front_pieces (n - length w) ps) are.1 are.2 (front_are (n - length w) are.0 ps are.3))
]
front_are n t (p ∷ ps) are = piece_before t p are.0 (bytes_before n ps) (front_pieces n ps) are.1 are.2 (front_are n are.0 ps are.3)

pub pieces_of-front : (t : List ℕ) (n : ℕ) → pieces_of (front n t) ≡ front_pieces n (pieces_of t)
pieces_of-front t n = sym (pieces_of-unique (front n t) (front_pieces n (pieces_of t)) (front_are n t (pieces_of t) (pieces_are t)))

-- They are whole.

are_whole-one_text : (w : List ℕ) → are_whole (one_text w) ≡ true
are_whole-one_text [] = refl
are_whole-one_text (b ∷ w) = refl

are_whole-front : (n : ℕ) (ps : List Piece) → are_whole ps ≡ true → are_whole (front_pieces n ps) ≡ true
are_whole-front n [] whole = refl
are_whole-front n (Text w ∷ ps) whole =
    cond_both (nat_lt n (length w)) (one_text (take n w)) (Text w ∷ front_pieces (n - length w) ps) (λ qs. are_whole qs ≡ true) (λ last. are_whole-one_text (take n w)) (λ within. are_whole-front (n - length w) ps whole)
are_whole-front n (Sequence w ∷ ps) whole = are_whole-front n ps whole
are_whole-front n (LoneEscape ∷ ps) whole = absurd (cc whole)

pub is_whole-front : (t : List ℕ) (n : ℕ) → IsTrue (is_whole t) → IsTrue (is_whole (front n t))
is_whole-front t n whole = ap are_whole (pieces_of-front t n) ∙ are_whole-front n (pieces_of t) whole

are_whole-after_of : (n : ℕ) (ps : List Piece) → are_whole ps ≡ true → are_whole (after_of n ps) ≡ true
are_whole-after_of n [] whole = refl
are_whole-after_of n (Text w ∷ ps) whole =
    cond_both (nat_lt n (length w)) (Text (drop n w) ∷ ps) (after_of (n - length w) ps) (λ qs. are_whole qs ≡ true) (λ last. whole) (λ within. are_whole-after_of (n - length w) ps whole)
are_whole-after_of n (Sequence w ∷ ps) whole = are_whole-after_of n ps whole
are_whole-after_of n (LoneEscape ∷ ps) whole = absurd (cc whole)

pub is_whole-rest : (t : List ℕ) (n : ℕ) → IsTrue (is_whole t) → IsTrue (is_whole (rest n t))
is_whole-rest t n whole = ap are_whole (pieces_of-after t n) ∙ are_whole-after_of n (pieces_of t) whole

-- What is read of them.

pub style_after-front : (s : Rendition) (t : List ℕ) (n : ℕ) → style_after_from s (front n t) ≡ style_within s t n
style_after-front s t n = ap (after_marks s) (is_cut_after t n (offset_of t n) refl).marks_front

pub styled_from-parts : (s : Rendition) (t : List ℕ) (n : ℕ) → IsTrue (is_whole t) → styled_from s t ≡ styled_from s (front n t) ++ styled_from (style_within s t n) (rest n t)
styled_from-parts s t n whole =
    ap (styled_from s) (sym (take-append-drop (offset_of t n) t)) ∙ styled_from-append s (front n t) (rest n t) (is_whole-front t n whole) (is_whole-rest t n whole)
    ∙ ap (λ r. styled_from s (front n t) ++ styled_from r (rest n t)) (style_after-front s t n)

pub style_after-parts : (s : Rendition) (t : List ℕ) (n : ℕ) → IsTrue (is_whole t) → style_after_from s t ≡ style_after_from (style_within s t n) (rest n t)
style_after-parts s t n whole =
    ap (style_after_from s) (sym (take-append-drop (offset_of t n) t)) ∙ style_after_from-append s (front n t) (rest n t) (is_whole-front t n whole) (is_whole-rest t n whole)
    ∙ ap (λ r. style_after_from r (rest n t)) (style_after-front s t n)

pub length-styled_from : (s : Rendition) (t : List ℕ) → length (styled_from s t) ≡ length (plain t)
length-styled_from s t = length-map (range_with_len 0 (length (plain t))) _ ∙ length-range_with_len 0 (length (plain t))

pub length-front : (s : Rendition) (t : List ℕ) (n : ℕ) → n ≤ length (plain t) → length (styled_from s (front n t)) ≡ n
length-front s t n within =
    length-styled_from s (front n t) ∙ ap length (is_cut_after t n (offset_of t n) refl).plain_front ∙ length-take-le n (plain t) within

pub plain-rest : (t : List ℕ) (n : ℕ) → plain (rest n t) ≡ drop n (plain t)
plain-rest t n = (is_cut_after t n (offset_of t n) refl).plain_after

pub kept-parts : (t : List ℕ) (n : ℕ) → IsTrue (is_whole t) → kept_of (pieces_of t) ≡ kept_of (pieces_of (front n t)) ++ kept_of (pieces_of (rest n t))
kept-parts t n whole =
    ap (λ u. kept_of (pieces_of u)) (sym (take-append-drop (offset_of t n) t)) ∙ kept-append (front n t) (rest n t) (is_whole-front t n whole) (is_whole-rest t n whole)
