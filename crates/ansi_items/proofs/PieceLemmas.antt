-- `pieces_of` gives the pieces of a text, and a text has no others.
use Rattle.ansi_items.proofs.Common.{◌≡◌, ◌≢◌, ℕ, zero, suc, ◌-◌, ◌≤◌, ◌⊎◌, inl, inr, true, false, ◌==◌, List, [], ◌∷◌, ◌++◌, take, drop, length, Option, Some, None, refl, sym, ◌∙◌, ap, ap₂, subst, arith, one-add, slice_index, length-append, cond-true, cond-false, and_parts, cases_Bool, eqb-true, not-true, not-false, none-some, take-append_seam, take-append-drop, ◌↔◌, list_all, prefix_len, option_map_or, escape, is_plain_byte, IsSequence, after_sequence, skip, Piece, Text, Sequence, LoneEscape, spelling, StandsBefore, ArePieces, text_or_lone, first_piece, first_pieces, pieces_of}
use Rattle.ansi_items.proofs.SequenceLemmas.{Stops, prefix_len-run, skip-run, all-run, stops-skip, run-skip, after_sequence-whole, after_sequence_found}

pub take-before_rest : (t w rest : List ℕ) → t ≡ w ++ rest → take (length t - length rest) t ≡ w
take-before_rest t w rest spelled =
    let len : length t - length rest ≡ length w = omega (arith, ap length spelled ∙ length-append w rest) in
    ap (λ n. take n t) len ∙ ap (take (length w)) spelled ∙ take-append_seam w rest

escape_from : (b : ℕ) → is_plain_byte b ≡ false → b ≡ escape
escape_from b h = eqb-true b escape (not-false (b == escape) h)

-- a sequence begins with ESC
pub sequence_front : (w : List ℕ) → IsSequence w → (v : List ℕ) × (w ≡ escape ∷ v)
sequence_front w (inl c) = (_, c.spelled)
sequence_front w (inr (inl c)) = (_, c.spelled)
sequence_front w (inr (inr c)) = (_, c.spelled)

abbrev Splits : ℕ → List ℕ → Piece × List ℕ → Type 0
Splits b bs first = (b ∷ bs ≡ spelling first.0 ++ first.1) × StandsBefore first.0 first.1 × (length first.1 ≤ length bs)

splits_sequence : (b : ℕ) (bs rest : List ℕ) → after_sequence (b ∷ bs) ≡ Some rest → Splits b bs (Sequence (take (length (b ∷ bs) - length rest) (b ∷ bs)), rest)
splits_sequence b bs rest found =
    let begins = after_sequence_found (b ∷ bs) rest found in
    let w = begins.0 in
    let front = take-before_rest (b ∷ bs) w rest begins.2 in
    let G : List ℕ → Type 0 = λ v. Splits b bs (Sequence v, rest) in
    let escaped = sequence_front w begins.1 in
    let bound : length rest ≤ length bs = omega (arith, ap length (begins.2 ∙ ap (λ v. v ++ rest) escaped.1), length-append escaped.0 rest) in
    subst G (sym front) (begins.2, begins.1, bound)

splits_lone : (b : ℕ) (bs : List ℕ) → after_sequence (b ∷ bs) ≡ None → is_plain_byte b ≡ false → Splits b bs (LoneEscape, bs)
splits_lone b bs none plain =
    let is = escape_from b plain in
    let alone : (n : ℕ) → ¬ (IsSequence (take n (escape ∷ bs)))
    = λ n whole. none-some (drop n (escape ∷ bs))
    (sym none ∙ ap (λ x. after_sequence (x ∷ bs)) is ∙ ap after_sequence (sym (take-append-drop n (escape ∷ bs)))
    ∙ after_sequence-whole (take n (escape ∷ bs)) (drop n (escape ∷ bs)) whole) in
    (ap (λ x. x ∷ bs) is, alone, omega arith)

escape_after : (t : List ℕ) → Stops is_plain_byte t → t ≢ [] → slice_index t 0 ≡ escape
escape_after [] stops some = absurd (some refl)
escape_after (b ∷ t) stops some = escape_from b stops

splits_text : (b : ℕ) (bs : List ℕ) → is_plain_byte b ≡ true → Splits b bs (Text (take (prefix_len is_plain_byte (b ∷ bs)) (b ∷ bs)), skip is_plain_byte (b ∷ bs))
splits_text b bs plain =
    let t = b ∷ bs in
    let w = take (prefix_len is_plain_byte t) t in
    let rest = skip is_plain_byte t in
    let count : prefix_len is_plain_byte t ≡ suc (prefix_len is_plain_byte bs) = cond-true (is_plain_byte b) _ _ plain ∙ one-add _ in
    let front : w ≡ b ∷ take (prefix_len is_plain_byte bs) bs = ap (λ n. take n t) count in
    let filled : w ≢ [] = λ e. (let f : b ∷ take (prefix_len is_plain_byte bs) bs ≡ [] = sym front ∙ e in cc) in
    let bound : length rest ≤ length bs
    = omega (arith, ap length (run-skip is_plain_byte t ∙ ap (λ v. v ++ rest) front), length-append (take (prefix_len is_plain_byte bs) bs) rest) in
    (run-skip is_plain_byte t, (filled, all-run is_plain_byte t, escape_after rest (stops-skip is_plain_byte t)), bound)

pub first_piece_splits : (b : ℕ) (bs : List ℕ) → Splits b bs (first_piece (b ∷ bs))
first_piece_splits b bs = by_what_is_after (after_sequence (b ∷ bs)) refl
  where
    by_first_byte : after_sequence (b ∷ bs) ≡ None → Splits b bs (text_or_lone (b ∷ bs))
    by_first_byte none = elim (cases_Bool (is_plain_byte b)) [
      | inl plain ↦ subst (Splits b bs) (sym (cond-true (is_plain_byte b) _ _ plain)) (splits_text b bs plain)
      | inr escapes ↦ subst (Splits b bs) (sym (cond-false (is_plain_byte b) _ _ escapes)) (splits_lone b bs none escapes)
    ]

    by_what_is_after : (o : Option (List ℕ)) → after_sequence (b ∷ bs) ≡ o
        → Splits b bs (option_map_or (λ rest. (Sequence (take (length (b ∷ bs) - length rest) (b ∷ bs)), rest)) o (text_or_lone (b ∷ bs)))
    by_what_is_after None is = by_first_byte is
    by_what_is_after (Some rest) is = splits_sequence b bs rest is

first_pieces_are : (n : ℕ) (t : List ℕ) → length t ≤ n → ArePieces t (first_pieces n t)
first_pieces_are zero [] fits = refl
first_pieces_are zero (b ∷ bs) fits = absurd (omega arith)
first_pieces_are (suc n) [] fits = refl
first_pieces_are (suc n) (b ∷ bs) fits =
    let first = first_piece (b ∷ bs) in
    let splits = first_piece_splits b bs in
    (first.1, splits.0, splits.1, first_pieces_are n first.1 (omega (arith, splits.2)))

-- the pieces that are computed are the pieces of the text
pub pieces_are : (t : List ℕ) → ArePieces t (pieces_of t)
pieces_are t = first_pieces_are (length t) t (omega arith)

-- A text has no other pieces.

stops_from : (rest : List ℕ) → (rest ≢ [] → slice_index rest 0 ≡ escape) → Stops is_plain_byte rest
stops_from [] after = tt
stops_from (b ∷ rest) after =
    let some : (b ∷ rest) ≢ [] = λ e. cc in
    ap is_plain_byte (after some)

none_or_some : (o : Option (List ℕ)) → (o ≡ None) ⊎ ((x : List ℕ) × (o ≡ Some x))
none_or_some None = inl refl
none_or_some (Some x) = inr (x, refl)

first_piece-text : (c : ℕ) (v rest : List ℕ) → StandsBefore (Text (c ∷ v)) rest → first_piece (c ∷ v ++ rest) ≡ (Text (c ∷ v), rest)
first_piece-text c v rest stands =
    let w = c ∷ v in
    let t = w ++ rest in
    let plain = (and_parts (is_plain_byte c) (list_all is_plain_byte v) stands.1).0 in
    let count = prefix_len-run is_plain_byte w rest stands.1 (stops_from rest stands.2) in
    let none : after_sequence t ≡ None = cond-false (c == escape) _ _ (not-true (c == escape) plain) in
    ap (λ o. option_map_or (λ rest. (Sequence (take (length t - length rest) t), rest)) o (text_or_lone t)) none
    ∙ cond-true (is_plain_byte c) _ _ plain
    ∙ ap₂ (λ x y. (Text x, y)) (ap (λ n. take n t) count ∙ take-append_seam w rest) (skip-run is_plain_byte w rest stands.1 (stops_from rest stands.2))

first_piece-sequence : (w rest : List ℕ) → IsSequence w → first_piece (w ++ rest) ≡ (Sequence w, rest)
first_piece-sequence w rest whole =
    let t = w ++ rest in
    ap (λ o. option_map_or (λ rest. (Sequence (take (length t - length rest) t), rest)) o (text_or_lone t)) (after_sequence-whole w rest whole)
    ∙ ap (λ x. (Sequence x, rest)) (take-before_rest t w rest refl)

first_piece-lone : (rest : List ℕ) → StandsBefore LoneEscape rest → first_piece (escape ∷ rest) ≡ (LoneEscape, rest)
first_piece-lone rest alone =
    let t = escape ∷ rest in
    elim (none_or_some (after_sequence t)) [
      | inl none ↦ ap (λ o. option_map_or (λ rest. (Sequence (take (length t - length rest) t), rest)) o (text_or_lone t)) none
      | inr found ↦ (
          let begins = after_sequence_found t found.0 found.1 in
          let front : take (length begins.0) t ≡ begins.0 = ap (take (length begins.0)) begins.2 ∙ take-append_seam begins.0 found.0 in
          absurd (alone (length begins.0) (subst IsSequence (sym front) begins.1)))
    ]

first_piece-stands : (p : Piece) (rest : List ℕ) → StandsBefore p rest → first_piece (spelling p ++ rest) ≡ (p, rest)
first_piece-stands (Text []) rest stands = absurd (stands.0 refl)
first_piece-stands (Text (c ∷ v)) rest stands = first_piece-text c v rest stands
first_piece-stands (Sequence w) rest stands = first_piece-sequence w rest stands
first_piece-stands LoneEscape rest stands = first_piece-lone rest stands

-- a piece has a first byte
spelling_front : (p : Piece) (rest : List ℕ) → StandsBefore p rest → (b : ℕ) × (v : List ℕ) × (spelling p ≡ b ∷ v)
spelling_front (Text []) rest stands = absurd (stands.0 refl)
spelling_front (Text (c ∷ v)) rest stands = (c, v, refl)
spelling_front (Sequence w) rest stands = (escape, (sequence_front w stands).0, (sequence_front w stands).1)
spelling_front LoneEscape rest stands = (escape, [], refl)

no_first_pieces : (n : ℕ) → first_pieces n [] ≡ []
no_first_pieces zero = refl
no_first_pieces (suc n) = refl

only_first_pieces : (n : ℕ) (t : List ℕ) (ps : List Piece) → length t ≤ n → ArePieces t ps → ps ≡ first_pieces n t
only_first_pieces n t [] fits are = sym (ap (first_pieces n) are ∙ no_first_pieces n)
only_first_pieces zero t (p ∷ ps) fits are =
    let front = spelling_front p are.0 are.2 in
    absurd (omega (arith, ap length (are.1 ∙ ap (λ v. v ++ are.0) front.2)))
only_first_pieces (suc n) t (p ∷ ps) fits are =
    let rest = are.0 in
    let front = spelling_front p rest are.2 in
    let u = front.1 ++ rest in
    let spelled : t ≡ front.0 ∷ u = are.1 ∙ ap (λ v. v ++ rest) front.2 in
    let first : first_piece (front.0 ∷ u) ≡ (p, rest) = ap first_piece (sym (ap (λ v. v ++ rest) front.2)) ∙ first_piece-stands p rest are.2 in
    let bound : length rest ≤ n = omega (arith, ap length spelled, length-append front.1 rest) in
    ap (λ v. p ∷ v) (only_first_pieces n rest ps bound are.3)
    ∙ sym (ap (first_pieces (suc n)) spelled ∙ ap (λ (f : Piece × List ℕ). f.0 ∷ first_pieces n f.1) first)

pub pieces_of-unique : (t : List ℕ) (ps : List Piece) → ArePieces t ps → ps ≡ pieces_of t
pieces_of-unique t ps are = only_first_pieces (length t) t ps (omega arith) are

-- a list is the pieces of a text exactly if it is what `pieces_of` gives
pub are_pieces : (t : List ℕ) (ps : List Piece) → ArePieces t ps ↔ (ps ≡ pieces_of t)
are_pieces t ps = (pieces_of-unique t ps, λ e. subst (ArePieces t) (sym e) (pieces_are t))
