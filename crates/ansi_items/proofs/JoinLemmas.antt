-- Pieces that may come before anything: the text that they spell has these pieces, with texts that touch joined.
use Rattle.ansi_items.proofs.Common.{◌≡◌, ◌≢◌, ℕ, true, List, [], ◌∷◌, ◌++◌, refl, sym, ◌∙◌, ap, ap₂, append_assoc, IsTrue, flat_map, slice_index, and_from, list_all-append, flat_map-append, list_all, AllByRecursion, is_plain_byte, IsSequence, Piece, spelling, Text, Sequence, LoneEscape, ArePieces, after_text, merged, pieces_of, are_whole, is_whole, take, drop, take-append-drop, false, plain_of, plain, has_escape}
use Rattle.ansi_items.proofs.PieceLemmas.{sequence_front, pieces_of-unique, pieces_are}
use Rattle.ansi_items.proofs.PlainLemmas.{all_plain_bytes}

-- the bytes that pieces spell
abbrev pub spelled : List Piece → List ℕ
spelled ps = flat_map spelling ps

-- a piece may come before anything if it is read the same way whatever follows it
abbrev pub StandsAnywhere : Piece → Type 0
StandsAnywhere (Text w) = (w ≢ []) × IsTrue (list_all is_plain_byte w)
StandsAnywhere (Sequence w) = IsSequence w
StandsAnywhere LoneEscape = ⊥

abbrev pub AllStandAnywhere : List Piece → Type 0
AllStandAnywhere ps = AllByRecursion StandsAnywhere ps

pub stand-append : (ps qs : List Piece) → AllStandAnywhere ps → AllStandAnywhere qs → AllStandAnywhere (ps ++ qs)
stand-append [] qs first second = second
stand-append (p ∷ ps) qs first second = (first.0, stand-append ps qs first.1 second)

-- Texts that touch are joined.

append-nonempty : (w v : List ℕ) → w ≢ [] → (w ++ v) ≢ []
append-nonempty [] v filled = absurd (filled refl)
append-nonempty (b ∷ w) v filled = λ e. cc

pub after_text_are : (w rest : List ℕ) (ps : List Piece) → w ≢ [] → list_all is_plain_byte w ≡ true → ArePieces rest ps → ArePieces (w ++ rest) (after_text w ps)
after_text_are w rest [] filled all are = (rest, refl, (filled, all, λ some. absurd (some are)), are)
after_text_are w rest (Text v ∷ ps) filled all are =
    let both : list_all is_plain_byte (w ++ v) ≡ true = list_all-append is_plain_byte w v ∙ and_from _ _ all are.2.1 in
    (are.0, ap (λ u. w ++ u) are.1 ∙ sym (append_assoc w v are.0), (append-nonempty w v filled, both, are.2.2), are.3)
after_text_are w rest (Sequence v ∷ ps) filled all are =
    let front = sequence_front v are.2 in
    (rest, refl, (filled, all, λ some. ap (λ u. slice_index u 0) (are.1 ∙ ap (λ u. u ++ are.0) front.1)), are)
after_text_are w rest (LoneEscape ∷ ps) filled all are =
    (rest, refl, (filled, all, λ some. ap (λ u. slice_index u 0) are.1), are)

merged_are : (ps : List Piece) → AllStandAnywhere ps → ArePieces (spelled ps) (merged ps)
merged_are [] all = refl
merged_are (Text w ∷ ps) all = after_text_are w (spelled ps) (merged ps) all.0.0 all.0.1 (merged_are ps all.1)
merged_are (Sequence w ∷ ps) all = (spelled ps, refl, all.0, merged_are ps all.1)
merged_are (LoneEscape ∷ ps) all = absurd all.0

pub pieces_of-spelled : (ps : List Piece) → AllStandAnywhere ps → pieces_of (spelled ps) ≡ merged ps
pieces_of-spelled ps all = sym (pieces_of-unique (spelled ps) (merged ps) (merged_are ps all))

are_whole-after_text : (w : List ℕ) (ps : List Piece) → are_whole ps ≡ true → are_whole (after_text w ps) ≡ true
are_whole-after_text w (Text v ∷ ps) whole = whole
are_whole-after_text w ps whole = whole

are_whole-merged : (ps : List Piece) → AllStandAnywhere ps → are_whole (merged ps) ≡ true
are_whole-merged [] all = refl
are_whole-merged (Text w ∷ ps) all = are_whole-after_text w (merged ps) (are_whole-merged ps all.1)
are_whole-merged (Sequence w ∷ ps) all = are_whole-merged ps all.1
are_whole-merged (LoneEscape ∷ ps) all = absurd all.0

pub is_whole-spelled : (ps : List Piece) → AllStandAnywhere ps → IsTrue (is_whole (spelled ps))
is_whole-spelled ps all = ap are_whole (pieces_of-spelled ps all) ∙ are_whole-merged ps all

-- The pieces of a text spell it, and those of a whole text may come before anything.

spelled-are : (t : List ℕ) (ps : List Piece) → ArePieces t ps → spelled ps ≡ t
spelled-are t [] are = sym are
spelled-are t (p ∷ ps) are = ap (λ u. spelling p ++ u) (spelled-are are.0 ps are.3) ∙ sym are.1

pub spelled-pieces_of : (t : List ℕ) → spelled (pieces_of t) ≡ t
spelled-pieces_of t = spelled-are t (pieces_of t) (pieces_are t)

stand_where_whole : (t : List ℕ) (ps : List Piece) → ArePieces t ps → are_whole ps ≡ true → AllStandAnywhere ps
stand_where_whole t [] are whole = tt
stand_where_whole t (Text w ∷ ps) are whole = ((are.2.0, are.2.1), stand_where_whole are.0 ps are.3 whole)
stand_where_whole t (Sequence w ∷ ps) are whole = (are.2, stand_where_whole are.0 ps are.3 whole)
stand_where_whole t (LoneEscape ∷ ps) are whole = absurd (cc whole)

pub pieces_stand : (t : List ℕ) → IsTrue (is_whole t) → AllStandAnywhere (pieces_of t)
pieces_stand t whole = stand_where_whole t (pieces_of t) (pieces_are t) whole

-- A run at the front joins the text after it.

pub pieces_of-run : (w rest : List ℕ) → w ≢ [] → list_all is_plain_byte w ≡ true → pieces_of (w ++ rest) ≡ after_text w (pieces_of rest)
pieces_of-run w rest filled all = sym (pieces_of-unique (w ++ rest) (after_text w (pieces_of rest)) (after_text_are w rest (pieces_of rest) filled all (pieces_are rest)))

plain_of-after_text : (w : List ℕ) (ps : List Piece) → plain_of (after_text w ps) ≡ w ++ plain_of ps
plain_of-after_text w (Text v ∷ ps) = append_assoc w v (plain_of ps)
plain_of-after_text w ps = refl

pub plain-run : (w rest : List ℕ) → list_all is_plain_byte w ≡ true → plain (w ++ rest) ≡ w ++ plain rest
plain-run [] rest all = refl
plain-run (b ∷ w) rest all = ap plain_of (pieces_of-run (b ∷ w) rest (λ e. cc) all) ∙ plain_of-after_text (b ∷ w) (pieces_of rest)

pub plain-front : (t w : List ℕ) (run : ℕ) → w ≡ take run t → has_escape (take run t) ≡ false → plain t ≡ w ++ plain (drop run t)
plain-front t w run is none =
    ap plain (sym (ap (λ u. u ++ drop run t) is ∙ take-append-drop run t)) ∙ plain-run w (drop run t) (all_plain_bytes w (ap has_escape is ∙ none))

-- Two whole texts in a row.

spelled-both : (u v : List ℕ) → u ++ v ≡ spelled (pieces_of u ++ pieces_of v)
spelled-both u v = sym (flat_map-append spelling (pieces_of u) (pieces_of v) ∙ ap₂ (λ x y. x ++ y) (spelled-pieces_of u) (spelled-pieces_of v))

both_stand : (u v : List ℕ) → IsTrue (is_whole u) → IsTrue (is_whole v) → AllStandAnywhere (pieces_of u ++ pieces_of v)
both_stand u v whole_u whole_v = stand-append (pieces_of u) (pieces_of v) (pieces_stand u whole_u) (pieces_stand v whole_v)

pub pieces_of-append : (u v : List ℕ) → IsTrue (is_whole u) → IsTrue (is_whole v) → pieces_of (u ++ v) ≡ merged (pieces_of u ++ pieces_of v)
pieces_of-append u v whole_u whole_v =
    ap pieces_of (spelled-both u v) ∙ pieces_of-spelled (pieces_of u ++ pieces_of v) (both_stand u v whole_u whole_v)

pub is_whole-append : (u v : List ℕ) → IsTrue (is_whole u) → IsTrue (is_whole v) → IsTrue (is_whole (u ++ v))
is_whole-append u v whole_u whole_v =
    ap is_whole (spelled-both u v) ∙ is_whole-spelled (pieces_of u ++ pieces_of v) (both_stand u v whole_u whole_v)
