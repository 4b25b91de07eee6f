-- A text without ESC is its own plain text, and a plain text is one.
use Rattle.ansi_items.proofs.Common.{◌≡◌, ◌≢◌, ℕ, ◌≤◌, true, false, List, [], ◌∷◌, length, refl, sym, ◌∙◌, ap, arith, append-nil, length-append, and_from, and_parts, or_parts, or_from, not-true, not_from_false, list_all-append, ◌==◌, list_all, escape, is_plain_byte, Piece, Text, spelling, ArePieces, pieces_of, plain_of, plain, are_whole, is_whole, has_escape}
use Rattle.ansi_items.proofs.PieceLemmas.{pieces_are, pieces_of-unique}

-- A list of plain bytes has no ESC.

pub all_plain_bytes : (t : List ℕ) → has_escape t ≡ false → list_all is_plain_byte t ≡ true
all_plain_bytes [] none = refl
all_plain_bytes (b ∷ t) none =
    let parts = or_parts (b == escape) (has_escape t) none in
    and_from _ _ (not_from_false (b == escape) parts.0) (all_plain_bytes t parts.1)

pub has_escape-bare : (t : List ℕ) → list_all is_plain_byte t ≡ true → has_escape t ≡ false
has_escape-bare [] all = refl
has_escape-bare (b ∷ t) all =
    let parts = and_parts (is_plain_byte b) (list_all is_plain_byte t) all in
    or_from _ _ (not-true (b == escape) parts.0) (has_escape-bare t parts.1)

-- A text without ESC is one piece, or none.

abbrev pub one_text : List ℕ → List Piece
one_text [] = []
one_text (b ∷ bs) = Text (b ∷ bs) ∷ []

pub one_text_are : (x : List ℕ) → list_all is_plain_byte x ≡ true → ArePieces x (one_text x)
one_text_are [] all = refl
one_text_are (b ∷ bs) all =
    let filled : (b ∷ bs) ≢ [] = λ e. cc in
    ([], sym (append-nil (b ∷ bs)), (filled, all, λ some. absurd (some refl)), refl)

pub pieces_of-bare : (x : List ℕ) → has_escape x ≡ false → pieces_of x ≡ one_text x
pieces_of-bare x none = sym (pieces_of-unique x (one_text x) (one_text_are x (all_plain_bytes x none)))

pub plain_of-one_text : (x : List ℕ) → plain_of (one_text x) ≡ x
plain_of-one_text [] = refl
plain_of-one_text (b ∷ bs) = append-nil (b ∷ bs)

pub plain-bare : (x : List ℕ) → has_escape x ≡ false → plain x ≡ x
plain-bare x none = ap plain_of (pieces_of-bare x none) ∙ plain_of-one_text x

are_whole-one_text : (x : List ℕ) → are_whole (one_text x) ≡ true
are_whole-one_text [] = refl
are_whole-one_text (b ∷ bs) = refl

-- A plain text is a text without ESC.

all_plain : (t : List ℕ) (ps : List Piece) → ArePieces t ps → list_all is_plain_byte (plain_of ps) ≡ true
all_plain t [] are = refl
all_plain t (Text w ∷ ps) are =
    list_all-append is_plain_byte w (plain_of ps) ∙ and_from _ _ are.2.1 (all_plain are.0 ps are.3)
all_plain t (p ∷ ps) are = all_plain are.0 ps are.3

pub has_escape-plain : (t : List ℕ) → has_escape (plain t) ≡ false
has_escape-plain t = has_escape-bare (plain t) (all_plain t (pieces_of t) (pieces_are t))

pub plain-plain : (t : List ℕ) → plain (plain t) ≡ plain t
plain-plain t = plain-bare (plain t) (has_escape-plain t)

pub is_whole-plain : (t : List ℕ) → is_whole (plain t) ≡ true
is_whole-plain t = ap are_whole (pieces_of-bare (plain t) (has_escape-plain t)) ∙ are_whole-one_text (plain t)

-- A plain text is no longer than its text.

length-plain_of : (t : List ℕ) (ps : List Piece) → ArePieces t ps → length (plain_of ps) ≤ length t
length-plain_of t [] are = omega arith
length-plain_of t (Text w ∷ ps) are =
    omega (arith, length-append w (plain_of ps), ap length are.1, length-append w are.0, length-plain_of are.0 ps are.3)
length-plain_of t (p ∷ ps) are = omega (arith, ap length are.1, length-append (spelling p) are.0, length-plain_of are.0 ps are.3)

pub length-plain : (t : List ℕ) → length (plain t) ≤ length t
length-plain t = length-plain_of t (pieces_of t) (pieces_are t)
