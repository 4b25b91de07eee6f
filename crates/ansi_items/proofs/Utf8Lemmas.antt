-- The plain text of a UTF-8 text is UTF-8.
use Rattle.ansi_items.proofs.Common.{ℕ, List, [], ◌∷◌, ◌++◌, length, refl, subst, IsUtf8-append, IsUtf8-take, IsUtf8-drop, IsUtf8-nil, take-append_seam, drop-append_seam, IsUtf8, Piece, Text, spelling, StandsBefore, ArePieces, pieces_of, plain_bytes, plain_of, plain}
use Rattle.ansi_items.proofs.PieceLemmas.{pieces_are}
use Rattle.ansi_items.proofs.ScanLemmas.{piece_ends}

-- a piece at the front, and what follows it
piece_and_rest : (p : Piece) (rest : List ℕ) → StandsBefore p rest → IsUtf8 (spelling p ++ rest) → IsUtf8 (spelling p) × IsUtf8 rest
piece_and_rest p rest stands utf8 =
    let t = spelling p ++ rest in
    let n = length (spelling p) in
    let ends = piece_ends t p rest utf8 refl stands in (
      subst IsUtf8 (take-append_seam (spelling p) rest) (IsUtf8-take t n utf8 ends),
      subst IsUtf8 (drop-append_seam (spelling p) rest) (IsUtf8-drop t n utf8 ends),
    )

IsUtf8-plain_bytes : (p : Piece) → IsUtf8 (spelling p) → IsUtf8 (plain_bytes p)
IsUtf8-plain_bytes (Text w) utf8 = utf8
IsUtf8-plain_bytes p utf8 = IsUtf8-nil

IsUtf8-plain_of : (t : List ℕ) (ps : List Piece) → ArePieces t ps → IsUtf8 t → IsUtf8 (plain_of ps)
IsUtf8-plain_of t [] are utf8 = IsUtf8-nil
IsUtf8-plain_of t (p ∷ ps) are utf8 =
    let both = piece_and_rest p are.0 are.2 (subst IsUtf8 are.1 utf8) in
    IsUtf8-append (plain_bytes p) (plain_of ps) (IsUtf8-plain_bytes p both.0) (IsUtf8-plain_of are.0 ps are.3 both.1)

pub IsUtf8-plain : (t : List ℕ) → IsUtf8 t → IsUtf8 (plain t)
IsUtf8-plain t utf8 = IsUtf8-plain_of t (pieces_of t) (pieces_are t) utf8
