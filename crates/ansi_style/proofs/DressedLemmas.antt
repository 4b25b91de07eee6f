-- Pieces between the start of a style and its close: read in a style of which nothing is known, they have their styled bytes, and leave nothing known.
use Rattle.ansi_style.proofs.Common.{◌≡◌, ℕ, List, [], ◌∷◌, ◌++◌, refl, ◌∙◌, ap, ap₂, append-nil, IsTrue, flat_map-append, Piece, Text, spelling, is_whole, Rendition, IsStyle, plain_style, known, apply, written_all, start_codes, start, StyledByte, styled, residue, spelled, AllStandAnywhere, stand-append, is_whole-spelled, arith}
use Rattle.ansi_style.proofs.SgrLemmas.{apply-alike}
use Rattle.ansi_style.proofs.StyledLemmas.{styled_through, style_through, styled_through-append, style_through-append, styled_through-alike}
use Rattle.ansi_style.proofs.SpelledLemmas.{styled-spelled, residue-spelled}
use Rattle.ansi_style.proofs.ReadBackLemmas.{AreCodes, apply_codes, code_pieces, spelled-code_pieces, code_pieces_stand, start_codes_are, styled_through-codes, style_through-codes}
use Rattle.ansi_style.proofs.StartLemmas.{start_codes_set}

-- Pieces that, read in a style of which nothing is known, have these styled bytes and leave nothing known.

pub record GiveAlone (ps : List Piece) (bs : List StyledByte) : Type 0 where
  pub given : (p : Rendition) → known p ≡ plain_style → styled_through p ps ≡ bs
  pub cleared : (p : Rendition) → known p ≡ plain_style → known (style_through p ps) ≡ plain_style

pub give-nothing : GiveAlone [] []
give-nothing = record { given = λ p none. refl; cleared = λ p none. none }

pub give-append : (ps qs : List Piece) (bs cs : List StyledByte) → GiveAlone ps bs → GiveAlone qs cs → GiveAlone (ps ++ qs) (bs ++ cs)
give-append ps qs bs cs first second = record {
  given = λ p none. styled_through-append p ps qs ∙ ap₂ (λ u v. u ++ v) (first.given p none) (second.given (style_through p ps) (first.cleared p none));
  cleared = λ p none. ap known (style_through-append p ps qs) ∙ second.cleared (style_through p ps) (first.cleared p none);
}

-- the text is whole, has these styled bytes, and leaves nothing known open
pub record IsClosed (bs : List StyledByte) (u : List ℕ) : Type 0 where
  pub styled_bytes : styled u ≡ bs
  pub whole : IsTrue (is_whole u)
  pub closed : residue u ≡ plain_style

pub closed-spelled : (ps : List Piece) (bs : List StyledByte) → AllStandAnywhere ps → GiveAlone ps bs → IsClosed bs (spelled ps)
closed-spelled ps bs stand give = record {
  styled_bytes = styled-spelled ps stand ∙ give.given plain_style refl;
  whole = is_whole-spelled ps stand;
  closed = residue-spelled ps stand ∙ give.cleared plain_style refl;
}

-- Only what is known of the style before pieces counts.

style_through-alike : (s q : Rendition) (ps : List Piece) → known s ≡ known q → known (style_through s ps) ≡ known (style_through q ps)
style_through-alike s q [] same = same
style_through-alike s q (Text w ∷ ps) same = style_through-alike s q ps same
style_through-alike s q (p ∷ ps) same = style_through-alike (apply s (spelling p)) (apply q (spelling p)) ps (apply-alike s q (spelling p) same)

-- Pieces after the start of s and before codes that close q.

-- the codes leave nothing known of the style q
abbrev pub Clears : Rendition → List (List ℕ) → Type 0
Clears q xs = (p : Rendition) → known p ≡ known q → known (apply_codes p xs) ≡ plain_style

abbrev pub dressed_pieces : Rendition → List Piece → List (List ℕ) → List Piece
dressed_pieces s ps xs = code_pieces (start_codes s) ++ ps ++ code_pieces xs

pub spelled-dressed_pieces : (s : Rendition) (ps : List Piece) (xs : List (List ℕ)) → spelled (dressed_pieces s ps xs) ≡ start s ++ spelled ps ++ written_all xs
spelled-dressed_pieces s ps xs = grind (arith, flat_map-append, spelled-code_pieces)

pub dressed_pieces_stand : {n : ℕ} (s : Rendition) (ps : List Piece) (xs : List (List ℕ)) → IsStyle s → AllStandAnywhere ps → AreCodes xs n → AllStandAnywhere (dressed_pieces s ps xs)
dressed_pieces_stand s ps xs is all are =
    stand-append (code_pieces (start_codes s) ++ ps) (code_pieces xs)
    (stand-append (code_pieces (start_codes s)) ps (code_pieces_stand (start_codes s) (start_codes_are s is)) all)
    (code_pieces_stand xs are)

pub dressed_pieces_give : (s q : Rendition) (ps : List Piece) (xs : List (List ℕ)) → IsStyle s → known (style_through s ps) ≡ known q → Clears q xs
    → GiveAlone (dressed_pieces s ps xs) (styled_through s ps)
dressed_pieces_give s q ps xs is same clears =
    let before = code_pieces (start_codes s) in
    let set : (p : Rendition) → known p ≡ plain_style → known (style_through p before) ≡ known s
    = λ p none. ap known (style_through-codes p (start_codes s)) ∙ start_codes_set p s is none in
    record {
      given = λ p none. styled_through-append p (before ++ ps) (code_pieces xs)
          ∙ ap₂ (λ u v. u ++ v)
          (styled_through-append p before ps ∙ ap₂ (λ u v. u ++ v) (styled_through-codes p (start_codes s)) (styled_through-alike (style_through p before) s ps (set p none)))
          (styled_through-codes (style_through p (before ++ ps)) xs)
          ∙ append-nil (styled_through s ps);
      cleared = λ p none. ap known (style_through-append p (before ++ ps) (code_pieces xs) ∙ style_through-codes (style_through p (before ++ ps)) xs)
          ∙ clears (style_through p (before ++ ps))
          (ap known (style_through-append p before ps) ∙ style_through-alike (style_through p before) s ps (set p none) ∙ same);
    }
