-- A text without ordinary characters at its front is as safe, and leaves the same open.
use Rattle.std.proofs.Common.{◌≡◌, ℕ, Bool, true, ◌&&◌, List, [], ◌∷◌, ◌++◌, chars, refl, sym, ◌∙◌, ap, arith, append-nil}
use Rattle.std.specs.List.{list_all}
use Rattle.std.specs.Str.{IsUtf8}
use Rattle.std.proofs.lemmas.Bool.{and_from, and_parts}
use Rattle.std.proofs.lemmas.Bool.Decides.{nat_tests}
use Rattle.std.proofs.lemmas.Str.{chars-append, chars-nil}
use Rattle.ansi_items.specs.Bytes.{is_plain_byte}
use Rattle.ansi_items.specs.Pieces.{Piece, Text, Sequence, LoneEscape, pieces_of, after_text}
use Rattle.ansi_items.specs.Plain.{marks}
use Rattle.ansi_items.proofs.JoinLemmas.{pieces_of-run}
use Rattle.ansi_style.specs.Rendition.{plain_style}
use Rattle.ansi_style.specs.Sgr.{apply}
use Rattle.ansi_style.specs.declared.state.rendition.Rendition.{Rendition}
use Rattle.ansi_style.specs.Reading.{style_after_from}
use Rattle.ansi_style.specs.Styled.{style_after}
use Rattle.ansi_style.proofs.StyledLemmas.{style_after_from-pieces}
use Rattle.ansi_style.proofs.ThroughLemmas.{state_through}
use Rattle.ansi_safe.specs.declared.policy.Links.{Links}
use Rattle.ansi_safe.specs.Links.{link_of, link_after}
use Rattle.ansi_safe.specs.Safe.{is_ordinary_byte, all_allowed, may_stay, is_safe}
use Rattle.ansi_safe.proofs.AllowedLemmas.{stand_after_ordinary}
use Rattle.ansi_safe.proofs.LinkLemmas.{link_of-pieces}

-- an ordinary byte is no ESC
ordinary-plain : (white : Bool) (w : List ℕ) → list_all (is_ordinary_byte white) w ≡ true → list_all is_plain_byte w ≡ true
ordinary-plain white [] all = refl
ordinary-plain white (b ∷ w) all =
    let both = and_parts (is_ordinary_byte white b) (list_all (is_ordinary_byte white) w) all in
    let here : is_plain_byte b ≡ true = grind (arith, nat_tests) in
    and_from _ _ here (ordinary-plain white w both.1)

-- so it joins the text after it
pieces-ordinary : (white : Bool) (b : ℕ) (w rest : List ℕ) → list_all (is_ordinary_byte white) (b ∷ w) ≡ true → pieces_of ((b ∷ w) ++ rest) ≡ after_text (b ∷ w) (pieces_of rest)
pieces-ordinary white b w rest all = pieces_of-run (b ∷ w) rest (λ e. cc) (ordinary-plain white (b ∷ w) all)

-- it changes no test of all pieces that no ordinary front of a text changes
pub all-ordinary : (stays : Piece → Bool) (white : Bool) (w rest : List ℕ) → list_all (is_ordinary_byte white) w ≡ true → ((v : List ℕ) → stays (Text (w ++ v)) ≡ stays (Text v)) → stays (Text []) ≡ true → list_all stays (pieces_of (w ++ rest)) ≡ list_all stays (pieces_of rest)
all-ordinary stays white [] rest all front none = refl
all-ordinary stays white (b ∷ w) rest all front none = ap (list_all stays) (pieces-ordinary white b w rest all) ∙ by (pieces_of rest)
  where
    whole : stays (Text (b ∷ w)) ≡ true
    whole = ap (λ u. stays (Text u)) (sym (append-nil (b ∷ w))) ∙ front [] ∙ none

    by : (ps : List Piece) → list_all stays (after_text (b ∷ w) ps) ≡ list_all stays ps
    by (Text v ∷ ps) = ap (λ x. x && list_all stays ps) (front v)
    by [] = ap (λ x. x && true) whole
    by (Sequence v ∷ ps) = ap (λ x. x && list_all stays (Sequence v ∷ ps)) whole
    by (LoneEscape ∷ ps) = ap (λ x. x && list_all stays (LoneEscape ∷ ps)) whole

pub safe-ordinary : (white : Bool) (links : Links) (w rest : List ℕ) → IsUtf8 w → list_all (is_ordinary_byte white) w ≡ true → is_safe links (w ++ rest) ≡ is_safe links rest
safe-ordinary white links w rest utf8 all =
    all-ordinary (may_stay links) white w rest all (λ v. stand_after_ordinary white (chars (w ++ v)) w (chars v) utf8 all (chars-append w v utf8)) (ap all_allowed chars-nil)

-- a text changes no state
through-after_text : {S : Type 0} (step : S → List ℕ → S) (s : S) (w : List ℕ) (ps : List Piece) → state_through step s (after_text w ps) ≡ state_through step s ps
through-after_text step s w (Text v ∷ ps) = refl
through-after_text step s w [] = refl
through-after_text step s w (Sequence v ∷ ps) = refl
through-after_text step s w (LoneEscape ∷ ps) = refl

through-ordinary : {S : Type 0} (step : S → List ℕ → S) (s : S) (white : Bool) (w rest : List ℕ) → list_all (is_ordinary_byte white) w ≡ true → state_through step s (pieces_of (w ++ rest)) ≡ state_through step s (pieces_of rest)
through-ordinary step s white [] rest all = refl
through-ordinary step s white (b ∷ w) rest all = ap (state_through step s) (pieces-ordinary white b w rest all) ∙ through-after_text step s (b ∷ w) (pieces_of rest)

pub style_from-ordinary : (s : Rendition) (white : Bool) (w rest : List ℕ) → list_all (is_ordinary_byte white) w ≡ true → style_after_from s (w ++ rest) ≡ style_after_from s rest
style_from-ordinary s white w rest all =
    style_after_from-pieces s (w ++ rest) ∙ through-ordinary apply s white w rest all ∙ sym (style_after_from-pieces s rest)

pub style-ordinary : (white : Bool) (w rest : List ℕ) → list_all (is_ordinary_byte white) w ≡ true → style_after (w ++ rest) ≡ style_after rest
style-ordinary = style_from-ordinary plain_style

pub link-ordinary : (white : Bool) (w rest : List ℕ) → list_all (is_ordinary_byte white) w ≡ true → link_of (marks (w ++ rest)) ≡ link_of (marks rest)
link-ordinary white w rest all = link_of-pieces (pieces_of (w ++ rest)) ∙ through-ordinary link_after [] white w rest all ∙ sym (link_of-pieces (pieces_of rest))
