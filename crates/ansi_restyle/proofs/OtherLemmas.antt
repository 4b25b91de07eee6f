-- A text without its SGRs, by its pieces.
use Rattle.std.proofs.Common.{◌≡◌, ◌≢◌, ℕ, Bool, true, false, not, List, [], ◌∷◌, ◌++◌, filter, flat_map, refl, ◌∙◌, ap, ap₂, arith, IsTrue, append_assoc, if◌then◌else◌, is_some, ◌==◌}
use Rattle.std.proofs.lemmas.Bool.{and_parts}
use Rattle.std.proofs.lemmas.Bool.Decides.{nat_tests}
use Rattle.std.proofs.lemmas.Grind.{flat_map-append}
use Rattle.std.specs.List.{list_all}
use Rattle.ansi_items.specs.Bytes.{escape, is_plain_byte}
use Rattle.ansi_items.specs.Sequences.{is_sgr}
use Rattle.ansi_items.specs.Pieces.{Piece, Text, Sequence, ArePieces, spelling, pieces_of, after_text, merged}
use Rattle.ansi_items.specs.Plain.{copied, is_whole}
use Rattle.ansi_items.proofs.PieceLemmas.{pieces_are}
use Rattle.ansi_items.proofs.JoinLemmas.{spelled, AllStandAnywhere, pieces_of-spelled, pieces_of-append}
use Rattle.ansi_style.specs.Written.{written}
use Rattle.ansi_style.proofs.ColorLemmas.{sgr_parameters-written}
use Rattle.ansi_style.proofs.ReadBackLemmas.{code_pieces}
use Rattle.ansi_blocks.specs.Blocks.{without_sgrs}
use Rattle.ansi_restyle.specs.Restyled.{is_change}

-- what stays of a piece: a text, and a mark that is no SGR
abbrev pub kept : Piece → List ℕ
kept (Text w) = w
kept p = copied p

abbrev pub kept_of : List Piece → List ℕ
kept_of ps = flat_map kept ps

pub is_sgr-text : (w : List ℕ) → w ≢ [] → IsTrue (list_all is_plain_byte w) → is_sgr w ≡ false
is_sgr-text [] some bare = absurd (some refl)
is_sgr-text (b ∷ w) some bare =
    let first : IsTrue (is_plain_byte b) = (and_parts (is_plain_byte b) (list_all is_plain_byte w) bare).0 in
    let apart : (escape == b) ≡ false = grind (arith, nat_tests) in
    rw apart

without : (p : Piece) (ps : List Piece) (u : List ℕ) → flat_map spelling (filter (λ q. not (is_sgr (spelling q))) ps) ≡ u → flat_map spelling (filter (λ q. not (is_sgr (spelling q))) (p ∷ ps)) ≡ copied p ++ u
without p ps u more = by_kind (is_sgr (spelling p))
  where
    by_kind : (b : Bool) → flat_map spelling (if not b then p ∷ filter (λ q. not (is_sgr (spelling q))) ps else filter (λ q. not (is_sgr (spelling q))) ps) ≡ (if b then [] else spelling p) ++ u
    by_kind true = more
    by_kind false = ap (λ v. spelling p ++ v) more

without-kept : (t : List ℕ) (ps : List Piece) → ArePieces t ps → flat_map spelling (filter (λ q. not (is_sgr (spelling q))) ps) ≡ kept_of ps
without-kept t [] are = refl
without-kept t (Text w ∷ ps) are =
    without (Text w) ps (kept_of ps) (without-kept are.0 ps are.3) ∙ ap (λ b. (if b then [] else w) ++ kept_of ps) (is_sgr-text w are.2.0 are.2.1)
without-kept t (p ∷ ps) are = without p ps (kept_of ps) (without-kept are.0 ps are.3)

pub without_sgrs-kept : (t : List ℕ) → without_sgrs t ≡ kept_of (pieces_of t)
without_sgrs-kept t = without-kept t (pieces_of t) (pieces_are t)

-- Texts that touch may be joined.

kept-after_text : (w : List ℕ) (ps : List Piece) → kept_of (after_text w ps) ≡ w ++ kept_of ps
kept-after_text w (Text v ∷ ps) = append_assoc w v (kept_of ps)
kept-after_text w ps = refl

kept-merged : (ps : List Piece) → kept_of (merged ps) ≡ kept_of ps
kept-merged [] = refl
kept-merged (Text w ∷ ps) = kept-after_text w (merged ps) ∙ ap (λ v. w ++ v) (kept-merged ps)
kept-merged (p ∷ ps) = ap (λ v. copied p ++ v) (kept-merged ps)

pub kept-spelled : (ps : List Piece) → AllStandAnywhere ps → kept_of (pieces_of (spelled ps)) ≡ kept_of ps
kept-spelled ps all = ap kept_of (pieces_of-spelled ps all) ∙ kept-merged ps

pub kept-append : (u v : List ℕ) → IsTrue (is_whole u) → IsTrue (is_whole v) → kept_of (pieces_of (u ++ v)) ≡ kept_of (pieces_of u) ++ kept_of (pieces_of v)
kept-append u v whole_u whole_v =
    ap kept_of (pieces_of-append u v whole_u whole_v) ∙ kept-merged (pieces_of u ++ pieces_of v) ∙ flat_map-append kept (pieces_of u) (pieces_of v)

-- What is written for codes are SGRs.

pub change_is_sgr : (codes : List ℕ) → is_change codes ≡ true → is_sgr (written codes) ≡ true
change_is_sgr codes is = ap is_some (sgr_parameters-written codes is)

pub copied-sgr : (w : List ℕ) → is_sgr w ≡ true → copied (Sequence w) ≡ []
copied-sgr w is = ap (λ b. if b then [] else w) is

pub kept-codes : (xs : List (List ℕ)) → list_all is_change xs ≡ true → kept_of (code_pieces xs) ≡ []
kept-codes [] each = refl
kept-codes (x ∷ xs) each =
    let both = and_parts (is_change x) (list_all is_change xs) each in
    ap₂ (λ u v. u ++ v) (copied-sgr (written x) (change_is_sgr x both.0)) (kept-codes xs both.1)
