-- White space at the front of a text, over the texts that are left.
use Rattle.ansi_slice.proofs.Common.{◌≡◌, ℕ, ◌+◌, ◌-◌, ◌<◌, ◌≤◌, List, [], ◌∷◌, ◌++◌, length, take, drop, refl, ◌∙◌, ap, subst, arith, length-append, encodes-append, encodes-chars, chars-append, IsUtf8-drop, IsUtf8, chars, trim_start, trim_end, skip_leading_whitespace, encode_utf8_all, Item, Kind, Piece, Text, pieces_of, plain_of, plain, kept, trim_interval, trimmed, sequences_up_to, StandsIn, KeepsUpTo, Scan, GivesItem, pieces_left, IsUtf8-plain, plain_of-mark}
use Rattle.ansi_search.proofs.WhiteSpaceLemmas.{chars-none_if_no_bytes, chars-some_if_bytes}
use Rattle.ansi_slice.proofs.TrimLemmas.{drop-trim_interval, length-trim_start, trim_interval_boundaries}
use Rattle.ansi_search.proofs.OffsetLemmas.{IsOverText, IsOverMark, IsOffsetWalk, offset_walk-begin, offset_walk-text, offset_walk-mark, offset_walk-last, offset_walk-boundary, plain-after}
use Rattle.ansi_slice.proofs.StretchLemmas.{kept-front, IsPushedSoFar, pushed-begin, pushed-text, pushed-mark, pushed-last}
use Rattle.ansi_search.proofs.PositionLemmas.{no_character_goes_on-boundary}
use Rattle.ansi_slice.proofs.Common.{Rendition, plain_style, apply, IsTrue, no_character_goes_on}

-- the plain text of what a scanner has left is UTF-8
pub IsUtf8-left : {old new : Scan} {item : Item} {text : List ℕ} → GivesItem old item new → old.text ≡ text → IsUtf8 text → IsUtf8 (plain_of (pieces_left new))
IsUtf8-left gives same utf8 = grind (arith, IsUtf8-drop, IsUtf8-plain)

-- White space at the front.

skip-white : (cs ds : List ℕ) → skip_leading_whitespace cs ≡ [] → skip_leading_whitespace (cs ++ ds) ≡ skip_leading_whitespace ds
skip-white [] ds none = refl
skip-white (c ∷ cs) ds none = grind (arith, skip-white cs ds)

skip-other : (cs ds : List ℕ) → 0 < length (skip_leading_whitespace cs) → skip_leading_whitespace (cs ++ ds) ≡ skip_leading_whitespace cs ++ ds
skip-other [] ds some = absurd (omega (arith, some))
skip-other (c ∷ cs) ds some = grind (arith, skip-other cs ds)

-- a text of white space alone
pub trim_start-white : (w y : List ℕ) → IsUtf8 w → length (trim_start w) ≡ 0 → trim_start (w ++ y) ≡ trim_start y
unfolding trim_start
trim_start-white w y utf8 none =
    ap (λ cs. encode_utf8_all (skip_leading_whitespace cs)) (chars-append w y utf8)
    ∙ ap encode_utf8_all (skip-white (chars w) (chars y) (chars-none_if_no_bytes (skip_leading_whitespace (chars w)) none))

-- any other
pub trim_start-other : (w y : List ℕ) → IsUtf8 w → IsUtf8 y → 0 < length (trim_start w) → trim_start (w ++ y) ≡ trim_start w ++ y
unfolding trim_start
trim_start-other w y utf8 rest_utf8 some =
    let left = skip_leading_whitespace (chars w) in
    ap (λ cs. encode_utf8_all (skip_leading_whitespace cs)) (chars-append w y utf8)
    ∙ ap encode_utf8_all (skip-other (chars w) (chars y) (chars-some_if_bytes left some))
    ∙ encodes-append left (chars y) ∙ ap (λ v. encode_utf8_all left ++ v) (encodes-chars y rest_utf8)

-- how many bytes of white space are at the front of the plain text of pieces
abbrev pub white : List Piece → ℕ
white ps = length (plain_of ps) - length (trim_start (plain_of ps))

-- over a text of white space alone
white-text : (w : List ℕ) (ps : List Piece) → IsUtf8 w → IsUtf8 (plain_of ps) → length (trim_start w) ≡ 0 → white (Text w ∷ ps) ≡ length w + white ps
white-text w ps utf8 rest_utf8 none =
    omega (arith, length-append w (plain_of ps), ap length (trim_start-white w (plain_of ps) utf8 none), length-trim_start (plain_of ps) rest_utf8)

-- over any other
white-other : (w : List ℕ) (ps : List Piece) → IsUtf8 w → IsUtf8 (plain_of ps) → 0 < length (trim_start w) → white (Text w ∷ ps) ≡ length w - length (trim_start w)
white-other w ps utf8 rest_utf8 some =
    omega (arith, length-append w (plain_of ps), ap length (trim_start-other w (plain_of ps) utf8 rest_utf8 some), length-append (trim_start w) (plain_of ps))

-- How far the walk over the white space at the front of t has come: to the first character that isn't white space, with what has been appended of the sequences before it.
pub record IsWhiteWalk (t whole written : List ℕ) (n passed : ℕ) (left : List Piece) : Type 0 where
  pub style : Rendition
  pub way : IsOffsetWalk t n plain_style passed (white left) style left
  pub so_far : IsPushedSoFar whole written (white left) left

pub white_walk-begin : (t out : List ℕ) → IsWhiteWalk t (out ++ sequences_up_to (trim_interval (plain t)).0 (pieces_of t)) out (trim_interval (plain t)).0 0 (pieces_of t)
white_walk-begin t out = (let n = (trim_interval (plain t)).0 in record { style = plain_style; way = offset_walk-begin t n plain_style; so_far = pushed-begin out t n })

pub white_walk-text : {t whole written : List ℕ} {n passed at : ℕ} {w : List ℕ} {old ps : List Piece} → IsWhiteWalk t whole written n passed old → IsOverText t w passed at old ps
    → IsUtf8 w → IsUtf8 (plain_of ps) → length (trim_start w) ≡ 0 → IsWhiteWalk t whole written n at ps
white_walk-text {w = w} {ps = ps} walk over utf8 rest_utf8 none =
    let count = ap white over.first ∙ white-text w ps utf8 rest_utf8 none in record {
      style = walk.style;
      way = offset_walk-text walk.way over (omega (arith, count)) (omega (arith, count));
      so_far = pushed-text walk.so_far over.first (omega (arith, count)) (omega (arith, count));
    }

pub white_walk-mark : {t whole written next : List ℕ} {n passed at : ℕ} {kind : Kind} {w : List ℕ} {old ps : List Piece} → IsWhiteWalk t whole written n passed old → IsOverMark kind t w passed at old ps
    → next ≡ written ++ w → IsWhiteWalk t whole next n at ps
white_walk-mark {t} {whole} {next = next} {n = n} {at = at} {w = w} {old = old} {ps = ps} walk over is =
    let same : white old ≡ white ps = ap white over.first.pieces ∙ ap (λ x. length x - length (trim_start x)) (plain_of-mark over.first.mark ps over.first.is_mark) in record {
      style = apply walk.style w;
      way = subst (λ k. IsOffsetWalk t n plain_style at k (apply walk.style w) ps) same (offset_walk-mark walk.way over refl);
      so_far = subst (λ k. IsPushedSoFar whole next k ps) same (pushed-mark walk.so_far over.first is);
    }

-- the first such character is in the run that comes next
pub white_walk-last : {t whole written : List ℕ} {n passed at i : ℕ} {w rest : List ℕ} {old ps : List Piece} → IsWhiteWalk t whole written n passed old → IsOverText t w passed at old ps
    → IsUtf8 w → IsUtf8 (plain_of ps) → rest ≡ trim_start w → 0 < length rest → length rest ≤ length w → i + length rest ≡ at → IsTrue (no_character_goes_on (plain t) n)
    → (written ≡ whole) × StandsIn t n i
white_walk-last {passed = passed} {i = i} {w = w} {rest = rest} {old = old} {ps = ps} walk over utf8 rest_utf8 rest_is some fits is good =
    let size = ap length rest_is in
    let count = ap white over.first ∙ white-other w ps utf8 rest_utf8 (omega (arith, size, some)) in
    let last : white old < length w = omega (arith, count, size, some, fits) in
    let i_is : i ≡ passed + white old = omega (arith, count, size, is, over.count, fits) in (
      pushed-last walk.so_far over.first last,
      record { good = good; offset = i_is ∙ (offset_walk-last walk.way over last).0; boundary = offset_walk-boundary walk.way over last i_is good },
    )

-- the first such character of a UTF-8 text, or its end, is a good position
pub no_character_goes_on-white : (t : List ℕ) → IsUtf8 t → IsTrue (no_character_goes_on (plain t) (trim_interval (plain t)).0)
no_character_goes_on-white t utf8 = no_character_goes_on-boundary (plain t) _ (trim_interval_boundaries (plain t) (IsUtf8-plain t utf8)).0

-- What is left of a text, by these ends: the end is that of what follows the start.
pub trimmed-stretch : {t rest : List ℕ} {start from end : ℕ} → IsUtf8 t → start ≡ (trim_interval (plain t)).0 → StandsIn t start from → rest ≡ drop from t → KeepsUpTo rest (length (trim_end (plain rest))) end
    → sequences_up_to start (pieces_of t) ++ (take end rest ++ kept (drop end rest) 0 0) ≡ trimmed t
trimmed-stretch utf8 start_is stands is keeps = grind (arith, IsUtf8-plain, drop-trim_interval, kept-front, plain-after)
