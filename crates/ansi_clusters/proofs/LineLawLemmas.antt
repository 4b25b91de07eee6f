-- What is so of every line: it is an interval of the clusters, fits, and begins and ends at good positions.
use Rattle.std.proofs.Common.{◌≡◌, ℕ, ◌+◌, max, inl, inr, true, not, IsTrue, List, [], ◌∷◌, ◌++◌, map, flat_map, encode_utf8, encode_utf8_all, All, refl, sym, ◌∙◌, ap, subst, arith, append_assoc}
use Rattle.std.specs.List.{AllByRecursion, list_all, concat}
use Rattle.std.specs.Str.{IsUtf8, IsCharBoundary}
use Rattle.std.proofs.lemmas.Bool.{and_from, le-leb}
use Rattle.std.proofs.lemmas.Grind.{flat_map-append}
use Rattle.std.proofs.lemmas.List.Elements.{All-from_recursion, All-weaker}
use Rattle.std.proofs.lemmas.Str.{IsUtf8-past_char, IsCharBoundary-at_seam}
use Rattle.unicode_segmentation.specs.Grapheme.{is_grapheme_break}
use Rattle.unicode_segmentation.specs.Segments.{segments}
use Rattle.unicode_segmentation.proofs.SegmentsLemmas.{concat-segments}
use Rattle.ansi_search.proofs.PositionLemmas.{boundary_is_good}
use Rattle.ansi_clusters.specs.Columns.{clusters, bytes_of}
use Rattle.ansi_clusters.specs.Lines.{is_line_end, lines, IsLine, IsGoodLine}
use Rattle.ansi_clusters.specs.FirstFit.{left_out, AreFirstFit}
use Rattle.ansi_clusters.proofs.ColumnLemmas.{bytes_of-append}
use Rattle.ansi_clusters.proofs.FirstFitLemmas.{after_line, lines-first_fit}

-- the clusters of a text spell it

IsUtf8-past : (cs rest : List ℕ) → IsUtf8 (encode_utf8_all cs ++ rest) → IsUtf8 rest
IsUtf8-past [] rest u = u
IsUtf8-past (c ∷ cs) rest u = IsUtf8-past cs rest (IsUtf8-past_char _ _ c u (append_assoc (encode_utf8 c) (encode_utf8_all cs) rest))

IsUtf8-after : (before rest : List (List ℕ)) → IsUtf8 (flat_map encode_utf8_all (before ++ rest)) → IsUtf8 (flat_map encode_utf8_all rest)
IsUtf8-after [] rest u = u
IsUtf8-after (c ∷ before) rest u = IsUtf8-after before rest (IsUtf8-past c (flat_map encode_utf8_all (before ++ rest)) u)

module _ (x : List ℕ) (utf8 : IsUtf8 x) where
  spells : flat_map encode_utf8_all (clusters x) ≡ x
  unfolding segments
  spells = joined (clusters x) ∙ concat-segments (is_grapheme_break true) x utf8
    where
      joined : (cs : List (List ℕ)) → flat_map encode_utf8_all cs ≡ concat (map encode_utf8_all cs)
      joined [] = refl
      joined (c ∷ cs) = ap (λ u. encode_utf8_all c ++ u) (joined cs)

  pub boundary_between : (before rest : List (List ℕ)) → clusters x ≡ before ++ rest → IsCharBoundary x (bytes_of before)
  boundary_between before rest all =
      let split : x ≡ flat_map encode_utf8_all before ++ flat_map encode_utf8_all rest = sym spells ∙ ap (flat_map encode_utf8_all) all ∙ flat_map-append encode_utf8_all before rest in
      IsCharBoundary-at_seam x (flat_map encode_utf8_all before) (flat_map encode_utf8_all rest) split
      (IsUtf8-after before rest (subst IsUtf8 (sym (ap (flat_map encode_utf8_all) (sym all) ∙ spells)) utf8))

pub good_line : (x : List ℕ) (width : ℕ) (line : ℕ × ℕ) → IsUtf8 x → IsLine x width line → IsGoodLine x line
good_line x width line utf8 is =
    let start : IsCharBoundary x line.0 = subst (IsCharBoundary x) (sym is.start) (boundary_between x utf8 is.before (is.shown ++ is.after) (is.all ∙ append_assoc is.before is.shown is.after)) in
    let end : IsCharBoundary x line.1 = subst (IsCharBoundary x) (sym is.end) (boundary_between x utf8 (is.before ++ is.shown) is.after is.all) in
    and_from _ _ (le-leb line.0 line.1 (omega (arith, is.start, is.end, bytes_of-append is.before is.shown)))
    (and_from _ _ (boundary_is_good x line.0 start) (boundary_is_good x line.1 end))

append_assoc-four : (b l v a : List (List ℕ)) → b ++ (l ++ v ++ a) ≡ b ++ l ++ v ++ a
append_assoc-four b l v a = simp append_assoc

-- a line, none of whose clusters is a line end
abbrev pub IsLineAlone : List ℕ → ℕ → ℕ × ℕ → Type 0
IsLineAlone x width line = (is : IsLine x width line) × IsTrue (list_all (λ c. not (is_line_end c)) is.shown)

-- the lines of first fit from a place on are, if `before` are the clusters up to there
first_fit_are : (x : List ℕ) (width : ℕ) (ls : List (ℕ × ℕ)) (place : ℕ) (before cs : List (List ℕ)) → clusters x ≡ before ++ cs → place ≡ bytes_of before → AreFirstFit (max width 1) place cs ls → AllByRecursion (IsLineAlone x width) ls
first_fit_are x width [] place before cs all at are = tt
first_fit_are x width (line ∷ ls) place before cs all at are =
    let shown = are.0 in
    let after = are.1 in
    let first = are.2 in
    let left = left_out (max width 1) cs in
    let up_to = before ++ left ++ shown in
    let whole : clusters x ≡ up_to ++ after = all ∙ ap (λ u. before ++ u) first.all ∙ append_assoc-four before left shown after in
    let start : line.0 ≡ bytes_of (before ++ left) = omega (arith, first.start, at, bytes_of-append before left) in
    let end : line.1 ≡ bytes_of up_to = omega (arith, first.end, start, bytes_of-append (before ++ left) shown) in (
      (record { before = before ++ left; shown = shown; after = after; all = whole; start = start; end = end; fits = first.filled.fits }, first.filled.on_line),
      elim (after_line (max width 1) line.1 after ls are.3) [
        | inl none ↦ subst (AllByRecursion (IsLineAlone x width)) (sym none.0) tt
        | inr more ↦ first_fit_are x width ls (line.1 + bytes_of more.0) (up_to ++ more.0) more.1 (whole ∙ ap (λ u. up_to ++ u) more.2 ∙ sym (append_assoc up_to more.0 more.1)) (omega (arith, end, bytes_of-append up_to more.0)) more.3
      ],
    )

-- every line of a text is one
pub lines_are_alone : (x : List ℕ) (width : ℕ) → AllByRecursion (IsLineAlone x width) (lines width x)
lines_are_alone x width = first_fit_are x width (lines width x) 0 [] (clusters x) refl refl (lines-first_fit width x)

pub lines_are : (x : List ℕ) (width : ℕ) → All (IsLine x width) (lines width x)
lines_are x width = All-weaker (IsLineAlone x width) (IsLine x width) (λ line is. is.0) (lines width x) (All-from_recursion (IsLineAlone x width) (lines width x) (lines_are_alone x width))

-- it may be cut from the text
pub lines_are_good : (x : List ℕ) (width : ℕ) → IsUtf8 x → All (IsGoodLine x) (lines width x)
lines_are_good x width utf8 = All-weaker (IsLine x width) (IsGoodLine x) (λ line is. good_line x width line utf8 is) (lines width x) (lines_are x width)
