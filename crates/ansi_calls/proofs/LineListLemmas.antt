-- The lines of a text without ESC: they have at most as many bytes as the text, and there is at most one line more than the text has bytes.
use Rattle.std.proofs.Common.{◌≡◌, ◌∙◌, ℕ, ◌+◌, ◌-◌, ◌<◌, ◌≤◌, max, ◌==◌, ◌&&◌, Bool, true, false, List, [], ◌∷◌, ◌++◌, length, drop, map, slice_range, Some, encode_utf8_all, if◌then◌else◌, refl, ap, arith, append-nil, length-append, IsFalse}
use Rattle.std.specs.Prelude.{flat_map}
use Rattle.std.specs.Str.{chars, IsUtf8}
use Rattle.std.proofs.lemmas.Bool.{cond_both}
use Rattle.std.proofs.lemmas.List.{length-take, length-drop, length-map}
use Rattle.std.proofs.lemmas.List.Concat.{flat_map-cons}
use Rattle.std.proofs.lemmas.Str.{encodes-chars}
use Rattle.unicode_segmentation.specs.Grapheme.{is_grapheme_break}
use Rattle.unicode_segmentation.specs.Segments.{segments}
use Rattle.unicode_segmentation.proofs.SegmentsLemmas.{AllPieces, segments_nonempty}
use Rattle.ansi_items.specs.Plain.{Mark, plain, marks_up_to, has_escape}
use Rattle.ansi_items.proofs.PlainLemmas.{plain-bare, length-plain}
use Rattle.ansi_items.proofs.Utf8Lemmas.{IsUtf8-plain}
use Rattle.ansi_style.specs.Rendition.{plain_style}
use Rattle.ansi_style.specs.Reading.{after_marks}
use Rattle.ansi_style.specs.Written.{start}
use Rattle.ansi_style.proofs.MarkLemmas.{marks-bare}
use Rattle.ansi_style.proofs.UnsetLemmas.{start-unset}
use Rattle.ansi_slice.specs.Cut.{interleaved}
use Rattle.ansi_str.specs.Parts.{marks_past}
use Rattle.ansi_slice.proofs.InterleavedLemmas.{interleaved-bare}
use Rattle.ansi_clusters.specs.Columns.{clusters, cluster_width, lined}
use Rattle.ansi_safe.specs.Cells.{paragraph}
use Rattle.ansi_safe.specs.Links.{link_after_all}
use Rattle.ansi_clusters.specs.Lines.{lines_from, lines, place_line, shown_lines, AreLinesFrom}
use Rattle.ansi_cells.specs.Wrapped.{CarriedPart, pen_end, line_over, lines_over, wrapped}
use Rattle.ansi_wraps.proofs.LentLemmas.{wrapped-itself}
use Rattle.ansi_clusters.proofs.LineLemmas.{line-any, line-last}
use Rattle.ansi_clusters.proofs.ShownLineLemmas.{lined-length, lined-utf8}
use Rattle.ansi_clusters.proofs.ClusterLawLemmas.{clusters_after-bytes}
use Rattle.ansi_text_calls.proofs.GivenLemmas.{joined_texts}
use Rattle.ansi_calls.specs.Columns.{line_entry, line_entries, wrapped_lines}

-- Their bytes.

no_marks : (last : Bool) (n : ℕ) → (if last then [] else marks_up_to n []) ≡ []
no_marks true n = refl
no_marks false n = refl

-- a line of a text without marks, and those after it
bare-lines : (x : List ℕ) (i : ℕ × ℕ) (is : List (ℕ × ℕ)) → lines_over plain_style [] x [] (i ∷ is) ≡ line_over plain_style [] x [] i ∷ lines_over plain_style [] x [] is
unfolding lines_over
bare-lines x i is =
    ap (λ (own : List Mark). line_over plain_style [] x own i ∷ lines_over (after_marks plain_style own) (link_after_all [] own) x (marks_past (Some i.1) []) is) (no_marks (length is == 0) i.1)

length-bare_line : (x : List ℕ) (i : ℕ × ℕ) → length (line_over plain_style [] x [] i).bytes ≤ i.1 - i.0
unfolding line_over
length-bare_line x i =
    let whole = start plain_style ++ [] ++ interleaved x i.0 i.1 [] ++ pen_end [] plain_style in
    let shown : whole ≡ slice_range x i.0 i.1 =
    ap (λ u. u ++ [] ++ interleaved x i.0 i.1 [] ++ []) (start-unset plain_style refl) ∙ append-nil (interleaved x i.0 i.1 []) ∙ interleaved-bare x i.0 i.1 in
    cond_both ((i.0 == i.1) && true) [] whole (λ w. length w ≤ i.1 - i.0) (λ none. omega arith)
    (λ some. omega (arith, ap length shown, length-take (i.1 - i.0) (drop i.0 x), length-drop i.0 x))

length-lines_over : (x : List ℕ) (e : ℕ) (is : List (ℕ × ℕ)) → AreLinesFrom x e is → length (joined_texts (map (λ (l : CarriedPart). l.bytes) (lines_over plain_style [] x [] is))) ≤ length x - e
unfolding lines_over
length-lines_over x e [] are = omega arith
length-lines_over x e (i ∷ is) are =
    let first = (line_over plain_style [] x [] i).bytes in
    let later = map (λ (l : CarriedPart). l.bytes) (lines_over plain_style [] x [] is) in
    let all = ap (λ (ls : List CarriedPart). length (joined_texts (map (λ (l : CarriedPart). l.bytes) ls))) (bare-lines x i is) in
    omega (
      arith,
      all,
      ap length (flat_map-cons (λ (t : List ℕ). t) first later),
      length-append first (joined_texts later),
      length-bare_line x i,
      length-lines_over x i.1 is are.4,
      are.0,
      are.1,
      are.2,
    )

-- How many they are.

count-lines_over : (x : List ℕ) (is : List (ℕ × ℕ)) → length (lines_over plain_style [] x [] is) ≡ length is
unfolding lines_over
count-lines_over x [] = refl
count-lines_over x (i ∷ is) = omega (arith, ap length (bare-lines x i is), count-lines_over x is)

few-lines : (cs : List (List ℕ)) (width start end here columns : ℕ) → length (lines_from width start end here columns cs) ≤ length cs + 1
few-lines [] width start end here columns = omega (arith, ap length (line-last width start end here columns))
few-lines (c ∷ cs) width start end here columns =
    let next = here + length (encode_utf8_all c) in
    let wider = columns + cluster_width c in
    line-any width start end here columns c cs (λ ls. length ls ≤ length (c ∷ cs) + 1)
    (omega (arith, few-lines cs width next next next 0))
    (omega (arith, few-lines cs width start end next wider))
    (omega (arith, few-lines cs width start next next wider))
    (omega (arith, few-lines cs width here next next (cluster_width c)))
    (omega (arith, few-lines cs width here next next (cluster_width c)))

few-pieces : (cs : List (List ℕ)) → AllPieces (λ p. 0 < length p) (map encode_utf8_all cs) → length cs ≤ length (flat_map encode_utf8_all cs)
few-pieces [] some = omega arith
few-pieces (c ∷ cs) some =
    omega (arith, some.0, few-pieces cs some.1, ap length (flat_map-cons encode_utf8_all c cs), length-append (encode_utf8_all c) (flat_map encode_utf8_all cs))

few-clusters : (x : List ℕ) → IsUtf8 x → length (clusters x) ≤ length x
unfolding segments
few-clusters x utf8 = omega (arith, few-pieces (clusters x) (segments_nonempty (is_grapheme_break true) x), ap length (clusters_after-bytes [] (chars x) ∙ encodes-chars x utf8))

-- a text has at most one line more than bytes
pub few-lines_of : (x : List ℕ) (width : ℕ) → IsUtf8 x → length (lines width x) ≤ length x + 1
few-lines_of x width utf8 = omega (arith, few-lines (clusters x) (max width 1) 0 0 0 0, few-clusters x utf8)

-- and so has what is shown of a text
pub few_entries : (t : List ℕ) (width : ℕ) → IsUtf8 t → length (line_entries t width) ≤ length t + 1
few_entries t width utf8 =
    let x = plain t in
    let bytes = IsUtf8-plain t utf8 in
    omega (
      arith,
      length-map (shown_lines width x) line_entry,
      length-map (lines width (lined x)) (place_line x),
      few-lines_of (lined x) width (lined-utf8 x bytes),
      lined-length x bytes,
      length-plain t,
    )

-- of all lines of a text without ESC, the bytes and the number
pub bare-wrapped : (t : List ℕ) (width : ℕ) → paragraph t ≡ t → IsFalse (has_escape t) → IsUtf8 t → AreLinesFrom t 0 (lines width t)
    → (length (joined_texts (wrapped_lines t width)) ≤ length t) × (length (wrapped_lines t width) ≤ length t + 1)
bare-wrapped t width same none utf8 stand =
    let over : wrapped t width ≡ lines_over plain_style [] t [] (lines width t)
    = wrapped-itself t width same
    ∙ ap (λ (ms : List Mark). lines_over plain_style [] (plain t) ms (lines width (plain t))) (marks-bare t none) ∙ ap (λ x. lines_over plain_style [] x [] (lines width x)) (plain-bare t none) in (
      omega (arith, ap (λ (ls : List CarriedPart). length (joined_texts (map (λ (l : CarriedPart). l.bytes) ls))) over, length-lines_over t 0 (lines width t) stand),
      omega (
        arith,
        ap length over,
        length-map (wrapped t width) (λ (l : CarriedPart). l.bytes),
        count-lines_over t (lines width t),
        few-lines_of t width utf8,
      ),
    )
