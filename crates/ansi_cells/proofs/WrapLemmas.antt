-- The lines of a wrap that are left, one at a time: the first, by the stretch of the text that it is written from, and those after it.
use Rattle.std.proofs.Common.{encode_utf8_all, ◌≡◌, ℕ, ◌+◌, ◌-◌, ◌≤◌, ◌==◌, ◌⊎◌, inl, inr, Bool, true, false, ◌&&◌, ◌||◌, List, [], ◌∷◌, ◌++◌, length, take, drop, slice_range, nat_lt, Some, if◌then◌else◌, IsTrue, IsFalse, refl, sym, ◌∙◌, ap, ap₂, subst, arith, append_assoc, append-nil, length-append}
use Rattle.std.specs.List.{list_all}
use Rattle.std.specs.Prelude.{fold}
use Rattle.std.specs.Str.{IsCharBoundary}
use Rattle.std.proofs.lemmas.Bool.{cases_lt, cond_both, and_parts, and_from, and_right, or_parts, or_right, eq-eqb, eqb-true, ne_eqb}
use Rattle.std.proofs.lemmas.Bool.Decides.{nat_tests}
use Rattle.std.proofs.lemmas.List.{length-map, length-drop, length-take-le, take_all, drop-drop, get_or-take, nil_from_length}
use Rattle.std.proofs.lemmas.Str.{IsCharBoundary-end}
use Rattle.ansi_items.specs.Pieces.{Piece, Text, pieces_of, spelling}
use Rattle.ansi_items.specs.Plain.{Mark, plain, plain_of, marks, marks_up_to, has_escape}
use Rattle.ansi_items.proofs.JoinLemmas.{spelled, spelled-pieces_of}
use Rattle.ansi_items.proofs.PlainLemmas.{plain-bare}
use Rattle.ansi_style.specs.declared.state.rendition.Rendition.{Rendition}
use Rattle.ansi_style.specs.Rendition.{IsStyle, plain_style, has_known}
use Rattle.ansi_style.specs.Reading.{after_marks, style_after_from}
use Rattle.ansi_style.specs.Written.{start, close, longest_start_and_close}
use Rattle.ansi_style.proofs.MarkLemmas.{marks_up_to-further, bytes-further, after_marks-further, marks-bare}
use Rattle.ansi_style.proofs.UnsetLemmas.{start-unknown}
use Rattle.ansi_slice.specs.Cut.{interleaved}
use Rattle.ansi_slice.specs.Kept.{kept}
use Rattle.ansi_search.specs.Offsets.{offset_of, bytes_before, StandsIn}
use Rattle.ansi_slice.specs.Stretches.{sequences_up_to}
use Rattle.ansi_split.specs.Parts.{marks_past}
use Rattle.ansi_search.specs.Positions.{no_character_goes_on}
use Rattle.ansi_slice.proofs.LengthLemmas.{length-start}
use Rattle.ansi_slice.proofs.InterleavedLemmas.{interleaved-bare}
use Rattle.ansi_search.proofs.SliceLemmas.{slice_range-none}
use Rattle.ansi_search.proofs.OffsetLemmas.{plain-after, bytes_before-text}
use Rattle.ansi_slice.proofs.StretchLemmas.{kept-front, kept-stretch, kept-none}
use Rattle.ansi_search.proofs.PositionLemmas.{no_character_goes_on-past, no_character_goes_on-drop, good_is_boundary}
use Rattle.ansi_split.specs.Spans.{marks_further_on, IsCutAfter}
use Rattle.ansi_split.proofs.AfterLemmas.{is_cut_after, marks_further_on-marks_further_on}
use Rattle.ansi_split.proofs.RestLemmas.{boundary-drop}
use Rattle.ansi_split.proofs.SplitLemmas.{escape_is_marked}
use Rattle.ansi_clusters.specs.declared.walks.Walk.{Walk}
use Rattle.ansi_clusters.specs.Columns.{cluster_width, clusters}
use Rattle.ansi_clusters.specs.Lines.{lines, lines_from, lines_left}
use Rattle.ansi_safe.specs.Links.{link_after, link_after_all, link_end, longest_link_end}
use Rattle.ansi_clusters.specs.Walks.{clusters_from}
use Rattle.ansi_cells.specs.Wrapped.{CarriedPart, pen_end, line_over, lines_over, marks_left, IsTaken, IsLineSpan}
use Rattle.ansi_clusters.proofs.ColumnLemmas.{clusters_from-start}
use Rattle.ansi_clusters.proofs.LineLemmas.{line-any, line-last}
use Rattle.ansi_clusters.proofs.PlaceLemmas.{offset_of-add}
use Rattle.ansi_safe.proofs.EndingLemmas.{append-both_nil, close-none, link_end-none, length-closing}
use Rattle.ansi_split.proofs.SpanLemmas.{interleaved-after}

-- A line by what it is made of.

abbrev line_made_of : Bool → ℕ → Rendition → List ℕ → List ℕ → List ℕ → Rendition → CarriedPart
line_made_of same n style link shown last_link last = record {
  bytes = if same && n == 0 then [] else start style ++ link ++ shown ++ pen_end last_link last;
  borrowed = n == 0 && (same || length (pen_end link style) == 0);
  source_len = length link + length shown;
}

line_over-made : (style : Rendition) (link x : List ℕ) (own : List Mark) (i : ℕ × ℕ)
    → line_over style link x own i ≡ line_made_of (i.0 == i.1) (length own) style link (interleaved x i.0 i.1 own) (link_after_all link own) (after_marks style own)
unfolding line_over
line_over-made style link x own i = refl

line_made_of-alike : {same same' : Bool} {n n' : ℕ} {shown shown' last_link last_link' : List ℕ} {last last' : Rendition} (style : Rendition) (link : List ℕ) → same ≡ same' → n ≡ n' → shown ≡ shown' → last_link ≡ last_link' → last ≡ last'
    → line_made_of same n style link shown last_link last ≡ line_made_of same' n' style link shown' last_link' last'
line_made_of-alike {same} {same'} {n} {n'} {shown} {shown'} {last_link} {last_link'} {last} {last'} style link a b c d e =
    ap₂ (λ s k. line_made_of s k style link shown last_link last) a b ∙ ap₂ (λ v l. line_made_of same' n' style link v l last) c d ∙ ap (line_made_of same' n' style link shown' last_link') e

-- Marks that are further on.

marks_past-further : (e n : ℕ) (ms : List Mark) → n ≤ e → marks_past (Some e) (marks_further_on n ms) ≡ marks_further_on n (marks_past (Some (e - n)) ms)
marks_past-further e n [] within = refl
marks_past-further e n (m ∷ ms) within =
    let same : nat_lt e (n + m.place) ≡ nat_lt (e - n) m.place = grind (arith, nat_tests) in
    let moved : Mark = record m { place = n + m.place } in
    ap₂ (λ b ks. if b then moved ∷ ks else ks) same (marks_past-further e n ms within) ∙ either (nat_lt (e - n) m.place)
  where
    either : (b : Bool) → (if b then (record m { place = n + m.place }) ∷ marks_further_on n (marks_past (Some (e - n)) ms) else marks_further_on n (marks_past (Some (e - n)) ms)) ≡ marks_further_on n (if b then m ∷ marks_past (Some (e - n)) ms else marks_past (Some (e - n)) ms)
    either true = refl
    either false = refl

link-further : (link : List ℕ) (n : ℕ) (ms : List Mark) → link_after_all link (marks_further_on n ms) ≡ link_after_all link ms
link-further link n ms = ap (fold link_after link) (bytes-further n ms)

-- a line over the text after the position m
line-after : (style : Rendition) (link x : List ℕ) (m a b : ℕ) (ms : List Mark) → m ≤ length x → line_over style link x (marks_further_on m ms) (m + a, m + b) ≡ line_over style link (drop m x) ms (a, b)
line-after style link x m a b ms inside =
    let same : (m + a == m + b) ≡ (a == b) = grind (arith, nat_tests) in
    line_over-made style link x (marks_further_on m ms) (m + a, m + b)
    ∙ line_made_of-alike style link same (length-map ms _) (interleaved-after x m a b ms inside) (link-further link m ms) (after_marks-further style m ms)
    ∙ sym (line_over-made style link (drop m x) ms (a, b))

-- a line over a front of the text
line-front : (style : Rendition) (link t front after : List ℕ) (a e : ℕ) → IsCutAfter t e front after → line_over style link (plain t) (marks front) (a, e) ≡ line_over style link (plain front) (marks front) (a, e)
line-front style link t front after a e cut =
    line_over-made style link (plain t) (marks front) (a, e)
    ∙ line_made_of-alike {last = after_marks style (marks front)} {last' = after_marks style (marks front)} style link refl refl (ap (interleaved (plain t) a e) cut.marks_front ∙ cut.interleaved_front a) refl refl
    ∙ sym (line_over-made style link (plain front) (marks front) (a, e))

-- There is a line from each place on.

abbrev has_no_lines : List (ℕ × ℕ) → Bool
has_no_lines ls = length ls == 0

pub has_no_lines-cons : (i : ℕ × ℕ) (ls : List (ℕ × ℕ)) → has_no_lines (i ∷ ls) ≡ false
has_no_lines-cons i ls = ne_eqb (length (i ∷ ls)) 0 (λ none. omega (arith, none))

pub lines_filled : (width from end here columns : ℕ) (cs : List (List ℕ)) → has_no_lines (lines_from width from end here columns cs) ≡ false
lines_filled width from end here columns [] = ap has_no_lines (line-last width from end here columns)
lines_filled width from end here columns (c ∷ cs) =
    let next = here + length (encode_utf8_all c) in
    let wider = columns + cluster_width c in
    line-any width from end here columns c cs (λ ls. has_no_lines ls ≡ false) (has_no_lines-cons (from, end) (lines_from width next next next 0 cs))
    (lines_filled width from end next wider cs) (lines_filled width from next next wider cs) (lines_filled width here next next (cluster_width c) cs) (has_no_lines-cons (from, end) (lines_from width here next next (cluster_width c) cs))

-- all that follows an offset
pub rest-is : (t : List ℕ) (n : ℕ) → slice_range t n (length t) ≡ drop n t
rest-is t n = take_all (length t - n) (drop n t) (omega (arith, length-drop n t))

-- The end of what the lines before have taken.

plain-from : (t : List ℕ) (before taken : ℕ) → ((before ≡ 0) × (taken ≡ 0)) ⊎ (taken ≡ offset_of t before) → plain (drop taken t) ≡ drop before (plain t)
plain-from t before taken (inl none) = ap (λ n. plain (drop n t)) none.1 ∙ sym (ap (λ n. drop n (plain t)) none.0)
plain-from t before taken (inr at) = ap (λ n. plain (drop n t)) at ∙ plain-after t before

offset-from : (t : List ℕ) (before taken e : ℕ) → before ≤ e → ((before ≡ 0) × (taken ≡ 0)) ⊎ (taken ≡ offset_of t before) → offset_of t e ≡ taken + offset_of (drop taken t) (e - before)
offset-from t before taken e within (inl none) =
    let all : e ≡ e - 0 = omega arith in
    omega (arith, ap (offset_of t) all, ap₂ (λ k b. k + offset_of (drop k t) (e - b)) none.1 none.0)
offset-from t before taken e within (inr at) =
    let all : e ≡ before + (e - before) = omega (arith, within) in
    ap (offset_of t) all ∙ offset_of-add t before (e - before) ∙ ap (λ n. n + offset_of (drop n t) (e - before)) (sym at)

module _ (t : List ℕ) (before taken : ℕ) (walk : Walk) (is : IsTaken t before taken walk) where
  abbrev pub rest : List ℕ
  rest = drop taken t

  pub before-within : before ≤ length (plain t)
  before-within = omega (arith, is.ordered, is.is_walk.within)

  pub plain-rest : plain rest ≡ drop before (plain t)
  plain-rest = plain-from t before taken is.place

  pub offset-rest : (e : ℕ) → before ≤ e → offset_of t e ≡ taken + offset_of rest (e - before)
  offset-rest e within = offset-from t before taken e within is.place

  -- the next line ends at a place further on, and this is its offset
  module _ (e offset : ℕ) (within : before ≤ e) (inside : e ≤ length (plain t)) (at : offset ≡ offset_of t e) where
    abbrev n : ℕ
    n = offset - taken

    count : n ≡ offset_of rest (e - before)
    count = omega (arith, at, offset-rest e within)

    pub ahead : taken ≤ offset
    ahead = omega (arith, at, offset-rest e within)

    abbrev front : List ℕ
    front = slice_range t taken offset

    cut : IsCutAfter rest (e - before) front (drop n rest)
    cut = is_cut_after rest (e - before) n count

    after-is : drop n rest ≡ drop offset t
    after-is = (let all : taken + n ≡ offset = omega (arith, ahead) in drop-drop n taken t ∙ ap (λ k. drop k t) all)

    own-is : marks_up_to e (marks_left t before taken) ≡ marks_further_on before (marks front)
    own-is = marks_up_to-further e before (marks rest) within ∙ ap (marks_further_on before) (sym cut.marks_front)

    left-is : marks_past (Some e) (marks_left t before taken) ≡ marks_left t e offset
    left-is =
        let all : before + (e - before) ≡ e = omega (arith, within) in
        marks_past-further e before (marks rest) within ∙ ap (marks_further_on before) cut.marks_after
        ∙ marks_further_on-marks_further_on before (e - before) (marks (drop n rest)) ∙ ap₂ (λ k v. marks_further_on k (marks v)) all after-is

    pub lines-first : (style : Rendition) (link : List ℕ) (s : ℕ) (is : List (ℕ × ℕ)) → before ≤ s → (length is == 0) ≡ false
        → lines_over style link (plain t) (marks_left t before taken) ((s, e) ∷ is)
        ≡ line_over style link (plain front) (marks front) (s - before, e - before) ∷ lines_over (style_after_from style front) (link_after_all link (marks front)) (plain t) (marks_left t e offset) is
    unfolding lines_over
    lines-first style link s is begins some =
        let x = plain t in
        let ms = marks_left t before taken in
        let ks = marks_further_on before (marks front) in
        let from : s ≡ before + (s - before) = omega (arith, begins) in
        let to : e ≡ before + (e - before) = omega (arith, within) in
        let line : line_over style link x ks (s, e) ≡ line_over style link (plain front) (marks front) (s - before, e - before)
        = ap₂ (λ i j. line_over style link x ks (i, j)) from to ∙ line-after style link x before (s - before) (e - before) (marks front) before-within
        ∙ ap (λ y. line_over style link y (marks front) (s - before, e - before)) (sym plain-rest)
        ∙ line-front style link rest front (drop n rest) (s - before) (e - before) cut in
        ap (λ b. line_over style link x (if b then ms else marks_up_to e ms) (s, e) ∷ lines_over (after_marks style (if b then ms else marks_up_to e ms)) (link_after_all link (if b then ms else marks_up_to e ms)) x (marks_past (Some e) ms) is) some
        ∙ ap₂ (λ own later. line_over style link x own (s, e) ∷ lines_over (after_marks style own) (link_after_all link own) x later is) own-is left-is
        ∙ ap₂ (λ l r. l ∷ lines_over r (link_after_all link ks) x (marks_left t e offset) is) line (after_marks-further style before (marks front))
        ∙ ap (λ u. line_over style link (plain front) (marks front) (s - before, e - before) ∷ lines_over (style_after_from style front) u x (marks_left t e offset) is) (link-further link before (marks front))

    all_before : (k : ℕ) (ps : List Piece) → length (plain_of ps) ≤ k → bytes_before k ps ≡ length (spelled ps)
    all_before k [] marks_past = refl
    all_before k (Text w ∷ ps) marks_past =
        let size = length-append w (plain_of ps) in
        omega (arith, bytes_before-text k w ps (omega (arith, size, marks_past)), length-append w (spelled ps), all_before (k - length w) ps (omega (arith, size, marks_past)))
    all_before k (p ∷ ps) marks_past = omega (arith, length-append (spelling p) (spelled ps), all_before k ps marks_past)

    plain-front : plain front ≡ take (e - before) (plain rest)
    plain-front = cut.plain_front

    size-rest : length (plain rest) ≡ length (plain t) - before
    size-rest = ap length plain-rest ∙ length-drop before (plain t)

    size-front : length (plain front) ≡ e - before
    size-front = ap length plain-front ∙ length-take-le (e - before) (plain rest) (omega (arith, size-rest, inside))

    good-rest : (i : ℕ) → no_character_goes_on (plain rest) i ≡ no_character_goes_on (plain t) (before + i)
    good-rest i = ap (λ y. no_character_goes_on y i) plain-rest ∙ no_character_goes_on-drop (plain t) before i

    good-front : (i : ℕ) → IsTrue (no_character_goes_on (plain t) (before + i)) → IsTrue (no_character_goes_on (plain front) i)
    good-front i good = ap (λ y. no_character_goes_on y i) plain-front ∙ elim (cases_lt i (e - before)) [
      | inl less ↦ ap (λ b. no_character_goes_on (b ∷ []) 0) (get_or-take (e - before) (plain rest) i 0 less) ∙ good-rest i ∙ good
      | inr marks_past ↦ no_character_goes_on-past (take (e - before) (plain rest)) i (omega (arith, size-front, ap length plain-front, marks_past))
    ]

    pub span-first : (style : Rendition) (link : List ℕ) (s : ℕ) (is_marked : Bool) (after : Rendition) (link_after : List ℕ) → offset ≤ length t → before ≤ s → s ≤ e → IsTrue (no_character_goes_on (plain t) s)
        → is_marked ≡ has_escape front → after ≡ style_after_from style front → link_after ≡ link_after_all link (marks front)
        → IsLineSpan style link front (s - before) (e - before) n is_marked after link_after
    span-first style link s is_marked after link_after fits begins ordered good marked styled linked =
        let from : s ≡ before + (s - before) = omega (arith, begins) in
        let size : length front ≡ n = length-take-le n rest (omega (arith, fits, length-drop taken t)) in
        record {
          marked = marked;
          ordered = omega (arith, ordered);
          start_good = good-front (s - before) (subst (λ k. IsTrue (no_character_goes_on (plain t) k)) from good);
          end_stands = record {
            good = no_character_goes_on-past (plain front) (e - before) (omega (arith, size-front));
            offset = sym (all_before (e - before) (pieces_of front) (omega (arith, size-front)) ∙ ap length (spelled-pieces_of front) ∙ size);
            boundary = subst (IsCharBoundary front) size (IsCharBoundary-end front);
          };
          within = omega (arith, size-front);
          styled = styled;
          linked = linked;
        }

    -- the last line takes all that is left
    pub lines-last : (style : Rendition) (link text : List ℕ) (s : ℕ) → before ≤ s → text ≡ rest
        → lines_over style link (plain t) (marks_left t before taken) ((s, e) ∷ []) ≡ line_over style link (plain text) (marks text) (s - before, e - before) ∷ []
    unfolding lines_over
    lines-last style link text s begins all =
        let x = plain t in
        let from : s ≡ before + (s - before) = omega (arith, begins) in
        let to : e ≡ before + (e - before) = omega (arith, within) in
        ap (λ l. l ∷ []) (
        ap₂ (λ i j. line_over style link x (marks_further_on before (marks rest)) (i, j)) from to ∙ line-after style link x before (s - before) (e - before) (marks rest) before-within
        ∙ ap (λ y. line_over style link y (marks rest) (s - before, e - before)) (sym plain-rest)
        ∙ ap (λ u. line_over style link (plain u) (marks u) (s - before, e - before)) (sym all))

    pub span-last : (style : Rendition) (link text : List ℕ) (s : ℕ) (is_marked : Bool) (after : Rendition) (link_after : List ℕ) → text ≡ rest → IsCharBoundary t offset → before ≤ s → s ≤ e → IsTrue (no_character_goes_on (plain t) s)
        → IsTrue (no_character_goes_on (plain t) e) → is_marked ≡ has_escape text → after ≡ style_after_from style text → link_after ≡ link_after_all link (marks text)
        → IsLineSpan style link text (s - before) (e - before) n is_marked after link_after
    span-last style link text s is_marked after link_after all boundary begins ordered good good_end marked styled linked =
        let from : s ≡ before + (s - before) = omega (arith, begins) in
        let to : e ≡ before + (e - before) = omega (arith, within) in
        record {
          marked = marked;
          ordered = omega (arith, ordered);
          start_good = ap (λ u. no_character_goes_on (plain u) (s - before)) all ∙ good-rest (s - before) ∙ subst (λ k. IsTrue (no_character_goes_on (plain t) k)) from good;
          end_stands = record {
            good = ap (λ u. no_character_goes_on (plain u) (e - before)) all ∙ good-rest (e - before) ∙ subst (λ k. IsTrue (no_character_goes_on (plain t) k)) to good_end;
            offset = count ∙ ap (λ u. offset_of u (e - before)) (sym all);
            boundary = subst (λ u. IsCharBoundary u n) (sym all) (boundary-drop t taken offset ahead boundary);
          };
          within = omega (arith, size-rest, inside, ap (λ u. length (plain u)) all);
          styled = styled;
          linked = linked;
        }

-- The bytes of a line.

and_or-false : (a b c : Bool) → IsFalse (a && (b || c)) → (b && a) ≡ false
and_or-false true true c h = absurd (cc h)
and_or-false true false c h = refl
and_or-false false true c h = refl
and_or-false false false c h = refl

append_assoc-five : (f s m z e : List ℕ) → (f ++ s ++ m ++ z) ++ e ≡ f ++ (s ++ (m ++ z)) ++ e
append_assoc-five f s m z e = simp append_assoc

-- one that is written
pub line-written : {style after : Rendition} {link link_end_of t : List ℕ} {a e offset from top : ℕ} {is_marked : Bool} → IsLineSpan style link t a e offset is_marked after link_end_of → StandsIn t a from → length t ≤ top
    → IsFalse (line_over style link (plain t) (marks t) (a, e)).borrowed
    → (start style ++ link ++ sequences_up_to a (pieces_of t) ++ slice_range t from offset ++ sequences_up_to top (pieces_of (drop offset t))) ++ pen_end link_end_of after
    ≡ (line_over style link (plain t) (marks t) (a, e)).bytes
unfolding line_over kept
line-written {style} {after} {link} {link_end_of} {t} {a} {e} {offset} {from} {top} span stands fits owned =
    let rest = drop from t in
    let k = offset_of rest (e - a) in
    let all : e ≡ a + (e - a) = omega (arith, span.ordered) in
    let here : offset ≡ from + k
    = span.end_stands.offset ∙ ap (offset_of t) all ∙ offset_of-add t a (e - a) ∙ ap (λ i. i + offset_of (drop i t) (e - a)) (sym stands.offset) in
    let size : offset - from ≡ k = omega (arith, here) in
    let last : drop k rest ≡ drop offset t = drop-drop k from t ∙ ap (λ i. drop i t) (sym here) in
    let shown : kept t a e ≡ sequences_up_to a (pieces_of t) ++ (slice_range t from offset ++ sequences_up_to top (pieces_of (drop offset t)))
    = kept-front t a e span.ordered
    ∙ ap (λ v. sequences_up_to a (pieces_of t) ++ v)
    (ap (λ i. kept (drop i t) 0 (e - a)) (sym stands.offset) ∙ kept-stretch rest (e - a)
    ∙ ap₂ (λ i v. take i rest ++ kept v 0 0) (sym size) last
    ∙ ap (λ v. slice_range t from offset ++ v) (kept-none (drop offset t) top (omega (arith, length-drop offset t, fits)))) in
    append_assoc-five (start style ++ link) (sequences_up_to a (pieces_of t)) (slice_range t from offset) (sequences_up_to top (pieces_of (drop offset t))) (pen_end link_end_of after)
    ∙ ap (λ u. start style ++ link ++ u ++ pen_end link_end_of after) (sym shown)
    ∙ ap₂ (λ l r. start style ++ link ++ kept t a e ++ pen_end l r) span.linked span.styled
    ∙ sym (ap (λ b. if b then [] else start style ++ link ++ interleaved (plain t) a e (marks t) ++ pen_end (link_after_all link (marks t)) (after_marks style (marks t)))
    (and_or-false (length (marks t) == 0) (a == e) (length (pen_end link style) == 0) owned))

-- a line that is a stretch of the text

bare-if : {whole other : List ℕ} (b : Bool) → (b ≡ true → whole ≡ []) → (b ≡ false → whole ≡ other) → whole ≡ (if b then [] else other)
bare-if true empty some = empty refl
bare-if false empty some = some refl

none_carried : (style : Rendition) (link : List ℕ) → (length (pen_end link style) == 0) ≡ true → (start style ≡ []) × (link ≡ [])
none_carried style link holds =
    let both = append-both_nil (link_end link) (close style) (nil_from_length _ (eqb-true _ 0 holds)) in
    (start-unknown style (or_parts (has_known style) style.unknown (close-none style both.1)).0, nil_from_length link (link_end-none link both.0))

bare-bytes : (style : Rendition) (link x : List ℕ) (a e : ℕ) → (a ≡ e) ⊎ ((length (pen_end link style) == 0) ≡ true)
    → slice_range x a e ≡ (if (a == e) && true then [] else start style ++ link ++ interleaved x a e [] ++ pen_end link style)
bare-bytes style link x a e holds = bare-if ((a == e) && true) (λ same. slice_range-none x a e (omega (arith, eqb-true a e (and_parts _ _ same).0))) (λ other. by_case other holds)
  where
    by_case : ((a == e) && true) ≡ false → (a ≡ e) ⊎ ((length (pen_end link style) == 0) ≡ true) → slice_range x a e ≡ start style ++ link ++ interleaved x a e [] ++ pen_end link style
    by_case other (inl same) = absurd (cc (other, and_from _ _ (eq-eqb a e same) (refl {a = true})))
    by_case other (inr none) =
        let no = none_carried style link none in
        sym (
        ap₂ (λ u l. u ++ l ++ interleaved x a e [] ++ pen_end link style) no.0 no.1
        ∙ ap (λ u. interleaved x a e [] ++ u) (nil_from_length _ (eqb-true _ 0 none))
        ∙ append-nil (interleaved x a e []) ∙ interleaved-bare x a e)

pub line-bare : {style after : Rendition} {link link_end_of t : List ℕ} {a e offset : ℕ} {is_marked : Bool} → IsLineSpan style link t a e offset is_marked after link_end_of → is_marked ≡ false → (a ≡ e) ⊎ ((length (pen_end link style) == 0) ≡ true)
    → (slice_range t a e ≡ (line_over style link (plain t) (marks t) (a, e)).bytes) × IsTrue (line_over style link (plain t) (marks t) (a, e)).borrowed
unfolding line_over
line-bare {style} {after} {link} {link_end_of} {t} {a} {e} span unmarked holds =
    let none : has_escape t ≡ false = sym span.marked ∙ unmarked in
    let ms = marks-bare t none in (
      bare-bytes style link t a e holds ∙ sym (ap₂ (λ x ks. (line_over style link x ks (a, e)).bytes) (plain-bare t none) ms),
      ap (λ (ks : List Mark). (length ks == 0) && ((a == e) || length (pen_end link style) == 0)) ms ∙ either holds,
    )
  where
    either : (a ≡ e) ⊎ ((length (pen_end link style) == 0) ≡ true) → ((a == e) || length (pen_end link style) == 0) ≡ true
    either (inl same) = ap (λ b. b || length (pen_end link style) == 0) (eq-eqb a e same)
    either (inr none) = or_right (a == e) _ none

pub bare-boundary : {style after : Rendition} {link link_end_of t : List ℕ} {a e offset : ℕ} {is_marked : Bool} → IsLineSpan style link t a e offset is_marked after link_end_of → is_marked ≡ false → IsCharBoundary t a × IsCharBoundary t e
bare-boundary {t = t} {a = a} {e = e} span unmarked =
    let none : has_escape t ≡ false = sym span.marked ∙ unmarked in
    let same = plain-bare t none in
    let size : length (plain t) ≡ length t = ap length same in (
      good_is_boundary t a (omega (arith, span.ordered, span.within, size)) (ap (λ x. no_character_goes_on x a) (sym same) ∙ span.start_good),
      good_is_boundary t e (omega (arith, span.within, size)) (ap (λ x. no_character_goes_on x e) (sym same) ∙ span.end_stands.good),
    )

-- one that doesn't

pub owned-marked : (style : Rendition) (link t : List ℕ) (a e : ℕ) → has_escape t ≡ true → IsFalse (line_over style link (plain t) (marks t) (a, e)).borrowed
unfolding line_over
owned-marked style link t a e some = ap (λ b. b && ((a == e) || length (pen_end link style) == 0)) (escape_is_marked t some)

pub owned-carried : (style : Rendition) (link t : List ℕ) (a e : ℕ) → (a ≡ e → ⊥) → (length (pen_end link style) == 0) ≡ false → IsFalse (line_over style link (plain t) (marks t) (a, e)).borrowed
unfolding line_over
owned-carried style link t a e other some = ap₂ (λ b d. (length (marks t) == 0) && (b || d)) (ne_eqb a e other) some ∙ and_right _ _ refl

-- The lines of a text from its beginning on.

marks_further_on-none : (ms : List Mark) → marks_further_on 0 ms ≡ ms
marks_further_on-none [] = refl
marks_further_on-none (m ∷ ms) = ap₂ (λ n ks. record m { place = n } ∷ ks) (omega arith) (marks_further_on-none ms)

pub marks_left-start : (t : List ℕ) → marks_left t 0 0 ≡ marks t
marks_left-start t = marks_further_on-none (marks t)

pub lines_left-start : (t : List ℕ) (width : ℕ) (walk : Walk) → walk.position ≡ 0 → lines_left t width (Some walk) ≡ lines_from width 0 0 0 0 (clusters (plain t))
lines_left-start t width walk none = ap (λ n. lines_from width n n n 0 (clusters_from t n)) none ∙ ap (lines_from width 0 0 0 0) (clusters_from-start t)

-- the beginning and the end of the text of a line
pub line-ordered : {style after : Rendition} {link link_end_of t : List ℕ} {a e offset from : ℕ} {is_marked : Bool} → IsLineSpan style link t a e offset is_marked after link_end_of → StandsIn t a from → from ≤ offset
line-ordered {t = t} {a = a} {e = e} span stands =
    let all : e ≡ a + (e - a) = omega (arith, span.ordered) in
    omega (arith, span.end_stands.offset, ap (offset_of t) all, offset_of-add t a (e - a), stands.offset)

-- A line is its source, a start, a close and the end of a link, or nothing.

length-line_over : (style : Rendition) (link x : List ℕ) (own : List Mark) (i : ℕ × ℕ) → IsStyle style
    → length (line_over style link x own i).bytes ≤ (line_over style link x own i).source_len + longest_start_and_close + longest_link_end
unfolding line_over
length-line_over style link x own i is =
    let shown = interleaved x i.0 i.1 own in
    let last = link_after_all link own in
    let after = after_marks style own in
    cond_both (i.0 == i.1 && length own == 0) [] (start style ++ link ++ shown ++ pen_end last after) (λ w. length w ≤ length link + length shown + longest_start_and_close + longest_link_end)
    (λ none. omega arith)
    (λ some. omega (
      arith,
      length-append (start style ++ link ++ shown) (pen_end last after),
      length-append (start style ++ link) shown,
      length-append (start style) link,
      length-start style is,
      length-closing last after,
    ))

pub length-line : {l : CarriedPart} (style : Rendition) (link x : List ℕ) (own : List Mark) (i : ℕ × ℕ) → IsStyle style → line_over style link x own i ≡ l
    → length l.bytes ≤ l.source_len + longest_start_and_close + longest_link_end
length-line style link x own i style_is is = subst (λ (l : CarriedPart). length l.bytes ≤ l.source_len + longest_start_and_close + longest_link_end) is (length-line_over style link x own i style_is)

-- A text without ESC has lines that are borrows alone.

lines-bare : (x : List ℕ) (is : List (ℕ × ℕ)) → list_all (λ (l : CarriedPart). l.borrowed) (lines_over plain_style [] x [] is) ≡ true
unfolding lines_over line_over
lines-bare x [] = refl
lines-bare x (i ∷ is) =
    ap₂ (λ a b. a && b) (by_last (length is == 0) ∙ or_right (i.0 == i.1) _ refl) (by_next (lines-bare x is) (length is == 0))
  where
    by_last : (last : Bool) → (line_over plain_style [] x (if last then [] else marks_up_to i.1 []) i).borrowed ≡ ((i.0 == i.1) || true)
    by_last true = refl
    by_last false = refl

    by_next : list_all (λ (l : CarriedPart). l.borrowed) (lines_over plain_style [] x [] is) ≡ true → (last : Bool) → list_all (λ (l : CarriedPart). l.borrowed) (lines_over (after_marks plain_style (if last then [] else marks_up_to i.1 [])) (link_after_all [] (if last then [] else marks_up_to i.1 [])) x (marks_past (Some i.1) []) is) ≡ true
    by_next later true = later
    by_next later false = later

pub bare-borrowed : (t : List ℕ) (width : ℕ) → IsFalse (has_escape t) → IsTrue (list_all (λ (l : CarriedPart). l.borrowed) (lines_over plain_style [] (plain t) (marks t) (lines width (plain t))))
bare-borrowed t width none = ap (λ ms. list_all (λ (l : CarriedPart). l.borrowed) (lines_over plain_style [] (plain t) ms (lines width (plain t)))) (marks-bare t none) ∙ lines-bare (plain t) (lines width (plain t))
