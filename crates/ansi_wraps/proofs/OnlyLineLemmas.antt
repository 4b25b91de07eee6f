-- A text of SGRs and characters that are clusters by themselves, which fits into one line: its only line.
use Rattle.std.proofs.Common.{◌≡◌, ◌≢◌, ℕ, ◌+◌, ◌≤◌, ◌<◌, ◌==◌, ◌&&◌, ◌||◌, Bool, true, false, not, List, [], ◌∷◌, ◌++◌, length, map, chars, slice_index, encode_utf8, encode_utf8_all, if◌then◌else◌, true≢false, refl, sym, ◌∙◌, ap, ap₂, arith, eqb-true, append-nil, length-append}
use Rattle.std.specs.Str.{IsUtf8}
use Rattle.std.proofs.lemmas.Bool.{and_parts, cond_both, eq-eqb, ne_eqb, le-leb, or_right}
use Rattle.std.proofs.lemmas.List.{nil_from_length}
use Rattle.std.proofs.lemmas.Str.{encodes-chars, length-encode, len_utf8_bounds, IsCharBoundary-start, IsCharBoundary-end}
use Rattle.std.proofs.lemmas.Str.Ascii.{IsAscii-from_all, encodes-IsAscii}
use Rattle.ansi_items.specs.Pieces.{Piece, Text, Sequence, LoneEscape, ArePieces, pieces_of}
use Rattle.ansi_items.specs.Plain.{plain, plain_of, marks, has_escape}
use Rattle.ansi_items.proofs.PieceLemmas.{pieces_are, pieces_of-unique, sequence_front}
use Rattle.ansi_items.proofs.PlainLemmas.{has_escape-plain, length-plain, plain-bare}
use Rattle.ansi_style.specs.declared.state.rendition.Rendition.{Rendition}
use Rattle.ansi_style.specs.Rendition.{plain_style}
use Rattle.ansi_style.specs.Reading.{after_marks, style_after_from}
use Rattle.ansi_style.specs.States.{rendition_of}
use Rattle.ansi_style.specs.Styled.{style_after}
use Rattle.ansi_style.specs.Written.{start, close}
use Rattle.ansi_slice.specs.Cut.{interleaved}
use Rattle.ansi_slice.specs.Kept.{kept}
use Rattle.ansi_slice.proofs.KeptWalkLemmas.{kept-all}
use Rattle.ansi_search.specs.Offsets.{offset_of}
use Rattle.ansi_search.proofs.PositionLemmas.{no_character_goes_on-boundary, no_character_goes_on-past}
use Rattle.ansi_safe.specs.Links.{link_of, link_after_all}
use Rattle.ansi_safe.specs.Safe.{is_printing}
use Rattle.ansi_safe.proofs.LinkLemmas.{link_after_all-none}
use Rattle.ansi_clusters.specs.Columns.{cluster_width, clusters, columns}
use Rattle.ansi_clusters.specs.Letters.{IsPlainSingle, ArePlain}
use Rattle.ansi_clusters.specs.Lines.{is_line_end, is_blank, word_columns, lines_from}
use Rattle.ansi_cells.specs.PlainCells.{last_byte, IsPlainCell}
use Rattle.ansi_cells.specs.Wrapped.{CarriedPart, line_over, lines_over, pen_end, IsLineSpan}
use Rattle.ansi_wraps.specs.declared.wrap.spans.OnlyLine.{OnlyLine}
use Rattle.ansi_wraps.specs.declared.wrap.spans.Spans.{Spans}
use Rattle.ansi_wraps.specs.declared.wrap.spans.Next.TheVariants.{Only}
use Rattle.ansi_wraps.specs.WrapStates.{lines_next, span_lines, AreNew, IsOnlyLine}
use Rattle.ansi_wraps.proofs.LentLemmas.{new-lines}
use Rattle.ansi_clusters.proofs.AsciiLemmas.{All-printable_is_ascii}
use Rattle.ansi_clusters.proofs.KindLemmas.{is_blank-other, is_blank-space, not_line_end}
use Rattle.ansi_clusters.proofs.LineLemmas.{more_at, line-blank, line-last, line-stays}
use Rattle.ansi_clusters.proofs.PrintableLemmas.{singles}
use Rattle.ansi_cells.proofs.PlainCellLemmas.{last_byte-append}
use Rattle.ansi_cells.proofs.PlainTextLemmas.{clusters-singles}
use Rattle.ansi_cells.proofs.SliceLemmas.{offset_of-end}

-- ---- the line of such characters that fits

word-singles : (cs : List ℕ) (n : ℕ) → ArePlain cs n → word_columns (singles cs) ≤ n
unfolding word_columns
word-singles [] n none = omega (arith, none)
word-singles (c ∷ cs) n all =
    cond_both (is_blank (c ∷ []) || is_line_end (c ∷ [])) 0 (cluster_width (c ∷ []) + word_columns (singles cs)) (λ k. k ≤ n) (λ _. omega arith) (λ _. omega (arith, all.4, all.2.shown.columns_are, word-singles cs all.1 all.3))

more-singles : (end here c : ℕ) (cs : List ℕ) (n : ℕ) → ArePlain (c ∷ cs) n → more_at end here (c ∷ []) (singles cs) ≤ n
more-singles end here c cs n all =
    cond_both (here == end) (cluster_width (c ∷ [])) (word_columns (singles (c ∷ cs))) (λ k. k ≤ n) (λ _. omega (arith, all.4, all.2.shown.columns_are)) (λ _. word-singles (c ∷ cs) n all)

-- it is no line end
inside-single : {c width : ℕ} → IsPlainSingle c width → is_line_end (c ∷ []) ≡ false
inside-single {c} is =
    not_line_end (c ∷ [])
    (λ e. (let same : c ≡ 0x0A = ap (λ x. slice_index x 0) e in absurd (true≢false (sym is.shown.printing ∙ ap is_printing same))))
    (λ e. absurd (omega (arith, ap length e)))

-- the end of the words of characters from the position `here` on, or `end` if they are all blanks
abbrev end_past : List ℕ → ℕ → ℕ → ℕ
end_past [] here end = end
end_past (c ∷ cs) here end = end_past cs (here + length (encode_utf8 c)) (if c == 0x20 then end else here + length (encode_utf8 c))

line-singles : (width start : ℕ) (cs : List ℕ) (n end here columns : ℕ) → ArePlain cs n → columns + n ≤ width → lines_from width start end here columns (singles cs) ≡ (start, end_past cs here end) ∷ []
line-singles width start [] n end here columns all fits = line-last width start end here columns
line-singles width start (c ∷ cs) n end here columns all fits =
    by_test (c == 0x20) refl (λ end. line-singles width start cs all.1 end (here + length (encode_utf8 c)) (columns + all.0) all.3 (omega (arith, fits, all.4)))
  where
    size : length (encode_utf8_all (c ∷ [])) ≡ length (encode_utf8 c)
    size = ap length (append-nil (encode_utf8 c))

    by_test : (b : Bool) → (c == 0x20) ≡ b → ((end : ℕ) → lines_from width start end (here + length (encode_utf8 c)) (columns + all.0) (singles cs) ≡ (start, end_past cs (here + length (encode_utf8 c)) end) ∷ [])
        → lines_from width start end here columns (singles (c ∷ cs)) ≡ (start, end_past cs (here + length (encode_utf8 c)) (if b then end else here + length (encode_utf8 c))) ∷ []
    by_test true is rest =
        line-blank width start end here columns (c ∷ []) (singles cs) (inside-single all.2) (is_blank-space (c ∷ []) (ap (λ d. d ∷ []) (eqb-true c 0x20 is)))
        ∙ ap₂ (λ k w. lines_from width start end (here + k) (columns + w) (singles cs)) size (sym all.2.shown.columns_are) ∙ rest end
    by_test false is rest =
        let solid = λ (e : ◌≡◌ {A = List ℕ} (c ∷ []) (0x20 ∷ [])). (let same : c ≡ 0x20 = ap (λ y. slice_index y 0) e in absurd (true≢false (sym (eq-eqb c 0x20 same) ∙ is))) in
        line-stays width start end here columns (c ∷ []) (singles cs) (record { inside = inside-single all.2; solid = is_blank-other (c ∷ []) solid })
        (or_right (here == start) _ (le-leb (columns + more_at end here (c ∷ []) (singles cs)) width (omega (arith, fits, more-singles end here c cs n all))))
        ∙ ap₂ (λ k w. lines_from width start (here + k) (here + k) (columns + w) (singles cs)) size (sym all.2.shown.columns_are) ∙ rest (here + length (encode_utf8 c))

some-bytes : (c : ℕ) (cs : List ℕ) → 0 < length (encode_utf8_all (c ∷ cs))
some-bytes c cs = omega (arith, length-append (encode_utf8 c) (encode_utf8_all cs), length-encode c, (len_utf8_bounds c).0)

last-blank : last_byte (encode_utf8_all (0x20 ∷ [])) ≡ 0x20
last-blank = ap last_byte (encodes-IsAscii (0x20 ∷ []) (IsAscii-from_all (0x20 ∷ []) (All-printable_is_ascii (0x20 ∷ []) refl)))

-- they don't end with a blank
end-is : (cs : List ℕ) (here end : ℕ) → last_byte (encode_utf8_all cs) ≢ 0x20 → (length cs ≡ 0 → end ≡ here) → end_past cs here end ≡ here + length (encode_utf8_all cs)
end-is [] here end solid none = omega (arith, none refl)
end-is (c ∷ []) here end solid none =
    by_test (c == 0x20) refl ∙ ap (λ k. here + k) (sym (ap length (append-nil (encode_utf8 c))))
  where
    by_test : (b : Bool) → (c == 0x20) ≡ b → (if b then end else here + length (encode_utf8 c)) ≡ here + length (encode_utf8 c)
    by_test true is = absurd (solid (ap (λ d. last_byte (encode_utf8_all (d ∷ []))) (eqb-true c 0x20 is) ∙ last-blank))
    by_test false is = refl
end-is (c ∷ d ∷ cs) here end solid none =
    let k = length (encode_utf8 c) in
    let rest = encode_utf8_all (d ∷ cs) in
    let same : last_byte rest ≡ last_byte (encode_utf8 c ++ rest) = last_byte-append (encode_utf8 c) rest (some-bytes d cs) in
    end-is (d ∷ cs) (here + k) (if c == 0x20 then end else here + k) (λ e. solid (sym same ∙ e)) (λ e. absurd (omega (arith, e))) ∙ omega (arith, length-append (encode_utf8 c) rest)

only-interval : (width : ℕ) (x : List ℕ) (n : ℕ) → IsUtf8 x → ArePlain (chars x) n → n ≤ width → last_byte x ≢ 0x20 → lines_from width 0 0 0 0 (clusters x) ≡ (0, length x) ∷ []
only-interval width x n utf8 all fits solid =
    let bytes = encodes-chars x utf8 in
    let end : end_past (chars x) 0 0 ≡ length x = omega (arith, end-is (chars x) 0 0 (λ e. solid (ap last_byte (sym bytes) ∙ e)) (λ _. refl), ap length bytes) in
    ap (lines_from width 0 0 0 0) (clusters-singles (chars x) n all)
    ∙ line-singles width 0 (chars x) n 0 0 0 all (omega (arith, fits))
    ∙ ap (λ k. (0, k) ∷ []) end

-- ---- whether a text has an ESC, by its length

length-are : (t : List ℕ) (ps : List Piece) → ArePieces t ps → length (plain_of ps) ≤ length t
length-are t ps are = omega (arith, length-plain t, ap (λ qs. length (plain_of qs)) (pieces_of-unique t ps are))

all-plain : (t : List ℕ) (ps : List Piece) → ArePieces t ps → length t ≤ length (plain_of ps) → plain_of ps ≡ t
all-plain t [] are long = sym are
all-plain t (Text w ∷ ps) are long =
    ap (λ u. w ++ u) (all-plain are.0 ps are.3 (omega (arith, long, ap length are.1, length-append w are.0, length-append w (plain_of ps)))) ∙ sym are.1
all-plain t (Sequence w ∷ ps) are long =
    absurd (omega (arith, long, ap length are.1, length-append w are.0, ap length (sequence_front w are.2).1, length-are are.0 ps are.3))
all-plain t (LoneEscape ∷ ps) are long = absurd (omega (arith, long, ap length are.1, length-are are.0 ps are.3))

escape-shortens : (t : List ℕ) → not (length (plain t) == length t) ≡ has_escape t
escape-shortens t = by_test (has_escape t) refl
  where
    by_test : (b : Bool) → has_escape t ≡ b → not (length (plain t) == length t) ≡ b
    by_test false is = ap not (eq-eqb _ _ (ap length (plain-bare t is)))
    by_test true is = ap not (ne_eqb _ _ (λ same. absurd (true≢false (sym is ∙ ap has_escape (sym (all-plain t (pieces_of t) (pieces_are t) (omega (arith, same)))) ∙ has_escape-plain t))))

-- ---- the line of such a text

-- its bytes
pub only-bytes : (t : List ℕ) → link_of (marks t) ≡ [] → (line_over plain_style [] (plain t) (marks t) (0, length (plain t))).bytes ≡ t ++ close (style_after t)
unfolding line_over kept
only-bytes t link_is =
    let n = length (plain t) in
    let whole : interleaved (plain t) 0 n (marks t) ≡ t = kept-all t n (omega arith) in
    let no_link : link_after_all [] (marks t) ≡ [] = link_after_all-none (marks t) ∙ link_is in
    cond_both ((0 == n) && (length (marks t) == 0)) [] (start plain_style ++ [] ++ interleaved (plain t) 0 n (marks t) ++ pen_end (link_after_all [] (marks t)) (after_marks plain_style (marks t))) (λ u. u ≡ t ++ close (style_after t))
    (λ nothing. (
    let both = and_parts (0 == n) (length (marks t) == 0) nothing in
    let no_marks : marks t ≡ [] = nil_from_length (marks t) (eqb-true (length (marks t)) 0 both.1) in
    let empty : t ≡ [] = sym whole ∙ ap₂ (λ x ms. interleaved x 0 (length x) ms) (nil_from_length (plain t) (sym (eqb-true 0 n both.0))) no_marks in
    sym (ap (λ u. u ++ close (style_after u)) empty)))
    (λ some. ap₂ (λ u l. u ++ pen_end l (style_after t)) whole no_link)

module _ {t : List ℕ} {width left last : ℕ} {style : Rendition} (is : IsPlainCell t width left style last) where
  pub only-line : last ≢ 0x20 → lines_over plain_style [] (plain t) (marks t) (lines_from width 0 0 0 0 (clusters (plain t))) ≡ line_over plain_style [] (plain t) (marks t) (0, length (plain t)) ∷ []
  unfolding lines_over
  only-line solid =
      ap (lines_over plain_style [] (plain t) (marks t)) (only-interval width (plain t) (columns (plain t)) is.utf8 is.singles (omega (arith, is.sum)) (λ e. solid (is.last_is ∙ e)))

  pub only-span : {before after : Rendition} {link link_after : List ℕ} {len : ℕ} → len ≡ length (plain t) → before ≡ plain_style → link ≡ [] → after ≡ style → link_after ≡ [] → IsLineSpan before link t 0 len (length t) (not (len == length t)) after link_after
  only-span {before} {after} {link} {link_after} {len} end before_is link_is after_is link_after_is = record {
    marked = ap (λ n. not (n == length t)) end ∙ escape-shortens t;
    ordered = omega arith;
    start_good = no_character_goes_on-boundary (plain t) 0 (IsCharBoundary-start (plain t) is.utf8);
    end_stands = record {
      good = no_character_goes_on-past (plain t) len (omega (arith, end));
      offset = sym (ap (offset_of t) end ∙ offset_of-end t);
      boundary = IsCharBoundary-end t;
    };
    within = omega (arith, end);
    styled = after_is ∙ is.text.style_is ∙ ap (λ s. style_after_from s t) (sym before_is);
    linked = link_after_is ∙ sym is.text.link_is ∙ sym (link_after_all-none (marks t)) ∙ ap (λ l. link_after_all l (marks t)) (sym link_is);
  }

-- nothing else is left of spans that begin with it
pub only-left : {t : List ℕ} {line : OnlyLine} (s : Spans) → s.next ≡ Only line → AreNew s → IsOnlyLine t s.width line → map (λ (l : CarriedPart). l.bytes) (span_lines t s) ≡ (t ++ close (rendition_of line.style)) ∷ []
only-left {t} {line} s next new is =
    let first = new-lines t s s.next (ap (lines_next t s.width) next) new ∙ only-line is.is_cell is.solid in
    ap (map (λ (l : CarriedPart). l.bytes)) first
    ∙ ap (λ u. u ∷ []) (only-bytes t is.is_cell.text.link_is)
    ∙ ap (λ r. (t ++ close r) ∷ []) (sym is.is_cell.text.style_is)
