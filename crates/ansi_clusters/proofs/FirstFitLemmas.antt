-- The lines that are found one cluster after another are those of first fit.
use Rattle.std.proofs.Common.{◌≡◌, ℕ, ◌+◌, ◌<◌, ◌≤◌, max, ◌⊎◌, inl, inr, ⊎_elim, Bool, true, false, not, ◌||◌, ◌==◌, nat_le, List, [], ◌∷◌, ◌++◌, length, take, map, encode_utf8_all, refl, sym, ◌∙◌, ap, ap₂, subst, arith, append_assoc, append-nil, length-append, if◌then◌else◌}
use Rattle.std.specs.List.{list_all}
use Rattle.std.proofs.lemmas.Bool.{cases_Bool, cases_lt, and_parts, and_from, or_cases, or_parts, eqb-true, eqb-false, ne_eqb, leb-true, leb-false, le-leb, lt-leb}
use Rattle.std.proofs.lemmas.List.{same_from_push}
use Rattle.std.proofs.lemmas.List.Folds.{list_all-append}
use Rattle.std.proofs.lemmas.List.Sums.{sum_by-append}
use Rattle.unicode_segmentation.specs.Grapheme.{is_grapheme_break}
use Rattle.unicode_segmentation.specs.Segments.{segments}
use Rattle.unicode_segmentation.proofs.SegmentsLemmas.{AllPieces, segments_nonempty}
use Rattle.ansi_clusters.specs.Columns.{clusters, cluster_width, columns_of, bytes_of}
use Rattle.ansi_clusters.specs.Lines.{is_line_end, is_blank, word_columns, lines_from, lines}
use Rattle.ansi_clusters.specs.FirstFit.{is_of_word, front_of, rest_of, blanks_of, word_of, left_out, needed, IsFilled, IsFirstLine, AreFirstFit, IsFirstFit}
use Rattle.ansi_clusters.proofs.ColumnLemmas.{bytes_of-push, bytes_of-append, columns_of-push}
use Rattle.ansi_clusters.proofs.LineLemmas.{IsOfWord, more_at, more-inside, more-word, more-least, line-ends, line-blank, line-stays, line-leaves, line-indents, line-last}
use Rattle.std.specs.Str.{byte}
use Rattle.std.proofs.lemmas.Slice.Eq.{bytes_eq-Decides}

abbrev pub Clusters : Type 0
Clusters = List (List ℕ)

pub columns_of-append : (xs ys : Clusters) → columns_of (xs ++ ys) ≡ columns_of xs + columns_of ys
columns_of-append xs ys = sum_by-append cluster_width xs ys

pub columns_of-cons : (c : List ℕ) (cs : Clusters) → columns_of (c ∷ cs) ≡ cluster_width c + columns_of cs
columns_of-cons c cs = omega (arith, columns_of-append (c ∷ []) cs, columns_of-push [] c)

-- what a blank and a line end are spelled with

pub blank-bytes : (c : List ℕ) → is_blank c ≡ true → encode_utf8_all c ≡ byte " " ∷ []
unfolding is_blank lib.Utf8.encode
blank-bytes c is = ap encode_utf8_all ((bytes_eq-Decides c (0x20 ∷ [])).0 is)

pub line_end-bytes : (c : List ℕ) → is_line_end c ≡ true → (encode_utf8_all c ≡ 0x0A ∷ []) ⊎ (encode_utf8_all c ≡ 0x0D ∷ 0x0A ∷ [])
unfolding is_line_end lib.Utf8.encode
line_end-bytes c is = ⊎_elim (λ e. inl (ap encode_utf8_all ((bytes_eq-Decides c (0x0A ∷ [])).0 e))) (λ e. inr (ap encode_utf8_all ((bytes_eq-Decides c (0x0D ∷ 0x0A ∷ [])).0 e))) (or_cases _ _ is)

-- A line end is no blank.

end_is_no_blank : (c : List ℕ) → is_line_end c ≡ true → is_blank c ≡ false
end_is_no_blank c ends = elim (cases_Bool (is_blank c)) [
  | inl blank ↦ elim (line_end-bytes c ends) [
    | inl one ↦ absurd (cc (sym (blank-bytes c blank) ∙ one))
    | inr two ↦ absurd (cc (sym (blank-bytes c blank) ∙ two))
  ]
  | inr other ↦ other
]

blank_is_no_end : (c : List ℕ) → is_blank c ≡ true → is_line_end c ≡ false
blank_is_no_end c blank = elim (cases_Bool (is_line_end c)) [
  | inl ends ↦ absurd (cc (sym (end_is_no_blank c ends) ∙ blank))
  | inr other ↦ other
]

pub of_word-is : (c : List ℕ) → IsOfWord c → is_of_word c ≡ true
of_word-is c word = ap₂ (λ a b. not (a || b)) word.solid word.inside

of_word-end : (c : List ℕ) → is_line_end c ≡ true → is_of_word c ≡ false
of_word-end c ends = ap₂ (λ a b. not (a || b)) (end_is_no_blank c ends) ends

pub of_word-blank : (c : List ℕ) → is_blank c ≡ true → is_of_word c ≡ false
of_word-blank c blank = ap (λ a. not (a || is_line_end c)) blank

-- The clusters at the front, and the rest.

pub front-stops : (test : List ℕ → Bool) (c : List ℕ) (cs : Clusters) → test c ≡ false → front_of test (c ∷ cs) ≡ []
front-stops test c cs fails = ap (λ b. if b then c ∷ front_of test cs else []) fails

pub front-goes_on : (test : List ℕ → Bool) (c : List ℕ) (cs : Clusters) → test c ≡ true → front_of test (c ∷ cs) ≡ c ∷ front_of test cs
front-goes_on test c cs passes = ap (λ b. if b then c ∷ front_of test cs else []) passes

rest-stops : (test : List ℕ → Bool) (c : List ℕ) (cs : Clusters) → test c ≡ false → rest_of test (c ∷ cs) ≡ c ∷ cs
rest-stops test c cs fails = ap (λ b. if b then rest_of test cs else c ∷ cs) fails

rest-goes_on : (test : List ℕ → Bool) (c : List ℕ) (cs : Clusters) → test c ≡ true → rest_of test (c ∷ cs) ≡ rest_of test cs
rest-goes_on test c cs passes = ap (λ b. if b then rest_of test cs else c ∷ cs) passes

front-append : (test : List ℕ → Bool) (xs cs : Clusters) → list_all test xs ≡ true → front_of test (xs ++ cs) ≡ xs ++ front_of test cs
front-append test [] cs all = refl
front-append test (x ∷ xs) cs all = (let both = and_parts _ _ all in front-goes_on test x (xs ++ cs) both.0 ∙ ap (λ ys. x ∷ ys) (front-append test xs cs both.1))

rest-append : (test : List ℕ → Bool) (xs cs : Clusters) → list_all test xs ≡ true → rest_of test (xs ++ cs) ≡ rest_of test cs
rest-append test [] cs all = refl
rest-append test (x ∷ xs) cs all = (let both = and_parts _ _ all in rest-goes_on test x (xs ++ cs) both.0 ∙ rest-append test xs cs both.1)

pub front-and_rest : (test : List ℕ → Bool) (cs : Clusters) → cs ≡ front_of test cs ++ rest_of test cs
front-and_rest test [] = refl
front-and_rest test (c ∷ cs) = either (front-and_rest test cs) (test c)
  where
    either : cs ≡ front_of test cs ++ rest_of test cs → (b : Bool) → c ∷ cs ≡ (if b then c ∷ front_of test cs else []) ++ (if b then rest_of test cs else c ∷ cs)
    either later true = ap (λ ds. c ∷ ds) later
    either later false = refl

pub front-passes : (test : List ℕ → Bool) (cs : Clusters) → list_all test (front_of test cs) ≡ true
front-passes test [] = refl
front-passes test (c ∷ cs) = either (front-passes test cs) (test c) refl
  where
    either : list_all test (front_of test cs) ≡ true → (b : Bool) → test c ≡ b → list_all test (if b then c ∷ front_of test cs else []) ≡ true
    either later true is = and_from _ _ is later
    either later false is = refl

-- blanks, and then a cluster that is none, or nothing
module _ (gap : Clusters) (are : list_all is_blank gap ≡ true) where
  pub blanks-last : blanks_of (gap ++ []) ≡ gap
  blanks-last = front-append is_blank gap [] are ∙ append-nil gap

  pub rest-last : rest_of is_blank (gap ++ []) ≡ []
  rest-last = rest-append is_blank gap [] are

  pub word-last : word_of (gap ++ []) ≡ []
  word-last = ap (front_of is_of_word) rest-last

  module _ (c : List ℕ) (cs : Clusters) (solid : is_blank c ≡ false) where
    pub blanks-then : blanks_of (gap ++ c ∷ cs) ≡ gap
    blanks-then = front-append is_blank gap (c ∷ cs) are ∙ ap (λ ys. gap ++ ys) (front-stops is_blank c cs solid) ∙ append-nil gap

    pub rest-then : rest_of is_blank (gap ++ c ∷ cs) ≡ c ∷ cs
    rest-then = rest-append is_blank gap (c ∷ cs) are ∙ rest-stops is_blank c cs solid

    pub word-then : word_of (gap ++ c ∷ cs) ≡ front_of is_of_word (c ∷ cs)
    word-then = ap (front_of is_of_word) rest-then

-- no word goes on directly after a blank
word-after_gap : (gap cs : Clusters) → list_all is_blank gap ≡ true → 0 < length (front_of is_of_word (gap ++ cs)) → gap ≡ []
word-after_gap [] cs are some = refl
word-after_gap (b ∷ gap) cs are some = absurd (omega (arith, some, ap length (front-stops is_of_word b (gap ++ cs) (of_word-blank b (and_parts _ _ are).0))))

word_columns-is : (cs : Clusters) → word_columns cs ≡ columns_of (front_of is_of_word cs)
unfolding word_columns
word_columns-is [] = refl
word_columns-is (c ∷ cs) = either (word_columns-is cs) (is_blank c || is_line_end c)
  where
    either : word_columns cs ≡ columns_of (front_of is_of_word cs) → (b : Bool) → (if b then 0 else cluster_width c + word_columns cs) ≡ columns_of (if not b then c ∷ front_of is_of_word cs else [])
    either rest true = refl
    either rest false = omega (arith, rest, columns_of-cons c (front_of is_of_word cs))

-- When blanks before a word are left out.

abbrev left_out_of : Clusters → Clusters → ℕ → Clusters
left_out_of gap word width = if length word == 0 || nat_le (columns_of (gap ++ word)) width then [] else gap

left_out-made : (width : ℕ) (cs : Clusters) → left_out width cs ≡ left_out_of (blanks_of cs) (word_of cs) width
left_out-made width cs = refl

left_out-last : (width : ℕ) (gap : Clusters) → list_all is_blank gap ≡ true → left_out width (gap ++ []) ≡ []
left_out-last width gap are = ap (λ word. left_out_of (blanks_of (gap ++ [])) word width) (word-last gap are)

left_out-end : (width : ℕ) (gap : Clusters) (c : List ℕ) (cs : Clusters) → list_all is_blank gap ≡ true → is_line_end c ≡ true → left_out width (gap ++ c ∷ cs) ≡ []
left_out-end width gap c cs are ends =
    ap (λ word. left_out_of (blanks_of (gap ++ c ∷ cs)) word width) (word-then gap are c cs (end_is_no_blank c ends) ∙ front-stops is_of_word c cs (of_word-end c ends))

abbrev no_clusters : Clusters
no_clusters = []

nothing_either : (b : Bool) → (if b then no_clusters else no_clusters) ≡ no_clusters
nothing_either true = refl
nothing_either false = refl

-- before a word
module _ (width : ℕ) (gap : Clusters) (c : List ℕ) (cs : Clusters) (are : list_all is_blank gap ≡ true) (word : IsOfWord c) where
  left_out-word : left_out width (gap ++ c ∷ cs) ≡ left_out_of gap (front_of is_of_word (c ∷ cs)) width
  left_out-word = ap₂ (λ g w. left_out_of g w width) (blanks-then gap are c cs word.solid) (word-then gap are c cs word.solid)

  gap_columns : columns_of (gap ++ front_of is_of_word (c ∷ cs)) ≡ columns_of gap + word_columns (c ∷ cs)
  gap_columns = columns_of-append gap (front_of is_of_word (c ∷ cs)) ∙ ap (λ n. columns_of gap + n) (sym (word_columns-is (c ∷ cs)))

  pub left_out-fits : columns_of gap + word_columns (c ∷ cs) ≤ width → left_out width (gap ++ c ∷ cs) ≡ []
  left_out-fits fits = left_out-word ∙ either (length (front_of is_of_word (c ∷ cs)) == 0) (le-leb _ width (omega (arith, fits, gap_columns)))
    where
      either : (b : Bool) {d : Bool} → d ≡ true → (if b || d then [] else gap) ≡ []
      either true is = refl
      either false is = ap (λ e. if e then [] else gap) is

  pub left_out-wide : width < columns_of gap + word_columns (c ∷ cs) → left_out width (gap ++ c ∷ cs) ≡ gap
  left_out-wide wide =
      left_out-word
      ∙ ap₂ (λ a b. if a || b then [] else gap)
      (ne_eqb _ 0 (λ none. omega (arith, none, ap length (front-goes_on is_of_word c cs (of_word-is c word)))))
      (lt-leb _ width (omega (arith, wide, gap_columns)))

left_out-none : (width : ℕ) (c : List ℕ) (cs : Clusters) → IsOfWord c → left_out width (c ∷ cs) ≡ []
left_out-none width c cs word = left_out-word width [] c cs refl word ∙ nothing_either (length (front_of is_of_word (c ∷ cs)) == 0 || nat_le (columns_of (front_of is_of_word (c ∷ cs))) width)

-- The lines after one.

abbrev pub AreAfter : Bool → ℕ → ℕ → List ℕ → Clusters → List (ℕ × ℕ) → Type 0
AreAfter ends width next c rest lines = elim ends [
  | true ↦ AreFirstFit width (next + length (encode_utf8_all c)) rest lines
  | false ↦ AreFirstFit width next (c ∷ rest) lines
]

abbrev pub AreNext : ℕ → ℕ → Clusters → List (ℕ × ℕ) → Type 0
AreNext width next cs lines = elim cs [
  | [] ↦ lines ≡ []
  | c ∷ rest ↦ AreAfter (is_line_end c) width next c rest lines
]

-- what is left out after a line: blanks, or blanks and a line end
abbrev pub IsGap : Clusters → Type 0
IsGap gap = (g : Clusters) × (list_all is_blank g ≡ true) × ((gap ≡ g) ⊎ ((c : List ℕ) × (gap ≡ g ++ c ∷ []) × (is_line_end c ≡ true)))

-- nothing but blanks follows a line, or the lines after it begin after a gap
abbrev pub AfterLine : ℕ → ℕ → Clusters → List (ℕ × ℕ) → Type 0
AfterLine width place after lines = ((lines ≡ []) × (list_all is_blank after ≡ true)) ⊎ ((gap rest : Clusters) × (after ≡ gap ++ rest) × AreFirstFit width (place + bytes_of gap) rest lines × IsGap gap)

module _ (width place : ℕ) (after g : Clusters) (lines : List (ℕ × ℕ)) (blank : list_all is_blank g ≡ true) where
  from_cluster : (c : List ℕ) (rest : Clusters) (ends : Bool) → is_line_end c ≡ ends → after ≡ g ++ c ∷ rest → AreAfter ends width (place + bytes_of g) c rest lines → AfterLine width place after lines
  from_cluster c rest true is all are =
      inr (g ++ c ∷ [], rest, all ∙ sym (append_assoc g (c ∷ []) rest), subst (λ n. AreFirstFit width n rest lines) (omega (arith, bytes_of-push g c)) are, (g, blank, inr (c, refl, is)))
  from_cluster c rest false is all are = inr (g, c ∷ rest, all, are, (g, blank, inl refl))

  from_next : (cs : Clusters) → after ≡ g ++ cs → AreNext width (place + bytes_of g) cs lines → AfterLine width place after lines
  from_next [] all none = inl (none, ap (list_all is_blank) (all ∙ append-nil g) ∙ blank)
  from_next (c ∷ rest) all are = from_cluster c rest (is_line_end c) refl all are

pub after_line : (width place : ℕ) (after : Clusters) (lines : List (ℕ × ℕ)) → AreNext width (place + bytes_of (blanks_of after)) (rest_of is_blank after) lines → AfterLine width place after lines
after_line width place after lines are = from_next width place after (blanks_of after) lines (front-passes is_blank after) (rest_of is_blank after) (front-and_rest is_blank after) are

-- The current line begins at `start`; it shows clusters up to `end`, and blanks follow up to `here`, with this number of columns in all.
record IsFilling (width : ℕ) (shown gap cs : Clusters) (start end here columns : ℕ) : Type 0 where
  ends : end ≡ start + bytes_of shown
  read : here ≡ end + bytes_of gap
  counted : columns ≡ columns_of (shown ++ gap)
  on_line : list_all (λ c. not (is_line_end c)) shown ≡ true
  trimmed : (front : Clusters) (c : List ℕ) → shown ≡ front ++ c ∷ [] → is_blank c ≡ false
  fits : (columns_of shown ≤ width) ⊎ (length shown ≡ 1)
  blank : list_all is_blank gap ≡ true
  in_word : gap ≡ [] → (list_all is_of_word shown ≡ true) ⊎ (columns_of (shown ++ front_of is_of_word cs) ≤ width)
  begun : (shown ≡ []) ⊎ ((start < end) × (left_out width ((shown ++ gap) ++ cs) ≡ []))
  apart : (gap ≡ []) ⊎ (end < here)

-- nothing is read yet
filling-none : (width place : ℕ) (cs : Clusters) → IsFilling width [] [] cs place place place 0
filling-none width place cs = record {
  ends = omega arith;
  read = omega arith;
  counted = refl;
  on_line = refl;
  trimmed = λ front c is. absurd (omega (arith, ap length is, length-append front (c ∷ [])));
  fits = inl (omega arith);
  blank = refl;
  in_word = λ _. inl refl;
  begun = inl refl;
  apart = inl refl;
}

-- the first cluster of a word is
filling-word : (width place : ℕ) (c : List ℕ) (cs : Clusters) → IsOfWord c → 0 < length (encode_utf8_all c)
    → IsFilling width (c ∷ []) [] cs place (place + length (encode_utf8_all c)) (place + length (encode_utf8_all c)) (cluster_width c)
filling-word width place c cs word some = record {
  ends = omega (arith, bytes_of-push [] c);
  read = omega arith;
  counted = omega (arith, columns_of-push [] c);
  on_line = and_from _ _ (ap not word.inside) refl;
  trimmed = λ front d is. ap is_blank (sym (same_from_push [] front c d is).1) ∙ word.solid;
  fits = inr refl;
  blank = refl;
  in_word = λ _. inl (and_from _ _ (of_word-is c word) refl);
  begun = inr (omega (arith, some), left_out-none width c cs word);
  apart = inl refl;
}

blanks_on_line : (gap : Clusters) → list_all is_blank gap ≡ true → list_all (λ c. not (is_line_end c)) gap ≡ true
blanks_on_line [] are = refl
blanks_on_line (b ∷ gap) are = (let both = and_parts _ _ are in and_from _ _ (ap not (blank_is_no_end b both.0)) (blanks_on_line gap both.1))

no_bytes : (g : Clusters) → length g ≡ 0 → bytes_of g ≡ 0
no_bytes [] none = refl
no_bytes (b ∷ g) none = absurd (omega (arith, none))

some_of : (xs : Clusters) → (xs ≡ [] → ⊥) → 0 < length xs
some_of [] some = absurd (some refl)
some_of (x ∷ xs) some = omega arith

module _ (width start end here columns : ℕ) (shown gap : Clusters) where
  -- the line, if `cs` follow the blanks after it
  the_line : (cs : Clusters) → IsFilling width shown gap cs start end here columns → left_out width ((shown ++ gap) ++ cs) ≡ [] → IsFilled width shown (gap ++ cs)
      → IsFirstLine width start ((shown ++ gap) ++ cs) shown (gap ++ cs) (start, end)
  the_line cs at none filled = (
      let zero : bytes_of (left_out width ((shown ++ gap) ++ cs)) ≡ 0 = ap bytes_of none in
      record {
        all = append_assoc shown gap cs ∙ ap (λ l. l ++ shown ++ (gap ++ cs)) (sym none);
        start = omega (arith, zero);
        end = at.ends;
        filled = filled;
      })

  -- it is the last one
  module _ (at : IsFilling width shown gap [] start end here columns) where
    last-none : left_out width ((shown ++ gap) ++ []) ≡ []
    last-none = elim at.begun [
      | inl empty ↦ ap (λ s. left_out width ((s ++ gap) ++ [])) empty ∙ left_out-last width gap at.blank
      | inr some ↦ some.1
    ]

    last-filled : IsFilled width shown (gap ++ [])
    last-filled = record {
      on_line = at.on_line;
      trimmed = at.trimmed;
      fits = at.fits;
      full = λ some. absurd (omega (arith, some, ap length (word-last gap at.blank)));
      broken = λ some. absurd (omega (arith, some, ap (λ g. length (front_of is_of_word (g ++ []))) (word-after_gap gap [] at.blank some)));
    }

    fills-last : AreFirstFit width start ((shown ++ gap) ++ []) ((start, end) ∷ [])
    fills-last = (shown, gap ++ [], the_line [] at last-none last-filled, subst (λ r. AreNext width (end + bytes_of (blanks_of (gap ++ []))) r []) (sym (rest-last gap at.blank)) refl)

  module _ (c : List ℕ) (cs : Clusters) (at : IsFilling width shown gap (c ∷ cs) start end here columns) (some : 0 < length (encode_utf8_all c)) where
    abbrev next : ℕ
    next = here + length (encode_utf8_all c)

    abbrev total : Clusters
    total = (shown ++ gap) ++ c ∷ cs

    -- the lines after this one, if the cluster is no blank
    the_next : is_blank c ≡ false → (ends : Bool) → is_line_end c ≡ ends → (lines : List (ℕ × ℕ)) → AreAfter ends width here c cs lines
        → AreNext width (end + bytes_of (blanks_of (gap ++ c ∷ cs))) (rest_of is_blank (gap ++ c ∷ cs)) lines
    the_next solid ends is lines are =
        let place : here ≡ end + bytes_of (blanks_of (gap ++ c ∷ cs)) = omega (arith, at.read, ap bytes_of (blanks-then gap at.blank c cs solid)) in
        subst (λ r. AreNext width (end + bytes_of (blanks_of (gap ++ c ∷ cs))) r lines) (sym (rest-then gap at.blank c cs solid))
        (subst (λ n. AreAfter (is_line_end c) width n c cs lines) place (subst (λ b. AreAfter b width here c cs lines) (sym is) are))

    -- it ends the line
    module _ (ends : is_line_end c ≡ true) where
      end-none : left_out width total ≡ []
      end-none = elim at.begun [
        | inl empty ↦ ap (λ s. left_out width ((s ++ gap) ++ c ∷ cs)) empty ∙ left_out-end width gap c cs at.blank ends
        | inr more ↦ more.1
      ]

      end-filled : IsFilled width shown (gap ++ c ∷ cs)
      end-filled =
          let none = front-stops is_of_word c cs (of_word-end c ends) in
          record {
            on_line = at.on_line;
            trimmed = at.trimmed;
            fits = at.fits;
            full = λ more. absurd (omega (arith, more, ap length (word-then gap at.blank c cs (end_is_no_blank c ends) ∙ none)));
            broken = λ more. absurd (omega (arith, more, ap (λ g. length (front_of is_of_word (g ++ c ∷ cs))) (word-after_gap gap (c ∷ cs) at.blank more), ap length none));
          }

      fills-end : (lines : List (ℕ × ℕ)) → AreFirstFit width next cs lines → AreFirstFit width start total ((start, end) ∷ lines)
      fills-end lines are = (shown, gap ++ c ∷ cs, the_line (c ∷ cs) at end-none end-filled, the_next (end_is_no_blank c ends) true ends lines are)

    -- it is one more blank
    filling-blank : is_blank c ≡ true → IsFilling width shown (gap ++ c ∷ []) cs start end next (columns + cluster_width c)
    filling-blank blank = record {
      ends = at.ends;
      read = omega (arith, at.read, bytes_of-push gap c);
      counted = omega (arith, at.counted, columns_of-push (shown ++ gap) c, ap columns_of (append_assoc shown gap (c ∷ [])));
      on_line = at.on_line;
      trimmed = at.trimmed;
      fits = at.fits;
      blank = list_all-append is_blank gap (c ∷ []) ∙ and_from _ _ at.blank (and_from _ _ blank refl);
      in_word = λ none. absurd (omega (arith, ap length none, length-append gap (c ∷ [])));
      begun = elim at.begun [
        | inl empty ↦ inl empty
        | inr more ↦ inr (more.0, ap (left_out width) same ∙ more.1)
      ];
      apart = inr (omega (arith, at.read, some));
    }
      where
        same : (shown ++ (gap ++ c ∷ [])) ++ cs ≡ total
        same = ap (λ u. u ++ cs) (sym (append_assoc shown gap (c ∷ []))) ∙ append_assoc (shown ++ gap) (c ∷ []) cs

    -- it is one of a word
    module _ (word : IsOfWord c) where
      abbrev more : ℕ
      more = more_at end here c cs

      abbrev longer : Clusters
      longer = (shown ++ gap) ++ c ∷ []

      word_is : front_of is_of_word (c ∷ cs) ≡ c ∷ front_of is_of_word cs
      word_is = front-goes_on is_of_word c cs (of_word-is c word)

      word_size : word_columns (c ∷ cs) ≡ cluster_width c + columns_of (front_of is_of_word cs)
      word_size = omega (arith, word_columns-is (c ∷ cs), ap columns_of word_is, columns_of-cons c (front_of is_of_word cs))

      nothing : here ≡ start → shown ++ gap ≡ []
      nothing begins = elim at.begun [
        | inr seen ↦ absurd (omega (arith, begins, seen.0, at.read))
        | inl empty ↦ elim at.apart [
          | inr further ↦ absurd (omega (arith, begins, further, at.ends))
          | inl no_gap ↦ ap₂ (λ u v. u ++ v) empty no_gap
        ]
      ]

      -- it stays on the line
      module _ (room : (here ≡ start) ⊎ (columns + more ≤ width)) where
        stays-none : left_out width total ≡ []
        stays-none = elim at.begun [
          | inr seen ↦ seen.1
          | inl empty ↦ ap (λ s. left_out width ((s ++ gap) ++ c ∷ cs)) empty ∙ elim at.apart [
            | inl no_gap ↦ ap (λ g. left_out width (g ++ c ∷ cs)) no_gap ∙ left_out-none width c cs word
            | inr further ↦ left_out-fits width gap c cs at.blank word (elim room [
              | inl begins ↦ absurd (omega (arith, begins, further, at.ends))
              | inr fits ↦ omega (arith, fits, more-word width start end here columns c cs further, at.counted, ap (λ s. columns_of (s ++ gap)) empty)
            ])
          ]
        ]

        stays-fits : (columns_of longer ≤ width) ⊎ (length longer ≡ 1)
        stays-fits = elim room [
          | inl begins ↦ inr (ap (λ u. length (u ++ c ∷ [])) (nothing begins))
          | inr fits ↦ inl (omega (arith, fits, more-least end here c cs word, at.counted, columns_of-push (shown ++ gap) c))
        ]

        goes_on : columns + word_columns (c ∷ cs) ≤ width → columns_of (longer ++ front_of is_of_word cs) ≤ width
        goes_on fits = omega (arith, fits, word_size, at.counted, columns_of-push (shown ++ gap) c, columns_of-append longer (front_of is_of_word cs))

        stays-word : (list_all is_of_word longer ≡ true) ⊎ (columns_of (longer ++ front_of is_of_word cs) ≤ width)
        stays-word = elim room [
          | inl begins ↦ inl (ap (λ u. list_all is_of_word (u ++ c ∷ [])) (nothing begins) ∙ and_from _ _ (of_word-is c word) refl)
          | inr fits ↦ elim at.apart [
            | inr further ↦ inr (goes_on (omega (arith, fits, more-word width start end here columns c cs further)))
            | inl no_gap ↦ elim (at.in_word no_gap) [
              | inl all ↦ inl (ap (λ g. list_all is_of_word ((shown ++ g) ++ c ∷ [])) no_gap ∙ ap (λ u. list_all is_of_word (u ++ c ∷ [])) (append-nil shown)
                  ∙ list_all-append is_of_word shown (c ∷ []) ∙ and_from _ _ all (and_from _ _ (of_word-is c word) refl))
              | inr whole ↦ inr (goes_on (omega (arith, whole, columns_of-append shown (front_of is_of_word (c ∷ cs)), word_columns-is (c ∷ cs), at.counted, ap (λ g. columns_of (shown ++ g)) no_gap, ap columns_of (append-nil shown))))
            ]
          ]
        ]

        filling-stays : IsFilling width longer [] cs start next next (columns + cluster_width c)
        filling-stays = record {
          ends = omega (arith, at.ends, at.read, bytes_of-append shown gap, bytes_of-push (shown ++ gap) c);
          read = omega arith;
          counted = omega (arith, at.counted, columns_of-push (shown ++ gap) c, ap columns_of (append-nil longer));
          on_line = list_all-append _ (shown ++ gap) (c ∷ []) ∙ and_from _ _ (list_all-append _ shown gap ∙ and_from _ _ at.on_line (blanks_on_line gap at.blank)) (and_from _ _ (ap not word.inside) refl);
          trimmed = λ front d is. ap is_blank (sym (same_from_push (shown ++ gap) front c d is).1) ∙ word.solid;
          fits = stays-fits;
          blank = refl;
          in_word = λ _. stays-word;
          begun = inr (omega (arith, at.ends, at.read, some), ap (left_out width) (ap (λ u. u ++ cs) (append-nil longer) ∙ append_assoc (shown ++ gap) (c ∷ []) cs) ∙ stays-none);
          apart = inl refl;
        }

      -- it has no room
      module _ (wide : width < columns + more) (further : start < here) where
        -- and begins this line, since nothing but blanks is before it
        fills-indent : end ≡ start → (lines : List (ℕ × ℕ)) → AreFirstFit width here (c ∷ cs) lines → AreFirstFit width start total lines
        fills-indent none [] are = absurd are
        fills-indent none (line ∷ lines) are =
            let first = are.2 in
            let empty : shown ≡ [] = elim at.begun [ inl is ↦ is | inr seen ↦ absurd (omega (arith, none, seen.0)) ] in
            let later : end < here = omega (arith, none, further) in
            let left : left_out width total ≡ gap
            = ap (λ s. left_out width ((s ++ gap) ++ c ∷ cs)) empty
            ∙ left_out-wide width gap c cs at.blank word (omega (arith, wide, more-word width start end here columns c cs later, at.counted, ap (λ s. columns_of (s ++ gap)) empty)) in
            let nothing_left = left_out-none width c cs word in
            let zero : bytes_of (left_out width (c ∷ cs)) ≡ 0 = ap bytes_of nothing_left in (
              are.0,
              are.1,
              record {
                all = ap (λ s. (s ++ gap) ++ c ∷ cs) empty ∙ ap (λ u. gap ++ u) (first.all ∙ ap (λ l. l ++ are.0 ++ are.1) nothing_left)
                    ∙ sym (append_assoc gap are.0 are.1) ∙ ap (λ l. l ++ are.0 ++ are.1) (sym left);
                start = omega (arith, first.start, zero, at.read, none, ap bytes_of left);
                end = first.end;
                filled = first.filled;
              },
              are.3,
            )

        -- and begins the next line
        leaves-filled : start < end → IsFilled width shown (gap ++ c ∷ cs)
        leaves-filled shows = record {
          on_line = at.on_line;
          trimmed = at.trimmed;
          fits = at.fits;
          full = λ _. elim at.apart [
            | inl no_gap ↦ subst (λ g. width < columns_of (shown ++ needed (g ++ c ∷ cs))) (sym no_gap)
                (subst (λ g. width < columns_of (shown ++ (if length g == 0 then c ∷ [] else g ++ word_of (c ∷ cs)))) (sym (front-stops is_blank c cs word.solid))
                (omega (arith, wide, more-inside width start end here columns c cs (inside no_gap), at.counted, ap (λ g. columns_of (shown ++ g)) no_gap, ap columns_of (append-nil shown), columns_of-push shown c)))
            | inr later ↦ subst (λ n. width < columns_of (shown ++ n)) (sym (all_needed later))
                (omega (arith, wide, more-word width start end here columns c cs later, word_columns-is (c ∷ cs), at.counted, columns_of-append (shown ++ gap) (front_of is_of_word (c ∷ cs)), ap columns_of (append_assoc shown gap (front_of is_of_word (c ∷ cs)))))
          ];
          broken = λ more_of_word. (
              let no_gap = word-after_gap gap (c ∷ cs) at.blank more_of_word in (
                elim at.begun [
                  | inl empty ↦ absurd (omega (arith, shows, at.ends, ap bytes_of empty))
                  | inr seen ↦ some_of shown (λ empty. omega (arith, shows, at.ends, ap bytes_of empty))
                ],
                elim (at.in_word no_gap) [
                  | inl all ↦ all
                  | inr whole ↦ absurd (omega (arith, wide, more-inside width start end here columns c cs (inside no_gap), whole, columns_of-append shown (front_of is_of_word (c ∷ cs)), word_columns-is (c ∷ cs), word_size, at.counted, ap (λ g. columns_of (shown ++ g)) no_gap, ap columns_of (append-nil shown)))
                ],
              ));
        }
          where
            inside : gap ≡ [] → here ≡ end
            inside no_gap = omega (arith, at.read, ap bytes_of no_gap)

            all_needed : end < here → needed (gap ++ c ∷ cs) ≡ gap ++ front_of is_of_word (c ∷ cs)
            all_needed later =
                ap₂ (λ g w. if length g == 0 then take 1 (gap ++ c ∷ cs) else g ++ w) (blanks-then gap at.blank c cs word.solid) (word-then gap at.blank c cs word.solid)
                ∙ ap (λ b. if b then take 1 (gap ++ c ∷ cs) else gap ++ front_of is_of_word (c ∷ cs)) (ne_eqb (length gap) 0 (λ none. omega (arith, later, at.read, no_bytes gap none)))

        leaves-none : start < end → left_out width total ≡ []
        leaves-none shows = elim at.begun [
          | inl empty ↦ absurd (omega (arith, shows, at.ends, ap bytes_of empty))
          | inr seen ↦ seen.1
        ]

        fills-leaves : start < end → (lines : List (ℕ × ℕ)) → AreFirstFit width here (c ∷ cs) lines → AreFirstFit width start total ((start, end) ∷ lines)
        fills-leaves shows lines are = (shown, gap ++ c ∷ cs, the_line (c ∷ cs) at (leaves-none shows) (leaves-filled shows), the_next word.solid false word.inside lines are)

fills : (cs : Clusters) (width start end here columns : ℕ) (shown gap : Clusters) → AllPieces (λ p. 0 < length p) (map encode_utf8_all cs) → IsFilling width shown gap cs start end here columns
    → AreFirstFit width start ((shown ++ gap) ++ cs) (lines_from width start end here columns cs)
fills [] width start end here columns shown gap some at =
    subst (AreFirstFit width start ((shown ++ gap) ++ [])) (sym (line-last width start end here columns)) (fills-last width start end here columns shown gap at)
fills (c ∷ cs) width start end here columns shown gap some at =
    let next = here + length (encode_utf8_all c) in
    let P = AreFirstFit width start ((shown ++ gap) ++ c ∷ cs) in
    elim (cases_Bool (is_line_end c)) [
      | inl ends ↦ subst P (sym (line-ends width start end here columns c cs ends))
          (fills-end width start end here columns shown gap c cs at some.0 ends _ (fills cs width next next next 0 [] [] some.1 (filling-none width next cs)))
      | inr inside ↦ elim (cases_Bool (is_blank c)) [
        | inl blank ↦ subst P (sym (line-blank width start end here columns c cs inside blank))
            (subst (λ u. AreFirstFit width start u (lines_from width start end next (columns + cluster_width c) cs)) (ap (λ u. u ++ cs) (sym (append_assoc shown gap (c ∷ []))) ∙ append_assoc (shown ++ gap) (c ∷ []) cs)
            (fills cs width start end next (columns + cluster_width c) shown (gap ++ c ∷ []) some.1 (filling-blank width start end here columns shown gap c cs at some.0 blank)))
        | inr solid ↦ (
            let word : IsOfWord c = record { inside = inside; solid = solid } in
            let again = fills cs width here next next (cluster_width c) (c ∷ []) [] some.1 (filling-word width here c cs word some.0) in
            elim (cases_Bool ((here == start) || nat_le (columns + more_at end here c cs) width)) [
              | inl stays ↦ subst P (sym (line-stays width start end here columns c cs word stays))
                  (subst (λ u. AreFirstFit width start u (lines_from width start next next (columns + cluster_width c) cs)) (ap (λ u. u ++ cs) (append-nil ((shown ++ gap) ++ c ∷ [])) ∙ append_assoc (shown ++ gap) (c ∷ []) cs)
                  (fills cs width start next next (columns + cluster_width c) ((shown ++ gap) ++ c ∷ []) [] some.1 (filling-stays width start end here columns shown gap c cs at some.0 word (has_room stays))))
              | inr no_room ↦ (
                  let parts = or_parts (here == start) _ no_room in
                  let wide : width < columns + more_at end here c cs = leb-false _ _ parts.1 in
                  let further : start < here = beyond at (λ same. eqb-false here start parts.0 same) in
                  elim (cases_lt start end) [
                    | inl shows ↦ subst P (sym (line-leaves width start end here columns c cs word no_room shows))
                        (fills-leaves width start end here columns shown gap c cs at some.0 word wide further shows _ again)
                    | inr none ↦ (
                        let same : end ≡ start = omega (arith, none, at.ends) in
                        subst P (sym (line-indents width start end here columns c cs word no_room same))
                        (fills-indent width start end here columns shown gap c cs at some.0 word wide further same _ again))
                  ])
            ])
      ]
    ]
  where
    has_room : ((here == start) || nat_le (columns + more_at end here c cs) width) ≡ true → (here ≡ start) ⊎ (columns + more_at end here c cs ≤ width)
    has_room stays = ⊎_elim (λ e. inl (eqb-true here start e)) (λ e. inr (leb-true _ width e)) (or_cases (here == start) _ stays)

    beyond : IsFilling width shown gap (c ∷ cs) start end here columns → (here ≡ start → ⊥) → start < here
    beyond filling other = elim (cases_lt start here) [
      | inl less ↦ less
      | inr past ↦ absurd (other (omega (arith, past, filling.ends, filling.read)))
    ]

-- the lines of a text are those of first fit
pub lines-first_fit : (width : ℕ) (x : List ℕ) → IsFirstFit width (clusters x) (lines width x)
unfolding segments
lines-first_fit width x = fills (clusters x) (max width 1) 0 0 0 0 [] [] (segments_nonempty (is_grapheme_break true) x) (filling-none (max width 1) 0 (clusters x))
