-- The state of a walk over one line.
use Rattle.std.proofs.Common.{◌≡◌, ◌≢◌, ℕ, ◌+◌, ◌-◌, ◌<◌, ◌≤◌, ◌⊎◌, inl, inr, true, false, List, [], ◌∷◌, ◌++◌, length, encode_utf8_all, refl, sym, ◌∙◌, ap, arith, append_assoc}
use Rattle.ansi_clusters.specs.Columns.{cluster_width}
use Rattle.ansi_clusters.specs.Lines.{is_line_end, is_blank, word_columns, lines_from}
use Rattle.ansi_clusters.proofs.LineLemmas.{IsOfWord, AreOfWord, place_after, columns_after, line-ends, line-blank, line-begins, line-inside, line-breaks, line-opens, line-last, no_word-none, no_word-blank, no_word-end, place_after-ge, place_after-push, columns_after-push, of_word-push, word-least, word-stays, word-moves, word-skips}

-- the lines from the place n on, if `cl` says which clusters come next at a place
abbrev pub lines_at : (ℕ → List (List ℕ)) → ℕ → ℕ → List (ℕ × ℕ)
lines_at cl width n = lines_from width n n n 0 (cl n)

-- The line that begins at `start` is read up to `here`, with `columns` columns. Its words end at `end`, and the one that is read begins at `word`.

-- it is the first one, at the beginning of the line
pub record IsFirstWord (cl : ℕ → List (List ℕ)) (width start word end here columns : ℕ) : Type 0 where
  pub begins : word ≡ start
  pub ends : end ≡ here
  pub lines : lines_at cl width start ≡ lines_from width start here here columns (cl here)

-- the end of the words after such clusters of the last word, all of which fit
abbrev pub Ends : ℕ → ℕ → ℕ → ℕ → ℕ → List (List ℕ) → Type 0
Ends width before end here columns [] = end ≡ before
Ends width before end here columns (c ∷ cs) = (end ≡ here) × (columns ≤ width)

-- it is another one, and those before it end at `before`
pub record IsLaterWord (cl : ℕ → List (List ℕ)) (width start before word end here columns : ℕ) : Type 0 where
  pub earlier : ℕ
  pub seen : List (List ℕ)
  pub begun : start < word
  pub after : before < word
  pub ahead : cl word ≡ seen ++ cl here
  pub lines : lines_at cl width start ≡ lines_from width start before word earlier (cl word)
  pub of_word : AreOfWord seen
  pub read : here ≡ place_after word seen
  pub counted : columns ≡ columns_after earlier seen
  pub ends : Ends width before end here columns seen

abbrev pub IsLineTo : (ℕ → List (List ℕ)) → ℕ → ℕ → ℕ → ℕ → ℕ → ℕ → ℕ → Type 0
IsLineTo cl width start before word end here columns = IsFirstWord cl width start word end here columns ⊎ IsLaterWord cl width start before word end here columns

module _ (cl : ℕ → List (List ℕ)) (width start before word end here columns : ℕ) where
  abbrev rest : List (List ℕ)
  rest = cl here

  later-settled : (earlier : ℕ) (seen : List (List ℕ)) → before < word → lines_at cl width start ≡ lines_from width start before word earlier (cl word) → cl word ≡ seen ++ rest
      → AreOfWord seen → here ≡ place_after word seen → columns ≡ columns_after earlier seen → Ends width before end here columns seen → word_columns rest ≡ 0
      → lines_at cl width start ≡ lines_from width start end here columns rest
  later-settled earlier [] after lines ahead are place_is total_is ends none =
      lines ∙ ap (lines_from width start before word earlier) ahead ∙ ap (λ n. lines_from width start before word n rest) (sym total_is)
      ∙ ap (λ n. lines_from width start before n columns rest) (sym place_is) ∙ ap (λ n. lines_from width start n here columns rest) (sym ends)
  later-settled earlier (c ∷ seen) after lines ahead are place_is total_is ends none =
      lines ∙ ap (lines_from width start before word earlier) ahead
      ∙ word-stays width start before word earlier c seen rest are after (omega (arith, ends.1, total_is)) none
      ∙ ap (λ n. lines_from width start (place_after word (c ∷ seen)) (place_after word (c ∷ seen)) n rest) (sym total_is)
      ∙ ap (λ n. lines_from width start n n columns rest) (sym place_is) ∙ ap (λ n. lines_from width start n here columns rest) (sym ends.0)

  -- the clusters read so far are a line by themselves, if no word goes on
  settled : IsLineTo cl width start before word end here columns → word_columns rest ≡ 0 → lines_at cl width start ≡ lines_from width start end here columns rest
  settled (inl first) none = first.lines ∙ ap (λ n. lines_from width start n here columns rest) (sym first.ends)
  settled (inr later) none = later-settled later.earlier later.seen later.after later.lines later.ahead later.of_word later.read later.counted later.ends none

  -- nothing is left
  pub line-is_last : IsLineTo cl width start before word end here columns → cl here ≡ [] → lines_at cl width start ≡ (start, end) ∷ []
  line-is_last line none =
      settled line (ap word_columns none ∙ no_word-none) ∙ ap (lines_from width start end here columns) none ∙ line-last width start end here columns

  later-ordered : (seen : List (List ℕ)) → before < word → here ≡ place_after word seen → Ends width before end here columns seen → end ≤ here
  later-ordered [] after place_is ends = omega (arith, place_is, after, ends)
  later-ordered (c ∷ seen) after place_is ends = omega (arith, ends.0)

  ordered : IsLineTo cl width start before word end here columns → end ≤ here
  ordered (inl first) = omega (arith, first.ends)
  ordered (inr later) = later-ordered later.seen later.after later.read later.ends

  -- The next cluster is c, between `here` and `next`.
  module _ (line : IsLineTo cl width start before word end here columns) (begun : start ≤ here) (c : List ℕ) (next more : ℕ) (first : cl here ≡ c ∷ cl next)
      (size : length (encode_utf8_all c) ≡ next - here) (some : here < next) (more_is : more ≡ cluster_width c) where
    abbrev others : List (List ℕ)
    others = cl next

    next_is : here + length (encode_utf8_all c) ≡ next
    next_is = omega (arith, size, some)

    total_is : columns + cluster_width c ≡ columns + more
    total_is = omega (arith, more_is)

    -- it ends the line
    pub line-is_ended : is_line_end c ≡ true → lines_at cl width start ≡ (start, end) ∷ lines_at cl width next
    line-is_ended ends =
        settled line (ap word_columns first ∙ no_word-end c others ends) ∙ ap (lines_from width start end here columns) first
        ∙ line-ends width start end here columns c others ends ∙ ap (λ n. (start, end) ∷ lines_from width n n n 0 others) next_is

    -- it is a blank, and another word may follow
    pub line-goes_on : is_line_end c ≡ false → is_blank c ≡ true → IsLineTo cl width start end next end next (columns + more)
    line-goes_on inside blank = inr (record {
      earlier = columns + more;
      seen = [];
      begun = omega (arith, begun, some);
      after = omega (arith, ordered line, some);
      ahead = refl;
      lines = settled line (ap word_columns first ∙ no_word-blank c others blank) ∙ ap (lines_from width start end here columns) first
          ∙ line-blank width start end here columns c others inside blank
          ∙ ap (λ n. lines_from width start end n (columns + cluster_width c) others) next_is ∙ ap (λ n. lines_from width start end next n others) total_is;
      of_word = tt;
      read = refl;
      counted = refl;
      ends = refl;
    })

    module _ (word_is : IsOfWord c) where
      first-step : IsFirstWord cl width start word end here columns → (here ≡ start) ⊎ (columns + more ≤ width) → lines_from width start here here columns (c ∷ others) ≡ lines_from width start (here + length (encode_utf8_all c)) (here + length (encode_utf8_all c)) (columns + cluster_width c) others
      first-step is (inl begins) = line-begins width start here here columns c others word_is begins
      first-step is (inr fits) = line-inside width start here here columns c others word_is refl (omega (arith, fits, more_is))

      later-ends : (seen : List (List ℕ)) → columns + more ≤ width → Ends width before next next (columns + more) (seen ++ c ∷ [])
      later-ends [] fits = (refl, fits)
      later-ends (d ∷ seen) fits = (refl, fits)

      -- it is one of a word, and has room
      pub line-takes : (here ≡ start) ⊎ (columns + more ≤ width) → IsLineTo cl width start before word next next (columns + more)
      line-takes fits = elim line [
        | inl is ↦ inl (record {
          begins = is.begins;
          ends = refl;
          lines = is.lines ∙ ap (lines_from width start here here columns) first ∙ first-step is fits
              ∙ ap (λ n. lines_from width start n n (columns + cluster_width c) others) next_is ∙ ap (λ n. lines_from width start next next n others) total_is;
        })
        | inr later ↦ inr (record {
          earlier = later.earlier;
          seen = later.seen ++ c ∷ [];
          begun = later.begun;
          after = later.after;
          ahead = later.ahead ∙ ap (λ cs. later.seen ++ cs) first ∙ sym (append_assoc later.seen (c ∷ []) others);
          lines = later.lines;
          of_word = of_word-push later.seen c later.of_word word_is;
          read = sym (place_after-push word later.seen c ∙ ap (λ n. n + length (encode_utf8_all c)) (sym later.read) ∙ next_is);
          counted = sym (columns_after-push later.earlier later.seen c ∙ ap (λ n. n + cluster_width c) (sym later.counted) ∙ total_is);
          ends = later-ends later.seen (elim fits [
            | inl begins ↦ absurd (omega (arith, begins, later.begun, later.read, place_after-ge word later.seen))
            | inr room ↦ room
          ]);
        })
      ]

      -- it is one of the word at the beginning of the line, and has no room: the word is broken
      pub line-is_broken : word ≡ start → start < here → width < columns + more → lines_at cl width start ≡ (start, end) ∷ lines_at cl width here
      line-is_broken begins further wide = elim line [
        | inl is ↦
            is.lines ∙ ap (lines_from width start here here columns) first
            ∙ line-breaks width start here here columns c others word_is refl further (omega (arith, wide, more_is))
            ∙ ap (λ ls. (start, here) ∷ ls) (sym (line-opens width here c others word_is)) ∙ ap (λ cs. (start, here) ∷ lines_from width here here here 0 cs) (sym first)
            ∙ ap (λ n. (start, n) ∷ lines_at cl width here) (sym is.ends)
        | inr later ↦ absurd (omega (arith, begins, later.begun))
      ]

      later-moves : (earlier : ℕ) (seen : List (List ℕ)) → before < word → start < before → AreOfWord seen → columns ≡ columns_after earlier seen → width < columns + more
          → lines_from width start before word earlier (seen ++ c ∷ others) ≡ (start, before) ∷ lines_from width word word word 0 (seen ++ c ∷ others)
      later-moves earlier [] after further are columns_is wide =
          word-moves width start before word earlier c others word_is after further (omega (arith, wide, columns_is, more_is, word-least earlier [] c others tt word_is))
      later-moves earlier (d ∷ seen) after further are columns_is wide =
          word-moves width start before word earlier d (seen ++ c ∷ others) are.0 after further (omega (arith, wide, columns_is, more_is, word-least earlier (d ∷ seen) c others are word_is))

      later-skips : (earlier : ℕ) (seen : List (List ℕ)) → before < word → before ≡ start → AreOfWord seen → columns ≡ columns_after earlier seen → width < columns + more
          → lines_from width start before word earlier (seen ++ c ∷ others) ≡ lines_from width word word word 0 (seen ++ c ∷ others)
      later-skips earlier [] after none are columns_is wide =
          word-skips width start before word earlier c others word_is after none (omega (arith, wide, columns_is, more_is, word-least earlier [] c others tt word_is))
      later-skips earlier (d ∷ seen) after none are columns_is wide =
          word-skips width start before word earlier d (seen ++ c ∷ others) are.0 after none (omega (arith, wide, columns_is, more_is, word-least earlier (d ∷ seen) c others are word_is))

      -- it is one of another word, and has no room: that word begins the next line ..
      pub line-is_left : word ≢ start → start < before → width < columns + more → lines_at cl width start ≡ (start, before) ∷ lines_at cl width word
      line-is_left later_word some wide = elim line [
        | inl is ↦ absurd (later_word is.begins)
        | inr later ↦ (
            let ahead : cl word ≡ later.seen ++ c ∷ others = later.ahead ∙ ap (λ cs. later.seen ++ cs) first in
            later.lines ∙ ap (lines_from width start before word later.earlier) ahead
            ∙ later-moves later.earlier later.seen later.after some later.of_word later.counted wide
            ∙ ap (λ cs. (start, before) ∷ lines_from width word word word 0 cs) (sym ahead))
      ]

      -- .. or this one, if only blanks are before it
      pub line-is_begun : word ≢ start → before ≡ start → width < columns + more → (start < word) × (lines_at cl width start ≡ lines_at cl width word)
      line-is_begun later_word none wide = elim line [
        | inl is ↦ absurd (later_word is.begins)
        | inr later ↦ (
            let ahead : cl word ≡ later.seen ++ c ∷ others = later.ahead ∙ ap (λ cs. later.seen ++ cs) first in (
              later.begun,
              later.lines ∙ ap (lines_from width start before word later.earlier) ahead
                  ∙ later-skips later.earlier later.seen later.after none later.of_word later.counted wide
                  ∙ ap (λ cs. lines_from width word word word 0 cs) (sym ahead),
            ))
      ]
