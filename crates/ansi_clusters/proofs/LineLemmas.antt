-- The lines of clusters that are read one after another.
use Rattle.std.proofs.Common.{◌≡◌, ℕ, ◌+◌, ◌<◌, ◌≤◌, Bool, true, false, ◌||◌, ◌==◌, nat_le, List, [], ◌∷◌, ◌++◌, length, encode_utf8_all, refl, sym, ◌∙◌, ap, subst, arith, zero-add, if◌then◌else◌}
use Rattle.std.proofs.lemmas.Bool.{eq-eqb, ne_eqb, le-leb, lt-leb, or_right, or_from, cond_both}
use Rattle.ansi_clusters.specs.Columns.{cluster_width}
use Rattle.ansi_clusters.specs.Lines.{is_line_end, is_blank, word_columns, lines_from}

-- a cluster is one of a word
pub record IsOfWord (c : List ℕ) : Type 0 where
  pub inside : is_line_end c ≡ false
  pub solid : is_blank c ≡ false

abbrev pub AreOfWord : List (List ℕ) → Type 0
AreOfWord [] = Unit
AreOfWord (c ∷ cs) = IsOfWord c × AreOfWord cs

-- the end of clusters that begin at a place
abbrev pub place_after : ℕ → List (List ℕ) → ℕ
place_after n [] = n
place_after n (c ∷ cs) = place_after (n + length (encode_utf8_all c)) cs

-- how many columns there are after clusters
abbrev pub columns_after : ℕ → List (List ℕ) → ℕ
columns_after n [] = n
columns_after n (c ∷ cs) = columns_after (n + cluster_width c) cs

-- the columns that have to fit for a cluster to stay
abbrev pub more_at : ℕ → ℕ → List ℕ → List (List ℕ) → ℕ
more_at end here c cs = if here == end then cluster_width c else word_columns (c ∷ cs)

module _ (width start end here columns : ℕ) (c : List ℕ) (cs : List (List ℕ)) where
  abbrev next : ℕ
  next = here + length (encode_utf8_all c)

  abbrev more : ℕ
  more = more_at end here c cs

  abbrev fits_here : Bool
  fits_here = (here == start) || nat_le (columns + more) width

  abbrev ended : List (ℕ × ℕ)
  ended = (start, end) ∷ lines_from width next next next 0 cs

  abbrev blank : List (ℕ × ℕ)
  blank = lines_from width start end next (columns + cluster_width c) cs

  abbrev stays : List (ℕ × ℕ)
  stays = lines_from width start next next (columns + cluster_width c) cs

  abbrev leaves : List (ℕ × ℕ)
  leaves = (start, end) ∷ lines_from width here next next (cluster_width c) cs

  abbrev begins : List (ℕ × ℕ)
  begins = lines_from width here next next (cluster_width c) cs

  abbrev without_room : Bool → List (ℕ × ℕ)
  without_room is_first = elim is_first [
    | true ↦ begins
    | false ↦ leaves
  ]

  abbrev in_word : Bool → List (ℕ × ℕ)
  in_word fits = elim fits [
    | true ↦ stays
    | false ↦ without_room (end == start)
  ]

  abbrev in_line : Bool → Bool → List (ℕ × ℕ)
  in_line is_blank fits = elim is_blank [
    | true ↦ blank
    | false ↦ in_word fits
  ]

  abbrev by_kind : Bool → Bool → Bool → List (ℕ × ℕ)
  by_kind is_end is_blank fits = elim is_end [
    | true ↦ ended
    | false ↦ in_line is_blank fits
  ]

  opened : lines_from width start end here columns (c ∷ cs) ≡ by_kind (is_line_end c) (is_blank c) fits_here
  unfolding lines_from
  opened = refl

  -- what is so of the lines of each of the five ways to go on is so of the lines
  pub line-any : (P : List (ℕ × ℕ) → Type 0) → P ended → P blank → P stays → P begins → P leaves → P (lines_from width start end here columns (c ∷ cs))
  line-any P if_ended if_blank if_stays if_begins if_leaves = subst P (sym opened) (either (is_line_end c) (is_blank c) fits_here)
    where
      room : (a : Bool) → P (without_room a)
      room true = if_begins
      room false = if_leaves

      either : (a b d : Bool) → P (by_kind a b d)
      either true b d = if_ended
      either false true d = if_blank
      either false false true = if_stays
      either false false false = room (end == start)

  pub line-ends : is_line_end c ≡ true → lines_from width start end here columns (c ∷ cs) ≡ (start, end) ∷ lines_from width next next next 0 cs
  line-ends ends = opened ∙ ap (λ b. by_kind b (is_blank c) fits_here) ends

  pub line-blank : is_line_end c ≡ false → is_blank c ≡ true → lines_from width start end here columns (c ∷ cs) ≡ lines_from width start end next (columns + cluster_width c) cs
  line-blank inside is = opened ∙ ap (λ b. by_kind b (is_blank c) fits_here) inside ∙ ap (λ b. in_line b fits_here) is

  pub line-stays : IsOfWord c → ((here == start) || nat_le (columns + more) width) ≡ true → lines_from width start end here columns (c ∷ cs) ≡ lines_from width start next next (columns + cluster_width c) cs
  line-stays word fits = opened ∙ ap (λ b. by_kind b (is_blank c) fits_here) word.inside ∙ ap (λ b. in_line b fits_here) word.solid ∙ ap in_word fits

  no_room : IsOfWord c → ((here == start) || nat_le (columns + more) width) ≡ false → lines_from width start end here columns (c ∷ cs) ≡ without_room (end == start)
  no_room word fits = opened ∙ ap (λ b. by_kind b (is_blank c) fits_here) word.inside ∙ ap (λ b. in_line b fits_here) word.solid ∙ ap in_word fits

  pub line-leaves : IsOfWord c → ((here == start) || nat_le (columns + more) width) ≡ false → start < end → lines_from width start end here columns (c ∷ cs) ≡ (start, end) ∷ lines_from width here next next (cluster_width c) cs
  line-leaves word fits some = no_room word fits ∙ ap without_room (ne_eqb end start (λ e. omega (arith, some, e)))

  pub line-indents : IsOfWord c → ((here == start) || nat_le (columns + more) width) ≡ false → end ≡ start → lines_from width start end here columns (c ∷ cs) ≡ lines_from width here next next (cluster_width c) cs
  line-indents word fits none = no_room word fits ∙ ap without_room (eq-eqb end start none)

  pub more-inside : here ≡ end → more ≡ cluster_width c
  more-inside inside = rw (eq-eqb here end inside) refl

  pub more-word : end < here → more ≡ word_columns (c ∷ cs)
  more-word after = rw (ne_eqb here end (λ e. omega (arith, after, e))) refl

  pub line-begins : IsOfWord c → here ≡ start → lines_from width start end here columns (c ∷ cs) ≡ lines_from width start next next (columns + cluster_width c) cs
  line-begins word begins = line-stays word (rw (eq-eqb here start begins) refl)

  pub line-inside : IsOfWord c → here ≡ end → columns + cluster_width c ≤ width → lines_from width start end here columns (c ∷ cs) ≡ lines_from width start next next (columns + cluster_width c) cs
  line-inside word inside fits = line-stays word (or_right (here == start) _ (le-leb (columns + more) width (omega (arith, fits, more-inside inside))))

  pub line-breaks : IsOfWord c → here ≡ end → start < here → width < columns + cluster_width c
      → lines_from width start end here columns (c ∷ cs) ≡ (start, end) ∷ lines_from width here next next (cluster_width c) cs
  line-breaks word inside begun wide = line-leaves word
      (or_from (here == start) _ (ne_eqb here start (λ e. omega (arith, begun, e))) (lt-leb (columns + more) width (omega (arith, wide, more-inside inside)))) (omega (arith, begun, inside))

  pub line-word : IsOfWord c → end < here → columns + word_columns (c ∷ cs) ≤ width → lines_from width start end here columns (c ∷ cs) ≡ lines_from width start next next (columns + cluster_width c) cs
  line-word word after fits = line-stays word (or_right (here == start) _ (le-leb (columns + more) width (omega (arith, fits, more-word after))))

  no_word_fits : end < here → start < here → width < columns + word_columns (c ∷ cs) → ((here == start) || nat_le (columns + more) width) ≡ false
  no_word_fits after begun wide = or_from (here == start) _ (ne_eqb here start (λ e. omega (arith, begun, e))) (lt-leb (columns + more) width (omega (arith, wide, more-word after)))

  pub line-moves : IsOfWord c → end < here → start < end → width < columns + word_columns (c ∷ cs)
      → lines_from width start end here columns (c ∷ cs) ≡ (start, end) ∷ lines_from width here next next (cluster_width c) cs
  line-moves word after some wide = line-leaves word (no_word_fits after (omega (arith, after, some)) wide) some

  pub line-skips : IsOfWord c → end < here → end ≡ start → width < columns + word_columns (c ∷ cs)
      → lines_from width start end here columns (c ∷ cs) ≡ lines_from width here next next (cluster_width c) cs
  line-skips word after none wide = line-indents word (no_word_fits after (omega (arith, after, none)) wide) none

-- a line that begins with a word, whatever was before it
pub line-opens : (width here : ℕ) (c : List ℕ) (cs : List (List ℕ)) → IsOfWord c
    → lines_from width here here here 0 (c ∷ cs) ≡ (let next = here + length (encode_utf8_all c) in lines_from width here next next (cluster_width c) cs)
line-opens width here c cs word =
    let next = here + length (encode_utf8_all c) in
    line-begins width here here here 0 c cs word refl ∙ ap (λ n. lines_from width here next next n cs) (zero-add (cluster_width c))

pub line-last : (width start end here columns : ℕ) → lines_from width start end here columns [] ≡ (start, end) ∷ []
unfolding lines_from
line-last width start end here columns = refl

-- the clusters don't begin with a word
pub no_word-none : word_columns [] ≡ 0
unfolding word_columns
no_word-none = refl

pub no_word-blank : (c : List ℕ) (cs : List (List ℕ)) → is_blank c ≡ true → word_columns (c ∷ cs) ≡ 0
unfolding word_columns
no_word-blank c cs blank = rw blank refl

pub no_word-end : (c : List ℕ) (cs : List (List ℕ)) → is_line_end c ≡ true → word_columns (c ∷ cs) ≡ 0
unfolding word_columns
no_word-end c cs ends = rw (or_right (is_blank c) (is_line_end c) ends) refl

word_columns-cons : (c : List ℕ) (cs : List (List ℕ)) → IsOfWord c → word_columns (c ∷ cs) ≡ cluster_width c + word_columns cs
unfolding word_columns
word_columns-cons c cs word = rw (word.inside, word.solid) refl

-- they are those of the cluster at least
pub more-least : (end here : ℕ) (c : List ℕ) (cs : List (List ℕ)) → IsOfWord c → cluster_width c ≤ more_at end here c cs
more-least end here c cs word = cond_both (here == end) (cluster_width c) (word_columns (c ∷ cs)) (λ n. cluster_width c ≤ n) (λ _. omega arith) (λ _. omega (arith, word_columns-cons c cs word))

pub place_after-ge : (n : ℕ) (cs : List (List ℕ)) → n ≤ place_after n cs
place_after-ge n [] = omega arith
place_after-ge n (c ∷ cs) = omega (arith, place_after-ge (n + length (encode_utf8_all c)) cs)

columns_after-ge : (n : ℕ) (cs : List (List ℕ)) → n ≤ columns_after n cs
columns_after-ge n [] = omega arith
columns_after-ge n (c ∷ cs) = omega (arith, columns_after-ge (n + cluster_width c) cs)

pub place_after-push : (n : ℕ) (cs : List (List ℕ)) (c : List ℕ) → place_after n (cs ++ c ∷ []) ≡ place_after n cs + length (encode_utf8_all c)
place_after-push n [] c = refl
place_after-push n (d ∷ cs) c = place_after-push (n + length (encode_utf8_all d)) cs c

pub columns_after-push : (n : ℕ) (cs : List (List ℕ)) (c : List ℕ) → columns_after n (cs ++ c ∷ []) ≡ columns_after n cs + cluster_width c
columns_after-push n [] c = refl
columns_after-push n (d ∷ cs) c = columns_after-push (n + cluster_width d) cs c

pub of_word-push : (cs : List (List ℕ)) (c : List ℕ) → AreOfWord cs → IsOfWord c → AreOfWord (cs ++ c ∷ [])
of_word-push [] c are is = (is, tt)
of_word-push (d ∷ cs) c are is = (are.0, of_word-push cs c are.1 is)

-- the columns of a word that begins with such clusters: exactly theirs if it ends after them, and more if it goes on
word-whole : (n : ℕ) (seen rest : List (List ℕ)) → AreOfWord seen → word_columns rest ≡ 0 → n + word_columns (seen ++ rest) ≡ columns_after n seen
word-whole n [] rest are none = omega (arith, none)
word-whole n (c ∷ seen) rest are none = omega (arith, word_columns-cons c (seen ++ rest) are.0, word-whole (n + cluster_width c) seen rest are.1 none)

pub word-least : (n : ℕ) (seen : List (List ℕ)) (c : List ℕ) (cs : List (List ℕ)) → AreOfWord seen → IsOfWord c → columns_after n seen + cluster_width c ≤ n + word_columns (seen ++ c ∷ cs)
word-least n [] c cs are is = omega (arith, word_columns-cons c cs is)
word-least n (d ∷ seen) c cs are is = omega (arith, word_columns-cons d (seen ++ c ∷ cs) are.0, word-least (n + cluster_width d) seen c cs are.1 is)

-- clusters of a word stay on the line one after another if all of them fit
word-goes_on : (width start here columns : ℕ) (seen rest : List (List ℕ)) → AreOfWord seen → columns_after columns seen ≤ width
    → lines_from width start here here columns (seen ++ rest) ≡ lines_from width start (place_after here seen) (place_after here seen) (columns_after columns seen) rest
word-goes_on width start here columns [] rest are fits = refl
word-goes_on width start here columns (c ∷ seen) rest are fits =
    let next = here + length (encode_utf8_all c) in
    line-inside width start here here columns c (seen ++ rest) are.0 refl (omega (arith, fits, columns_after-ge (columns + cluster_width c) seen))
    ∙ word-goes_on width start next (columns + cluster_width c) seen rest are.1 fits

-- A word of such clusters that begins after a blank stays on the line if all of it fits ..
pub word-stays : (width start end here columns : ℕ) (c : List ℕ) (seen rest : List (List ℕ)) → AreOfWord (c ∷ seen) → end < here → columns_after columns (c ∷ seen) ≤ width → word_columns rest ≡ 0
    → lines_from width start end here columns ((c ∷ seen) ++ rest) ≡ lines_from width start (place_after here (c ∷ seen)) (place_after here (c ∷ seen)) (columns_after columns (c ∷ seen)) rest
word-stays width start end here columns c seen rest are after fits none =
    line-word width start end here columns c (seen ++ rest) are.0 after (omega (arith, fits, word-whole columns (c ∷ seen) rest are none))
    ∙ word-goes_on width start (here + length (encode_utf8_all c)) (columns + cluster_width c) seen rest are.1 fits

-- .. and otherwise begins another line, or this one, if only blanks stand before it.
pub word-moves : (width start end here columns : ℕ) (c : List ℕ) (cs : List (List ℕ)) → IsOfWord c → end < here → start < end → width < columns + word_columns (c ∷ cs)
    → lines_from width start end here columns (c ∷ cs) ≡ (start, end) ∷ lines_from width here here here 0 (c ∷ cs)
word-moves width start end here columns c cs word after some wide =
    line-moves width start end here columns c cs word after some wide ∙ ap (λ ls. (start, end) ∷ ls) (sym (line-opens width here c cs word))

pub word-skips : (width start end here columns : ℕ) (c : List ℕ) (cs : List (List ℕ)) → IsOfWord c → end < here → end ≡ start → width < columns + word_columns (c ∷ cs)
    → lines_from width start end here columns (c ∷ cs) ≡ lines_from width here here here 0 (c ∷ cs)
word-skips width start end here columns c cs word after none wide =
    line-skips width start end here columns c cs word after none wide ∙ sym (line-opens width here c cs word)
