-- First fit has one solution.
use Rattle.std.proofs.Common.{◌≡◌, ℕ, ◌+◌, ◌<◌, ◌≤◌, max, ◌⊎◌, inl, inr, Bool, true, false, not, ◌==◌, List, [], ◌∷◌, ◌++◌, length, take, refl, sym, ◌∙◌, ap, ap₂, subst, arith, append_assoc, append-nil, length-append, if◌then◌else◌}
use Rattle.std.specs.List.{list_all}
use Rattle.std.proofs.lemmas.Bool.{cases_Bool, cases_lt, and_parts, and_from, ne_eqb, not-true}
use Rattle.std.proofs.lemmas.List.{append_cancel_left, nil_from_length}
use Rattle.std.proofs.lemmas.List.Folds.{list_all-append}
use Rattle.ansi_clusters.specs.Columns.{columns_of, bytes_of}
use Rattle.ansi_clusters.specs.Lines.{is_line_end, is_blank}
use Rattle.ansi_clusters.specs.FirstFit.{is_of_word, front_of, rest_of, blanks_of, word_of, left_out, needed, IsFilled, IsFirstLine, AreFirstFit, IsFirstFit}
use Rattle.ansi_clusters.proofs.LineLemmas.{IsOfWord}
use Rattle.ansi_clusters.proofs.FirstFitLemmas.{Clusters, AreAfter, AreNext, columns_of-append, columns_of-cons, of_word-is, of_word-blank, front-stops, front-goes_on, blanks-then, word-then}

-- Clusters are blanks, or blanks and then others of which the first is none.

divided : (d : Clusters) → (g : Clusters) × (list_all is_blank g ≡ true) × ((d ≡ g) ⊎ ((c : List ℕ) × (e : Clusters) × (d ≡ g ++ c ∷ e) × (is_blank c ≡ false)))
divided [] = ([], refl, inl refl)
divided (c ∷ cs) = elim (cases_Bool (is_blank c)) [
  | inl blank ↦
      let later = divided cs in (
        c ∷ later.0,
        and_from _ _ blank later.1,
        elim later.2 [
          | inl all ↦ inl (ap (λ ds. c ∷ ds) all)
          | inr other ↦ inr (other.0, other.1, ap (λ ds. c ∷ ds) other.2, other.3)
        ],
      )
  | inr solid ↦ ([], refl, inr (c, cs, refl, solid))
]

last_blank : (b : List ℕ) (g : Clusters) → list_all is_blank (b ∷ g) ≡ true → (front : Clusters) × (c : List ℕ) × (b ∷ g ≡ front ++ c ∷ []) × (is_blank c ≡ true)
last_blank b [] are = ([], b, refl, (and_parts _ _ are).0)
last_blank b (d ∷ g) are = (let later = last_blank d g (and_parts (is_blank b) _ are).1 in (b ∷ later.0, later.1, ap (λ ds. b ∷ ds) later.2, later.3))

-- the word that goes on after clusters is in them, if none goes on after their end
not_wider : (e after : Clusters) → length (front_of is_of_word after) ≡ 0 → columns_of (front_of is_of_word (e ++ after)) ≤ columns_of e
not_wider [] after none = omega (arith, ap columns_of (nil_from_length (front_of is_of_word after) none))
not_wider (c ∷ e) after none = elim (cases_Bool (is_of_word c)) [
  | inl of_word ↦ omega (arith, ap columns_of (front-goes_on is_of_word c (e ++ after) of_word), columns_of-cons c (front_of is_of_word (e ++ after)), columns_of-cons c e, not_wider e after none)
  | inr other ↦ omega (arith, ap columns_of (front-stops is_of_word c (e ++ after) other))
]

-- No line is longer than another one that begins at the same place.

abbrev is_inside : List ℕ → Bool
is_inside c = not (is_line_end c)

module _ (width : ℕ) (shown after : Clusters) where
  -- if it has nothing more but blanks
  no_blanks_more : (g : Clusters) → list_all is_blank g ≡ true → IsFilled width (shown ++ g) after → g ≡ []
  no_blanks_more [] are second = refl
  no_blanks_more (b ∷ g) are second =
      let last = last_blank b g are in
      absurd (cc (sym (second.trimmed (shown ++ last.0) last.1 (ap (λ u. shown ++ u) last.2 ∙ sym (append_assoc shown last.0 (last.1 ∷ [])))) ∙ last.3))

  -- if it has a cluster of a word more
  module _ (c : List ℕ) (e : Clusters) (solid : is_blank c ≡ false) where
    word-is : (g : Clusters) → IsFilled width (shown ++ (g ++ c ∷ e)) after → IsOfWord c
    word-is g second =
        let some = and_parts (list_all is_inside shown) _ (sym (list_all-append is_inside shown (g ++ c ∷ e)) ∙ second.on_line) in
        let rest = and_parts (list_all is_inside g) _ (sym (list_all-append is_inside g (c ∷ e)) ∙ some.1) in
        record { inside = not-true (is_line_end c) (and_parts (is_inside c) _ rest.1).0; solid = solid }

    too_wide : (g : Clusters) → 1 < length (shown ++ (g ++ c ∷ e)) → width < columns_of (shown ++ (g ++ c ∷ e)) → IsFilled width (shown ++ (g ++ c ∷ e)) after → ⊥
    too_wide g long wide second = elim second.fits [
      | inl fits ↦ omega (arith, fits, wide)
      | inr one ↦ omega (arith, one, long)
    ]

    no_word_more : (g : Clusters) → list_all is_blank g ≡ true → IsFilled width shown (g ++ c ∷ (e ++ after)) → IsFilled width (shown ++ (g ++ c ∷ e)) after → ⊥
    no_word_more [] are first second =
        let others = e ++ after in
        let word = word-is [] second in
        let begins = ap length (front-goes_on is_of_word c others (of_word-is c word)) in
        let some = (first.broken (omega (arith, begins))).0 in
        let one : needed (c ∷ others) ≡ c ∷ [] = ap (λ g. if length g == 0 then c ∷ [] else g ++ word_of (c ∷ others)) (front-stops is_blank c others solid) in
        let wide : width < columns_of (shown ++ needed (c ∷ others)) = first.full (omega (arith, begins, ap length (word-then [] refl c others solid))) in
        too_wide [] (omega (arith, some, length-append shown (c ∷ e)))
        (omega (arith, wide, ap (λ n. columns_of (shown ++ n)) one, columns_of-append shown (c ∷ []), columns_of-append shown (c ∷ e), columns_of-cons c e, columns_of-cons c [])) second
    no_word_more (b ∷ g) are first second =
        let others = e ++ after in
        let gap = b ∷ g in
        let word = word-is gap second in
        let begins = front-goes_on is_of_word c others (of_word-is c word) in
        let all : needed (gap ++ c ∷ others) ≡ gap ++ front_of is_of_word (c ∷ others)
        = ap₂ (λ u w. if length u == 0 then take 1 (gap ++ c ∷ others) else u ++ w) (blanks-then gap are c others solid) (word-then gap are c others solid)
        ∙ ap (λ n. if n then take 1 (gap ++ c ∷ others) else gap ++ front_of is_of_word (c ∷ others)) (ne_eqb (length gap) 0 (λ none. omega (arith, none))) in
        let wide : width < columns_of (shown ++ needed (gap ++ c ∷ others)) = first.full (omega (arith, ap length begins, ap length (word-then gap are c others solid))) in
        elim (cases_lt 0 (length (front_of is_of_word after))) [
          | inl goes_on ↦ (
              let all_of_word = (second.broken goes_on).1 in
              let some = and_parts (list_all is_of_word shown) _ (sym (list_all-append is_of_word shown (gap ++ c ∷ e)) ∙ all_of_word) in
              absurd (cc (sym (of_word-blank b (and_parts (is_blank b) _ are).0) ∙ (and_parts (is_of_word b) _ some.1).0)))
          | inr ends ↦ too_wide gap (omega (arith, length-append shown (gap ++ c ∷ e), length-append g (c ∷ e)))
              (omega (
                arith,
                wide,
                ap (λ n. columns_of (shown ++ n)) all,
                columns_of-append shown (gap ++ front_of is_of_word (c ∷ others)),
                columns_of-append gap (front_of is_of_word (c ∷ others)),
                ap columns_of begins,
                columns_of-cons c (front_of is_of_word others),
                not_wider e after (omega (arith, ends)),
                columns_of-append shown (gap ++ c ∷ e),
                columns_of-append gap (c ∷ e),
                columns_of-cons c e,
              )) second
        ]

  no_longer : (d : Clusters) → IsFilled width shown (d ++ after) → IsFilled width (shown ++ d) after → d ≡ []
  no_longer d first second =
      let parts = divided d in
      elim parts.2 [
        | inl all ↦ all ∙ no_blanks_more parts.0 parts.1 (subst (λ u. IsFilled width (shown ++ u) after) all second)
        | inr other ↦ absurd (
            no_word_more other.0 other.1 other.3 parts.0 parts.1
            (subst (IsFilled width shown) (ap (λ u. u ++ after) other.2 ∙ append_assoc parts.0 (other.0 ∷ other.1) after) first)
            (subst (λ u. IsFilled width (shown ++ u) after) other.2 second))
      ]

-- So it is the same line.

split_either : (xs ys us vs : Clusters) → xs ++ ys ≡ us ++ vs → ((d : Clusters) × (us ≡ xs ++ d) × (ys ≡ d ++ vs)) ⊎ ((d : Clusters) × (xs ≡ us ++ d) × (vs ≡ d ++ ys))
split_either [] ys us vs same = inl (us, refl, same)
split_either (x ∷ xs) ys [] vs same = inr (x ∷ xs, refl, sym same)
split_either (x ∷ xs) ys (u ∷ us) vs same =
    let head : x ≡ u = cc same in
    let tail : xs ++ ys ≡ us ++ vs = cc same in
    elim (split_either xs ys us vs tail) [
      | inl more ↦ inl (more.0, ap₂ (λ a b. a ∷ b) (sym head) more.1, more.2)
      | inr more ↦ inr (more.0, ap₂ (λ a b. a ∷ b) head more.1, more.2)
    ]

abbrev AreSame : Clusters → Clusters → Clusters → Clusters → Type 0
AreSame shown after shown' after' = (shown ≡ shown') × (after ≡ after')

longer-same : (width : ℕ) (shown d after : Clusters) (shown' after' : Clusters) → shown' ≡ shown ++ d → after ≡ d ++ after' → IsFilled width shown after → IsFilled width shown' after' → AreSame shown after shown' after'
longer-same width shown d after shown' after' shown_is after_is first second =
    let none = no_longer width shown after' d (subst (IsFilled width shown) after_is first) (subst (λ u. IsFilled width u after') shown_is second) in
    (sym (shown_is ∙ ap (λ u. shown ++ u) none ∙ append-nil shown), after_is ∙ ap (λ u. u ++ after') none)

module _ (width place : ℕ) (cs shown after shown' after' : Clusters) (line line' : ℕ × ℕ) (first : IsFirstLine width place cs shown after line) (second : IsFirstLine width place cs shown' after' line') where
  same-shown : AreSame shown after shown' after'
  same-shown =
      let left = left_out width cs in
      let same : shown ++ after ≡ shown' ++ after'
      = append_cancel_left left (shown ++ after) (shown' ++ after') (sym (append_assoc left shown after) ∙ sym first.all ∙ second.all ∙ append_assoc left shown' after') in
      elim (split_either shown after shown' after' same) [
        | inl more ↦ longer-same width shown more.0 after shown' after' more.1 more.2 first.filled second.filled
        | inr more ↦ (let back = longer-same width shown' more.0 after' shown after more.1 more.2 second.filled first.filled in (sym back.0, sym back.1))
      ]

  same-line : line ≡ line'
  same-line =
      let start : line.0 ≡ line'.0 = first.start ∙ sym second.start in
      let end : line.1 ≡ line'.1 = omega (arith, first.end, second.end, start, ap bytes_of same-shown.0) in
      ap₂ (λ a b. (a, b)) start end

after-unique : (ends : Bool) (width next : ℕ) (c : List ℕ) (rest : Clusters) (lines lines' : List (ℕ × ℕ)) → ((place : ℕ) (cs : Clusters) → AreFirstFit width place cs lines → AreFirstFit width place cs lines' → lines ≡ lines')
    → AreAfter ends width next c rest lines → AreAfter ends width next c rest lines' → lines ≡ lines'
after-unique true width next c rest lines lines' same first second = same _ rest first second
after-unique false width next c rest lines lines' same first second = same next (c ∷ rest) first second

next-unique : (width next : ℕ) (cs : Clusters) (lines lines' : List (ℕ × ℕ)) → ((place : ℕ) (cs : Clusters) → AreFirstFit width place cs lines → AreFirstFit width place cs lines' → lines ≡ lines')
    → AreNext width next cs lines → AreNext width next cs lines' → lines ≡ lines'
next-unique width next [] lines lines' same first second = first ∙ sym second
next-unique width next (c ∷ rest) lines lines' same first second = after-unique (is_line_end c) width next c rest lines lines' same first second

unique : (width place : ℕ) (cs : Clusters) (lines lines' : List (ℕ × ℕ)) → AreFirstFit width place cs lines → AreFirstFit width place cs lines' → lines ≡ lines'
unique width place cs [] lines' first second = absurd first
unique width place cs (line ∷ lines) [] first second = absurd second
unique width place cs (line ∷ lines) (line' ∷ lines') first second =
    let same = same-shown width place cs first.0 first.1 second.0 second.1 line line' first.2 second.2 in
    let the_line = same-line width place cs first.0 first.1 second.0 second.1 line line' first.2 second.2 in
    let later : AreNext width (line.1 + bytes_of (blanks_of first.1)) (rest_of is_blank first.1) lines'
    = subst (λ a. AreNext width (line.1 + bytes_of (blanks_of a)) (rest_of is_blank a) lines') (sym same.1)
    (subst (λ (l : ℕ × ℕ). AreNext width (l.1 + bytes_of (blanks_of second.1)) (rest_of is_blank second.1) lines') (sym the_line) second.3) in
    ap₂ (λ l ls. l ∷ ls) the_line
    (next-unique width (line.1 + bytes_of (blanks_of first.1)) (rest_of is_blank first.1) lines lines' (λ place' cs'. unique width place' cs' lines lines') first.3 later)

pub first_fit-unique : (width : ℕ) (cs : Clusters) (lines lines' : List (ℕ × ℕ)) → IsFirstFit width cs lines → IsFirstFit width cs lines' → lines ≡ lines'
first_fit-unique width cs lines lines' first second = unique (max width 1) 0 cs lines lines' first second
