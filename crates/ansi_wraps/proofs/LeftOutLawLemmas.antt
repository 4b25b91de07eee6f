-- The text between the lines of a text: blanks, and at most one line end among them.
use Rattle.std.proofs.Common.{◌≡◌, ℕ, ◌+◌, ◌-◌, ◌≤◌, max, inl, inr, true, ◌||◌, ◌==◌, nat_le, List, [], ◌∷◌, ◌++◌, length, take, drop, slice_range, codes, flat_map, encode_utf8_all, refl, sym, ◌∙◌, ap, ap₂, subst, arith, append_assoc, append-nil, take_at, drop_at, length-append}
use Rattle.std.specs.Str.{byte, chars, IsUtf8}
use Rattle.std.specs.List.{list_all}
use Rattle.std.proofs.lemmas.Bool.{and_parts, cond_both}
use Rattle.std.proofs.lemmas.List.{replicate-append-replicate}
use Rattle.std.proofs.lemmas.List.Folds.{drop_split}
use Rattle.std.proofs.lemmas.Grind.{flat_map-append}
use Rattle.std.proofs.lemmas.Str.{encodes-chars}
use Rattle.ansi_clusters.specs.Columns.{clusters, columns_of, bytes_of}
use Rattle.ansi_clusters.specs.Lines.{blanks, is_line_end, is_blank, lines, IsLeftOut, AreLinesFrom, BeginWithBlanks, reassembled}
use Rattle.ansi_clusters.specs.FirstFit.{blanks_of, word_of, left_out, AreFirstFit}
use Rattle.ansi_clusters.proofs.FirstFitLemmas.{IsGap, after_line, blank-bytes, line_end-bytes, front-passes, lines-first_fit}
use Rattle.ansi_clusters.proofs.ClusterLawLemmas.{clusters_after-bytes}

-- blanks, and blanks and a line end, may be left out, and further blanks after them

abbrev AreBlanks : List ℕ → Type 0
AreBlanks x = (n : ℕ) × (x ≡ blanks n)

left_out-blanks : (n : ℕ) (x : List ℕ) → x ≡ blanks n → IsLeftOut x
left_out-blanks n x is = (n, 0, inl is)

left_out-end : (n : ℕ) (x c : List ℕ) → x ≡ blanks n ++ encode_utf8_all c → is_line_end c ≡ true → IsLeftOut x
left_out-end n x c is ends = (
  n,
  0,
  inr (elim (line_end-bytes c ends) [
    | inl one ↦ inl (is ∙ ap (λ u. blanks n ++ u) one ∙ sym (append-nil _))
    | inr two ↦ inr (is ∙ ap (λ u. blanks n ++ u) two ∙ sym (append-nil _))
  ]),
)

ends-grow : (x end : List ℕ) (n m k : ℕ) → x ≡ blanks n ++ end ++ blanks m → x ++ blanks k ≡ blanks n ++ end ++ blanks (m + k)
ends-grow x end n m k is =
    ap (λ u. u ++ blanks k) is ∙ append_assoc (blanks n ++ end) (blanks m) (blanks k) ∙ ap (λ u. blanks n ++ end ++ u) (replicate-append-replicate m k (byte " "))

abbrev MayGrow : (List ℕ → Type 0) → Type 0
MayGrow G = (x : List ℕ) (k : ℕ) → G x → G (x ++ blanks k)

blanks_more : (x : List ℕ) (n k : ℕ) → x ≡ blanks n → x ++ blanks k ≡ blanks (n + k)
blanks_more x n k is = ap (λ u. u ++ blanks k) is ∙ replicate-append-replicate n k (byte " ")

blanks-grow : MayGrow AreBlanks
blanks-grow x k are = (are.0 + k, blanks_more x are.0 k are.1)

left_out-grow : MayGrow IsLeftOut
left_out-grow x k (n, m, inl is) = (n + k, m, inl (blanks_more x n k is))
left_out-grow x k (n, m, inr (inl one)) = (n, m + k, inr (inl (ends-grow x (codes "\n") n m k one)))
left_out-grow x k (n, m, inr (inr two)) = (n, m + k, inr (inr (ends-grow x (codes "\r\n") n m k two)))

-- a text between two others
pub slice_between : (x front middle rest : List ℕ) (i j : ℕ) → x ≡ (front ++ middle) ++ rest → i ≡ length front → j ≡ i + length middle → slice_range x i j ≡ middle
slice_between x front middle rest i j all start end =
    let size : j - i ≡ length middle = omega arith in
    ap (λ n. take n (drop i x)) size
    ∙ ap (take (length middle)) (ap (drop i) (all ∙ append_assoc front middle rest) ∙ drop_at front (middle ++ rest) i (sym start))
    ∙ take_at middle rest (length middle) refl

abbrev pub text_of : List (List ℕ) → List ℕ
text_of cs = flat_map encode_utf8_all cs

pub text_of-append : (xs ys : List (List ℕ)) → text_of (xs ++ ys) ≡ text_of xs ++ text_of ys
text_of-append xs ys = flat_map-append encode_utf8_all xs ys

blanks-text : (g : List (List ℕ)) → list_all is_blank g ≡ true → AreBlanks (text_of g)
blanks-text [] are = (0, refl)
blanks-text (c ∷ g) are =
    let both = and_parts _ _ are in
    let later = blanks-text g both.1 in
    (1 + later.0, ap₂ (λ u v. u ++ v) (blank-bytes c both.0) later.1 ∙ replicate-append-replicate 1 later.0 (byte " "))

left_out-text : (width : ℕ) (cs : List (List ℕ)) → AreBlanks (text_of (left_out width cs))
left_out-text width cs = cond_both (length (word_of cs) == 0 || nat_le (columns_of (blanks_of cs ++ word_of cs)) width) [] (blanks_of cs) (λ l. AreBlanks (text_of l)) (λ _. (0, refl)) (λ _. blanks-text (blanks_of cs) (front-passes is_blank cs))

gap-text : (gap : List (List ℕ)) → IsGap gap → IsLeftOut (text_of gap)
gap-text gap (g, are, inl all) = (let blank = blanks-text g are in left_out-blanks blank.0 _ (ap text_of all ∙ blank.1))
gap-text gap (g, are, inr (c, all, ends)) =
    let blank = blanks-text g are in
    left_out-end blank.0 _ c (ap text_of all ∙ text_of-append g (c ∷ []) ∙ ap₂ (λ u v. u ++ v) blank.1 (append-nil (encode_utf8_all c))) ends

split : (u : List ℕ) (g cs : List (List ℕ)) → u ++ text_of (g ++ cs) ≡ u ++ text_of g ++ text_of cs
split u g cs = ap (λ v. u ++ v) (text_of-append g cs) ∙ sym (append_assoc u (text_of g) (text_of cs))

spread : (front : List ℕ) (gap skipped shown after : List (List ℕ))
    → front ++ text_of gap ++ text_of (skipped ++ shown ++ after) ≡ front ++ (text_of gap ++ text_of skipped) ++ text_of shown ++ text_of after
spread front gap skipped shown after =
    split (front ++ text_of gap) (skipped ++ shown) after ∙ ap (λ u. u ++ text_of after) (split (front ++ text_of gap) skipped shown)
    ∙ ap (λ u. u ++ text_of shown ++ text_of after) (append_assoc front (text_of gap) (text_of skipped))

module _ (x : List ℕ) where
  -- they are stretches of x from e on; `G` is so of the text that is left out before the first of them
  abbrev AreLinesAfter : (List ℕ → Type 0) → ℕ → List (ℕ × ℕ) → Type 0
  AreLinesAfter G e [] = ⊥
  AreLinesAfter G e (line ∷ ls) = (e ≤ line.0) × (line.0 ≤ line.1) × (line.1 ≤ length x) × G (slice_range x e line.0) × AreLinesFrom x line.1 ls

  are_lines : (e : ℕ) (ls : List (ℕ × ℕ)) → AreLinesAfter IsLeftOut e ls → AreLinesFrom x e ls
  are_lines e [] are = absurd are
  are_lines e (line ∷ ls) are = are

  -- the lines of first fit from a place on, if `front` is the text up to e, and the clusters `gap` are left out between e and there
  first_fit_stand : (width : ℕ) (ls : List (ℕ × ℕ)) (G : List ℕ → Type 0) → MayGrow G → (place e : ℕ) (front : List ℕ) (gap cs : List (List ℕ)) → x ≡ front ++ text_of gap ++ text_of cs → e ≡ length front → place ≡ e + bytes_of gap → G (text_of gap)
      → AreFirstFit width place cs ls → AreLinesAfter G e ls
  first_fit_stand width [] G grow place e front gap cs all at here left are = absurd are
  first_fit_stand width (line ∷ ls) G grow place e front gap cs all at here left are =
      let shown = are.0 in
      let after = are.1 in
      let first = are.2 in
      let skipped = left_out width cs in
      let more = left_out-text width cs in
      let up_to = front ++ (text_of gap ++ text_of skipped) ++ text_of shown in
      let whole : x ≡ up_to ++ text_of after = all ∙ ap (λ u. front ++ text_of gap ++ text_of u) first.all ∙ spread front gap skipped shown after in
      let middle = length-append (text_of gap) (text_of skipped) in
      let size : length up_to ≡ line.1 = omega (arith, length-append (front ++ (text_of gap ++ text_of skipped)) (text_of shown), length-append front (text_of gap ++ text_of skipped), middle, at, here, first.start, first.end) in
      let before : slice_range x e line.0 ≡ text_of gap ++ text_of skipped
      = slice_between x front (text_of gap ++ text_of skipped) (text_of shown ++ text_of after) e line.0 (whole ∙ append_assoc (front ++ (text_of gap ++ text_of skipped)) (text_of shown) (text_of after)) at (omega (arith, first.start, here, middle)) in (
        omega (arith, here, first.start),
        omega (arith, first.end),
        omega (arith, size, ap length whole, length-append up_to (text_of after)),
        subst G (sym (before ∙ ap (λ u. text_of gap ++ u) more.1)) (grow (text_of gap) more.0 left),
        elim (after_line width line.1 after ls are.3) [
          | inl none ↦ (
              let blank = blanks-text after none.1 in
              subst (AreLinesFrom x line.1) (sym none.0) (blank.0, ap (drop line.1) whole ∙ drop_at up_to (text_of after) line.1 size ∙ blank.1))
          | inr next ↦ are_lines line.1 ls (
              first_fit_stand width ls IsLeftOut left_out-grow (line.1 + bytes_of next.0) line.1 up_to next.0 next.1
              (whole ∙ ap (λ u. up_to ++ text_of u) next.2 ∙ split up_to next.0 next.1) (sym size) refl (gap-text next.0 next.4) next.3)
        ],
      )

  -- all of them, if `G` is so of no text
  all_stand : (G : List ℕ → Type 0) (width : ℕ) → MayGrow G → G [] → IsUtf8 x → AreLinesAfter G 0 (lines width x)
  all_stand G width grow none utf8 =
      first_fit_stand (max width 1) (lines width x) G grow 0 0 [] [] (clusters x) (sym (clusters_after-bytes [] (chars x) ∙ encodes-chars x utf8)) refl refl none (lines-first_fit width x)

  pub lines-left_out : (width : ℕ) → IsUtf8 x → AreLinesFrom x 0 (lines width x)
  lines-left_out width utf8 = are_lines 0 (lines width x) (all_stand IsLeftOut width left_out-grow (0, 0, inl refl) utf8)

  blanks_before : (ls : List (ℕ × ℕ)) → AreLinesAfter AreBlanks 0 ls → BeginWithBlanks x ls
  blanks_before [] are = absurd are
  blanks_before (line ∷ ls) are = (are.3.0, ap (λ n. take n x) (omega arith) ∙ are.3.1)

  pub lines-begin : (width : ℕ) → IsUtf8 x → BeginWithBlanks x (lines width x)
  lines-begin width utf8 = blanks_before (lines width x) (all_stand AreBlanks width blanks-grow (0, refl) utf8)

  reassembled-from : (e : ℕ) (ls : List (ℕ × ℕ)) → AreLinesFrom x e ls → reassembled x e ls ≡ drop e x
  reassembled-from e [] are = refl
  reassembled-from e (line ∷ ls) are =
      ap (λ u. slice_range x e line.0 ++ slice_range x line.0 line.1 ++ u) (reassembled-from line.1 ls are.4)
      ∙ append_assoc (slice_range x e line.0) (slice_range x line.0 line.1) (drop line.1 x)
      ∙ ap (λ u. slice_range x e line.0 ++ u) (sym (drop_split x line.0 line.1 are.1)) ∙ sym (drop_split x e line.0 are.0)

  pub lines-reassembled : (width : ℕ) → IsUtf8 x → reassembled x 0 (lines width x) ≡ x
  lines-reassembled width utf8 = reassembled-from 0 (lines width x) (lines-left_out width utf8)
