-- The marks of pieces, one piece at a time, and those up to a place.
use Rattle.ansi_style.proofs.Common.{◌≡◌, ℕ, suc, ◌+◌, ◌-◌, ◌<◌, ◌≤◌, Bool, true, false, List, [], ◌∷◌, ◌++◌, length, map, filter_map, fold, Option, refl, ◌∙◌, ap, ap₂, arith, nat_le, if◌then◌else◌, IsFalse, lt-leb, nat_tests, Piece, Text, spelling, is_mark, Mark, Placed, mark_of, placed_further_on, marks_of, marks, places, marks_up_to, joined, has_escape, Rendition, apply, after_marks, one_text, pieces_of-bare}

-- the mark has n more plain bytes before it
abbrev pub mark_further_on : ℕ → Mark → Mark
mark_further_on n m = record m { place = n + m.place }

pub map-further-0 : (ms : List Mark) → map (mark_further_on 0) ms ≡ ms
map-further-0 [] = refl
map-further-0 (m ∷ ms) = ap₂ (λ n ks. record m { place = n } ∷ ks) (omega arith) (map-further-0 ms)

pub map-further-suc : (n : ℕ) (ms : List Mark) → map (mark_further_on (suc n)) ms ≡ map (mark_further_on 1) (map (mark_further_on n) ms)
map-further-suc n [] = refl
map-further-suc n (m ∷ ms) = ap₂ (λ k ks. record m { place = k } ∷ ks) (omega arith) (map-further-suc n ms)

abbrev mark_at : Placed → Option Mark
mark_at p = mark_of p.place p.piece

-- if pieces are further on, so are their marks
marks-further : (n : ℕ) (qs : List Placed) → filter_map mark_at (map (placed_further_on n) qs) ≡ map (mark_further_on n) (filter_map mark_at qs)
marks-further n [] = refl
marks-further n (q ∷ qs) = by_piece q.piece (marks-further n qs)
  where
    by_piece : (p : Piece) → filter_map mark_at (map (placed_further_on n) qs) ≡ map (mark_further_on n) (filter_map mark_at qs)
        → filter_map mark_at (map (placed_further_on n) (record q { piece = p } ∷ qs)) ≡ map (mark_further_on n) (filter_map mark_at (record q { piece = p } ∷ qs))
    by_piece (Text w) later = later
    by_piece p later = ap (λ ms. record { place = n + q.place; bytes = spelling p } ∷ ms) later

pub marks_of-text : (w : List ℕ) (ps : List Piece) → marks_of (Text w ∷ ps) ≡ map (mark_further_on (length w)) (marks_of ps)
marks_of-text w ps = marks-further (length w) (places ps)

pub marks_of-mark : (p : Piece) (ps : List Piece) → is_mark p ≡ true → marks_of (p ∷ ps) ≡ record { place = 0; bytes = spelling p } ∷ marks_of ps
marks_of-mark (Text w) ps is = absurd (cc is)
marks_of-mark p ps is = ap (λ ms. record { place = 0; bytes = spelling p } ∷ ms) (marks-further 0 (places ps) ∙ map-further-0 (marks_of ps))

-- a text without ESC has no marks
pub marks-bare : (t : List ℕ) → IsFalse (has_escape t) → marks t ≡ []
marks-bare t none = ap marks_of (pieces_of-bare t none) ∙ of_one t
  where
    of_one : (x : List ℕ) → marks_of (one_text x) ≡ []
    of_one [] = refl
    of_one (b ∷ x) = refl

-- no mark that is further on than e is up to e
pub marks_up_to-none : (e n : ℕ) (ms : List Mark) → e < n → marks_up_to e (map (mark_further_on n) ms) ≡ []
marks_up_to-none e n [] below = refl
marks_up_to-none e n (m ∷ ms) below =
    let past : nat_le (n + m.place) e ≡ false = lt-leb _ _ (omega arith) in
    ap (λ b. if b then mark_further_on n m ∷ marks_up_to e (map (mark_further_on n) ms) else marks_up_to e (map (mark_further_on n) ms)) past ∙ marks_up_to-none e n ms below

pub marks_up_to-further : (e n : ℕ) (ms : List Mark) → n ≤ e → marks_up_to e (map (mark_further_on n) ms) ≡ map (mark_further_on n) (marks_up_to (e - n) ms)
marks_up_to-further e n [] within = refl
marks_up_to-further e n (m ∷ ms) within =
    let same : nat_le (n + m.place) e ≡ nat_le m.place (e - n) = grind (arith, nat_tests) in
    ap₂ (λ b ks. if b then mark_further_on n m ∷ ks else ks) same (marks_up_to-further e n ms within) ∙ either (nat_le m.place (e - n))
  where
    either : (b : Bool) → (if b then mark_further_on n m ∷ map (mark_further_on n) (marks_up_to (e - n) ms) else map (mark_further_on n) (marks_up_to (e - n) ms)) ≡ map (mark_further_on n) (if b then m ∷ marks_up_to (e - n) ms else marks_up_to (e - n) ms)
    either true = refl
    either false = refl

pub marks_up_to-here : (e : ℕ) (w : List ℕ) (ms : List Mark) → marks_up_to e (record { place = 0; bytes = w } ∷ ms) ≡ record { place = 0; bytes = w } ∷ marks_up_to e ms
marks_up_to-here e w ms = grind arith

pub bytes-further : (n : ℕ) (ms : List Mark) → map (λ (m : Mark). m.bytes) (map (mark_further_on n) ms) ≡ map (λ (m : Mark). m.bytes) ms
bytes-further n [] = refl
bytes-further n (m ∷ ms) = ap (λ ws. m.bytes ∷ ws) (bytes-further n ms)

pub joined-further : (n : ℕ) (ms : List Mark) → joined (map (mark_further_on n) ms) ≡ joined ms
joined-further n [] = refl
joined-further n (m ∷ ms) = ap (λ v. m.bytes ++ v) (joined-further n ms)

-- The effect of marks, one after another, on a state that they change, such as a style or a link.

module _ {S : Type 0} (step : S → List ℕ → S) where
  abbrev pub state_after : S → List Mark → S
  state_after s ms = fold step s (map (λ (m : Mark). m.bytes) ms)

  pub state_after-further : (s : S) (n : ℕ) (ms : List Mark) → state_after s (map (mark_further_on n) ms) ≡ state_after s ms
  state_after-further s n ms = ap (fold step s) (bytes-further n ms)

  -- the state at a place, by the marks of pieces
  abbrev pub state_by_marks : S → List Piece → ℕ → S
  state_by_marks s ps i = state_after s (marks_up_to i (marks_of ps))

  pub state_by_marks-before : (s : S) (w : List ℕ) (ps : List Piece) (i : ℕ) → i < length w → state_by_marks s (Text w ∷ ps) i ≡ s
  state_by_marks-before s w ps i below =
      ap (λ ms. state_after s (marks_up_to i ms)) (marks_of-text w ps) ∙ ap (state_after s) (marks_up_to-none i (length w) (marks_of ps) below)

  pub state_by_marks-text : (s : S) (w : List ℕ) (ps : List Piece) (i : ℕ) → state_by_marks s (Text w ∷ ps) (length w + i) ≡ state_by_marks s ps i
  state_by_marks-text s w ps i =
      let n = length w in
      let left : n + i - n ≡ i = omega arith in
      ap (λ ms. state_after s (marks_up_to (n + i) ms)) (marks_of-text w ps)
      ∙ ap (state_after s) (marks_up_to-further (n + i) n (marks_of ps) (omega arith))
      ∙ state_after-further s n (marks_up_to (n + i - n) (marks_of ps))
      ∙ ap (state_by_marks s ps) left

  pub state_by_marks-mark : (s : S) (p : Piece) (ps : List Piece) (i : ℕ) → is_mark p ≡ true → state_by_marks s (p ∷ ps) i ≡ state_by_marks (step s (spelling p)) ps i
  state_by_marks-mark s p ps i is =
      ap (λ ms. state_after s (marks_up_to i ms)) (marks_of-mark p ps is) ∙ ap (state_after s) (marks_up_to-here i (spelling p) (marks_of ps))

-- A style.

pub after_marks-further : (s : Rendition) (n : ℕ) (ms : List Mark) → after_marks s (map (mark_further_on n) ms) ≡ after_marks s ms
after_marks-further = state_after-further apply

abbrev pub style_by_marks : Rendition → List Piece → ℕ → Rendition
style_by_marks s ps i = after_marks s (marks_up_to i (marks_of ps))

pub style_by_marks-before : (s : Rendition) (w : List ℕ) (ps : List Piece) (i : ℕ) → i < length w → style_by_marks s (Text w ∷ ps) i ≡ s
style_by_marks-before = state_by_marks-before apply

pub style_by_marks-text : (s : Rendition) (w : List ℕ) (ps : List Piece) (i : ℕ) → style_by_marks s (Text w ∷ ps) (length w + i) ≡ style_by_marks s ps i
style_by_marks-text = state_by_marks-text apply

pub style_by_marks-mark : (s : Rendition) (p : Piece) (ps : List Piece) (i : ℕ) → is_mark p ≡ true → style_by_marks s (p ∷ ps) i ≡ style_by_marks (apply s (spelling p)) ps i
style_by_marks-mark = state_by_marks-mark apply
