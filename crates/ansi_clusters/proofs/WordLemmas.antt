-- Printable ASCII on a line: words and blanks, all of which fit.
use Rattle.std.proofs.Common.{◌≡◌, ◌≢◌, ℕ, suc, ◌+◌, ◌-◌, ◌<◌, ◌≤◌, Bool, true, false, ◌==◌, List, [], ◌∷◌, ◌++◌, length, take, drop, slice_index, encode_utf8_all, refl, sym, ◌∙◌, ap, subst, arith, eqb-true, inr, true≢false, Some, None, append_assoc, take-append-drop, if◌then◌else◌}
use Rattle.std.specs.List.{list_all}
use Rattle.std.proofs.lemmas.Bool.{and_parts, eq-eqb, ne_eqb, false_from_ne_true}
use Rattle.std.proofs.lemmas.List.{take_more, get_or-drop, length-drop, length-take-le}
use Rattle.memchr.specs.Find.{IsLastByte, is_byte}
use Rattle.std.proofs.lemmas.Bool.Decides.{nat_tests}
use Rattle.ansi_clusters.specs.Lines.{is_line_end}
use Rattle.ansi_clusters.specs.Words.{end_after, words_after}
use Rattle.ansi_clusters.proofs.AsciiLemmas.{is_printable, width-single}
use Rattle.ansi_clusters.proofs.KindLemmas.{is_blank-other, is_blank-space, not_line_end}
use Rattle.ansi_clusters.proofs.LineWalkLemmas.{IsLineTo, line-goes_on, line-takes}
use Rattle.ansi_clusters.proofs.PrintableLemmas.{bytes-single}

-- ---- where the words end

abbrev pub NoBlank : List ℕ → Type 0
NoBlank [] = Unit
NoBlank (b ∷ bs) = ((b == 0x20) ≡ false) × NoBlank bs

pub NoBlank-from : (bs : List ℕ) → ((k : ℕ) → k < length bs → (slice_index bs k == 0x20) ≡ false) → NoBlank bs
NoBlank-from [] none = tt
NoBlank-from (b ∷ bs) none = (none 0 (omega arith), NoBlank-from bs (λ k inside. none (suc k) (omega (arith, inside))))

pub end_after-blank : (xs : List ℕ) (here end : ℕ) → end_after (xs ++ 0x20 ∷ []) here end ≡ end_after xs here end
end_after-blank [] here end = refl
end_after-blank (b ∷ xs) here end = end_after-blank xs (here + 1) (if b == 0x20 then end else here + 1)

pub end_after-solid : (xs : List ℕ) (b here end : ℕ) → (b == 0x20) ≡ false → end_after (xs ++ b ∷ []) here end ≡ here + length xs + 1
end_after-solid [] b here end solid = (let same : here + 1 ≡ here + 0 + 1 = omega arith in ap (λ c. if c then end else here + 1) solid ∙ same)
end_after-solid (a ∷ xs) b here end solid =
    let same : here + 1 + length xs + 1 ≡ here + suc (length xs) + 1 = omega arith in
    end_after-solid xs b (here + 1) (if a == 0x20 then end else here + 1) solid ∙ same

pub end_after-word : (b : ℕ) (bs : List ℕ) (here end : ℕ) → NoBlank (b ∷ bs) → end_after (b ∷ bs) here end ≡ here + suc (length bs)
end_after-word b [] here end none = ap (λ c. if c then end else here + 1) none.0
end_after-word b (c ∷ bs) here end none =
    let same : here + 1 + suc (length bs) ≡ here + suc (suc (length bs)) = omega arith in
    end_after-word c bs (here + 1) (if b == 0x20 then end else here + 1) none.1 ∙ same

pub words_after-word : (bs : List ℕ) (here before word end : ℕ) → NoBlank bs → words_after bs here before word end ≡ (before, word, end_after bs here end)
words_after-word [] here before word end none = refl
words_after-word (b ∷ bs) here before word end none =
    ap (λ c. if c then words_after bs (here + 1) end (here + 1) end else words_after bs (here + 1) before word (here + 1)) none.0
    ∙ words_after-word bs (here + 1) before word (here + 1) none.1
    ∙ ap (λ c. (before, word, end_after bs (here + 1) (if c then end else here + 1))) (sym none.0)

pub words_after-blank : (xs ys : List ℕ) (here before word end : ℕ) → words_after (xs ++ 0x20 ∷ ys) here before word end
    ≡ words_after ys (here + length xs + 1) (end_after xs here end) (here + length xs + 1) (end_after xs here end)
words_after-blank [] ys here before word end = (let same : here + 1 ≡ here + 0 + 1 = omega arith in ap (λ n. words_after ys n end n end) same)
words_after-blank (b ∷ xs) ys here before word end =
    by_test (b == 0x20) (words_after-blank xs ys (here + 1) end (here + 1) end) (words_after-blank xs ys (here + 1) before word (here + 1))
  where
    place : here + 1 + length xs + 1 ≡ here + suc (length xs) + 1
    place = omega arith

    by_test : (c : Bool)
        → words_after (xs ++ 0x20 ∷ ys) (here + 1) end (here + 1) end ≡ words_after ys (here + 1 + length xs + 1) (end_after xs (here + 1) end) (here + 1 + length xs + 1) (end_after xs (here + 1) end)
        → words_after (xs ++ 0x20 ∷ ys) (here + 1) before word (here + 1) ≡ words_after ys (here + 1 + length xs + 1) (end_after xs (here + 1) (here + 1)) (here + 1 + length xs + 1) (end_after xs (here + 1) (here + 1))
        → (if c then words_after (xs ++ 0x20 ∷ ys) (here + 1) end (here + 1) end else words_after (xs ++ 0x20 ∷ ys) (here + 1) before word (here + 1))
        ≡ words_after ys (here + suc (length xs) + 1) (end_after xs (here + 1) (if c then end else here + 1)) (here + suc (length xs) + 1) (end_after xs (here + 1) (if c then end else here + 1))
    by_test true blank solid = blank ∙ ap (λ n. words_after ys n (end_after xs (here + 1) end) n (end_after xs (here + 1) end)) place
    by_test false blank solid = solid ∙ ap (λ n. words_after ys n (end_after xs (here + 1) (here + 1)) n (end_after xs (here + 1) (here + 1))) place

-- the last byte of a front is a blank, or it isn't

front-split : (bytes : List ℕ) (count : ℕ) → 0 < count → count ≤ length bytes → take count bytes ≡ take (count - 1) bytes ++ slice_index bytes (count - 1) ∷ []
front-split bytes count some within =
    let more : count ≡ count - 1 + 1 = omega (arith, some) in
    ap (λ n. take n bytes) more ∙ take_more bytes (count - 1) 0 (omega (arith, some, within))

pub front-blank : (bytes : List ℕ) (count here end : ℕ) → 0 < count → count ≤ length bytes → slice_index bytes (count - 1) ≡ 0x20 → end_after (take count bytes) here end ≡ end_after (take (count - 1) bytes) here end
front-blank bytes count here end some within blank =
    ap (λ x. end_after x here end) (front-split bytes count some within ∙ ap (λ b. take (count - 1) bytes ++ b ∷ []) blank) ∙ end_after-blank (take (count - 1) bytes) here end

pub front-solid : (bytes : List ℕ) (count here end : ℕ) → 0 < count → count ≤ length bytes → slice_index bytes (count - 1) ≢ 0x20 → end_after (take count bytes) here end ≡ here + count
front-solid bytes count here end some within solid =
    let place : here + length (take (count - 1) bytes) + 1 ≡ here + count = omega (arith, some, length-take-le (count - 1) bytes (omega (arith, within))) in
    ap (λ x. end_after x here end) (front-split bytes count some within)
    ∙ end_after-solid (take (count - 1) bytes) (slice_index bytes (count - 1)) here end (ne_eqb (slice_index bytes (count - 1)) 0x20 solid) ∙ place

-- ---- the last blank of bytes

no_blank-none : (bytes : List ℕ) → IsLastByte (is_byte 0x20) bytes None → NoBlank bytes
no_blank-none bytes none = NoBlank-from bytes (λ k inside. false_from_ne_true (slice_index bytes k == 0x20) (none k (omega arith) inside))

-- there is none, so the bytes are of the last word
pub words-none : (bytes : List ℕ) (here before word end : ℕ) → 0 < length bytes → IsLastByte (is_byte 0x20) bytes None → words_after bytes here before word end ≡ (before, word, here + length bytes)
words-none [] here before word end some none = absurd (omega (arith, some))
words-none (b ∷ bs) here before word end some none =
    let solid = no_blank-none (b ∷ bs) none in
    words_after-word (b ∷ bs) here before word end solid ∙ ap (λ n. (before, word, n)) (end_after-word b bs here end solid)

module _ (bytes : List ℕ) (k : ℕ) (last : IsLastByte (is_byte 0x20) bytes (Some k)) where
  abbrev pub rest : List ℕ
  rest = drop (k + 1) bytes

  split : bytes ≡ take k bytes ++ 0x20 ∷ rest
  split =
      sym (take-append-drop (k + 1) bytes) ∙ ap (λ x. x ++ rest) (take_more bytes k 0 last.0.high)
      ∙ ap (λ b. (take k bytes ++ b ∷ []) ++ rest) (eqb-true (slice_index bytes k) 0x20 last.1) ∙ append_assoc (take k bytes) (0x20 ∷ []) rest

  rest-solid : NoBlank rest
  rest-solid =
      NoBlank-from rest (λ j inside. ap (λ b. b == 0x20) (get_or-drop (k + 1) bytes j 0)
      ∙ false_from_ne_true (slice_index bytes (k + 1 + j) == 0x20) (last.0.after (k + 1 + j) (omega arith) (omega (arith, inside, length-drop (k + 1) bytes))))

  rest-end : (here end : ℕ) (x : List ℕ) → NoBlank x → end_after x here end ≡ (if length x == 0 then end else here + length x)
  rest-end here end [] solid = refl
  rest-end here end (b ∷ bs) solid =
      end_after-word b bs here end solid ∙ sym (ap (λ c. if c then end else here + suc (length bs)) (ne_eqb (suc (length bs)) 0 (λ none. absurd (omega (arith, none)))))

  pub words-last : (here before word end : ℕ) → words_after bytes here before word end
      ≡ (end_after (take k bytes) here end, here + (k + 1), if length rest == 0 then end_after (take k bytes) here end else here + (k + 1) + length rest)
  words-last here before word end =
      let e = end_after (take k bytes) here end in
      let place : here + length (take k bytes) + 1 ≡ here + (k + 1) = omega (arith, length-take-le k bytes (omega (arith, last.0.high))) in
      ap (λ x. words_after x here before word end) split ∙ words_after-blank (take k bytes) rest here before word end
      ∙ ap (λ n. words_after rest n e n e) place ∙ words_after-word rest (here + (k + 1)) e (here + (k + 1)) e rest-solid
      ∙ ap (λ n. (e, here + (k + 1), n)) (rest-end (here + (k + 1)) e rest rest-solid)

  pub rest-length : k + 1 + length rest ≡ length bytes
  rest-length = omega (arith, length-drop (k + 1) bytes, last.0.high)

  -- the blank is the last byte, or it isn't
  pub words-last_byte : (here before word end : ℕ) → k + 1 ≡ length bytes → words_after bytes here before word end ≡ (end_after (take k bytes) here end, here + (k + 1), end_after (take k bytes) here end)
  words-last_byte here before word end is =
      let none : length rest ≡ 0 = omega (arith, rest-length, is) in
      words-last here before word end ∙ ap (λ n. (end_after (take k bytes) here end, here + (k + 1), if n == 0 then end_after (take k bytes) here end else here + (k + 1) + n)) none

  pub words-last_word : (here before word end : ℕ) → k + 1 ≢ length bytes → words_after bytes here before word end ≡ (end_after (take k bytes) here end, here + (k + 1), here + length bytes)
  words-last_word here before word end other =
      let some : (length rest == 0) ≡ false = ne_eqb (length rest) 0 (λ none. other (omega (arith, rest-length, none))) in
      let place : here + (k + 1) + length rest ≡ here + length bytes = omega (arith, rest-length) in
      words-last here before word end ∙ ap (λ b. (end_after (take k bytes) here end, here + (k + 1), if b then end_after (take k bytes) here end else here + (k + 1) + length rest)) some
      ∙ ap (λ n. (end_after (take k bytes) here end, here + (k + 1), n)) place

-- ---- the line that they are on

printable-above : (b : ℕ) → is_printable b ≡ true → 0x20 ≤ b
printable-above b printable = grind (arith, nat_tests)

pub inside-printable : (b : ℕ) → is_printable b ≡ true → is_line_end (b ∷ []) ≡ false
inside-printable b printable =
    not_line_end (b ∷ [])
    (λ e. (let is : b ≡ 0x0A = ap (λ x. slice_index x 0) e in absurd (omega (arith, is, printable-above b printable))))
    (λ e. absurd (omega (arith, ap length e)))

-- the bytes are the clusters at a place, each by itself
abbrev pub AreAhead : (ℕ → List (List ℕ)) → ℕ → List ℕ → Type 0
AreAhead cl n [] = Unit
AreAhead cl n (b ∷ bs) = (cl n ≡ (b ∷ []) ∷ cl (n + 1)) × AreAhead cl (n + 1) bs

-- the positions of a line, as a triple
abbrev pub IsLineAt : (ℕ → List (List ℕ)) → ℕ → ℕ → ℕ × ℕ × ℕ → ℕ → ℕ → Type 0
IsLineAt cl width start words here columns = IsLineTo cl width start words.0 words.1 words.2 here columns

pub line-printable : {cl : ℕ → List (List ℕ)} {width start : ℕ} (bytes : List ℕ) (here before word end columns : ℕ) → IsLineTo cl width start before word end here columns → start ≤ here
    → AreAhead cl here bytes → list_all is_printable bytes ≡ true → (0 < length bytes → columns + length bytes ≤ width) → IsLineAt cl width start (words_after bytes here before word end) (here + length bytes) (columns + length bytes)
line-printable {cl} {width} {start} [] here before word end columns line begun are all fits =
    let place : here + 0 ≡ here = omega arith in
    let total : columns + 0 ≡ columns = omega arith in
    rw (place, total) line
line-printable {cl} {width} {start} (b ∷ bs) here before word end columns line begun are all fits =
    let parts = and_parts _ _ all in
    let room : columns + 1 + length bs ≤ width = omega (arith, fits (omega arith)) in
    by_test (b == 0x20) refl parts.0 room (λ before word end line. line-printable bs (here + 1) before word end (columns + 1) line (omega (arith, begun)) are.1 parts.1 (λ _. room))
  where
    place : here + 1 + length bs ≡ here + suc (length bs)
    place = omega arith

    total : columns + 1 + length bs ≡ columns + suc (length bs)
    total = omega arith

    by_test : (c : Bool) → (b == 0x20) ≡ c → is_printable b ≡ true → columns + 1 + length bs ≤ width
        → ((before word end : ℕ) → IsLineTo cl width start before word end (here + 1) (columns + 1) → IsLineAt cl width start (words_after bs (here + 1) before word end) (here + 1 + length bs) (columns + 1 + length bs))
        → IsLineAt cl width start (if c then words_after bs (here + 1) end (here + 1) end else words_after bs (here + 1) before word (here + 1)) (here + suc (length bs)) (columns + suc (length bs))
    by_test true is printable room others =
        let size : length (encode_utf8_all (b ∷ [])) ≡ here + 1 - here = omega (arith, bytes-single b printable) in
        subst (λ n. IsLineAt cl width start (words_after bs (here + 1) end (here + 1) end) n (columns + suc (length bs))) place
        (subst (IsLineAt cl width start (words_after bs (here + 1) end (here + 1) end) (here + 1 + length bs)) total
        (others end (here + 1) end (line-goes_on cl width start before word end here columns line begun (b ∷ []) (here + 1) 1 are.0 size (omega arith) (sym (width-single b printable)) (inside-printable b printable)
        (is_blank-space (b ∷ []) (ap (λ x. x ∷ []) (eqb-true b 0x20 is))))))
    by_test false is printable room others =
        let size : length (encode_utf8_all (b ∷ [])) ≡ here + 1 - here = omega (arith, bytes-single b printable) in
        let solid = λ (e : ◌≡◌ {A = List ℕ} (b ∷ []) (0x20 ∷ [])). (let same : b ≡ 0x20 = ap (λ x. slice_index x 0) e in absurd (true≢false (sym (eq-eqb b 0x20 same) ∙ is))) in
        subst (λ n. IsLineAt cl width start (words_after bs (here + 1) before word (here + 1)) n (columns + suc (length bs))) place
        (subst (IsLineAt cl width start (words_after bs (here + 1) before word (here + 1)) (here + 1 + length bs)) total
        (others before word (here + 1) (line-takes cl width start before word end here columns line begun (b ∷ []) (here + 1) 1 are.0 size (omega arith) (sym (width-single b printable))
        (record { inside = inside-printable b printable; solid = is_blank-other (b ∷ []) solid }) (inr (omega (arith, room))))))

abbrev pub AreOrdered : ℕ → ℕ × ℕ × ℕ → ℕ → Type 0
AreOrdered start words here = (start ≤ words.0) × (words.0 ≤ words.1) × (start ≤ words.2) × (words.2 ≤ here)

pub words_after-ordered : (bytes : List ℕ) (start here before word end : ℕ) → AreOrdered start (before, word, end) here → AreOrdered start (words_after bytes here before word end) (here + length bytes)
words_after-ordered [] start here before word end ordered = (let same : here + 0 ≡ here = omega arith in rw same ordered)
words_after-ordered (b ∷ bs) start here before word end ordered =
    by_test (b == 0x20) (λ before word end ordered. words_after-ordered bs start (here + 1) before word end ordered)
  where
    place : here + 1 + length bs ≡ here + suc (length bs)
    place = omega arith

    by_test : (c : Bool) → ((before word end : ℕ) → AreOrdered start (before, word, end) (here + 1) → AreOrdered start (words_after bs (here + 1) before word end) (here + 1 + length bs))
        → AreOrdered start (if c then words_after bs (here + 1) end (here + 1) end else words_after bs (here + 1) before word (here + 1)) (here + suc (length bs))
    by_test true others = subst (AreOrdered start (words_after bs (here + 1) end (here + 1) end)) place (others end (here + 1) end (ordered.2, omega (arith, ordered.3), ordered.2, omega (arith, ordered.3)))
    by_test false others = subst (AreOrdered start (words_after bs (here + 1) before word (here + 1))) place (others before word (here + 1) (ordered.0, ordered.1, omega (arith, ordered.2, ordered.3), omega arith))
