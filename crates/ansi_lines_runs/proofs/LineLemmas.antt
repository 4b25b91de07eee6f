-- The first line of a text, and the rest.
use Rattle.std.proofs.Common.{◌≡◌, ◌<◌, ◌+◌, ℕ, take, drop, List, [], ◌∷◌, ◌++◌, length, Bool, true, false, Option, None, Some, refl, ap, ◌∙◌, arith, not, cond, is_none, unwrap_or, if◌then◌else◌}
use Rattle.std.specs.Io.KnownBytes.{append_known}
use Rattle.std.specs.List.{slice_split, flat_map, position_or_len, before_first, after_first, position_from, All}
use Rattle.std.proofs.lemmas.List.Splits.{slice_split_first, slice_split_none, length-slice_split}
use Rattle.std.proofs.lemmas.Bool.{false_from_ne_true}
use Rattle.std.proofs.lemmas.List.Sums.{fails_before_first, position_or_len_is, take_while-cons}
use Rattle.memchr.specs.Find.{IsFirstByte, is_byte}
use Rattle.ansi_lines_runs.specs.Lines.{Line, HasFirstLine, line_feed, is_line_feed, lines, lines_of_pieces, answer_of, answer_to, answers, is_refused, first_refused, WritesAnswer}
use Rattle.ansi_lines_runs.specs.Words.{Work}

-- a piece is an ended line if a piece follows it
lines_of_pieces-cons : (piece : List ℕ) (pieces : List (List ℕ)) → 0 < length pieces → lines_of_pieces (piece ∷ pieces) ≡ record { text = piece; ended = true } ∷ lines_of_pieces pieces
lines_of_pieces-cons piece [] some = absurd (omega arith)
lines_of_pieces-cons piece (next ∷ more) some = refl

-- if a search for a line feed finds one, the first piece ends there
first_found : (text : List ℕ) (end : ℕ) → IsFirstByte (is_byte line_feed) text (Some end) → position_or_len is_line_feed text ≡ end
first_found text end h = position_or_len_is is_line_feed text end 0 (omega (arith, h.0.high)) (λ k below. false_from_ne_true _ (h.0.before k (omega arith) below)) (λ _. h.1)

-- if a search for a line feed finds none, the first piece is the whole text
none_found : (text : List ℕ) → IsFirstByte (is_byte line_feed) text None → position_or_len is_line_feed text ≡ length text
none_found text h = position_or_len_is is_line_feed text (length text) 0 (omega arith) (λ k below. false_from_ne_true _ (h k (omega arith) below)) (λ inside. absurd (omega arith))

-- a text with a line feed has a first line that the line feed ends, and the other lines
pub lines-first : (text : List ℕ) (end : ℕ) → IsFirstByte (is_byte line_feed) text (Some end) → HasFirstLine text (take end text) true (drop (end + 1) text)
lines-first text end found =
    let at : position_or_len is_line_feed text ≡ end = first_found text end found in
    rw (← at) (
    ap lines_of_pieces (slice_split_first is_line_feed text 0 (omega (arith, at, found.0.high)))
    ∙ lines_of_pieces-cons (before_first is_line_feed text) (slice_split is_line_feed (after_first is_line_feed text))
    (omega (arith, length-slice_split is_line_feed (after_first is_line_feed text))))

-- a text without a line feed is one line, if it isn't empty
pub lines-last : (text : List ℕ) → IsFirstByte (is_byte line_feed) text None → 0 < length text → HasFirstLine text text false []
lines-last [] found some = absurd (omega arith)
lines-last (b ∷ text) found some =
    let whole : position_or_len is_line_feed (b ∷ text) ≡ length (b ∷ text) = none_found (b ∷ text) found in
    let none : All (λ x. is_line_feed x ≡ false) (b ∷ text) = λ k d below. fails_before_first is_line_feed (b ∷ text) k d (omega arith) in
    ap lines_of_pieces (slice_split_none is_line_feed (b ∷ text) none)

-- the list before the first element that passes, if the first of all doesn't pass
before_first-fails : {X : Type 0} (p : X → Bool) (x : X) (xs : List X) → p x ≡ false → before_first p (x ∷ xs) ≡ x ∷ before_first p xs
before_first-fails p x xs fails = take_while-cons (λ x. not (p x)) x xs ∙ ap (λ b. cond (not b) (x ∷ before_first p xs) []) fails

-- the list before the first element that passes, if the first of all passes
before_first-passes : {X : Type 0} (p : X → Bool) (x : X) (xs : List X) → p x ≡ true → before_first p (x ∷ xs) ≡ []
before_first-passes p x xs passes = take_while-cons (λ x. not (p x)) x xs ∙ ap (λ b. cond (not b) (x ∷ before_first p xs) []) passes

-- a line that was written has a result
was_answered : {answered : Bool} (old new o : Option (List ℕ)) → answered ≡ true → WritesAnswer o answered old new
    → (answer : List ℕ) × (o ≡ Some answer) × (new ≡ append_known old answer)
was_answered old new None is wrote = let no = wrote.0 in cc
was_answered old new (Some answer) is wrote = (answer, refl, wrote.1)

-- a line that wasn't written has no result
was_refused : {answered : Bool} (old new o : Option (List ℕ)) → answered ≡ false → WritesAnswer o answered old new
    → (o ≡ None) × (new ≡ old)
was_refused old new None is wrote = (refl, wrote.1)
was_refused old new (Some answer) is wrote = let yes = wrote.0 in cc

-- a text whose first line has a result, and what is written for that line
pub line-answered : {answered : Bool} (old new : Option (List ℕ)) (work : Work) (number : ℕ) (text : List ℕ) (line : Line) (more : List ℕ)
    → HasFirstLine text line.text line.ended more → answered ≡ true → WritesAnswer (answer_of work line.text) answered old new
    → (answer : List ℕ) × (new ≡ append_known old answer)
    × (answers work text ≡ (answer ++ (if line.ended then line_feed ∷ [] else [])) ++ answers work more)
    × (first_refused number work text ≡ first_refused (number + 1) work more)
unfolding answers first_refused
line-answered old new work number text line more split is wrote =
    let (answer, has, taken) = was_answered old new (answer_of work line.text) is wrote in
    let passes : is_refused work line ≡ false = ap is_none has in (
      answer,
      taken,
      ap (λ ls. flat_map (answer_to work) (before_first (is_refused work) ls)) split
          ∙ ap (flat_map (answer_to work)) (before_first-fails (is_refused work) line (lines more) passes)
          ∙ ap (λ o. (unwrap_or o [] ++ (if line.ended then line_feed ∷ [] else [])) ++ answers work more) has,
      ap (position_from (is_refused work) number) split
          ∙ ap (λ b. cond b (Some number) (position_from (is_refused work) (number + 1) (lines more))) passes,
    )

-- a text whose first line is refused
pub line-refused : {answered : Bool} (old new : Option (List ℕ)) (work : Work) (number : ℕ) (text : List ℕ) (line : Line) (more : List ℕ)
    → HasFirstLine text line.text line.ended more → answered ≡ false → WritesAnswer (answer_of work line.text) answered old new
    → (new ≡ old) × (answers work text ≡ []) × (first_refused number work text ≡ Some number)
unfolding answers first_refused
line-refused old new work number text line more split is wrote =
    let (has, kept) = was_refused old new (answer_of work line.text) is wrote in
    let refused : is_refused work line ≡ true = ap is_none has in (
      kept,
      ap (λ ls. flat_map (answer_to work) (before_first (is_refused work) ls)) split
          ∙ ap (flat_map (answer_to work)) (before_first-passes (is_refused work) line (lines more) refused),
      ap (position_from (is_refused work) number) split
          ∙ ap (λ b. cond b (Some number) (position_from (is_refused work) (number + 1) (lines more))) refused,
    )

-- a text without lines has no results, and no line is refused
pub answers-none : (work : Work) (number : ℕ) (text : List ℕ) → lines text ≡ [] → (answers work text ≡ []) × (first_refused number work text ≡ None)
unfolding answers first_refused
answers-none work number text none =
    (ap (λ ls. flat_map (answer_to work) (before_first (is_refused work) ls)) none, ap (position_from (is_refused work) number) none)
