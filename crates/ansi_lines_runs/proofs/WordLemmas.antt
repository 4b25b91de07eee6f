-- The numbers that fields write, and the changes that words ask for in turn.
use Rattle.std.proofs.Common.{◌≡◌, ℕ, ◌+◌, ◌^◌, ◌<◌, Bool, true, ◌&&◌, inl, inr, List, [], ◌∷◌, ◌++◌, append_assoc, length, drop, sym, ◌∙◌, ap, refl, arith, Option, None, Some, Result, Ok, Err}
use Rattle.std.specs.Prelude.{◌≢◌, String, codes, bytes_eq, slice_index, slice_index_or, nat_lt, is_some, string_bytes}
use Rattle.std.specs.Option.{option_map}
use Rattle.std.specs.List.{list_all}
use Rattle.std.specs.Char.{is_ascii_digit}
use Rattle.std.specs.Str.{byte, all_ascii_digits}
use Rattle.std.specs.Str.Parse.{ParsesUnsigned, digits_value}
use Rattle.std.specs.Result.{result_ok, OkIff}
use Rattle.std.proofs.lemmas.Bool.{false≢true, cases_Bool, and_parts, and_from, cond-true, cond-false, ltb-true, lt-ltb}
use Rattle.std.proofs.lemmas.Str.Parse.{parse_plain, numerals_by_value, tells_all_ascii_digits}
use Rattle.std.proofs.lemmas.List.{drop_more}
use Rattle.ansi_lines_runs.specs.Runs.{words_of}
use Rattle.ansi_str.specs.Changes.{Change}
use Rattle.ansi_lines_runs.specs.Words.{Stripped, field_number, change_asked, changes_asked, work_asked}

-- the bytes are one or more digits, and their value fits
abbrev is_number : List ℕ → Bool
is_number t = nat_lt 0 (length t) && (all_ascii_digits t && nat_lt (digits_value 10 t) (2 ^ 64))

field_number-read : {E : Type 0} (t : List ℕ) (r : Result ℕ E) → OkIff r ((all_ascii_digits t ≡ true) × (0 < length t) × (digits_value 10 t < 2 ^ 64)) (digits_value 10 t) → result_ok r ≡ field_number t
field_number-read t (Ok n) (is, value) =
    ap Some value ∙ sym (cond-true (is_number t) _ _ (and_from _ _ (lt-ltb 0 (length t) is.1) (and_from _ _ is.0 (lt-ltb (digits_value 10 t) (2 ^ 64) is.2))))
field_number-read t (Err e) none = elim (cases_Bool (is_number t)) [
  | inl is ↦ (let three = and_parts (nat_lt 0 (length t)) _ is in let two = and_parts (all_ascii_digits t) _ three.1 in
      absurd (none (two.0, ltb-true 0 (length t) three.0, ltb-true (digits_value 10 t) (2 ^ 64) two.1)))
  | inr isnt ↦ sym (cond-false (is_number t) _ _ isnt)
]

-- std reads a field as its number, if no plus is in front
pub field_number-parsed : {E : Type 0} (t : List ℕ) (r : Result ℕ E) → slice_index t 0 ≢ byte "+" → ParsesUnsigned 64 10 t r → result_ok r ≡ field_number t
field_number-parsed t r plain parsed = field_number-read t r (parse_plain (numerals_by_value _ tells_all_ascii_digits) 64 t r parsed plain)

-- a field with a plus in front isn't a number
pub field_number-signed : (t : List ℕ) → slice_index t 0 ≡ byte "+" → field_number t ≡ None
field_number-signed [] plus = refl
field_number-signed (c ∷ cs) plus = elim (cases_Bool (is_number (c ∷ cs))) [
  | inl is ↦ absurd (false≢true (sym (ap (λ b. is_ascii_digit b && all_ascii_digits cs) plus) ∙ (and_parts (all_ascii_digits (c ∷ cs)) _ (and_parts (nat_lt 0 (length (c ∷ cs))) _ is).1).0))
  | inr isnt ↦ cond-false (is_number (c ∷ cs)) _ _ isnt
]

-- no words ask for no changes
pub changes_asked-empty : changes_asked [] ≡ Some []
unfolding changes_asked
changes_asked-empty = refl

-- a word that asks for no change
pub changes_asked-none : (word : List ℕ) (more : List (List ℕ)) → None ≡ change_asked word → changes_asked (word ∷ more) ≡ None
unfolding changes_asked
changes_asked-none word more none = rw (← none) refl

-- a word that asks for a change, and the words after it
pub changes_asked-some : (word : List ℕ) (more : List (List ℕ)) (change : Change) → Some change ≡ change_asked word
    → changes_asked (word ∷ more) ≡ option_map (λ changes. change ∷ changes) (changes_asked more)
unfolding changes_asked
changes_asked-some word more change some = rw (← some) (elim (cases_Bool (list_all (λ word. is_some (change_asked word)) more)) [
  | inl is ↦ rw is refl
  | inr isnt ↦ rw isnt refl
])

-- the bytes of the word of this index, and the words after it
pub words_of-next : {Y : Type 0} (words : List (String Y)) (k : ℕ) (word : String Y) (bytes : List ℕ)
    → k < length words → word ≡ slice_index_or words k word → bytes ≡ string_bytes word → words_of (drop k words) ≡ bytes ∷ words_of (drop (k + 1) words)
words_of-next words k word bytes below is value =
    ap words_of (drop_more words k word below) ∙ ap (λ w. w ∷ words_of (drop (k + 1) words)) (sym (value ∙ ap string_bytes is))

-- no changes in front of others
pub changes-first : (o : Option (List Change)) → o ≡ option_map (λ more. [] ++ more) o
changes-first None = refl
changes-first (Some changes) = refl

-- one more change in front of others
pub changes-next : (changes : List Change) (change : Change) (o : Option (List Change))
    → option_map (λ more. changes ++ more) (option_map (λ more. change ∷ more) o) ≡ option_map (λ more. (changes ++ change ∷ []) ++ more) o
changes-next changes change None = refl
changes-next changes change (Some more) = ap Some (sym (append_assoc changes (change ∷ []) more))

-- `strip` alone
pub work_asked-strip : {Y : Type 0} (words : List (String Y)) (word : String Y) → length words ≡ 1 → word ≡ slice_index_or words 0 word
    → bytes_eq (string_bytes word) (codes "strip") ≡ true → work_asked (words_of words) ≡ Some Stripped
unfolding work_asked
work_asked-strip [] word one is strip = absurd (omega arith)
work_asked-strip (first ∷ []) word one is strip = rw (ap (λ w. bytes_eq (string_bytes w) (codes "strip")) (sym is) ∙ strip) refl
work_asked-strip (first ∷ second ∷ more) word one is strip = absurd (omega arith)
