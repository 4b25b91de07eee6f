-- What a call by columns writes of a text that isn't joined yet.
use Rattle.std.proofs.Common.{◌≡◌, ◌⊎◌, Bool, true, false, not, ℕ, List, [], length, ◌&&◌, ◌==◌, Some, Result, Ok, Err, IsTrue, inl, inr, sym, refl, subst, ◌∙◌}
use Rattle.std.specs.Prelude.{IsOk, IfOk, MatchResult}
use Rattle.std.specs.Str.{IsUtf8}
use Rattle.std.proofs.lemmas.Bool.{true≢false, and_parts, eqb-true}
use Rattle.std.proofs.lemmas.List.{nil_from_length}
use Rattle.ansi_safe.specs.Cells.{cell, is_cell}
use Rattle.ansi_safe.proofs.CellTextLemmas.{cell-stays}
use Rattle.ansi_cells.proofs.KeptLemmas.{kept-stays}
use Rattle.ansi_cells.proofs.TailForLemmas.{IsSameCut, ending-same, tail-none}
use Rattle.ansi_calls.specs.Columns.{is_front}
use Rattle.ansi_cells.specs.Shown.{shown_bytes, IsLent, has_tail, truncated_ending, closed_cell, KeptStays}
use Rattle.ansi_cells.specs.Slices.{sliced_bytes, IsLentSlice}
use Rattle.ansi_cells.specs.declared.shown.Shown.{Shown}
use Rattle.ansi_cells.specs.declared.slices.Sliced.{Sliced}
use Rattle.ansi_text_calls.specs.declared.answers.Answer.{Answer}
use Rattle.ansi_text_calls.specs.Answers.{out_of_memory, HasFailed, IsWritten, Gives}

-- a text by its bytes, and whether it is lent
module _ {S : Type 0} (bytes_of : S → List ℕ) (IsLentText : S → Type 0) where
  pub Gives-unjoined : {E : Type 0} (absent : ℕ) (stays : Bool) (text : List ℕ) (gave : Result S E) (answer : Answer) (old new : List ℕ)
      → IfOk gave (λ s. bytes_of s ≡ text) → (IsTrue stays → IsOk gave) → (IsTrue stays → IfOk gave IsLentText)
      → MatchResult gave (λ s. IsWritten (bytes_of s) answer old new ⊎ ((IsLentText s → ⊥) × HasFailed out_of_memory answer old new)) (λ e. HasFailed out_of_memory answer old new)
      → Gives absent (not stays) (Some text) answer old new
  Gives-unjoined absent stays text (Ok s) answer old new is fits lent (inl told) = inl (subst (λ text. IsWritten text answer old new) is told)
  Gives-unjoined absent true text (Ok s) answer old new is fits lent (inr told) = absurd (told.0 (lent refl))
  Gives-unjoined absent false text (Ok s) answer old new is fits lent (inr told) = inr (refl, told.1)
  Gives-unjoined absent true text (Err e) answer old new is fits lent told = absurd (true≢false (sym (fits refl)))
  Gives-unjoined absent false text (Err e) answer old new is fits lent told = inr (refl, told)

pub Gives-shown : {A E : Type 0} (absent : ℕ) (stays : Bool) (text : List ℕ) (gave : Result (Shown A) E) (answer : Answer) (old new : List ℕ)
    → IfOk gave (λ s. shown_bytes s ≡ text) → (IsTrue stays → IsOk gave) → (IsTrue stays → IfOk gave IsLent)
    → MatchResult gave (λ s. IsWritten (shown_bytes s) answer old new ⊎ ((IsLent s → ⊥) × HasFailed out_of_memory answer old new)) (λ e. HasFailed out_of_memory answer old new)
    → Gives absent (not stays) (Some text) answer old new
Gives-shown = Gives-unjoined shown_bytes IsLent

pub Gives-slice : {A E : Type 0} (absent : ℕ) (stays : Bool) (text : List ℕ) (gave : Result (Sliced A) E) (answer : Answer) (old new : List ℕ)
    → IfOk gave (λ s. sliced_bytes s ≡ text) → (IsTrue stays → IsOk gave) → (IsTrue stays → IfOk gave IsLentSlice)
    → MatchResult gave (λ s. IsWritten (sliced_bytes s) answer old new ⊎ ((IsLentSlice s → ⊥) × HasFailed out_of_memory answer old new)) (λ e. HasFailed out_of_memory answer old new)
    → Gives absent (not stays) (Some text) answer old new
Gives-slice = Gives-unjoined sliced_bytes IsLentSlice

-- there is no memory for what it needs first
pub Gives-failed : (absent : ℕ) (stays : Bool) (text : List ℕ) (answer : Answer) (old : List ℕ) → (IsTrue stays → ⊥) → HasFailed out_of_memory answer old old → Gives absent (not stays) (Some text) answer old old
Gives-failed absent true text answer old never told = absurd (never refl)
Gives-failed absent false text answer old never told = inr (refl, told)

module _ (t : List ℕ) (width : ℕ) (tail : List ℕ) where
  front-parts : IsTrue (is_front t width tail) → IsTrue (is_cell t) × (truncated_ending (cell t) width (closed_cell tail) ≡ [])
  front-parts front =
      let after = truncated_ending (cell t) width (closed_cell tail) in
      let parts = and_parts (is_cell t) (length after == 0) front in
      (parts.0, nil_from_length after (eqb-true (length after) 0 parts.1))

  -- a cell that becomes a front of it stays with any text in the place of the tail, so it is lent
  pub front-lent : {x : List ℕ} → IsUtf8 t → IsSameCut (cell t) width x (closed_cell tail) → IsTrue (is_front t width tail) → KeptStays t width x × (truncated_ending (cell t) width x ≡ [])
  front-lent {x} utf8 same front = (kept-stays t width x utf8 (cell-stays t utf8 (front-parts front).0), ending-same same ∙ (front-parts front).1)

  -- and the tail isn't made
  pub front-tail : IsTrue (is_front t width tail) → IsTrue (has_tail (cell t) width (closed_cell tail)) → closed_cell tail ≡ []
  front-tail front = tail-none (cell t) (closed_cell tail) width (front-parts front).1
