use Rattle.ansi_split.proofs.Common.{◌≡◌, ◌≤◌, ℕ, List, inl, inr, Option, None, Some, option_map, length, refl, sym, ◌∙◌, ap, slice_get, is_some, true≢false, arith, MatchOption, plain_style, CarriedPart, parts_left}
use Rattle.std.specs.Iterator.{YieldsFirst, YieldsThen}
use Rattle.std.proofs.lemmas.Iterator.Consumers.{nth_from_yields_List, YieldsList-from_first}
use Rattle.ansi_split.proofs.SplitLemmas.{part_at, no_part_at}
use Rattle.ansi_split.proofs.PartLengthLemmas.{source_len_within}
use Rattle.ansi_split.proofs.split.part_in.Goals as goal

at_index : {first : List CarriedPart} (left : List CarriedPart) (t p : List ℕ) (k : ℕ) (r : Option CarriedPart) → (xs : List CarriedPart) × YieldsThen (YieldsFirst (λ s. s)) first xs r left × MatchOption r (length xs ≤ k) (λ _. length xs ≡ k)
    → first ≡ parts_left plain_style t p 0 0 → slice_get (parts_left plain_style t p 0 0) k ≡ r
at_index left t p k r ran begins = sym (nth_from_yields_List r left k ran (YieldsList-from_first (λ q. q) (λ s. s) (parts_left plain_style t p 0 0) begins)) ∙ itself r
  where
    itself : (r : Option CarriedPart) → option_map (λ q. q) r ≡ r
    itself None = refl
    itself (Some q) = refl

pub returns-in_ok-write-in-Some : goal.returns-in_ok-write-in-Some
returns-in_ok-write-in-Some g c =
    let t = c.args.text.now in
    let p = c.args.pat.now in
    let part = part_at t p c.args.index c.in-Some.span (at_index _ t p c.args.index c.nth.result c.nth.ensures.ran c.new.ensures ∙ c.in-Some.is) in
    let written = c.in_ok-write-in-Some.ensures in
    record {
      none = (λ e. absurd (true≢false e), λ nothing. sym (ap is_some part.found) ∙ nothing);
      bytes = part.bytes ∙ ap Some (sym written.part.0);
      borrowed = (λ borrowed. inr (part.borrowed ∙ written.part.1.0 borrowed), λ any. written.part.1.1 (elim any [ inl none ↦ part.bare none | inr borrowed ↦ sym part.borrowed ∙ borrowed ]));
      len = omega (arith, written.part.2, part.source_len);
      within = source_len_within t p c.args.index;
      takes_no_memory = λ _. refl;
    }

-- a part that is a borrow is never an `Err`
pub returns-in_err-write-in-Some-clause-takes_no_memory : goal.returns-in_err-write-in-Some-clause-takes_no_memory
returns-in_err-write-in-Some-clause-takes_no_memory g c =
    let t = c.args.text.now in
    let p = c.args.pat.now in
    let part = part_at t p c.args.index c.in-Some.span (at_index _ t p c.args.index c.nth.result c.nth.ensures.ran c.new.ensures ∙ c.in-Some.is) in
    λ any. absurd (true≢false (sym (c.in_err-write-in-Some.ensures.takes_no_memory (elim any [
      | inl none ↦ part.bare none
      | inr (inl borrowed) ↦ sym part.borrowed ∙ borrowed
      | inr (inr nothing) ↦ absurd (true≢false (sym (ap is_some part.found) ∙ nothing))
    ]))))

pub returns-in_err-write-in-Some-clause-within : goal.returns-in_err-write-in-Some-clause-within
returns-in_err-write-in-Some-clause-within g c = source_len_within c.args.text.now c.args.pat.now c.args.index

pub returns-in-None-clause-none : goal.returns-in-None-clause-none
returns-in-None-clause-none g c =
    let t = c.args.text.now in
    let p = c.args.pat.now in
    let none = no_part_at t p c.args.index (at_index _ t p c.args.index c.nth.result c.nth.ensures.ran c.new.ensures ∙ c.in-None.is) in
    (λ e. ap is_some none, λ e. refl)

pub returns-in-None-clause-within : goal.returns-in-None-clause-within
returns-in-None-clause-within g c = source_len_within c.args.text.now c.args.pat.now c.args.index
