use Rattle.std.proofs.Common.{◌≡◌, ℕ, ◌==◌, ◌⊎◌, true, false, List, length, inl, inr, Some, sym, ◌∙◌, ap, ap₂, subst, IsTrue, IsFalse, string_bytes}
use Rattle.ansi_items.specs.Plain.{plain}
use Rattle.ansi_items.specs.Sequences.{is_sgr}
use Rattle.ansi_items.proofs.Utf8Lemmas.{IsUtf8-plain}
use Rattle.ansi_style.specs.Written.{written}
use Rattle.ansi_safe.specs.Safe.{is_safe}
use Rattle.ansi_search.specs.Matches.{first_match_from}
use Rattle.ansi_restyle.specs.Matches.{matches}
use Rattle.ansi_restyle.specs.Ranges.{are_empty}
use Rattle.ansi_restyle.specs.Restyled.{is_change, restyled, IsRestyled}
use Rattle.ansi_restyle.proofs.OtherLemmas.{change_is_sgr}
use Rattle.ansi_restyle.proofs.EmptyLemmas.{restyled-empty}
use Rattle.ansi_restyle.proofs.LengthLemmas.{length-restyled}
use Rattle.ansi_restyle.proofs.MatchLemmas.{matches_in_turn, matches-empty, matches-none, matches-some}
use Rattle.ansi_restyle.proofs.RestyledLemmas.{is_restyled}
use Rattle.ansi_restyle.proofs.SafeRangeLemmas.{safe-restyled}
use Rattle.ansi_restyle.proofs.restyle.mark_in.Goals as goal

-- the matches of an empty pattern are empty, and change nothing

pub returns-then-is_empty-clause-bytes : goal.returns-then-is_empty-clause-bytes
returns-then-is_empty-clause-bytes g c =
    let x = plain c.args.text.now in
    let p = c.args.pat.now in
    sym (restyled-empty c.args.text.now (written c.args.codes.now) (matches x p) (matches-empty x p (sym c.is_empty.ensures ∙ c.if-is_empty.true)))

pub returns-then-is_empty-clause-headline : goal.returns-then-is_empty-clause-headline
returns-then-is_empty-clause-headline g c =
    let t = c.args.text.now in
    let x = plain t in
    let p = c.args.pat.now in
    let w = written c.args.codes.now in
    λ whole. subst (IsRestyled t w (matches x p)) (sym (returns-then-is_empty-clause-bytes g c))
    (is_restyled t c.args.codes.now (matches x p) (sym c.is_change.ensures ∙ c.if-not-is_change.false) (matches_in_turn x p (IsUtf8-plain t c.utf8.text) c.utf8.pat) whole)

pub returns-then-is_empty-clause-borrowed : goal.returns-then-is_empty-clause-borrowed
returns-then-is_empty-clause-borrowed g c =
    let empty = matches-empty (plain c.args.text.now) c.args.pat.now (sym c.is_empty.ensures ∙ c.if-is_empty.true) in
    ((λ borrow. empty), (λ none. tt))

-- no match changes nothing

pub returns-in_default-clause-bytes : goal.returns-in_default-clause-bytes
returns-in_default-clause-bytes g c =
    let t = c.args.text.now in
    let p = c.args.pat.now in
    ap (restyled t (written c.args.codes.now)) (sym (matches-none (plain t) p c.in_default.ensures))

pub returns-in_default-clause-headline : goal.returns-in_default-clause-headline
returns-in_default-clause-headline g c =
    let t = c.args.text.now in
    let x = plain t in
    let p = c.args.pat.now in
    λ whole. subst (IsRestyled t (written c.args.codes.now) (matches x p)) (sym (returns-in_default-clause-bytes g c))
    (is_restyled t c.args.codes.now (matches x p) (sym c.is_change.ensures ∙ c.if-not-is_change.false) (matches_in_turn x p (IsUtf8-plain t c.utf8.text) c.utf8.pat) whole)

pub returns-in_default-clause-borrowed : goal.returns-in_default-clause-borrowed
returns-in_default-clause-borrowed g c =
    let t = c.args.text.now in
    let p = c.args.pat.now in
    ((λ borrow. ap are_empty (matches-none (plain t) p c.in_default.ensures)), (λ empty. tt))

-- memory is taken only if a match isn't empty

none_taken : (G : Type 0) (t p codes : List ℕ) (m : ℕ) → first_match_from (plain t) p 0 ≡ Some m → (length p == 0) ≡ false → is_change codes ≡ true → IsTrue (are_empty (matches (plain t) p)) ⊎ IsFalse (is_change codes) → G
none_taken G t p codes m found filled is either = elim either [
  | inl empty ↦ absurd (matches-some (plain t) p m filled found empty)
  | inr refused ↦ absurd (cc (refused, is))
]

pub returns-in_err-change-clause-takes_no_memory : goal.returns-in_err-change-clause-takes_no_memory
returns-in_err-change-clause-takes_no_memory g c =
    none_taken _ c.args.text.now c.args.pat.now c.args.codes.now c.in-Some.ensures.1.place c.in-Some.ensures.1.first
    (sym c.is_empty.ensures ∙ c.if-is_empty.false) (sym c.is_change.ensures ∙ c.if-not-is_change.false)

pub returns-in_err-marked-clause-takes_no_memory : goal.returns-in_err-marked-clause-takes_no_memory
returns-in_err-marked-clause-takes_no_memory g c =
    none_taken _ c.args.text.now c.args.pat.now c.args.codes.now c.in-Some.ensures.1.place c.in-Some.ensures.1.first
    (sym c.is_empty.ensures ∙ c.if-is_empty.false) (sym c.is_change.ensures ∙ c.if-not-is_change.false)

-- each match is written

pub marked_text-requires-clause-change : goal.marked_text-requires-clause-change
marked_text-requires-clause-change g c =
    subst (λ u. IsTrue (is_sgr u)) (sym (c.as_str.ensures.value ∙ c.in_ok-change.ensures)) (change_is_sgr c.args.codes.now (sym c.is_change.ensures ∙ c.if-not-is_change.false))

pub returns-clause-bytes : goal.returns-clause-bytes
returns-clause-bytes g c =
    let x = plain c.args.text.now in
    c.in_ok-marked.ensures
    ∙ ap₂ (λ v p. restyled c.args.text.now v (matches x p)) (c.as_str.ensures.value ∙ c.in_ok-change.ensures) c.in-Some.ensures.0

pub returns-clause-headline : goal.returns-clause-headline
returns-clause-headline g c =
    let t = c.args.text.now in
    let x = plain t in
    let p = c.args.pat.now in
    λ whole. subst (IsRestyled t (written c.args.codes.now) (matches x p)) (sym (returns-clause-bytes g c))
    (is_restyled t c.args.codes.now (matches x p) (sym c.is_change.ensures ∙ c.if-not-is_change.false) (matches_in_turn x p (IsUtf8-plain t c.utf8.text) c.utf8.pat) whole)

pub returns-clause-borrowed : goal.returns-clause-borrowed
returns-clause-borrowed g c =
    let t = c.args.text.now in
    let p = c.args.pat.now in
    ((λ never. absurd never), matches-some (plain t) p c.in-Some.ensures.1.place (sym c.is_empty.ensures ∙ c.if-is_empty.false) c.in-Some.ensures.1.first)

pub returns-clause-len : goal.returns-clause-len
returns-clause-len g c =
    length-restyled c.args.text.now c.args.codes.now (matches (plain c.args.text.now) c.args.pat.now) (string_bytes c.in_ok-marked.marked) (returns-clause-bytes g c)

-- and safe, if no match parts a line end
pub returns-clause-safe : goal.returns-clause-safe
returns-clause-safe g c =
    let t = c.args.text.now in
    let x = plain t in
    let p = c.args.pat.now in
    λ links safe kept. subst (λ u. IsTrue (is_safe links u)) (sym (returns-clause-bytes g c))
    (safe-restyled links t c.args.codes.now (matches x p) c.utf8.text (sym c.is_change.ensures ∙ c.if-not-is_change.false) (matches_in_turn x p (IsUtf8-plain t c.utf8.text) c.utf8.pat) safe kept)
