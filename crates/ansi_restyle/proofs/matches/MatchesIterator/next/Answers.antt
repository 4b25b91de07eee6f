use Rattle.std.proofs.Common.{◌≡◌, ℕ, ◌+◌, List, ◌∷◌, length, drop, sym, ◌∙◌, ap, ap₂, arith}
use Rattle.std.proofs.lemmas.List.{length-drop}
use Rattle.ansi_items.specs.Plain.{plain}
use Rattle.ansi_restyle.specs.Matches.{matches_left}
use Rattle.ansi_restyle.specs.Rests.{IsDivided}
use Rattle.ansi_restyle.proofs.FrontLemmas.{plain-rest}
use Rattle.ansi_restyle.proofs.MatchLemmas.{matches_left-none, matches_left-first, match_within, match_ends_within, match_begins_good, some_if_good}
use Rattle.ansi_restyle.proofs.matches.MatchesIterator.next.Goals as goal

-- no match is left
pub returns-in_default-clause-steps : goal.returns-in_default-clause-steps
returns-in_default-clause-steps c =
    let s = c.self.inside in
    let none = sym c.self.view_is ∙ matches_left-none s.position (plain s.rest.text.now) s.pat.now s.from (sym c.in_default.ensures) in
    (none, none)

-- a match begins at a good position
pub unwrap-requires : goal.unwrap-requires
unwrap-requires c =
    let s = c.self.inside in
    some_if_good c.divide.result _ _ c.divide.ensures (match_begins_good (plain s.rest.text.now) s.pat.now s.from c.in-Some.place (sym c.in-Some.ensures))

pub overflow_add-self : goal.overflow_add-self
overflow_add-self c =
    let s = c.self.inside in
    omega (arith, c.self.invariant, match_within (plain s.rest.text.now) s.pat.now s.from c.in-Some.place (sym c.in-Some.ensures))

pub overflow_add-result : goal.overflow_add-result
overflow_add-result c =
    let s = c.self.inside in
    omega (arith, c.self.invariant, match_ends_within (plain s.rest.text.now) s.pat.now s.from c.in-Some.place (sym c.in-Some.ensures))

-- what follows a match
IsDivided-plain : {t front after : List ℕ} {m : ℕ} → IsDivided t m front after → plain after ≡ drop m (plain t)
IsDivided-plain {t} {m = m} divided = ap plain divided.rest_is ∙ plain-rest t m

pub invariant_of-self : goal.invariant_of-self
invariant_of-self c =
    let s = c.self.inside in
    let x = plain s.rest.text.now in
    let m = c.in-Some.place in
    let divided : IsDivided s.rest.text.now m c.unwrap.result.front.now c.unwrap.result.rest.text.now = rw c.unwrap.ensures at c.divide.ensures in
    let within = match_within x s.pat.now s.from m (sym c.in-Some.ensures) in
    omega (arith, c.self.invariant, ap length (IsDivided-plain divided), length-drop m x, within)

pub returns-clause-steps : goal.returns-clause-steps
returns-clause-steps c =
    let s = c.self.inside in
    let n = s.position in
    let x = plain s.rest.text.now in
    let p = s.pat.now in
    let m = c.in-Some.place in
    let divided : IsDivided s.rest.text.now m c.unwrap.result.front.now c.unwrap.result.rest.text.now = rw c.unwrap.ensures at c.divide.ensures in
    sym c.self.view_is ∙ matches_left-first n x p s.from m (sym c.in-Some.ensures)
    ∙ ap₂ (λ y k. (n + m, n + m + length p) ∷ matches_left (n + m) y p k) (sym (IsDivided-plain divided)) (sym c.max-self-inside.ensures)

pub returns-clause-goes : goal.returns-clause-goes
returns-clause-goes c =
    let fewer = ap length (returns-clause-steps c) in
    record { on = λ _. (tt, tt, omega (arith, fewer)); keeps = tt; rests = λ _. tt }
