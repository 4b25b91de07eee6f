use Rattle.std.proofs.Common.{ℕ, List, [], ◌++◌, ◌≡◌, ◌≢◌, Option, Some, None, is_some, true, false, sym, ◌∙◌, ap, subst, rules, IsTrue}
use Rattle.std.proofs.lemmas.Bool.{and_parts}
use Rattle.ansi_items.specs.Plain.{plain}
use Rattle.ansi_search.specs.Matches.{first_match_from}
use Rattle.ansi_safe.specs.Safe.{is_safe}
use Rattle.ansi_restyle.specs.Matches.{matches}
use Rattle.ansi_restyle.specs.ReplacedAll.{replaced_all, IsReplacedAll}
use Rattle.ansi_restyle.proofs.LengthEachLemmas.{length-replaced_all}
use Rattle.ansi_restyle.proofs.ReplacedAllLemmas.{no_matches, some_matches, replaced_all-nothing, is_replaced_all}
use Rattle.ansi_restyle.proofs.SafeEachLemmas.{safe-replaced_all}
use Rattle.ansi_restyle.proofs.replace_all.replace_all_in.Goals as goal

-- nothing matches

none_found : (x p : List ℕ) (r : Option ℕ) → r ≡ first_match_from x p 0 → is_some r ≡ false → matches x p ≡ []
none_found x p None is none = no_matches x p (sym is)
none_found x p (Some m) is none = absurd (cc none)

pub returns-then-is_none-clause-bytes : goal.returns-then-is_none-clause-bytes
returns-then-is_none-clause-bytes g c =
    let t = c.args.text.now in
    let p = c.args.pat.now in
    sym (replaced_all-nothing t p c.args.with.now (none_found (plain t) p c.find_from.result c.find_from.ensures.first c.if-is_none.ensures))

pub returns-then-is_none-clause-headline : goal.returns-then-is_none-clause-headline
returns-then-is_none-clause-headline g c =
    let t = c.args.text.now in
    let p = c.args.pat.now in
    let w = c.args.with.now in
    λ whole. subst (IsReplacedAll t (matches (plain t) p) w) (sym (returns-then-is_none-clause-bytes g c)) (is_replaced_all t p w c.utf8.text c.utf8.pat whole)

pub returns-then-is_none-clause-borrowed : goal.returns-then-is_none-clause-borrowed
returns-then-is_none-clause-borrowed g c =
    let none = none_found (plain c.args.text.now) c.args.pat.now c.find_from.result c.find_from.ensures.first c.if-is_none.ensures in
    (λ is. none, λ is. tt)

pub returns-then-is_none-clause-safe : goal.returns-then-is_none-clause-safe
returns-then-is_none-clause-safe g c = λ links safe outside. (and_parts (is_safe links c.args.text.now) (is_safe links c.args.with.now) safe).0

-- something does

some_found : (x p : List ℕ) (r : Option ℕ) → r ≡ first_match_from x p 0 → is_some r ≡ true → matches x p ≢ []
some_found x p None is some = absurd (cc some)
some_found x p (Some m) is some = some_matches x p m (sym is)

pub returns-in_err-replaced-clause-takes_no_memory : goal.returns-in_err-replaced-clause-takes_no_memory
returns-in_err-replaced-clause-takes_no_memory g c =
    λ none. absurd (some_found (plain c.args.text.now) c.args.pat.now c.find_from.result c.find_from.ensures.first c.if-is_none.ensures none)

pub returns-in_err-push_replaced_all-clause-takes_no_memory : goal.returns-in_err-push_replaced_all-clause-takes_no_memory
returns-in_err-push_replaced_all-clause-takes_no_memory g c =
    λ none. absurd (some_found (plain c.args.text.now) c.args.pat.now c.find_from.result c.find_from.ensures.first c.if-is_none.ensures none)

pub returns-clause-headline : goal.returns-clause-headline
returns-clause-headline g c =
    let t = c.args.text.now in
    let p = c.args.pat.now in
    let w = c.args.with.now in
    λ whole. subst (IsReplacedAll t (matches (plain t) p) w) (search rules) (is_replaced_all t p w c.utf8.text c.utf8.pat whole)

pub returns-clause-borrowed : goal.returns-clause-borrowed
returns-clause-borrowed g c =
    let some = some_found (plain c.args.text.now) c.args.pat.now c.find_from.result c.find_from.ensures.first c.if-is_none.ensures in
    (λ is. absurd is, λ none. absurd (some none))

pub returns-clause-len : goal.returns-clause-len
returns-clause-len g c =
    let t = c.args.text.now in
    let w = c.args.with.now in
    length-replaced_all t c.args.pat.now w _ c.utf8.text c.utf8.pat (c.in_ok-push_replaced_all.ensures ∙ ap (λ (u : List ℕ). u ++ replaced_all t c.args.pat.now w) c.in_ok-replaced.ensures.bytes)

-- and safe, if no match begins between a carriage return and a line feed
pub returns-clause-safe : goal.returns-clause-safe
returns-clause-safe g c =
    let t = c.args.text.now in
    let p = c.args.pat.now in
    let w = c.args.with.now in
    let bytes = c.in_ok-push_replaced_all.ensures ∙ ap (λ (u : List ℕ). u ++ replaced_all t p w) c.in_ok-replaced.ensures.bytes in
    λ links safe outside. subst (λ (u : List ℕ). IsTrue (is_safe links u)) (sym bytes) (safe-replaced_all links t p w c.utf8.text c.utf8.pat c.utf8.with safe outside)
