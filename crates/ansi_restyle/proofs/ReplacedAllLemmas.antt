-- A text with another in place of each of the matches of a pattern.
use Rattle.std.proofs.Common.{◌≡◌, ◌≢◌, ◌&&◌, Some, None, ℕ, true, List, [], ◌∷◌, refl, sym, ◌∙◌, ap, subst, IsTrue}
use Rattle.std.proofs.lemmas.Bool.{and_from, and_parts}
use Rattle.std.specs.Str.{IsUtf8}
use Rattle.ansi_items.specs.Plain.{plain, is_whole}
use Rattle.ansi_items.proofs.Utf8Lemmas.{IsUtf8-plain}
use Rattle.ansi_search.specs.Matches.{first_match_from}
use Rattle.ansi_restyle.specs.Matches.{matches}
use Rattle.ansi_restyle.specs.Ranges.{are_in_turn}
use Rattle.ansi_restyle.specs.ReplacedAll.{replaced_all, IsReplacedAll}
use Rattle.ansi_restyle.specs.ReplacedEach.{swaps_with, ranges_of, are_whole, replaced_each}
use Rattle.ansi_restyle.specs.declared.replace_each.Replacing.{Replacing}
use Rattle.ansi_restyle.proofs.MatchLemmas.{matches_left-all, matches_left-none, matches_left-first, matches_in_turn}
use Rattle.ansi_restyle.proofs.ReplacedEachLemmas.{IsReplacedSoFar, is_replaced_each, replaced-nothing}

pub ranges_of-with : (w : List ℕ) (rs : List (ℕ × ℕ)) → ranges_of (swaps_with w rs) ≡ rs
ranges_of-with w [] = refl
ranges_of-with w (r ∷ rs) = ap (λ qs. r ∷ qs) (ranges_of-with w rs)

pub with_in_turn : (x w : List ℕ) (n : ℕ) (rs : List (ℕ × ℕ)) → are_in_turn x n rs ≡ true → are_in_turn x n (ranges_of (swaps_with w rs)) ≡ true
with_in_turn x w n rs turn = ap (are_in_turn x n) (ranges_of-with w rs) ∙ turn

are_whole-with : (w : List ℕ) (rs : List (ℕ × ℕ)) → IsTrue (is_whole w) → IsTrue (are_whole (swaps_with w rs))
are_whole-with w [] whole = refl
are_whole-with w (r ∷ rs) whole = and_from (is_whole w) (are_whole (swaps_with w rs)) whole (are_whole-with w rs whole)

pub begun-with : {x goal out : List ℕ} {s : Replacing} {qs : List (ℕ × ℕ)} (w : List ℕ) (rs : List (ℕ × ℕ)) → qs ≡ rs → IsReplacedSoFar x goal out s (swaps_with w rs) → IsReplacedSoFar x goal out s (swaps_with w qs)
begun-with {x} {goal} {out} {s} w rs is so_far = subst (λ ps. IsReplacedSoFar x goal out s (swaps_with w ps)) (sym is) so_far

pub no_matches : (x p : List ℕ) → first_match_from x p 0 ≡ None → matches x p ≡ []
no_matches x p none = sym (matches_left-all x p) ∙ matches_left-none 0 x p 0 none

pub some_matches : (x p : List ℕ) (m : ℕ) → first_match_from x p 0 ≡ Some m → matches x p ≢ []
some_matches x p m found none = absurd (cc (sym none ∙ sym (matches_left-all x p) ∙ matches_left-first 0 x p 0 m found))

pub replaced_all-nothing : (t p w : List ℕ) → matches (plain t) p ≡ [] → replaced_all t p w ≡ t
replaced_all-nothing t p w none = ap (λ rs. replaced_each t (swaps_with w rs)) none ∙ replaced-nothing t [] refl

pub is_replaced_all : (t p w : List ℕ) → IsUtf8 t → IsUtf8 p → IsTrue (is_whole t && is_whole w) → IsReplacedAll t (matches (plain t) p) w (replaced_all t p w)
is_replaced_all t p w utf8 utf8_p whole =
    let both = and_parts (is_whole t) (is_whole w) whole in
    let rs = matches (plain t) p in
    is_replaced_each t (swaps_with w rs) (with_in_turn (plain t) w 0 rs (matches_in_turn (plain t) p (IsUtf8-plain t utf8) utf8_p)) both.0 (are_whole-with w rs both.1)
