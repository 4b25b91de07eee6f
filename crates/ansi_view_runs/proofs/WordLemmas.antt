-- The first bad word, and a word that asks for a change.
use Rattle.std.proofs.Common.{◌≡◌, List, ℕ, [], ◌∷◌, ◌++◌, None, Some, false, refl, ap, sym, ◌∙◌}
use Rattle.std.specs.Prelude.{◌≢◌, codes, fold}
use Rattle.std.specs.Str.{bytes_eq}
use Rattle.std.proofs.lemmas.Bool.{false_from_ne_true}
use Rattle.std.proofs.lemmas.Slice.Eq.{bytes_eq-Decides}
use Rattle.ansi_view_runs.specs.Edits.{Change}
use Rattle.ansi_view_runs.specs.Views.{Work}
use Rattle.ansi_view_runs.specs.Words.{change_asked, bad_word, with_word, work_named}

-- other bytes aren't the same
other : (word name : List ℕ) → word ≢ name → bytes_eq word name ≡ false
other word name differs = false_from_ne_true (bytes_eq word name) (λ e. differs ((bytes_eq-Decides word name).0 e))

-- a word that is none of the program's is the first bad one
pub bad_word-first : (word : List ℕ) (more : List (List ℕ)) → word ≢ codes "show" → word ≢ codes "links" → word ≢ codes "plain" → None ≡ change_asked word → bad_word (word ∷ more) ≡ Some word
bad_word-first word more not_show not_links not_plain none =
    rw (other word (codes "show") not_show, other word (codes "links") not_links, other word (codes "plain") not_plain, ← none) refl

-- a word that asks for a change is no bad one
pub bad_word-change : (word : List ℕ) (more : List (List ℕ)) (change : Change) → word ≢ codes "show" → word ≢ codes "links" → word ≢ codes "plain" → Some change ≡ change_asked word
    → bad_word (word ∷ more) ≡ bad_word more
bad_word-change word more change not_show not_links not_plain asks =
    rw (other word (codes "show") not_show, other word (codes "links") not_links, other word (codes "plain") not_plain, ← asks) refl

-- it asks for one more
pub with_word-change : (work : Work) (word : List ℕ) (change : Change) → word ≢ codes "show" → word ≢ codes "links" → word ≢ codes "plain" → Some change ≡ change_asked word
    → with_word work word ≡ record work { changes = work.changes ++ change ∷ [] }
with_word-change work word change not_show not_links not_plain asks =
    rw (other word (codes "show") not_show, other word (codes "links") not_links, other word (codes "plain") not_plain, ← asks) refl

-- what is known of the words after a good word, if this is known of it and them
pub record Asked (work : Work) (left all : List (List ℕ)) : Type 0 where
  pub asked : fold with_word work left ≡ work_named all
  pub none_bad : bad_word left ≡ bad_word all

pub Asked-next : (work work_then : Work) (word : List ℕ) (left more all : List (List ℕ)) → Asked work left all → left ≡ word ∷ more → with_word work word ≡ work_then → bad_word (word ∷ more) ≡ bad_word more
    → Asked work_then more all
Asked-next work work_then word left more all so_far is then good = record {
  asked = ap (λ v. fold with_word v more) (sym then) ∙ ap (fold with_word work) (sym is) ∙ so_far.asked;
  none_bad = sym good ∙ ap bad_word (sym is) ∙ so_far.none_bad;
}
