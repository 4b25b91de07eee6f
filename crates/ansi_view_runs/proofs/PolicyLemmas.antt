-- What an input becomes is safe by the policy of the words, if the tails are.
use Rattle.std.proofs.Common.{◌≡◌, inl, inr, ℕ, zero, suc, ◌==◌, ◌||◌, Bool, true, false, All, List, [], ◌∷◌, ◌++◌, codes, flat_map, fold, length, if◌then◌else◌, refl, sym, ap, subst}
use Rattle.std.specs.List.{AllByRecursion, list_all, join_by}
use Rattle.std.specs.Str.{IsUtf8}
use Rattle.std.proofs.lemmas.Bool.{and_from, and_parts}
use Rattle.std.proofs.lemmas.List.Elements.{recursion_from_All}
use Rattle.std.proofs.lemmas.Str.{IsUtf8-nil}
use Rattle.ansi_items.specs.Pieces.{Piece, Text, Sequence, LoneEscape, pieces_of}
use Rattle.ansi_items.specs.Sequences.{is_sgr}
use Rattle.ansi_items.proofs.JoinLemmas.{spelled-pieces_of, pieces_stand}
use Rattle.ansi_safe.specs.declared.policy.Links.{Links}
use Rattle.ansi_safe.specs.declared.policy.Links.TheVariants.{Keep, Remove}
use Rattle.ansi_safe.specs.Safe.{may_stay, is_safe}
use Rattle.ansi_safe.proofs.MadeLemmas.{whole-safe}
use Rattle.ansi_columns.specs.Edits as columns
use Rattle.ansi_cells.specs.Shown.{closed_cell}
use Rattle.ansi_view_runs.specs.Edits.{Change, OnColumns, Wrapped, HasUtf8Tail, HasTailBy, changed, changed_in_turn}
use Rattle.ansi_view_runs.specs.Lines.{Line, first_line, first_lines, lines}
use Rattle.ansi_view_runs.specs.SafeTexts.{IsSafeText}
use Rattle.ansi_view_runs.specs.Views.{Work, line_break, opening_after, shown, viewed, viewed_all, view_of}
use Rattle.ansi_view_runs.proofs.ChangeLemmas.{HaveUtf8Tails, safe-changed}
use Rattle.ansi_view_runs.proofs.NoLinkLemmas.{only_sgr, HasNoLink, no_link-nil, no_link-append, no_link-bare, own-sgrs, IsBare, NoneHasLink, TailHasNoLink, no_link-changed}
use Rattle.ansi_view_runs.proofs.SafeViewLemmas.{IsEnd, first-ends, opening_after-utf8, shown-safe, shown-text, view_of-safe}

-- ---- a safe text is safe without links if it has none

sgr-may_stay : (p : Piece) → may_stay Keep p ≡ true → only_sgr p ≡ true → may_stay Remove p ≡ true
sgr-may_stay (Text w) stays sgr = stays
sgr-may_stay (Sequence w) stays sgr = ap (λ b. b || false) sgr
sgr-may_stay LoneEscape stays sgr = stays

sgrs-may_stay : (ps : List Piece) → list_all (may_stay Keep) ps ≡ true → list_all only_sgr ps ≡ true → list_all (may_stay Remove) ps ≡ true
sgrs-may_stay [] stay sgrs = refl
sgrs-may_stay (p ∷ ps) stay sgrs =
    let stays = and_parts (may_stay Keep p) (list_all (may_stay Keep) ps) stay in
    let both = and_parts (only_sgr p) (list_all only_sgr ps) sgrs in
    and_from (may_stay Remove p) (list_all (may_stay Remove) ps) (sgr-may_stay p stays.0 both.0) (sgrs-may_stay ps stays.1 both.1)

pub no_link-safe : (t : List ℕ) → is_safe Keep t ≡ true → HasNoLink t → is_safe Remove t ≡ true
no_link-safe t safe none = sgrs-may_stay (pieces_of t) safe (own-sgrs t none)

stay-sgr : (p : Piece) → may_stay Remove p ≡ true → only_sgr p ≡ true
stay-sgr (Text w) stays = refl
stay-sgr (Sequence w) stays = by (is_sgr w) stays
  where
    by : (b : Bool) → (b || false) ≡ true → b ≡ true
    by true is = refl
    by false is = is
stay-sgr LoneEscape stays = stays

stay-sgrs : (ps : List Piece) → list_all (may_stay Remove) ps ≡ true → list_all only_sgr ps ≡ true
stay-sgrs [] all = refl
stay-sgrs (p ∷ ps) all =
    (let both = and_parts (may_stay Remove p) (list_all (may_stay Remove) ps) all in and_from (only_sgr p) (list_all only_sgr ps) (stay-sgr p both.0) (stay-sgrs ps both.1))

pub safe-no_link : (t : List ℕ) → is_safe Remove t ≡ true → HasNoLink t
safe-no_link t safe = record { pieces = pieces_of t; stand = pieces_stand t (whole-safe Remove t safe); sgrs = stay-sgrs (pieces_of t) safe; spell = spelled-pieces_of t }

-- ---- changes in turn

tail-no_link : (change : Change) → HasTailBy Remove change → TailHasNoLink change
tail-no_link (OnColumns (columns.Expanded stop)) tail = tt
tail-no_link (OnColumns (columns.Sliced start end)) tail = tt
tail-no_link (OnColumns (columns.Truncated side width cut)) tail = safe-no_link (closed_cell cut) tail
tail-no_link (OnColumns (columns.Padded width alignment)) tail = tt
tail-no_link (OnColumns (columns.Fitted width alignment cut)) tail = safe-no_link (closed_cell cut) tail
tail-no_link (Wrapped width) tail = tt

abbrev AreBare : List (List ℕ) → Type 0
AreBare ts = AllByRecursion IsBare ts

bare-both : (ts : List (List ℕ)) → AllByRecursion IsSafeText ts → NoneHasLink ts → AreBare ts
bare-both [] safe none = tt
bare-both (t ∷ ts) safe none = (record { utf8 = safe.0.utf8; safe = safe.0.safe; none = none.0 }, bare-both ts safe.1 none.1)

record AreDone (ts : List (List ℕ)) : Type 0 where
  safe : AllByRecursion IsSafeText ts
  none : NoneHasLink ts

done-append : (ts us : List (List ℕ)) → AreDone ts → AreDone us → AreDone (ts ++ us)
done-append [] us first second = second
done-append (t ∷ ts) us first second =
    (let more = done-append ts us (record { safe = first.safe.1; none = first.none.1 }) second in record { safe = (first.safe.0, more.safe); none = (first.none.0, more.none) })

done-each : (change : Change) (ts : List (List ℕ)) → HasUtf8Tail change → HasTailBy Remove change → AreDone ts → AreDone (flat_map (changed change) ts)
done-each change [] utf8 tail are = record { safe = tt; none = tt }
done-each change (t ∷ ts) utf8 tail are =
    let is = are.safe.0 in
    let here : AreDone (changed change t) = record {
      safe = safe-changed change t utf8 is;
      none = no_link-changed change t (tail-no_link change tail) (record { utf8 = is.utf8; safe = is.safe; none = are.none.0 });
    } in
    done-append (changed change t) (flat_map (changed change) ts) here (done-each change ts utf8 tail (record { safe = are.safe.1; none = are.none.1 }))

done-fold : (changes : List Change) (ts : List (List ℕ)) → HaveUtf8Tails changes → AllByRecursion (HasTailBy Remove) changes → AreDone ts → AreDone (fold (λ ts change. flat_map (changed change) ts) ts changes)
done-fold [] ts utf8 tails are = are
done-fold (change ∷ changes) ts utf8 tails are = done-fold changes (flat_map (changed change) ts) utf8.1 tails.1 (done-each change ts utf8.0 tails.0 are)

-- ---- lines in turn

no_link-end : (end : List ℕ) → IsEnd end → HasNoLink end
unfolding lib.Utf8.encode
no_link-end end is = elim is [
  | inl none ↦ subst HasNoLink (sym none) no_link-nil
  | inr some ↦ elim some [
    | inl feed ↦ subst HasNoLink (sym feed) (no_link-bare (codes "\n") refl)
    | inr both ↦ subst HasNoLink (sym both) (no_link-bare (codes "\r\n") refl)
  ]
]

no_link-break : (end : List ℕ) → IsEnd end → HasNoLink (line_break end)
unfolding lib.Utf8.encode
no_link-break end is = by (length end == 0)
  where
    by : (b : Bool) → HasNoLink (if b then codes "\n" else end)
    by true = no_link-bare (codes "\n") refl
    by false = no_link-end end is

no_link-later : (gap : List ℕ) (ts : List (List ℕ)) → HasNoLink gap → NoneHasLink ts → HasNoLink (flat_map (λ t. gap ++ t) ts)
no_link-later gap [] none are = no_link-nil
no_link-later gap (t ∷ ts) none are = no_link-append (no_link-append none are.0) (no_link-later gap ts none are.1)

no_link-joined : (gap : List ℕ) (ts : List (List ℕ)) → HasNoLink gap → NoneHasLink ts → HasNoLink (join_by (λ t. t) gap ts)
no_link-joined gap [] none are = no_link-nil
no_link-joined gap (t ∷ ts) none are = no_link-append are.0 (no_link-later gap ts none are.1)

module _ (work : Work) (utf8_tails : All HasUtf8Tail work.changes) (tails : All (HasTailBy work.view.policy.links) work.changes) where
  module _ (removes : work.view.policy.links ≡ Remove) where
    line-none : (opening : List ℕ) (line : Line) → IsUtf8 opening → IsEnd line.end → HasNoLink (viewed work opening line)
    line-none opening line utf8 end =
        let t = shown work.view opening line in
        let none = safe-no_link t (subst (λ links. is_safe links t ≡ true) removes (shown-safe work.view opening line utf8)) in
        let by_policy = subst (λ links. AllByRecursion (HasTailBy links) work.changes) removes (recursion_from_All (HasTailBy work.view.policy.links) work.changes tails) in
        let made = done-fold work.changes (t ∷ []) (recursion_from_All HasUtf8Tail work.changes utf8_tails) by_policy (record { safe = (shown-text work.view opening line utf8, tt); none = (none, tt) }) in
        no_link-append (no_link-joined (line_break line.end) (changed_in_turn work.changes t) (no_link-break line.end end) made.none) (no_link-end line.end end)

    lines-none : (k : ℕ) (t opening : List ℕ) → IsUtf8 opening → HasNoLink (viewed_all work opening (first_lines k t))
    unfolding viewed_all
    lines-none zero t opening utf8 = no_link-nil
    lines-none (suc k) [] opening utf8 = no_link-nil
    lines-none (suc k) (b ∷ bs) opening utf8 =
        let first = first_line (b ∷ bs) in
        no_link-append (line-none opening first.0 utf8 (first-ends (b ∷ bs))) (lines-none k first.1 (opening_after work.view opening first.0) (opening_after-utf8 work.view opening first.0 utf8))

  pub view_of-policy : (input : List ℕ) → is_safe work.view.policy.links (view_of work input) ≡ true
  unfolding lines
  view_of-policy input = by work.view.policy.links refl
    where
      kept : is_safe Keep (view_of work input) ≡ true
      kept = (view_of-safe work utf8_tails input).safe

      by : (links : Links) → work.view.policy.links ≡ links → is_safe links (view_of work input) ≡ true
      by Keep is = kept
      by Remove is = no_link-safe (view_of work input) kept (lines-none is (length input) input [] IsUtf8-nil)
