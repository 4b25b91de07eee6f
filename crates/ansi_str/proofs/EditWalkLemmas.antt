-- How far a list of edits has come, and what one edit more is to it.
use Rattle.ansi_str.proofs.Common.{◌≡◌, ◌↔◌, ◌⊎◌, inl, inr, ℕ, ◌+◌, ◌<◌, ◌≤◌, ◌&&◌, true, List, ◌∷◌, length, map, drop, get_or, Option, Some, None, refl, sym, ◌∙◌, ap, subst, IsTrue, option_and_then, IsNone, option_map_or, and_parts, and_from, drop_all, Change, edited_by, edited, gives_borrow, stay_borrowed, arith}
use Rattle.std.proofs.lemmas.List.{drop_more}

-- The text so far, edited by the edits that are left, is the result of all. It stays a borrow to the end if it is one now and the edits that are left keep it one.
pub record IsEditedSoFar (es : List Change) (t : List ℕ) (left : List Change) (Lent : Type 0) (u : List ℕ) : Type 0 where
  pub same : edited es t ≡ edited left u
  pub lent : IsTrue (stay_borrowed es t) ↔ (Lent × IsTrue (stay_borrowed left u))

-- An edit is given as anything that is seen as a change.

-- one is left
next_edit : {E : Type 0} (change : E → Change) {es : List Change} {t u : List ℕ} {Lent : Type 0} (edits : List E) (i : ℕ) (edit : E) → IsEditedSoFar es t (map change (drop i edits)) Lent u → i < length edits
    → IsEditedSoFar es t (change (get_or edits i edit) ∷ map change (drop (i + 1) edits)) Lent u
next_edit change {es} {t} {u} {Lent} edits i edit so_far more =
    subst (λ left. IsEditedSoFar es t (map change left) Lent u) (drop_more edits i edit more) so_far

pub so_far-more : {E : Type 0} (change : E → Change) {es : List Change} {t u v : List ℕ} {Lent Next : Type 0} (edits : List E) (i : ℕ) (edit : E) → IsEditedSoFar es t (map change (drop i edits)) Lent u → i < length edits
    → Some v ≡ edited_by (change (get_or edits i edit)) u → Next ↔ (Lent × IsTrue (gives_borrow (change (get_or edits i edit)) u)) → IsEditedSoFar es t (map change (drop (i + 1) edits)) Next v
so_far-more change {u = u} {v = v} edits i edit so_far more is lends =
    let now = next_edit change edits i edit so_far more in
    let e = change (get_or edits i edit) in
    let left = map change (drop (i + 1) edits) in
    let stays : stay_borrowed (e ∷ left) u ≡ (gives_borrow e u && stay_borrowed left v) = ap (λ o. option_map_or (λ w. gives_borrow e u && stay_borrowed left w) o true) (sym is) in
    record {
      same = now.same ∙ ap (option_and_then (edited left)) (sym is);
      lent = (
        λ stay. (let both = now.lent.0 stay in let two = and_parts _ _ (sym stays ∙ both.1) in (lends.1 (both.0, two.0), two.1)),
        λ both. (let was = lends.0 both.0 in now.lent.1 (was.0, stays ∙ and_from _ _ was.1 both.1)),
      );
    }

-- one that is refused
pub so_far-refused : {E : Type 0} (change : E → Change) {es : List Change} {t u : List ℕ} {Lent : Type 0} (edits : List E) (i : ℕ) (edit : E) → IsEditedSoFar es t (map change (drop i edits)) Lent u → i < length edits
    → None ≡ edited_by (change (get_or edits i edit)) u → None ≡ edited es t
so_far-refused change edits i edit so_far more is =
    let now = next_edit change edits i edit so_far more in
    sym (now.same ∙ ap (option_and_then (edited (map change (drop (i + 1) edits)))) (sym is))

-- one that is refused, or gives a borrow of a borrow, if all before it do
pub so_far-lent : {E : Type 0} (change : E → Change) {es : List Change} {t u : List ℕ} {Lent : Type 0} (edits : List E) (i : ℕ) (edit : E) → IsEditedSoFar es t (map change (drop i edits)) Lent u → i < length edits → IsTrue (stay_borrowed es t)
    → IsNone (edited_by (change (get_or edits i edit)) u) ⊎ (Lent × IsTrue (gives_borrow (change (get_or edits i edit)) u))
so_far-lent change {u = u} {Lent = Lent} edits i edit so_far more stay =
    let both = (next_edit change edits i edit so_far more).lent.0 stay in
    by_text (edited_by (change (get_or edits i edit)) u) both.0 both.1
  where
    by_text : (o : Option (List ℕ)) → Lent → IsTrue (option_map_or (λ w. gives_borrow (change (get_or edits i edit)) u && stay_borrowed (map change (drop (i + 1) edits)) w) o true)
        → IsNone o ⊎ (Lent × IsTrue (gives_borrow (change (get_or edits i edit)) u))
    by_text None lent stays = inl refl
    by_text (Some w) lent stays = inr (lent, (and_parts _ _ stays).0)

-- none is left
pub so_far-end : {E : Type 0} (change : E → Change) {es : List Change} {t u : List ℕ} {Lent : Type 0} (edits : List E) (i : ℕ) → IsEditedSoFar es t (map change (drop i edits)) Lent u → length edits ≤ i
    → (Some u ≡ edited es t) × (Lent ↔ IsTrue (stay_borrowed es t))
so_far-end change edits i so_far end = grind (arith, drop_all)
