-- The lines of a wrap by whether its text lends them.
use Rattle.std.proofs.Common.{◌≡◌, ℕ, ◌+◌, ◌≤◌, inl, ◌==◌, true, false, Bool, List, [], ◌∷◌, length, map, Option, Some, None, Result, Ok, IsTrue, IsFalse, ◌↔◌, refl, sym, ◌∙◌, ap, ap₂, subst, arith}
use Rattle.std.specs.Cow.{cow_str_bytes, IsBorrowedStr}
use Rattle.std.specs.List.{list_all}
use Rattle.std.specs.Str.{IsUtf8}
use Rattle.std.specs.Prelude.{IsSome, bytes_eq, slice_range}
use Rattle.std.specs.declared.borrow.CowStr.{CowStr}
use Rattle.std.specs.declared.borrow.CowStr.TheVariants.{Borrowed, Owned}
use Rattle.std.proofs.lemmas.Bool.{false_from_ne_true}
use Rattle.std.proofs.lemmas.Slice.Eq.{bytes_eq-Decides}
use Rattle.std.proofs.lemmas.Str.{IsCharBoundary-start}
use Rattle.ansi_items.specs.Plain.{Mark, plain, marks, has_escape}
use Rattle.ansi_safe.specs.Cells.{paragraph}
use Rattle.ansi_style.specs.declared.state.rendition.Rendition.{Rendition}
use Rattle.ansi_style.specs.Rendition.{plain_style}
use Rattle.ansi_style.specs.States.{rendition_of}
use Rattle.ansi_style.specs.Written.{longest_start_and_close}
use Rattle.ansi_safe.specs.Links.{longest_link_end}
use Rattle.ansi_clusters.specs.Columns.{clusters}
use Rattle.ansi_clusters.specs.Lines.{lines_from}
use Rattle.ansi_clusters.specs.Walks.{clusters_from, IsWalk}
use Rattle.ansi_clusters.specs.declared.walks.Walk.{Walk}
use Rattle.ansi_wraps.specs.declared.wrap.spans.Next.{Next}
use Rattle.ansi_wraps.specs.declared.wrap.spans.Next.TheVariants.{Only, At, Nothing}
use Rattle.ansi_wraps.specs.declared.wrap.spans.Spans.{Spans}
use Rattle.ansi_cells.specs.Wrapped.{CarriedPart, lines_over, lent_lines, wrapped, marks_left, GivesLine, lines_of}
use Rattle.ansi_wraps.specs.WrapStates.{open_link, lines_next, HasNext, lines_after, span_lines, AreNew, AreTaken, shown_text, is_lent, AreLeft}
use Rattle.ansi_cells.proofs.WrapLemmas.{lines_filled, marks_left-start, bare-borrowed}

pub lent-true : (ls : List CarriedPart) → lent_lines true ls ≡ ls
lent-true [] = refl
lent-true (l ∷ ls) = ap (λ ks. l ∷ ks) (lent-true ls)

-- lent or not, they have the same bytes
pub lent-map : {B : Type 0} (f : List ℕ → B) (b : Bool) (ls : List CarriedPart) → map (λ (l : CarriedPart). f l.bytes) (lent_lines b ls) ≡ map (λ (l : CarriedPart). f l.bytes) ls
lent-map f b [] = refl
lent-map f b (l ∷ ls) = ap (λ ys. f l.bytes ∷ ys) (lent-map f b ls)

pub gives-lent : {A E : Type 0} (old new : List CarriedPart) (r : Option (Result (CowStr A) E)) → GivesLine old r new → GivesLine (lent_lines true old) r (lent_lines true new)
gives-lent old new r gives = subst (λ ls. GivesLine ls r (lent_lines true new)) (sym (lent-true old)) (subst (λ ls. GivesLine old r ls) (sym (lent-true new)) gives)

-- a line that is written, if the text lends none
pub gives-written : {A : Type 0} (E : Type 0) (old new : List CarriedPart) (l : CarriedPart) (c : CowStr A) → old ≡ l ∷ new → cow_str_bytes c ≡ l.bytes → (IsBorrowedStr c → ⊥) → length (cow_str_bytes c) ≤ l.source_len + longest_start_and_close + longest_link_end
    → GivesLine {A = A} {E = E} (lent_lines false old) (Some (Ok c)) (lent_lines false new)
gives-written E old new l c first bytes owned len = (record l { borrowed = false }, ap (lent_lines false) first, (bytes, (λ lent. absurd (owned lent), λ lent. absurd (cc lent)), omega (arith, len)))

-- while a line is left, there is a first one

filled-over : (style : Rendition) (link x : List ℕ) (ms : List Mark) (is : List (ℕ × ℕ)) → (length is == 0) ≡ false → (l : CarriedPart) × (ls : List CarriedPart) × (lines_over style link x ms is ≡ l ∷ ls)
unfolding lines_over
filled-over style link x ms [] some = absurd (cc some)
filled-over style link x ms (i ∷ is) some = (_, _, refl)

pub first-left : (t : List ℕ) (s : Spans) → HasNext s.next → (l : CarriedPart) × (ls : List CarriedPart) × (span_lines t s ≡ l ∷ ls)
first-left t s some = by s.next some
  where
    filled : (is : List (ℕ × ℕ)) → (length is == 0) ≡ false → (l : CarriedPart) × (ls : List CarriedPart) × (lines_over (rendition_of s.pen.style) (open_link t s.pen) (plain t) (marks_left t s.before s.taken) is ≡ l ∷ ls)
    filled is some = filled-over (rendition_of s.pen.style) (open_link t s.pen) (plain t) (marks_left t s.before s.taken) is some

    by : (next : Next) → HasNext next → (l : CarriedPart) × (ls : List CarriedPart) × (lines_after t s next ≡ l ∷ ls)
    by (Only line) some = filled (lines_next t s.width (Only line)) (lines_filled s.width 0 0 0 0 (clusters (plain t)))
    by (At w) some = filled (lines_next t s.width (At w)) (lines_filled s.width w.position w.position w.position 0 (clusters_from t w.position))
    by Nothing some = absurd some

-- without a next line, no line is left
pub none-left : (t : List ℕ) (s : Spans) → s.next ≡ Nothing → span_lines t s ≡ []
unfolding lines_over
none-left t s none = ap (lines_after t s) none

-- before the first line, all lines are left
pub new-lines : (t : List ℕ) (s : Spans) (next : Next) → lines_next t s.width next ≡ lines_from s.width 0 0 0 0 (clusters (plain t)) → AreNew s → lines_after t s next ≡ lines_over plain_style [] (plain t) (marks t) (lines_from s.width 0 0 0 0 (clusters (plain t)))
new-lines t s next first new =
    let is = lines_from s.width 0 0 0 0 (clusters (plain t)) in
    let link : open_link t s.pen ≡ [] = ap₂ (slice_range t) new.link_start new.link_end in
    ap (lines_over (rendition_of s.pen.style) (open_link t s.pen) (plain t) (marks_left t s.before s.taken)) first
    ∙ ap₂ (λ r l. lines_over r l (plain t) (marks_left t s.before s.taken) is) new.style link
    ∙ ap₂ (λ b k. lines_over plain_style [] (plain t) (marks_left t b k) is) new.before new.taken
    ∙ ap (λ ms. lines_over plain_style [] (plain t) ms is) (marks_left-start t)

-- and the first one may begin at the beginning
pub new-spans : (t : List ℕ) (s : Spans) (walk : Walk) → IsUtf8 t → AreNew s → IsWalk t walk → AreTaken t s walk
new-spans t s walk utf8 new is =
    let start = IsCharBoundary-start t utf8 in
    record {
      taken = record { is_walk = is; place = inl (new.before, new.taken); boundary = rw new.taken start; ordered = omega (arith, new.before) };
      link = record { ordered = omega (arith, new.link_start, new.link_end); start_boundary = rw new.link_start start; end_boundary = rw new.link_end start };
    }

-- A text lends its lines if it is its own paragraph.

pub lent-paragraph : {A : Type 0} (E : Type 0) (t : List ℕ) (c : CowStr A) → (IsBorrowedStr c ↔ (paragraph t ≡ t)) → is_lent {A = A} {E = E} c None ≡ bytes_eq (paragraph t) t
lent-paragraph E t (Borrowed s) iff = sym ((bytes_eq-Decides (paragraph t) t).1 (iff.0 tt))
lent-paragraph E t (Owned s) iff = sym (false_from_ne_true _ (λ same. iff.1 ((bytes_eq-Decides (paragraph t) t).0 same)))

pub made-wrapped : {A : Type 0} (E : Type 0) (t : List ℕ) (width : ℕ) (c : CowStr A) → cow_str_bytes c ≡ paragraph t → (IsBorrowedStr c ↔ (paragraph t ≡ t)) → lent_lines (is_lent {A = A} {E = E} c None) (lines_of (cow_str_bytes c) width) ≡ wrapped t width
made-wrapped E t width c bytes iff = ap₂ (λ b u. lent_lines b (lines_of u width)) (lent-paragraph E t c iff) bytes

pub failed-wrapped : (t : List ℕ) (width : ℕ) → (paragraph t ≡ t → ⊥) → lent_lines false (lines_of (paragraph t) width) ≡ wrapped t width
failed-wrapped t width other = ap (λ b. lent_lines b (lines_of (paragraph t) width)) (sym (false_from_ne_true _ (λ same. other ((bytes_eq-Decides (paragraph t) t).0 same))))

pub wrapped-itself : (t : List ℕ) (width : ℕ) → paragraph t ≡ t → wrapped t width ≡ lines_of t width
wrapped-itself t width same =
    let lent = (bytes_eq-Decides (paragraph t) t).1 same in
    ap₂ (λ b u. lent_lines b (lines_of u width)) lent same ∙ lent-true (lines_of t width)

-- it lends none if its paragraph couldn't be made
pub failed-lends : {A E : Type 0} (c : CowStr A) (e : E) → is_lent c (Some e) ≡ false
failed-lends (Borrowed s) e = refl
failed-lends (Owned s) e = refl

-- and there is a first one
pub failed-first : {A E : Type 0} (c : CowStr A) {failure : Option E} {e : E} (s : Spans) → failure ≡ Some e → AreLeft c failure s
    → (l : CarriedPart) × (ls : List CarriedPart) × (lent_lines (is_lent c failure) (span_lines (shown_text c failure) s) ≡ l ∷ ls) × IsFalse l.borrowed
failed-first c {failure} {e} s failed are =
    let shown = shown_text c failure in
    let first = first-left shown s (are.some (subst (λ o. IsSome o) (sym failed) refl)) in (
      record first.0 { borrowed = false },
      lent_lines false first.1,
      ap (λ b. lent_lines b (span_lines shown s)) (ap (is_lent c) failed ∙ failed-lends c e) ∙ ap (lent_lines false) first.2,
      refl,
    )

-- it lends all of them if it has no ESC
pub wrapped-bare : (t : List ℕ) (width : ℕ) → paragraph t ≡ t → IsFalse (has_escape t) → IsTrue (list_all (λ (l : CarriedPart). l.borrowed) (wrapped t width))
wrapped-bare t width same none = ap (list_all (λ (l : CarriedPart). l.borrowed)) (wrapped-itself t width same) ∙ bare-borrowed t width none
