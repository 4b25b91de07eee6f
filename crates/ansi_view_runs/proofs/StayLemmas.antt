-- Which lines stay as they are.
use Rattle.std.proofs.Common.{◌≡◌, ℕ, Bool, true, false, List, [], ◌++◌, ◌==◌, length, refl, sym, ap, ◌∙◌, inl, inr, append-nil, if◌then◌else◌}
use Rattle.std.specs.List.{join_by}
use Rattle.std.proofs.lemmas.Bool.{cases_Bool, eqb-true, or_parts}
use Rattle.std.proofs.lemmas.List.{nil_from_length}
use Rattle.std.proofs.lemmas.Str.{utf8_lossy-IsUtf8, utf8_lossy_empty}
use Rattle.std.specs.Str.{IsUtf8}
use Rattle.std.specs.Str.Lossy.{utf8_lossy}
use Rattle.ansi_items.specs.Plain.{plain, marks}
use Rattle.ansi_style.specs.Rendition.{has_known}
use Rattle.ansi_style.specs.Styled.{style_after}
use Rattle.ansi_style.specs.Written.{close}
use Rattle.ansi_style.proofs.UnsetLemmas.{start-unknown}
use Rattle.ansi_safe.specs.Links.{link_of, link_end, ending}
use Rattle.ansi_safe.specs.Safe.{is_safe}
use Rattle.ansi_safe.specs.Sanitized.{cleaned, sanitized}
use Rattle.ansi_safe.proofs.EndingLemmas.{append-both_nil, close-none, link_end-none}
use Rattle.ansi_safe.proofs.MadeLemmas.{cleaned-safe, sanitized-closed}
use Rattle.ansi_view_runs.specs.declared.view.View.{View}
use Rattle.ansi_view_runs.specs.Lines.{Line}
use Rattle.ansi_view_runs.specs.Edits.{Change, changed_in_turn}
use Rattle.ansi_view_runs.specs.Views.{Work, body, changed_line, decoded, line_break, opening_of, opening_after, shown, viewed}

-- what ends nothing opens nothing
opening-closed : (t : List ℕ) → ending t ≡ [] → opening_of t ≡ []
opening-closed t none =
    let link = link_of (marks t) in
    let s = style_after t in
    let both = append-both_nil (link_end link) (close s) none in
    let unset = (or_parts (has_known s) s.unknown (close-none s both.1)).0 in
    rw (start-unknown s unset, nil_from_length link (link_end-none link both.0)) refl

-- bytes that are UTF-8 are their own text, unless the view is plain
pub decoded-stays : (view : View) (t : List ℕ) → view.plain ≡ false → IsUtf8 t → decoded view t ≡ t
decoded-stays view t shown utf8 = ap (λ b. if b then plain (utf8_lossy t) else utf8_lossy t) shown ∙ utf8_lossy-IsUtf8 t utf8

-- no bytes are no text
decoded-nil : (view : View) → decoded view [] ≡ []
decoded-nil view = by view.plain
  where
    by : (b : Bool) → (if b then plain (utf8_lossy []) else utf8_lossy []) ≡ []
    by true = ap plain (utf8_lossy_empty [] refl)
    by false = utf8_lossy_empty [] refl

-- if there are no changes, a line becomes its text made safe, and its end
pub viewed-unchanged : (work : Work) (opening : List ℕ) (line : Line) → work.changes ≡ [] → viewed work opening line ≡ shown work.view opening line ++ line.end
viewed-unchanged work opening line none =
    ap (λ changes. join_by (λ t. t) (line_break line.end) (changed_in_turn changes (shown work.view opening line)) ++ line.end) none
    ∙ ap (λ t. t ++ line.end) (append-nil (shown work.view opening line))

-- a line becomes what the changes make of the text that is shown
pub viewed-changed : (work : Work) (opening before : List ℕ) (line : Line) (changes : List Change) (text : List ℕ) → changes ≡ work.changes → before ≡ opening → shown work.view before line ≡ text
    → changed_line changes text line.end ≡ viewed work opening line
viewed-changed work opening before line changes text same opens is =
    ap (λ cs. changed_line cs text line.end) same ∙ ap (λ t. changed_line work.changes t line.end) (sym is ∙ ap (λ o. shown work.view o line) opens)

-- a line without a text is shown so, and leaves open what is open before it
pub empty_stays : (view : View) (opening : List ℕ) (line : Line) (text : List ℕ) → text ≡ decoded view line.text → length line.text ≡ 0 → (shown view opening line ≡ text) × (opening_after view opening line ≡ opening)
empty_stays view opening line text is none =
    let nothing : text ≡ [] = is ∙ ap (decoded view) (nil_from_length line.text none) ∙ decoded-nil view in
    rw (none, nothing) (refl, refl)

-- a text that is safe and ends what it opens is shown as it is, and leaves nothing open, if nothing is open before it
pub line_stays : (view : View) (opening : List ℕ) (line : Line) (text : List ℕ) → text ≡ decoded view line.text → opening ≡ [] → is_safe view.policy.links text ≡ true → (length (ending text) == 0) ≡ true
    → (shown view opening line ≡ text) × (opening_after view opening line ≡ opening)
line_stays view opening line text is none safe closed_text =
    let closed : ending text ≡ [] = nil_from_length (ending text) (eqb-true (length (ending text)) 0 closed_text) in
    let same : sanitized view.policy (body view [] line.text) ≡ text = ap (sanitized view.policy) (sym is) ∙ sanitized-closed view.policy text safe closed in
    let opens : opening_of (cleaned view.policy (body view [] line.text)) ≡ [] =
    ap (λ u. opening_of (cleaned view.policy u)) (sym is) ∙ ap opening_of (cleaned-safe view.policy text safe) ∙ opening-closed text closed in
    elim (cases_Bool (length line.text == 0)) [
      | inl empty ↦ empty_stays view opening line text is (eqb-true _ _ empty)
      | inr some ↦ rw (some, none) (same, opens)
    ]
