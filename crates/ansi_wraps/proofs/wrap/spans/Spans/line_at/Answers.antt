use Rattle.std.proofs.Common.{ℕ, List, Some, rules, ◌≡◌, ◌≤◌, ◌-◌, ◌==◌, false, ◌∷◌, length, slice_range, IsTrue, refl, sym, ◌∙◌, ap, ap₂, arith}
use Rattle.std.specs.Str.{IsUtf8}
use Rattle.ansi_wraps.specs.declared.wrap.pens.PenAt.{PenAt}
use Rattle.ansi_wraps.specs.declared.wrap.spans.Next.{Next}
use Rattle.ansi_wraps.specs.declared.wrap.spans.Next.TheVariants.{At}
use Rattle.ansi_items.specs.Plain.{plain, marks, has_escape}
use Rattle.ansi_style.specs.Reading.{after_marks, style_after_from}
use Rattle.ansi_style.proofs.MarkLemmas.{marks-bare}
use Rattle.ansi_style.specs.States.{rendition_of}
use Rattle.ansi_search.specs.Positions.{no_character_goes_on}
use Rattle.ansi_search.proofs.PositionLemmas.{no_character_goes_on-boundary}
use Rattle.ansi_clusters.specs.Lines.{lines_left}
use Rattle.ansi_safe.specs.Links.{link_after_all}
use Rattle.ansi_clusters.specs.Walks.{clusters_from}
use Rattle.ansi_cells.specs.Wrapped.{CarriedPart, line_over, lines_over, marks_left, IsTaken}
use Rattle.ansi_wraps.specs.WrapStates.{open_link, lines_next, lines_after}
use Rattle.ansi_clusters.proofs.WalkLemmas.{walk_boundary}
use Rattle.ansi_cells.proofs.WrapLemmas.{ahead, lines-first, lines-last, span-first, span-last, lines_filled, rest-is}
use Rattle.ansi_wraps.proofs.wrap.spans.Spans.line_at.Goals.{in-Some, in-None, then-is_marked, else-is_marked}
use Rattle.ansi_wraps.proofs.wrap.spans.Spans.line_at.Goals as goal

taken-is : {p : ℕ × Next} {taken : ℕ} {next : Next} → p ≡ (taken, next) → p.0 ≡ taken
taken-is is = ap (λ q. q.0) is

-- the pen after a text, if this is the pen before it
record IsPenAfter (t : List ℕ) (before : PenAt) (text : List ℕ) (after : PenAt) : Type 0 where
  style : rendition_of after.style ≡ style_after_from (rendition_of before.style) text
  link : open_link t after ≡ link_after_all (open_link t before) (marks text)

-- without ESC it is the same
bare-pen : (t : List ℕ) (pen : PenAt) (text : List ℕ) → has_escape text ≡ false → IsPenAfter t pen text pen
bare-pen t pen text none =
    let ms = sym (marks-bare text none) in
    record { style = ap (after_marks (rendition_of pen.style)) ms; link = ap (link_after_all (open_link t pen)) ms }

pub range-part-requires-clause-start_le_end : goal.range-part-requires-clause-start_le_end
range-part-requires-clause-start_le_end c =
    let s = c.args.self.now in
    let t = c.args.text.now in
    let is : IsTaken t s.before s.taken c.args.from = c.requires.walk in
    let end = c.first_line-later.ensures.end in
    let ordered = c.first_line-later.ensures.ordered in
    let from = ahead t s.before s.taken c.args.from is c.first_line-later.result.1.position c.first_line-later.result.1.offset (omega (arith, is.ordered, c.first_line-later.ensures.start_ordered, ordered)) end.within end.offset in
    elim c.match-later.branch [
      | in-Some w ↦ omega (arith, from, taken-is w.taken-is)
      | in-None w ↦ omega (arith, is.boundary.0, taken-is w.taken-is)
    ]

pub overflow_sub-span-3 : goal.overflow_sub-span-3
overflow_sub-span-3 c =
    let s = c.args.self.now in
    let t = c.args.text.now in
    let is : IsTaken t s.before s.taken c.args.from = c.requires.walk in
    let end = c.first_line-later.ensures.end in
    let ordered = c.first_line-later.ensures.ordered in
    ahead t s.before s.taken c.args.from is c.first_line-later.result.1.position c.first_line-later.result.1.offset (omega (arith, is.ordered, c.first_line-later.ensures.start_ordered, ordered)) end.within end.offset

pub invariant_of-span : goal.invariant_of-span
invariant_of-span c =
    let s = c.args.self.now in
    let t = c.args.text.now in
    let from = c.args.from in
    let start = c.first_line-later.result.0 in
    let last = c.first_line-later.result.1 in
    let is : IsTaken t s.before s.taken from = c.requires.walk in
    let end = c.first_line-later.ensures.end in
    let ordered = c.first_line-later.ensures.ordered in
    let begins : s.before ≤ start.position = omega (arith, is.ordered, c.first_line-later.ensures.start_ordered) in
    let utf8 : IsUtf8 t = search rules in
    let good : IsTrue (no_character_goes_on (plain t) start.position) = no_character_goes_on-boundary (plain t) start.position (walk_boundary t utf8 start c.first_line-later.ensures.start) in
    let good_end : IsTrue (no_character_goes_on (plain t) last.position) = no_character_goes_on-boundary (plain t) last.position (walk_boundary t utf8 last end) in
    let text = c.range-part.result.now in
    let part = c.range-part.ensures.value in
    let style = rendition_of c.pen.result.style in
    let link = c.pen.result.link.now in
    let style_after = rendition_of c.pen-2.result.style in
    let link_after = c.pen-2.result.link.now in
    let after : IsPenAfter t s.pen text c.if-is_marked.after = elim c.if-is_marked.branch [
      | then-is_marked w ↦ rw (w.after-is, part) (record { style = w.after-after.ensures.style; link = w.after-after.ensures.link })
      | else-is_marked w ↦ rw w.after-is (bare-pen t s.pen text (sym c.has_any-is_marked.ensures ∙ w.if-is_marked.false))
    ] in
    let styled : style_after ≡ style_after_from style text = ap rendition_of c.pen-2.ensures.style ∙ after.style ∙ ap (λ r. style_after_from (rendition_of r) text) (sym c.pen.ensures.style) in
    let linked : link_after ≡ link_after_all link (marks text) = c.pen-2.ensures.link ∙ after.link ∙ ap (λ l. link_after_all l (marks text)) (sym c.pen.ensures.link) in
    elim c.match-later.branch [
      | in-Some w ↦ (
          let front : text ≡ slice_range t s.taken last.offset = part ∙ ap (slice_range t s.taken) (taken-is w.taken-is) in
          rw front (span-first t s.before s.taken from is last.position last.offset (omega (arith, is.ordered, c.first_line-later.ensures.start_ordered, ordered)) end.within end.offset
          style link start.position c.has_any-is_marked.result style_after link_after end.run.start_boundary.0 begins ordered good
          (rw front at c.has_any-is_marked.ensures) (rw front at styled) (rw front at linked)))
      | in-None w ↦
          span-last t s.before s.taken from is last.position last.offset (omega (arith, is.ordered, c.first_line-later.ensures.start_ordered, ordered)) end.within end.offset
          style link text start.position c.has_any-is_marked.result style_after link_after
          (part ∙ ap (slice_range t s.taken) (taken-is w.taken-is) ∙ rest-is t s.taken) end.run.start_boundary begins ordered good good_end c.has_any-is_marked.ensures styled linked
    ]

pub returns-clause-lines : goal.returns-clause-lines
unfolding lines_over
returns-clause-lines c =
    let s = c.args.self.now in
    let t = c.args.text.now in
    let x = plain t in
    let from = c.args.from in
    let start = c.first_line-later.result.0 in
    let last = c.first_line-later.result.1 in
    let later = c.first_line-later.result.2 in
    let is : IsTaken t s.before s.taken from = c.requires.walk in
    let end = c.first_line-later.ensures.end in
    let ordered = c.first_line-later.ensures.ordered in
    let begins : s.before ≤ start.position = omega (arith, is.ordered, c.first_line-later.ensures.start_ordered) in
    let style = rendition_of s.pen.style in
    let link = open_link t s.pen in
    let text = c.range-part.result.now in
    let part = c.range-part.ensures.value in
    let after = c.if-is_marked.after in
    let pen : IsPenAfter t s.pen text after = elim c.if-is_marked.branch [
      | then-is_marked w ↦ rw (w.after-is, part) (record { style = w.after-after.ensures.style; link = w.after-after.ensures.link })
      | else-is_marked w ↦ rw w.after-is (bare-pen t s.pen text (sym c.has_any-is_marked.ensures ∙ w.if-is_marked.false))
    ] in
    let line = line_over style link (plain text) (marks text) (start.position - s.before, last.position - s.before) in
    let shown : line ≡ line_over (rendition_of c.pen.result.style) c.pen.result.link.now (plain text) (marks text) (start.position - s.before, last.position - s.before)
    = ap₂ (λ r l. line_over (rendition_of r) l (plain text) (marks text) (start.position - s.before, last.position - s.before)) (sym c.pen.ensures.style) (sym c.pen.ensures.link) in
    let ms = marks_left t s.before s.taken in
    let left : lines_after t s (At from) ≡ lines_over style link x ms ((start.position, last.position) ∷ lines_left t s.width later) = ap (lines_over style link x ms) c.first_line-later.ensures.lines in
    let onward : ℕ × Next → List CarriedPart = λ p. lines_over (rendition_of after.style) (open_link t after) x (marks_left t last.position p.0) (lines_next t s.width p.1) in
    elim c.match-later.branch [
      | in-Some w ↦ (
          let walk = w.in-Some.walk in
          let next = lines_left t s.width (Some walk) in
          let front : text ≡ slice_range t s.taken last.offset = part ∙ ap (slice_range t s.taken) (taken-is w.taken-is) in
          let some : (length next == 0) ≡ false = lines_filled s.width walk.position walk.position walk.position 0 (clusters_from t walk.position) in
          left ∙ ap (λ o. lines_over style link x ms ((start.position, last.position) ∷ lines_left t s.width o)) w.in-Some.is
          ∙ lines-first t s.before s.taken from is last.position last.offset (omega (arith, is.ordered, c.first_line-later.ensures.start_ordered, ordered)) end.within end.offset style link start.position next begins some
          ∙ ap (λ v. line_over style link (plain v) (marks v) (start.position - s.before, last.position - s.before) ∷ lines_over (style_after_from style v) (link_after_all link (marks v)) x (marks_left t last.position last.offset) next) (sym front)
          ∙ ap₂ (λ r l. line ∷ lines_over r l x (marks_left t last.position last.offset) next) (sym pen.style) (sym pen.link)
          ∙ ap₂ (λ l p. l ∷ onward p) shown (sym w.taken-is))
      | in-None w ↦
          left ∙ ap (λ o. lines_over style link x ms ((start.position, last.position) ∷ lines_left t s.width o)) w.in-None.is
          ∙ lines-last t s.before s.taken from is last.position last.offset (omega (arith, is.ordered, c.first_line-later.ensures.start_ordered, ordered)) end.within end.offset style link text start.position begins
          (part ∙ ap (slice_range t s.taken) (taken-is w.taken-is) ∙ rest-is t s.taken)
          ∙ ap₂ (λ l p. l ∷ onward p) shown (sym w.taken-is)
    ]

pub first_line-later-requires : goal.first_line-later-requires
first_line-later-requires c = record { walk = c.requires.walk.is_walk; tight = refl }
