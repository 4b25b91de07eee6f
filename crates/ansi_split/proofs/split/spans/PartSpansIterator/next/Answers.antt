use Rattle.ansi_split.proofs.Common.{◌≡◌, ◌≤◌, ℕ, List, ◌∷◌, [], Option, Some, None, sym, ◌∙◌, ap, ap₂, subst, arith, max, length, IsTrue, if◌then◌else◌, MatchOption, plain, first_match_from, is_char_boundary, style_after_from, rendition_of, IsCutAtMatch, span_part, parts_left}
use Rattle.ansi_split.specs.declared.split.rest.Rest.{Rest}
use Rattle.ansi_split.specs.Cursors.{parts_at}
use Rattle.ansi_split.proofs.CursorLemmas.{parts_at-is}
use Rattle.ansi_split.proofs.SpanLemmas.{parts_left-last, parts_left-first, skip_in_front}
use Rattle.ansi_split.proofs.split.spans.PartSpansIterator.next.Goals as goal
use Rattle.ansi_split.proofs.split.spans.PartSpansIterator.next.Goals.{in-Some, in-None}

-- the plain bytes that are left out end with a character of the front
skip_in : (t p : List ℕ) (skip from : ℕ) (front : List ℕ) (r : Option Rest) → MatchOption r ((first_match_from (plain t) p from ≡ None) × (front ≡ t)) (λ rest. IsCutAtMatch t p from front rest.text.now)
    → skip ≤ from → IsTrue (is_char_boundary (plain t) skip) → IsTrue (is_char_boundary (plain front) skip)
skip_in t p skip from front None all before boundary = subst (λ v. IsTrue (is_char_boundary (plain v) skip)) (sym all.1) boundary
skip_in t p skip from front (Some rest) cut before boundary = skip_in_front t p skip from front rest.text.now cut before boundary

pub invariant_of-span : goal.invariant_of-span
invariant_of-span c =
    let s = c.self.inside in
    let cut = c.cut_at_match-cut in
    record {
      marked = cut.ensures.marked;
      skip_is_boundary = skip_in s.at.rest.text.now s.pat.now s.at.skip s.at.from cut.result.front.now cut.result.rest cut.ensures.rest s.at.skip_before s.at.skip_ends;
      is_after = cut.ensures.style;
    }

pub after_match-self-inside-requires : goal.after_match-self-inside-requires
after_match-self-inside-requires c =
    let s = c.self.inside in
    let cut = c.cut_at_match-cut in
    let at : IsCutAtMatch s.at.rest.text.now s.pat.now s.at.from cut.result.front.now c.in-Some.rest.text.now = rw c.in-Some.is at cut.ensures.rest in
    at.match_end

pub returns-clause-steps : goal.returns-clause-steps
returns-clause-steps c =
    let s = c.self.inside in
    let style = rendition_of s.carried in
    let t = s.at.rest.text.now in
    let p = s.pat.now in
    let cut = c.cut_at_match-cut in
    let front = cut.result.front.now in
    let all = parts_left style t p s.at.skip s.at.from in
    let left : c.args.self.now ≡ all = sym c.self.view_is ∙ ap (λ b. if b then [] else all) c.if-self.false in
    elim c.match-cut.branch [
      | in-Some w ↦ (
          let after = w.in-Some.rest.text.now in
          let at : IsCutAtMatch t p s.at.from front after = rw w.in-Some.is at cut.ensures.rest in
          let next = w.after_match-self-inside in
          let goes_on : parts_left (style_after_from style front) after p (length p) (max (length p) 1) ≡ parts_at (rendition_of cut.new.style) next.result p
          = ap (λ r. parts_left r after p (length p) (max (length p) 1)) (sym cut.ensures.style)
          ∙ sym (parts_at-is (rendition_of cut.new.style) next.result after p (length p) (max (length p) 1) next.ensures.finished next.ensures.text next.ensures.skip next.ensures.from) in
          left ∙ parts_left-first style t p s.at.skip s.at.from front after at ∙ ap (λ ps. span_part style front s.at.skip ∷ ps) (goes_on ∙ sym w.self-is))
      | in-None w ↦ (
          let none : (first_match_from (plain t) p s.at.from ≡ None) × (front ≡ t) = rw w.in-None.is at cut.ensures.rest in
          left ∙ parts_left-last style t p s.at.skip s.at.from none.0 ∙ ap₂ (λ v ps. span_part style v s.at.skip ∷ ps) (sym none.1) (sym w.self-is))
    ]

pub returns-clause-goes : goal.returns-clause-goes
returns-clause-goes c =
    let fewer = ap length (returns-clause-steps c) in
    record { on = λ _. (tt, tt, omega (arith, fewer)); keeps = tt; rests = λ _. tt }
