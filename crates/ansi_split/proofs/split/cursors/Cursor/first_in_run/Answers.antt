use Rattle.ansi_split.proofs.Common.{◌≡◌, ◌<◌, [], ◌∷◌, None, length, drop, max, subst, sym, ◌∙◌, ap, arith, eqb-false, IsFalse, if◌then◌else◌, plain, has_escape, first_match_from, parts_left, span_part}
use Rattle.ansi_split.proofs.RestLemmas.{no_match_past}
use Rattle.ansi_split.proofs.SpanWalkLemmas.{boundary-bare}
use Rattle.ansi_split.proofs.CursorLemmas.{skip_in_bare, first_in_run, last_in_run, parts_at-is, bare_if_run, no_escape-rest}
use Rattle.ansi_split.proofs.split.cursors.Cursor.first_in_run.Goals as goal

-- a match ends the part

pub range_from-requires : goal.range_from-requires
range_from-requires c =
    let s = c.args.self.now in
    λ some. skip_in_bare s.rest.text.now c.args.pat.now s.skip s.from c.in-Ok.front.now c.in-Ok.rest.text.now c.in-Ok.ensures.1 c.in-Ok.ensures.0 s.skip_before s.skip_ends

pub returns-in-Ok : goal.returns-in-Ok
returns-in-Ok c =
    let s = c.args.self.now in
    let t = s.rest.text.now in
    let p = c.args.pat.now in
    let front = c.in-Ok.front.now in
    let after = c.in-Ok.rest.text.now in
    let next = c.after_match.ensures in
    let boundary = skip_in_bare t p s.skip s.from front after c.in-Ok.ensures.1 c.in-Ok.ensures.0 s.skip_before s.skip_ends in (
      subst (λ u. IsFalse (has_escape u)) (sym c.range_from.ensures.value) (no_escape-rest front s.skip c.in-Ok.ensures.1),
      λ r.
          ap (λ b. if b then [] else parts_left r t p s.skip s.from) c.if-self.false
          ∙ first_in_run r t p s.skip s.from front after c.in-Ok.ensures.1 c.in-Ok.ensures.0 boundary
          ∙ ap (λ u. span_part r u 0 ∷ parts_left r after p (length p) (max (length p) 1)) (sym c.range_from.ensures.value)
          ∙ ap (λ ps. span_part r c.range_from.result.now 0 ∷ ps) (sym (parts_at-is r c.after_match.result after p (length p) (max (length p) 1) next.finished next.text next.skip next.from)),
    )

-- the text ends the part

pub range_from-run-requires : goal.range_from-run-requires
range_from-run-requires c =
    let s = c.args.self.now in
    let none = bare_if_run s.rest.text.now s.rest.run_len s.rest.run_is_plain (c.is_run.ensures c.if-not-is_run.false) in
    λ some. rw c.text.ensures (boundary-bare s.rest.text.now s.skip none s.skip_ends)

pub returns-else-not-is_run : goal.returns-else-not-is_run
returns-else-not-is_run c =
    let s = c.args.self.now in
    let t = s.rest.text.now in
    let p = c.args.pat.now in
    let whole : s.rest.run_len ≡ length t = c.is_run.ensures c.if-not-is_run.false in
    let none = bare_if_run t s.rest.run_len s.rest.run_is_plain whole in
    let some : 0 < length p = omega (arith, eqb-false _ 0 (sym c.is_empty.ensures ∙ c.if-is_empty.false)) in
    let last : first_match_from (plain t) p s.from ≡ None = sym c.in-Err.ensures.2 ∙ no_match_past t p c.in-Err.later none some (omega (arith, whole, c.in-Err.ensures.1)) in
    let end = c.end.result in
    let run = c.range_from-run.ensures.value ∙ ap (drop s.skip) c.text.ensures in (
      subst (λ u. IsFalse (has_escape u)) (sym run) (no_escape-rest t s.skip none),
      λ r.
          ap (λ b. if b then [] else parts_left r t p s.skip s.from) c.if-self.false
          ∙ last_in_run r t p s.skip s.from none last (boundary-bare t s.skip none s.skip_ends)
          ∙ ap (λ u. span_part r u 0 ∷ []) (sym run)
          ∙ ap (λ b. span_part r c.range_from-run.result.now 0 ∷ (if b then [] else parts_left r end.rest.text.now p end.skip end.from)) (sym c.end.ensures),
    )
