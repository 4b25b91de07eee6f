use Rattle.std.proofs.Common.{◌≡◌, ℕ, List, [], ◌∷◌, ◌++◌, map, Option, None, Some, Result, Ok, Err, string_bytes, sym, ◌∙◌, ap, ap₂, append_assoc}
use Rattle.std.specs.List.{flat_map, join_by}
use Rattle.std.specs.Option.{option_transpose}
use Rattle.std.proofs.lemmas.Bool.{false≢true}
use Rattle.std.proofs.lemmas.List.Concat.{flat_map-cons}
use Rattle.ansi_split.specs.Splits.{CarriedPart, PushesPart}
use Rattle.ansi_view_runs.specs.Views.{line_break}
use Rattle.ansi_view_runs.proofs.StageLemmas.{stage-lines}
use Rattle.ansi_view_runs.proofs.ended.wrap_line.Goals as goal

-- if a line is left, it is appended
appended : {E : Type 0} (old new : List CarriedPart) (made after : List ℕ) (pushed : Option (Result Unit E)) (got : Option Unit) → PushesPart old pushed new made after → option_transpose pushed ≡ Ok got → (old ≡ [] → ⊥)
    → (l : CarriedPart) × (old ≡ l ∷ new) × (after ≡ made ++ l.bytes)
appended old new made after None got pushes ok some = absurd (some pushes.0)
appended old new made after (Some (Ok u)) got pushes ok some = pushes
appended old new made after (Some (Err e)) got pushes ok some = absurd (cc ok)

-- the first line, if there is one
first-joined : {E : Type 0} (mark made after : List ℕ) (old new : List CarriedPart) (pushed : Option (Result Unit E)) (got : Option Unit) → PushesPart old pushed new made after → made ≡ [] → option_transpose pushed ≡ Ok got
    → after ++ flat_map (λ t. mark ++ t) (map (λ (w : CarriedPart). w.bytes) new) ≡ join_by (λ t. t) mark (map (λ (w : CarriedPart). w.bytes) old)
first-joined mark made after old new None got pushes none ok =
    ap₂ (λ u (ls : List CarriedPart). u ++ flat_map (λ t. mark ++ t) (map (λ (w : CarriedPart). w.bytes) ls)) (pushes.2 ∙ none) pushes.1
    ∙ ap (λ (ls : List CarriedPart). join_by (λ t. t) mark (map (λ (w : CarriedPart). w.bytes) ls)) (sym pushes.0)
first-joined mark made after old new (Some (Ok u)) got (l, first, is) none ok =
    ap (λ u. u ++ flat_map (λ t. mark ++ t) (map (λ (w : CarriedPart). w.bytes) new)) (is ∙ ap (λ u. u ++ l.bytes) none)
    ∙ ap (λ (ls : List CarriedPart). join_by (λ t. t) mark (map (λ (w : CarriedPart). w.bytes) ls)) (sym first)
first-joined mark made after old new (Some (Err e)) got pushes none ok = absurd (cc ok)

pub lines-init : goal.lines-init
lines-init g c =
    let mark = line_break c.args.end.now in
    let stage = c.args.stage.now in
    let lines = stage-lines c.as_slice.result.now stage.edits.items c.at-to.result.width stage.width c.at-to.result.first_indent.now c.at-to.result.indent.now c.args.text.now c.in_ok-lines.lines
    c.as_slice.ensures.value c.at-to.ensures.width c.at-to.ensures.first_indent c.at-to.ensures.indent c.in_ok-lines.ensures.bytes in
    record {
      joined = first-joined mark _ _ c.in_ok-lines.lines _ c.push_next.result _ c.push_next.ensures c.in_ok-made.ensures.bytes (sym c.transpose.ensures ∙ c.in_ok-transpose.was) ∙ ap (join_by (λ t. t) mark) lines;
    }

-- one line more is joined
joined-more : (mark so_far after : List ℕ) (l : CarriedPart) (old new : List CarriedPart) (all : List ℕ) → old ≡ l ∷ new → after ≡ so_far ++ mark ++ l.bytes
    → so_far ++ flat_map (λ t. mark ++ t) (map (λ (w : CarriedPart). w.bytes) old) ≡ all
    → after ++ flat_map (λ t. mark ++ t) (map (λ (w : CarriedPart). w.bytes) new) ≡ all
joined-more mark so_far after l old new all first more joined =
    let rest = map (λ (w : CarriedPart). w.bytes) new in
    ap (λ u. u ++ flat_map (λ t. mark ++ t) rest) (more ∙ append_assoc so_far mark l.bytes)
    ∙ append_assoc so_far (mark ++ l.bytes) (flat_map (λ t. mark ++ t) rest)
    ∙ ap (λ u. so_far ++ u) (sym (flat_map-cons (λ t. mark ++ t) l.bytes rest))
    ∙ ap (λ (ls : List CarriedPart). so_far ++ flat_map (λ t. mark ++ t) (map (λ (w : CarriedPart). w.bytes) ls)) (sym first)
    ∙ joined

pub lines-preserved : goal.lines-preserved
lines-preserved g c =
    let mark = line_break c.args.end.now in
    let line = appended c.lines.lines c.push_next-in-lines.new.self _ _ c.push_next-in-lines.result _ c.push_next-in-lines.ensures
    (sym c.transpose-in-lines.ensures ∙ c.in_ok-transpose-2.was) (λ none. false≢true (sym (c.has_next_with.ensures.1 none) ∙ c.lines-test.true)) in
    record {
      joined = joined-more mark _ _ line.0 _ _ _ line.1
          (line.2 ∙ ap (λ u. u ++ line.0.bytes) (c.in_ok-push_str.ensures.bytes ∙ ap (λ u. string_bytes c.lines.made ++ u) c.line_break.ensures)) c.lines.invariant.joined;
    }
