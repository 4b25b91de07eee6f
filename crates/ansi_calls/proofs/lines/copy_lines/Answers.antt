use Rattle.std.proofs.Common.{◌∙◌, ◌+◌, ◌∷◌, [], ◌++◌, length, take, drop, map, refl, sym, ap, arith, append_assoc, length-append}
use Rattle.std.proofs.lemmas.List.{length_push, length-map, map-append}
use Rattle.ansi_items.specs.Plain.{plain}
use Rattle.ansi_clusters.specs.Columns.{clusters, lined}
use Rattle.ansi_clusters.specs.Lines.{lines, place_line, shown_lines}
use Rattle.ansi_columns.proofs.FirstFitLawLemmas.{first_fit-unique}
use Rattle.ansi_clusters.proofs.FirstFitLemmas.{lines-first_fit}
use Rattle.ansi_calls.specs.Columns.{line_entry}
use Rattle.ansi_text_calls.proofs.GivenLemmas.{written-more}
use Rattle.ansi_calls.proofs.LineListLemmas.{few_entries}
use Rattle.ansi_calls.proofs.lines.copy_lines.Goals as goal

-- first fit has these lines alone
pub loop-line-init : goal.loop-line-init
loop-line-init c =
    let x = plain c.args.text.now in
    let are = c.new-line-items.ensures.first_fit in
    record {
      can = tt;
      finite = tt;
      copied = ([], c.into_iter-line-iterator.ensures.into_iter_gives ∙ are.places ∙ ap (map (place_line x)) (first_fit-unique c.args.width (clusters (lined x)) are.shown (lines c.args.width (lined x)) are.first_fit (lines-first_fit c.args.width (lined x))), refl, λ room. refl);
    }

-- there is at most one line more than the text has bytes
pub put-count-requires : goal.put-count-requires
put-count-requires c =
    let t = c.args.text.now in
    let width = c.args.width in
    let so_far = c.loop-line.invariant.copied in
    let all = ap (λ ls. so_far.0 ++ ls) (sym c.in-Some.ensures.steps) ∙ so_far.1 in
    omega (
      arith,
      so_far.2,
      ap length all,
      length-append so_far.0 (c.in-Some.line ∷ c.next.new.self),
      length-map (shown_lines width (plain t)) line_entry,
      few_entries t width c.utf8.text,
    )

-- a line more is counted and written
pub loop-line-preserved : goal.loop-line-preserved
loop-line-preserved c =
    let line = c.in-Some.line in
    let entry = line_entry line in
    let so_far = c.loop-line.invariant.copied in
    let done = so_far.0 in
    let size = length_push done line in
    record {
      can = tt;
      finite = tt;
      copied = (
        done ++ line ∷ [],
        append_assoc done (line ∷ []) c.next.new.self ∙ ap (λ ls. done ++ ls) (sym c.in-Some.ensures.steps) ∙ so_far.1,
        c.put-count.ensures.after ∙ omega (arith, so_far.2, size),
        λ room.
            written-more c.args.entries.now c.loop-line.entries c.put-count.new.slots (map line_entry done) (entry ∷ [])
            (so_far.3 (omega (arith, room, size)))
            (c.put-count.ensures.slots (omega (arith, room, size, so_far.2, c.loop-line.auto.entries))
            ∙ ap (λ n. take n c.loop-line.entries ++ entry ∷ [] ++ drop (n + 1) c.loop-line.entries) (so_far.2 ∙ sym (length-map done line_entry)))
            ∙ ap (λ es. es ++ drop (length es) c.args.entries.now) (sym (map-append line_entry done (line ∷ []))),
      );
    }
