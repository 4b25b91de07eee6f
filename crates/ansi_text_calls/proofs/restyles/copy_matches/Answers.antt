use Rattle.std.proofs.Common.{◌∙◌, ◌+◌, ◌∷◌, [], ◌++◌, length, take, drop, map, sym, ap, arith, append_assoc, length-append}
use Rattle.std.proofs.lemmas.List.{length_push, length-map, map-append}
use Rattle.ansi_items.proofs.PlainLemmas.{length-plain}
use Rattle.ansi_text_calls.specs.Restyles.{range_entry}
use Rattle.ansi_text_calls.proofs.GivenLemmas.{written-more}
use Rattle.ansi_text_calls.proofs.restyles.copy_matches.Goals as goal

-- there is at most one match more than the text has bytes
pub put-count-requires : goal.put-count-requires
put-count-requires c =
    let so_far = c.loop-range.invariant.copied in
    let all = ap (λ rs. so_far.0 ++ rs) (sym c.in-Some.ensures.steps) ∙ so_far.1 in
    let few = c.new-range-items.ensures in
    omega (arith, so_far.2, ap length all, length-append so_far.0 (c.in-Some.range ∷ c.next.new.self), ap length few.matches, few.len, length-plain c.args.text.now)

-- a match more is counted and written
pub loop-range-preserved : goal.loop-range-preserved
loop-range-preserved c =
    let range = c.in-Some.range in
    let entry = range_entry range in
    let so_far = c.loop-range.invariant.copied in
    let done = so_far.0 in
    let size = length_push done range in
    record {
      can = tt;
      finite = tt;
      copied = (
        done ++ range ∷ [],
        append_assoc done (range ∷ []) c.next.new.self ∙ ap (λ rs. done ++ rs) (sym c.in-Some.ensures.steps) ∙ so_far.1,
        c.put-count.ensures.after ∙ omega (arith, so_far.2, size),
        λ room.
            written-more c.args.entries.now c.loop-range.entries c.put-count.new.slots (map range_entry done) (entry ∷ [])
            (so_far.3 (omega (arith, room, size)))
            (c.put-count.ensures.slots (omega (arith, room, size, so_far.2, c.loop-range.auto.entries))
            ∙ ap (λ n. take n c.loop-range.entries ++ entry ∷ [] ++ drop (n + 1) c.loop-range.entries) (so_far.2 ∙ sym (length-map done range_entry)))
            ∙ ap (λ es. es ++ drop (length es) c.args.entries.now) (sym (map-append range_entry done (range ∷ []))),
      );
    }
