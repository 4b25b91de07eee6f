use Rattle.std.proofs.Common.{◌≡◌, ◌∙◌, ◌≤◌, ◌+◌, ◌∷◌, [], ◌++◌, length, take, drop, sym, ap, ap₂, subst, arith, append_assoc, append-nil, length-append}
use Rattle.std.proofs.lemmas.List.{length_push}
use Rattle.ansi_restyle.specs.Links.{links, linked_range}
use Rattle.ansi_text_calls.specs.Links.{addresses, link_entries_from}
use Rattle.ansi_text_calls.proofs.GivenLemmas.{written-more}
use Rattle.ansi_text_calls.proofs.LinkListLemmas.{addresses-more, entry_ending, entries-more, length-entries, room-for-one}
use Rattle.ansi_text_calls.proofs.links.copy_links.Goals as goal

-- the addresses are no longer than the text
pub put-len-requires : goal.put-len-requires
put-len-requires c =
    let so_far = c.loop-link.invariant.copied in
    let all = ap (λ ls. so_far.0 ++ ls) (sym c.in-Some.ensures.steps) ∙ so_far.1 in
    let room = room-for-one c.args.text.now so_far.0 c.next.new.self (linked_range c.in-Some.link) all in
    omega (arith, so_far.3, room.1, ap length c.as_bytes.ensures.value)

-- and there are no more links than bytes
pub put-count-requires : goal.put-count-requires
put-count-requires c =
    let so_far = c.loop-link.invariant.copied in
    let all = ap (λ ls. so_far.0 ++ ls) (sym c.in-Some.ensures.steps) ∙ so_far.1 in
    let room = room-for-one c.args.text.now so_far.0 c.next.new.self (linked_range c.in-Some.link) all in
    omega (arith, so_far.2, room.0)

-- a link more is counted and written
pub loop-link-preserved : goal.loop-link-preserved
loop-link-preserved c =
    let link = linked_range c.in-Some.link in
    let so_far = c.loop-link.invariant.copied in
    let done = so_far.0 in
    let size = length_push done link in
    let bytes = addresses-more done link in
    let long = length-append (addresses done) link.address in
    let entries = link_entries_from 0 done in
    let count : length entries ≡ length done = length-entries 0 done in
    let value = c.as_bytes.ensures.value in
    let end : c.put-len.result ≡ length (addresses done) + length link.address = omega (arith, c.put-len.ensures.after, so_far.3, ap length value) in
    record {
      can = tt;
      finite = tt;
      copied = (
        done ++ link ∷ [],
        append_assoc done (link ∷ []) c.next.new.self ∙ ap (λ ls. done ++ ls) (sym c.in-Some.ensures.steps) ∙ so_far.1,
        c.put-count.ensures.after ∙ omega (arith, so_far.2, size),
        end ∙ omega (arith, ap length bytes, long),
        λ room.
            let fits : length (addresses done) + length link.address ≤ length c.args.buffer.now = omega (arith, room, ap length bytes, long) in
            written-more c.args.buffer.now c.loop-link.buffer c.put-len.new.slots (addresses done) link.address
            (so_far.4 (omega (arith, fits)))
            (c.put-len.ensures.slots (omega (arith, fits, so_far.3, c.loop-link.auto.buffer, ap length value))
            ∙ ap₂ (λ n u. take n c.loop-link.buffer ++ u ++ drop (n + length u) c.loop-link.buffer) so_far.3 value)
            ∙ ap (λ u. u ++ drop (length u) c.args.buffer.now) (sym bytes),
        λ room.
            let one : 0 + length (addresses done) + length link.address ≡ c.put-len.result = omega (arith, end) in
            let entry = entry_ending c.put-len.result link in
            written-more c.args.entries.now c.loop-link.entries c.put-count.new.slots entries (entry ∷ [])
            (so_far.5 (omega (arith, room, size)))
            (c.put-count.ensures.slots (omega (arith, room, size, so_far.2, c.loop-link.auto.entries))
            ∙ ap (λ n. take n c.loop-link.entries ++ entry ∷ [] ++ drop (n + 1) c.loop-link.entries) (so_far.2 ∙ sym count))
            ∙ ap (λ es. es ++ drop (length es) c.args.entries.now) (ap (λ n. entries ++ entry_ending n link ∷ []) (sym one) ∙ sym (entries-more 0 done link)),
      );
    }

-- at the end no link is left
pub returns : goal.returns
returns c =
    let so_far = c.loop-link.invariant.copied in
    let all : so_far.0 ≡ links c.args.text.now = sym (append-nil so_far.0) ∙ ap (λ ls. so_far.0 ++ ls) (sym c.in-None.ensures.steps.0) ∙ so_far.1 in
    let count = length-entries 0 so_far.0 in
    record {
      count = so_far.2 ∙ sym count ∙ ap (λ ls. length (link_entries_from 0 ls)) all;
      len = so_far.3 ∙ ap (λ ls. length (addresses ls)) all;
      addresses = subst (λ ls. length (addresses ls) ≤ length c.args.buffer.now → c.loop-link.buffer ≡ addresses ls ++ drop (length (addresses ls)) c.args.buffer.now) all so_far.4;
      entries = subst (λ ls. length (link_entries_from 0 ls) ≤ length c.args.entries.now → c.loop-link.entries ≡ link_entries_from 0 ls ++ drop (length (link_entries_from 0 ls)) c.args.entries.now) all
          (λ room. so_far.5 (omega (arith, room, count)));
    }
