use Rattle.std.proofs.Common.{◌≡◌, ◌∙◌, ◌≤◌, ◌+◌, ◌∷◌, [], ◌++◌, length, take, drop, sym, ap, ap₂, arith, length-append}
use Rattle.std.proofs.lemmas.List.{length_push}
use Rattle.ansi_text_calls.specs.Lists.{ends_from}
use Rattle.ansi_text_calls.proofs.GivenLemmas.{joined_texts, joined_one, ends_one, written-more}
use Rattle.ansi_text_calls.proofs.ListLemmas.{length-ends_from}
use Rattle.ansi_text_calls.proofs.lists.put_text.Goals as goal

-- one text more is written, with its end
pub returns : goal.returns
returns c = λ texts first first_ends so_far.
    let x = c.args.text.now in
    let bytes = joined_texts texts in
    let more = joined_one texts x in
    let long = length-append bytes x in
    let size = length_push texts x in
    let end : c.put-len.result ≡ length bytes + length x = omega (arith, c.put-len.ensures.after, so_far.0.1) in
    let listed = length-ends_from 0 texts in (
      (
        c.put-count.ensures.after ∙ omega (arith, so_far.0.0, size),
        end ∙ omega (arith, ap length more, long),
        λ room.
            let fits : length bytes + length x ≤ length first = omega (arith, room, ap length more, long) in
            let placed = written-more first c.args.buffer.now c.put-len.new.slots bytes x (so_far.0.2 (omega (arith, fits)))
            (c.put-len.ensures.slots (omega (arith, fits, so_far.0.1, so_far.1))
            ∙ ap (λ n. take n c.args.buffer.now ++ x ++ drop (n + length x) c.args.buffer.now) so_far.0.1) in
            placed ∙ ap (λ u. u ++ drop (length u) first) (sym more),
        λ room.
            let fits : c.args.copied.0 + 1 ≤ length c.args.ends.now = omega (arith, room, size, so_far.0.0, so_far.2) in
            let one : 0 + length bytes + length x ≡ c.put-len.result = omega (arith, end) in
            written-more first_ends c.args.ends.now c.put-count.new.slots (ends_from 0 texts) (c.put-len.result ∷ [])
            (so_far.0.3 (omega (arith, room, size)) ∙ ap (λ n. ends_from 0 texts ++ drop n first_ends) (sym listed))
            (c.put-count.ensures.slots fits ∙ ap (λ n. take n c.args.ends.now ++ c.put-len.result ∷ [] ++ drop (n + 1) c.args.ends.now) (so_far.0.0 ∙ sym listed))
            ∙ ap₂ (λ es n. es ++ drop n first_ends) (ap (λ n. ends_from 0 texts ++ n ∷ []) (sym one) ∙ sym (ends_one texts x)) (omega (arith, length_push (ends_from 0 texts) c.put-len.result, listed, size)),
      ),
      c.put-len.ensures.same_len ∙ so_far.1,
      c.put-count.ensures.same_len ∙ so_far.2,
    )
