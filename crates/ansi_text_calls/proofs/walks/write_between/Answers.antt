use Rattle.std.proofs.Common.{◌≡◌, ◌++◌, ◌+◌, ◌≤◌, inl, take, drop, length, ◌∙◌, ap, ap₂, arith, length-append}
use Rattle.ansi_text_calls.specs.Answers.{done}
use Rattle.ansi_text_calls.proofs.GivenLemmas.{written-more}
use Rattle.ansi_text_calls.proofs.walks.write_between.Goals as goal

-- one text after another is written
pub returns : goal.returns
returns c =
    let old = c.args.buffer.now in
    let a = c.args.start.now in
    let b = c.args.text.now in
    let d = c.args.close.now in
    let one_put = c.put-place.ensures in
    let two_put = c.put-place-2.ensures in
    let two : length (a ++ b) ≡ length a + length b = length-append a b in
    let three : length ((a ++ b) ++ d) ≡ length (a ++ b) + length d = length-append (a ++ b) d in
    let size_a : length c.as_bytes.result.now ≡ length a = ap length c.as_bytes.ensures.value in
    let size_b : length c.as_bytes-2.result.now ≡ length b = ap length c.as_bytes-2.ensures.value in
    let size_d : length c.as_bytes-3.result.now ≡ length d = ap length c.as_bytes-3.ensures.value in
    let room : length ((a ++ b) ++ d) ≤ length old = omega (arith, two, three, c.if-len-buffer.false) in
    let after_a : c.put-place.result ≡ length a = omega (arith, one_put.after, size_a) in
    let after_b : c.put-place-2.result ≡ length (a ++ b) = omega (arith, two_put.after, after_a, size_b, two) in
    let first : c.put-place.new.slots ≡ a ++ drop (length a) old
    = one_put.slots (omega (arith, room, two, three, size_a)) ∙ ap₂ (λ u n. u ++ drop n old) c.as_bytes.ensures.value (omega (arith, size_a)) in
    let second : c.put-place-2.new.slots ≡ (a ++ b) ++ drop (length (a ++ b)) old
    = written-more old c.put-place.new.slots c.put-place-2.new.slots a b first
    (two_put.slots (omega (arith, room, two, three, one_put.same_len, after_a, size_b))
    ∙ ap₂ (λ n u. take n c.put-place.new.slots ++ u ++ drop (n + length u) c.put-place.new.slots) after_a c.as_bytes-2.ensures.value) in
    let third : c.put.new.slots ≡ ((a ++ b) ++ d) ++ drop (length ((a ++ b) ++ d)) old
    = written-more old c.put-place-2.new.slots c.put.new.slots (a ++ b) d second
    (c.put.ensures.slots (omega (arith, room, three, one_put.same_len, two_put.same_len, after_b, size_d))
    ∙ ap₂ (λ n u. take n c.put-place-2.new.slots ++ u ++ drop (n + length u) c.put-place-2.new.slots) after_b c.as_bytes-3.ensures.value) in
    inl (room, c.done.ensures ∙ ap done (omega (arith, two, three)), third)
