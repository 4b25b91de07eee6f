use Rattle.std.proofs.Common.{◌≡◌, ◌≤◌, ◌+◌, ◌-◌, ◌++◌, inl, length, take, drop, sym, ◌∙◌, ap, subst, arith, append_assoc}
use Rattle.std.specs.Str.{byte}
use Rattle.std.proofs.lemmas.List.{length-replicate}
use Rattle.ansi_clusters.specs.Lines.{blanks}
use Rattle.ansi_cells.specs.Shown.{between_blanks}
use Rattle.ansi_text_calls.specs.Answers.{done}
use Rattle.ansi_text_calls.proofs.GivenLemmas.{put-begin, put-more, put-end}
use Rattle.ansi_calls.proofs.shown.write_bare.Goals as goal

pub returns : goal.returns
returns c =
    let old = c.args.buffer.now in
    let bare = c.args.bare in
    let before = c.before_text-before.result in
    let after = bare.missing - before in
    let x = bare.text.now in
    let w = bare.tail.now in
    let room : bare.missing + length x + length w ≤ length old = omega (arith, c.if-buffer-len.false, c.in_ok-checked_add.ensures, c.in_ok-len.ensures) in
    let within = c.before_text-before.ensures.within in
    let first_size = length-replicate before (byte " ") in
    let last_size = length-replicate after (byte " ") in
    let one = put-more (blanks before) (put-begin old) (omega (arith, first_size, within, room)) (λ _. subst (λ n. c.put_blanks-text_at.new.buffer ≡ take 0 old ++ blanks before ++ drop (0 + n) old) (sym first_size) c.put_blanks-text_at.ensures.bytes) (omega (arith, c.put_blanks-text_at.ensures.after, first_size)) in
    let two = put-more x one (omega (arith, c.put_blanks-text_at.ensures.after, within, room)) c.put_str-tail_at.ensures.bytes c.put_str-tail_at.ensures.after in
    let three = put-more w two (omega (arith, c.put_str-tail_at.ensures.after, c.put_blanks-text_at.ensures.after, within, room)) c.put_str-end.ensures.bytes c.put_str-end.ensures.after in
    let place = c.put_str-end.result in
    let end : place + after ≤ length old = omega (arith, c.put_str-end.ensures.after, c.put_str-tail_at.ensures.after, c.put_blanks-text_at.ensures.after, within, room) in
    let four = put-more (blanks after) three (omega (arith, end, last_size)) (λ _. subst (λ n. c.put_blanks.new.buffer ≡ take place c.put_str-end.new.buffer ++ blanks after ++ drop (place + n) c.put_str-end.new.buffer) (sym last_size) c.put_blanks.ensures.bytes) (omega (arith, c.put_blanks.ensures.after, last_size)) in
    let written = put-end four
    (ap (λ u. u ++ blanks after) (append_assoc (blanks before) x w) ∙ ap (λ n. (blanks n ++ (x ++ w)) ++ blanks (bare.missing - n)) c.before_text-before.ensures.count)
    (omega (arith, c.put_blanks.ensures.after, end)) in
    inl (omega (arith, written.0, written.1), c.done.ensures ∙ ap done written.0, written.2 ∙ ap (λ n. between_blanks bare.missing c.args.alignment (x ++ w) ++ drop n old) written.0)
