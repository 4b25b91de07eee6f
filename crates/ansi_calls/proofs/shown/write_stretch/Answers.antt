use Rattle.std.proofs.Common.{◌≤◌, ◌+◌, ◌++◌, length, ◌∙◌, ap₂, arith, append_assoc}
use Rattle.ansi_text_calls.proofs.GivenLemmas.{put-begin, put-more, put-end}
use Rattle.ansi_calls.proofs.shown.write_stretch.Goals as goal

-- the parts, one after another
pub returns : goal.returns
returns c =
    let old = c.args.buffer.now in
    let s = c.args.stretch.now in
    let start = c.as_str-start.result.now in
    let link = s.opened.link.now in
    let text = s.text.now in
    let link_end = s.ending.link_end.now in
    let close = c.as_str-close.result.now in
    let room : length text + length start + length link + length link_end + length close ≤ length old = omega (arith, c.if-buffer-len.false, c.in_ok-checked_add.ensures, c.in_ok-checked_add-2.ensures, c.in_ok-checked_add-3.ensures, c.in_ok-len.ensures) in
    let one = put-more start (put-begin old) (omega (arith, room)) c.put_str-place.ensures.bytes c.put_str-place.ensures.after in
    let two = put-more link one (omega (arith, room, c.put_str-place.ensures.after)) c.put_str-place-2.ensures.bytes c.put_str-place-2.ensures.after in
    let three = put-more text two (omega (arith, room, c.put_str-place.ensures.after, c.put_str-place-2.ensures.after)) c.put_str-place-3.ensures.bytes c.put_str-place-3.ensures.after in
    let four = put-more link_end three (omega (arith, room, c.put_str-place.ensures.after, c.put_str-place-2.ensures.after, c.put_str-place-3.ensures.after)) c.put_str-place-4.ensures.bytes c.put_str-place-4.ensures.after in
    let end : c.put_str-place-4.result + length close ≤ length old = omega (arith, room, c.put_str-place.ensures.after, c.put_str-place-2.ensures.after, c.put_str-place-3.ensures.after, c.put_str-place-4.ensures.after) in
    let five = put-more close four end c.put_str.ensures.bytes c.put_str.ensures.after in
    put-end five
    (append_assoc ((start ++ link) ++ text) link_end close
    ∙ ap₂ (λ u v. ((u ++ link) ++ text) ++ (link_end ++ v)) (c.as_str-start.ensures.value ∙ c.in_ok-start.ensures) (c.as_str-close.ensures.value ∙ c.in_ok-close.ensures))
    (omega (arith, end, c.put_str.ensures.after))
