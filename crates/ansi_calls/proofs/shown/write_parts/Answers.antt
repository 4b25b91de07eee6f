use Rattle.std.proofs.Common.{◌≡◌, ◌≤◌, ◌+◌, ◌-◌, ◌++◌, List, ℕ, length, take, drop, sym, ◌∙◌, ap, subst, arith, append_assoc}
use Rattle.std.specs.Str.{byte}
use Rattle.std.specs.Cow.{cow_str_bytes}
use Rattle.std.proofs.lemmas.List.{length-replicate}
use Rattle.ansi_style.specs.States.{rendition_of}
use Rattle.ansi_style.specs.Written.{close}
use Rattle.ansi_clusters.specs.Lines.{blanks}
use Rattle.ansi_text_calls.proofs.GivenLemmas.{put-begin, put-more, put-end}
use Rattle.ansi_calls.proofs.shown.write_parts.Goals as goal

-- the parts as they are written, and as they are joined
arranged : (b x e k w : List ℕ) → (((b ++ x) ++ e) ++ k) ++ w ≡ b ++ ((x ++ (e ++ k)) ++ w)
arranged b x e k w = ap (λ u. u ++ w) (append_assoc (b ++ x) e k ∙ append_assoc b x (e ++ k)) ∙ append_assoc b (x ++ (e ++ k)) w

pub returns : goal.returns
returns g c =
    let old = c.args.buffer.now in
    let s = c.args.shown.now in
    let before = c.before_text-before.result in
    let after = s.missing - before in
    let x = c.as_str-text.result.now in
    let e = s.ending.link_end.now in
    let k = c.as_str-2.result.now in
    let w = s.tail.now in
    let k_len = ap length (c.as_str.ensures.value ∙ sym c.as_str-2.ensures.value) in
    let room : s.missing + length x + length e + length k + length w ≤ length old = omega (arith, c.if-buffer-len.false, c.in_ok-checked_add.ensures, c.in_ok-checked_add-2.ensures, c.in_ok-checked_add-3.ensures, c.in_ok-len.ensures, k_len) in
    let within = c.before_text-before.ensures.within in
    let first_size = length-replicate before (byte " ") in
    let last_size = length-replicate after (byte " ") in
    let one = put-more (blanks before) (put-begin old) (omega (arith, first_size, within, room)) (λ _. subst (λ n. c.put_blanks-place.new.buffer ≡ take 0 old ++ blanks before ++ drop (0 + n) old) (sym first_size) c.put_blanks-place.ensures.bytes) (omega (arith, c.put_blanks-place.ensures.after, first_size)) in
    let two = put-more x one (omega (arith, c.put_blanks-place.ensures.after, within, room)) c.put_str-place.ensures.bytes c.put_str-place.ensures.after in
    let three = put-more e two (omega (arith, c.put_str-place.ensures.after, c.put_blanks-place.ensures.after, within, room)) c.put_str-place-2.ensures.bytes c.put_str-place-2.ensures.after in
    let four = put-more k three (omega (arith, c.put_str-place-2.ensures.after, c.put_str-place.ensures.after, c.put_blanks-place.ensures.after, within, room)) c.put_str-place-3.ensures.bytes c.put_str-place-3.ensures.after in
    let five = put-more w four (omega (arith, c.put_str-place-3.ensures.after, c.put_str-place-2.ensures.after, c.put_str-place.ensures.after, c.put_blanks-place.ensures.after, within, room)) c.put_str-place-4.ensures.bytes c.put_str-place-4.ensures.after in
    let place = c.put_str-place-4.result in
    let end : place + after ≤ length old = omega (arith, c.put_str-place-4.ensures.after, c.put_str-place-3.ensures.after, c.put_str-place-2.ensures.after, c.put_str-place.ensures.after, c.put_blanks-place.ensures.after, within, room) in
    let six = put-more (blanks after) five (omega (arith, end, last_size)) (λ _. subst (λ n. c.put_blanks.new.buffer ≡ take place c.put_str-place-4.new.buffer ++ blanks after ++ drop (place + n) c.put_str-place-4.new.buffer) (sym last_size) c.put_blanks.ensures.bytes) (omega (arith, c.put_blanks.ensures.after, last_size)) in
    let X = cow_str_bytes s.text in
    let K = close (rendition_of s.ending.style) in
    let more = blanks after in
    let k_is : k ≡ K = c.as_str-2.ensures.value ∙ c.in_ok-close.ensures in
    put-end six
    (ap (λ u. u ++ more) (arranged (blanks before) x e k w)
    ∙ ap (λ u. (blanks before ++ ((u ++ (e ++ k)) ++ w)) ++ more) c.as_str-text.ensures.value
    ∙ ap (λ u. (blanks before ++ ((X ++ (e ++ u)) ++ w)) ++ more) k_is
    ∙ ap (λ n. (blanks n ++ ((X ++ (e ++ K)) ++ w)) ++ blanks (s.missing - n)) c.before_text-before.ensures.count)
    (omega (arith, c.put_blanks.ensures.after, end))
