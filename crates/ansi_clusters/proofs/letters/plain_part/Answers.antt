use Rattle.std.proofs.Common.{◌≡◌, take, sym, ◌∙◌, ap, subst}
use Rattle.std.specs.List.{count_by, prefix_len}
use Rattle.std.specs.Str.{IsCharBoundary}
use Rattle.ansi_safe.specs.Safe.{is_printable_byte}
use Rattle.ansi_clusters.specs.Letters.{is_letter_byte, is_first_byte, IsPlainFront}
use Rattle.ansi_clusters.proofs.LetterLemmas.{boundary-letters, front-letters, front-printable, slice-front}
use Rattle.ansi_clusters.proofs.letters.plain_part.Goals as goal

pub returns-in-32-to-126 : goal.returns-in-32-to-126
returns-in-32-to-126 c =
    front-printable c.args.text.now c.utf8.text c.printable_len-len.result (c.printable_len-len.ensures ∙ ap (prefix_len is_printable_byte) c.as_bytes-in-32-to-126.ensures.value)

pub range-requires-clause-end_boundary : goal.range-requires-clause-end_boundary
range-requires-clause-end_boundary c =
    let t = c.args.text.now in
    let len : c.letters_len-len.result ≡ prefix_len is_letter_byte t = c.letters_len-len.ensures ∙ ap (prefix_len is_letter_byte) c.as_bytes-in-195-to-203.ensures.value in
    subst (IsCharBoundary t) (sym len) (boundary-letters t c.utf8.text)

pub returns-in-195-to-203 : goal.returns-in-195-to-203
returns-in-195-to-203 c =
    let t = c.args.text.now in
    let n = c.letters_len-len.result in
    let len : n ≡ prefix_len is_letter_byte t = c.letters_len-len.ensures ∙ ap (prefix_len is_letter_byte) c.as_bytes-in-195-to-203.ensures.value in
    let front : take n t ≡ c.range.result.now = sym (c.range.ensures.value ∙ slice-front t n) in
    subst (IsPlainFront t n) (ap (count_by is_first_byte) front ∙ sym c.letter_count.ensures) (front-letters t c.utf8.text n len)
