use Rattle.std.proofs.Common.{◌≡◌, ◌-◌, ◌<◌, ◌++◌, true, length, take, drop, sym, ◌∙◌, ap, subst, arith}
use Rattle.std.specs.List.{list_all, prefix_len, count_by}
use Rattle.std.specs.Str.{IsCharBoundary}
use Rattle.std.proofs.lemmas.List.{length-take-le, length-take}
use Rattle.std.proofs.lemmas.List.Sums.{prefix_len-le-length}
use Rattle.ansi_items.proofs.SequenceLemmas.{all-run}
use Rattle.ansi_clusters.specs.Letters.{is_letter_byte, is_first_byte, AreLettersBefore}
use Rattle.ansi_clusters.proofs.LetterLemmas.{boundary-letters, count-most, front-is, front-size, front-taken, letters-before, text-split}
use Rattle.ansi_clusters.proofs.letters.letters_before_last.Goals as goal

pub range-letters-requires-clause-end_boundary : goal.range-letters-requires-clause-end_boundary
range-letters-requires-clause-end_boundary c =
    let t = c.range-near.result.now in
    let len : c.letters_len-len.result ≡ prefix_len is_letter_byte t = c.letters_len-len.ensures ∙ ap (prefix_len is_letter_byte) c.as_bytes.ensures.value in
    subst (IsCharBoundary t) (sym len) (boundary-letters t c.range-near.utf8)

pub returns-clause-letters : goal.returns-clause-letters
returns-clause-letters c some =
    let t = c.args.text.now in
    let near = c.range-near.result.now in
    let w = c.range-letters.result.now in
    let front = c.range-front.result.now in
    let n = c.letters_len-len.result in
    let k = c.floor_char_boundary-2.result in
    let len : n ≡ prefix_len is_letter_byte near = c.letters_len-len.ensures ∙ ap (prefix_len is_letter_byte) c.as_bytes.ensures.value in
    let w_is : w ≡ take n near = c.range-letters.ensures.value ∙ (let whole : n - 0 ≡ n = omega arith in ap (λ j. take j near) whole) in
    let all : list_all is_letter_byte w ≡ true = ap (list_all is_letter_byte) w_is ∙ ap (λ j. list_all is_letter_byte (take j near)) len ∙ all-run is_letter_byte near in
    let front_is = front-is c.args.text.now c.range-near.result.now c.range-letters.result.now c.range-front.result.now c.floor_char_boundary.result c.letters_len-len.result c.floor_char_boundary-2.result c.range-near.ensures.value c.range-letters.ensures.value c.range-front.ensures.value in
    let size : length w ≡ n = ap length w_is ∙ length-take-le n near (omega (arith, len, prefix_len-le-length is_letter_byte near)) in
    let inside : k < length w = omega (arith, size, c.floor_char_boundary-2.ensures.bound, some, ap length front_is, length-take k w) in
    subst (AreLettersBefore t) (sym front_is ∙ front-taken c.args.text.now c.range-near.result.now c.range-letters.result.now c.range-front.result.now c.floor_char_boundary.result c.letters_len-len.result c.floor_char_boundary-2.result c.range-near.ensures.value c.range-letters.ensures.value c.range-front.ensures.value)
    (letters-before t w (drop n near ++ drop c.floor_char_boundary.result t) k (text-split c.args.text.now c.range-near.result.now c.range-letters.result.now c.range-front.result.now c.floor_char_boundary.result c.letters_len-len.result c.floor_char_boundary-2.result c.range-near.ensures.value c.range-letters.ensures.value c.range-front.ensures.value) c.range-letters.utf8 all c.floor_char_boundary-2.ensures.boundary inside)

pub returns-clause-count : goal.returns-clause-count
returns-clause-count c =
    c.letter_count.ensures ∙ ap (count_by is_first_byte) (front-taken c.args.text.now c.range-near.result.now c.range-letters.result.now c.range-front.result.now c.floor_char_boundary.result c.letters_len-len.result c.floor_char_boundary-2.result c.range-near.ensures.value c.range-letters.ensures.value c.range-front.ensures.value)

pub returns-clause-within : goal.returns-clause-within
returns-clause-within c = (front-size c.args.text.now c.range-near.result.now c.range-letters.result.now c.range-front.result.now c.floor_char_boundary.result c.letters_len-len.result c.floor_char_boundary-2.result c.range-near.ensures.value c.range-letters.ensures.value c.range-front.ensures.value).1

pub returns-clause-most : goal.returns-clause-most
returns-clause-most c =
    omega (
      arith,
      c.letter_count.ensures,
      count-most is_first_byte c.range-front.result.now,
      (front-size c.args.text.now c.range-near.result.now c.range-letters.result.now c.range-front.result.now c.floor_char_boundary.result c.letters_len-len.result c.floor_char_boundary-2.result c.range-near.ensures.value c.range-letters.ensures.value c.range-front.ensures.value).0,
      c.floor_char_boundary.ensures.bound,
    )
