use Rattle.std.proofs.Common.{◌≡◌, ◌+◌, Some, None, length, take, drop, slice_range, sym, ◌∙◌, ap, arith}
use Rattle.std.proofs.lemmas.List.{take-take}
use Rattle.memchr.specs.Find.{IsLastByte, is_byte}
use Rattle.ansi_clusters.specs.Words.{end_after}
use Rattle.ansi_clusters.proofs.PrintableLemmas.{front-size, front-fewer, slice_range-take}
use Rattle.ansi_clusters.proofs.LineReadLemmas.{tight-past, tight-after}
use Rattle.ansi_clusters.proofs.WordLemmas.{words-none, words-last_byte, words-last_word}
use Rattle.ansi_clusters.proofs.lines.words_after.Goals as goal

pub returns-in_default-clause-positions : goal.returns-in_default-clause-positions
returns-in_default-clause-positions c =
    let t = c.args.text.now in
    let a = c.args.here.offset in
    let bytes = slice_range t a (a + c.args.len) in
    let size : length bytes ≡ c.args.len = front-size c.requires.here.1 c.requires.after.front in
    let none : IsLastByte (is_byte 0x20) bytes None = rw (c.in_default.is, c.as_bytes.ensures.value) at c.memrchr.ensures in
    let place : c.args.here.position + length bytes ≡ c.args.after.position = omega (arith, size, c.requires.after.position) in
    sym (words-none bytes c.args.here.position c.args.end_before.position c.args.word.position c.args.end.position (omega (arith, size, c.if-len-eq0.false)) none ∙ ap (λ n. (c.args.end_before.position, c.args.word.position, n)) place)

pub end_after-before-requires-clause-ahead : goal.end_after-before-requires-clause-ahead
end_after-before-requires-clause-ahead c =
    let t = c.args.text.now in
    let a = c.args.here.offset in
    let bytes = slice_range t a (a + c.args.len) in
    let size : length bytes ≡ c.args.len = front-size c.requires.here.1 c.requires.after.front in
    let last : IsLastByte (is_byte 0x20) bytes (Some c.in-Some.blank) = rw (c.in-Some.is, c.as_bytes.ensures.value) at c.memrchr.ensures in
    λ some. front-fewer c.args.len c.in-Some.blank c.requires.here.1 c.requires.after.front (omega (arith, size, last.0.high))

pub past_printable-requires-clause-ahead : goal.past_printable-requires-clause-ahead
past_printable-requires-clause-ahead c =
    let t = c.args.text.now in
    let a = c.args.here.offset in
    let bytes = slice_range t a (a + c.args.len) in
    let size : length bytes ≡ c.args.len = front-size c.requires.here.1 c.requires.after.front in
    let last : IsLastByte (is_byte 0x20) bytes (Some c.in-Some.blank) = rw (c.in-Some.is, c.as_bytes.ensures.value) at c.memrchr.ensures in
    λ some. front-fewer c.args.len (c.in-Some.blank + 1) c.requires.here.1 c.requires.after.front (omega (arith, size, last.0.high, c.if-blank-len.false))

pub returns-then-blank-len-clause-positions : goal.returns-then-blank-len-clause-positions
returns-then-blank-len-clause-positions c =
    let t = c.args.text.now in
    let a = c.args.here.offset in
    let k = c.in-Some.blank in
    let bytes = slice_range t a (a + c.args.len) in
    let size : length bytes ≡ c.args.len = front-size c.requires.here.1 c.requires.after.front in
    let last : IsLastByte (is_byte 0x20) bytes (Some k) = rw (c.in-Some.is, c.as_bytes.ensures.value) at c.memrchr.ensures in
    let front : slice_range t a (a + k) ≡ take k bytes
    = slice_range-take t a k ∙ sym (take-take k c.args.len (drop a t) (omega (arith, size, last.0.high))) ∙ ap (take k) (sym (slice_range-take t a c.args.len)) in
    let before : end_after (take k bytes) c.args.here.position c.args.end.position ≡ c.end_after-before.result.position = sym (c.end_after-before.ensures.position ∙ ap (λ x. end_after x c.args.here.position c.args.end.position) front) in
    let word : c.args.here.position + (k + 1) ≡ c.args.after.position = omega (arith, c.requires.after.position, c.if-blank-len.true) in
    sym (words-last_byte bytes k last c.args.here.position c.args.end_before.position c.args.word.position c.args.end.position (omega (arith, size, c.if-blank-len.true))
    ∙ ap (λ e. (e, c.args.here.position + (k + 1), e)) before ∙ ap (λ n. (c.end_after-before.result.position, n, c.end_after-before.result.position)) word)

pub returns-clause-positions : goal.returns-clause-positions
returns-clause-positions c =
    let t = c.args.text.now in
    let a = c.args.here.offset in
    let k = c.in-Some.blank in
    let bytes = slice_range t a (a + c.args.len) in
    let size : length bytes ≡ c.args.len = front-size c.requires.here.1 c.requires.after.front in
    let last : IsLastByte (is_byte 0x20) bytes (Some k) = rw (c.in-Some.is, c.as_bytes.ensures.value) at c.memrchr.ensures in
    let front : slice_range t a (a + k) ≡ take k bytes
    = slice_range-take t a k ∙ sym (take-take k c.args.len (drop a t) (omega (arith, size, last.0.high))) ∙ ap (take k) (sym (slice_range-take t a c.args.len)) in
    let before : end_after (take k bytes) c.args.here.position c.args.end.position ≡ c.end_after-before.result.position = sym (c.end_after-before.ensures.position ∙ ap (λ x. end_after x c.args.here.position c.args.end.position) front) in
    let word : c.args.here.position + (k + 1) ≡ c.past_printable.result.position = omega (arith, c.past_printable.ensures.position) in
    let all : c.args.here.position + length bytes ≡ c.args.after.position = omega (arith, size, c.requires.after.position) in
    sym (words-last_word bytes k last c.args.here.position c.args.end_before.position c.args.word.position c.args.end.position (λ e. absurd (omega (arith, size, c.if-blank-len.false, e)))
    ∙ ap (λ e. (e, c.args.here.position + (k + 1), c.args.here.position + length bytes)) before ∙ ap (λ n. (c.end_after-before.result.position, n, c.args.here.position + length bytes)) word
    ∙ ap (λ n. (c.end_after-before.result.position, c.past_printable.result.position, n)) all)

pub past_printable-requires-clause-walk : goal.past_printable-requires-clause-walk
past_printable-requires-clause-walk c = c.requires.here

-- the walks are tight

pub returns-then-len-eq0-clause-walks : goal.returns-then-len-eq0-clause-walks
returns-then-len-eq0-clause-walks c view here words = words

pub returns-then-bytes-eq32-clause-walks : goal.returns-then-bytes-eq32-clause-walks
returns-then-bytes-eq32-clause-walks c view here words = (words.2, tight-after c.utf8.text here c.requires.after, words.2)

pub returns-in_default-clause-walks : goal.returns-in_default-clause-walks
returns-in_default-clause-walks c view here words = (words.0, words.1, tight-after c.utf8.text here c.requires.after)

pub returns-then-blank-len-clause-walks : goal.returns-then-blank-len-clause-walks
returns-then-blank-len-clause-walks c view here words =
    let before = c.end_after-before.ensures.walk view here words.2 in
    (before, tight-after c.utf8.text here c.requires.after, before)

pub returns-clause-walks : goal.returns-clause-walks
returns-clause-walks c view here words =
    let past = c.past_printable.ensures in
    (c.end_after-before.ensures.walk view here words.2, tight-past (c.in-Some.blank + 1) c.utf8.text here (past.walk view here.walk) past.position (past.seen view), tight-after c.utf8.text here c.requires.after)
