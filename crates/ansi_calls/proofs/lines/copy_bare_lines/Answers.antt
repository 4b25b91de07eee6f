use Rattle.std.proofs.Common.{rules, ◌∙◌, ◌+◌, List, length, map, ap, subst, arith}
use Rattle.std.proofs.lemmas.List.{length-map}
use Rattle.std.specs.declared.alloc.AllocError.{AllocError}
use Rattle.ansi_safe.specs.Links.{longest_link_end}
use Rattle.ansi_style.specs.Written.{longest_start_and_close}
use Rattle.ansi_cells.specs.Wrapped.{CarriedPart}
use Rattle.ansi_text_calls.specs.Lists.{AreCopied}
use Rattle.ansi_text_calls.proofs.GivenLemmas.{joined_texts, given-fits, lent-drained}
use Rattle.ansi_calls.proofs.LineListLemmas.{bare-wrapped}
use Rattle.ansi_calls.proofs.lines.copy_bare_lines.Goals as goal

-- the lines are borrows, and have no more bytes than the text
pub copy_texts-requires : goal.copy_texts-requires
copy_texts-requires g c =
    let t = c.args.text.now in
    let short = bare-wrapped t c.args.width c.requires.paragraph c.requires.bare c.utf8.text (c.lines_lose_blanks_and_line_ends.ensures.left_out t c.args.width c.utf8.text) in
    let bytes = ap (λ (ls : List CarriedPart). length (joined_texts (map (λ (l : CarriedPart). l.bytes) ls))) c.wrap.ensures.lines in
    let count = length-map c.wrap.result (λ (l : CarriedPart). l.bytes) in
    let same = ap (λ (ls : List CarriedPart). length (map (λ (l : CarriedPart). l.bytes) ls)) c.wrap.ensures.lines in
    let fits = given-fits {A = g.row.A.Denot} {E = AllocError} (longest_start_and_close + longest_link_end) c.wrap.result
    (c.wrap.ensures.takes_no_memory c.requires.paragraph c.requires.bare) (omega (arith, bytes, short.0)) (omega (arith, count, same, short.1)) in
    search (rules, fits)

-- all of them are given
pub returns : goal.returns
returns g c =
    let given = c.copy_texts.ensures in
    let all = lent-drained (longest_start_and_close + longest_link_end) c.wrap.result given.0 (c.wrap.ensures.takes_no_memory c.requires.paragraph c.requires.bare) given.1 in
    subst (λ ts. AreCopied ts c.copy_texts.result c.args.buffer.now c.copy_texts.new.buffer c.args.ends.now c.copy_texts.new.ends) (all ∙ ap (map (λ (l : CarriedPart). l.bytes)) c.wrap.ensures.lines) given.2
