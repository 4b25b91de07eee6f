use Rattle.std.proofs.Common.{◌≡◌, ◌+◌, length, take, slice_range, sym, ◌∙◌, ap, subst, arith}
use Rattle.ansi_clusters.specs.Words.{end_after}
use Rattle.ansi_clusters.proofs.PrintableLemmas.{printable-bytes, IsPrintable-up_to}
use Rattle.ansi_clusters.proofs.LineReadLemmas.{tight-past}
use Rattle.ansi_clusters.proofs.WordLemmas.{front-blank, front-solid}
use Rattle.ansi_clusters.proofs.lines.end_after.Goals.{then-blanks-test+else-bytes-count-eq32, else-blanks-test}
use Rattle.ansi_clusters.proofs.lines.end_after.Goals as goal

pub blanks-preserved : goal.blanks-preserved
blanks-preserved c =
    let t = c.args.text.now in
    let a = c.args.here.offset in
    let x = c.as_bytes.result.now in
    let size : length (slice_range x a (a + c.args.len)) ≡ c.args.len
    = subst (λ x. length (slice_range x a (a + c.args.len)) ≡ c.args.len) (sym c.as_bytes.ensures.value) (printable-bytes c.requires.here.1 c.requires.ahead).1 in
    let inv = c.blanks.invariant in
    record {
      within = omega (arith, inv.within);
      same = inv.same ∙ front-blank (slice_range x a (a + c.args.len)) c.blanks.count c.args.here.position c.args.end.position (omega (arith, c.blanks-test.true)) (omega (arith, size, inv.within)) c.if-bytes-count-eq32.true;
    }

pub past_printable-requires-clause-ahead : goal.past_printable-requires-clause-ahead
past_printable-requires-clause-ahead c = IsPrintable-up_to c.args.len c.blanks.count c.requires.here.1 c.requires.ahead c.blanks.invariant.within

pub returns-else-count-eq0-clause-position : goal.returns-else-count-eq0-clause-position
returns-else-count-eq0-clause-position c =
    let t = c.args.text.now in
    let a = c.args.here.offset in
    let x = c.as_bytes.result.now in
    let size : length (slice_range x a (a + c.args.len)) ≡ c.args.len
    = subst (λ x. length (slice_range x a (a + c.args.len)) ≡ c.args.len) (sym c.as_bytes.ensures.value) (printable-bytes c.requires.here.1 c.requires.ahead).1 in
    let inv = c.blanks.invariant in
    let bytes = slice_range x a (a + c.args.len) in
    let last : end_after (take c.blanks.count bytes) c.args.here.position c.args.end.position ≡ c.args.here.position + c.blanks.count = elim c.blanks-test.branch [
      | then-blanks-test+else-bytes-count-eq32 w ↦ front-solid bytes c.blanks.count c.args.here.position c.args.end.position (omega (arith, w.blanks-test.true)) (omega (arith, size, inv.within)) w.if-bytes-count-eq32.false
      | else-blanks-test w ↦ absurd (omega (arith, w.blanks-test.false, c.if-count-eq0.false))
    ] in
    c.past_printable.ensures.position ∙ sym last ∙ sym inv.same ∙ ap (λ x. end_after (slice_range x a (a + c.args.len)) c.args.here.position c.args.end.position) c.as_bytes.ensures.value

pub past_printable-requires-clause-walk : goal.past_printable-requires-clause-walk
past_printable-requires-clause-walk c = c.requires.here

pub returns-then-count-eq0-clause-walk : goal.returns-then-count-eq0-clause-walk
returns-then-count-eq0-clause-walk c view here end = end

pub returns-else-count-eq0-clause-walk : goal.returns-else-count-eq0-clause-walk
returns-else-count-eq0-clause-walk c view here end = (let past = c.past_printable.ensures in tight-past c.blanks.count c.utf8.text here (past.walk view here.walk) past.position (past.seen view))
