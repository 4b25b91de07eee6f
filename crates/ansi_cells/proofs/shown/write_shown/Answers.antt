use Rattle.std.proofs.Common.{◌≡◌, ◌-◌, ◌==◌, true, ◌++◌, length, ◌∙◌, ap, append_assoc}
use Rattle.std.specs.Cow.{cow_str_bytes}
use Rattle.ansi_style.specs.States.{rendition_of}
use Rattle.ansi_style.specs.Written.{close}
use Rattle.ansi_safe.proofs.EndingLemmas.{append-both_nil}
use Rattle.ansi_clusters.specs.Lines.{blanks}
use Rattle.ansi_cells.proofs.shown.write_shown.Goals.{else-missing-eq0-via-then-missing-eq0+then-is_empty+else-is_empty-2, else-missing-eq0-via-then-missing-eq0+else-is_empty, else-missing-eq0-via-else-missing-eq0}
use Rattle.ansi_cells.proofs.shown.write_shown.Goals as goal

-- something is written
pub returns-in_err-out-clause-takes_no_memory : goal.returns-in_err-out-clause-takes_no_memory
returns-in_err-out-clause-takes_no_memory g c =
    let closes = c.args.ending.now.link_end.now ++ close (rendition_of c.args.ending.now.style) in
    λ all.
    let both = append-both_nil closes c.args.tail.now all.0 in
    let no_close : (length closes == 0) ≡ true = ap (λ u. length u == 0) both.0 in
    let no_tail : (length c.args.tail.now == 0) ≡ true = ap (λ u. length u == 0) both.1 in
    absurd (elim c.else-missing-eq0.branch [
      | else-missing-eq0-via-then-missing-eq0+then-is_empty+else-is_empty-2 w ↦ cc (no_close, w.is_empty-then-is_empty.ensures, w.if-is_empty-2.false)
      | else-missing-eq0-via-then-missing-eq0+else-is_empty w ↦ cc (no_tail, w.is_empty.ensures, w.if-is_empty.false)
      | else-missing-eq0-via-else-missing-eq0 w ↦ w.if-missing-eq0.false all.1
    ])

pub returns-clause-bytes : goal.returns-clause-bytes
returns-clause-bytes g c =
    let x = cow_str_bytes c.args.text in
    let closes = c.args.ending.now.link_end.now ++ close (rendition_of c.args.ending.now.style) in
    let tail = c.args.tail.now in
    let before = c.before_text-before.result in
    let more = blanks (c.args.missing - before) in
    c.in_ok-push_blanks.ensures ∙ ap (λ u. u ++ more) (c.in_ok-push_str.ensures.bytes ∙ ap (λ u. u ++ tail) (c.in_ok-push_to.ensures.bytes ∙ ap (λ u. u ++ closes) c.in_ok-out.ensures))
    ∙ ap (λ u. (u ++ tail) ++ more) (append_assoc (blanks before) x closes) ∙ ap (λ u. u ++ more) (append_assoc (blanks before) (x ++ closes) tail)
    ∙ ap (λ n. (blanks n ++ ((x ++ closes) ++ tail)) ++ blanks (c.args.missing - n)) c.before_text-before.ensures.count
