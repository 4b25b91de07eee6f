use Rattle.std.proofs.Common.{◌≡◌, refl, take, drop, subst, take-append-drop}
use Rattle.std.specs.Prelude.{IfSome, MatchOption, IsTrue, ◌↔◌}
use Rattle.std.proofs.lemmas.Str.{IsUtf8-take, IsUtf8-drop}
use Rattle.ansi_style.specs.States.{rendition_of}
use Rattle.ansi_safe.specs.Cells.{paragraph}
use Rattle.ansi_safe.proofs.CellTextLemmas.{paragraph-stays, paragraph-after_cell, paragraph-rest}
use Rattle.ansi_cells.specs.PlainCells.{IsFront, IsWholeFront, IsAtRun}
use Rattle.ansi_cells.proofs.PlainFrontLemmas.{front-run, front-text, rest-pieces}
use Rattle.ansi_wraps.proofs.wrap.spans.stays.Goals as goal

-- the front stays, and what follows decides
pub returns-in-Some-run : goal.returns-in-Some-run
returns-in-Some-run c =
    let t = c.args.text.now in
    let width = c.args.width in
    let front = c.in-Some.front in
    let run = c.in-Some-run.run' in
    let n = run.offset in
    let is : IsFront t width front = subst (λ o. IfSome o (IsFront t width)) c.in-Some.is c.requires in
    let at = front-run t width front is c.in-Some-run.is in
    let boundary = at.is_walk.run.start_boundary in
    let first = (front-text t width front is c.in-Some-run.is).stays in
    let front_utf8 = IsUtf8-take t n c.utf8.text boundary in
    let rest_utf8 = IsUtf8-drop t n c.utf8.text boundary in
    let decides = subst (λ u. IsTrue c.is_paragraph-in-Some-run.result ↔ (paragraph u ≡ u)) c.range_from.ensures.value c.is_paragraph-in-Some-run.ensures in (
      λ yes. subst (λ u. paragraph u ≡ u) (take-append-drop n t) (paragraph-after_cell (take n t) (drop n t) front_utf8 rest_utf8 first (decides.0 yes)),
      λ same. decides.1 (paragraph-rest t (drop n t) c.utf8.text rest_utf8 (rest-pieces t n at.rest) same),
    )

-- the front is the text
pub returns-in-None : goal.returns-in-None
returns-in-None c =
    let t = c.args.text.now in
    let width = c.args.width in
    let front = c.in-Some.front in
    let is : IsFront t width front = subst (λ o. IfSome o (IsFront t width)) c.in-Some.is c.requires in
    let whole : IsWholeFront t width front = subst (λ o. MatchOption o (IsWholeFront t width front) (IsAtRun t width front.left (rendition_of front.style))) c.in-None.is is in
    (λ _. paragraph-stays t c.utf8.text whole.is_cell.text.stays, λ _. refl)
