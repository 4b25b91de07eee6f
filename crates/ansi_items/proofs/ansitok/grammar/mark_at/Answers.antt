use Rattle.ansi_items.proofs.Common.{◌≡◌, ◌<◌, List, ℕ, Front, drop, subst, refl, ap, arith, length, slice_index, escape, IsUtf8, IsCharBoundary, IsCharBoundary-before_ascii, front_at}
use Rattle.ansi_items.proofs.ScanLemmas.{IsStep, front_step, step_gives}
use Rattle.ansi_items.proofs.ansitok.grammar.mark_at.Goals as goal

boundary : (text : List ℕ) (start : ℕ) → start < length text → slice_index text start ≡ escape → IsCharBoundary text start
boundary text start inside is = IsCharBoundary-before_ascii text start inside (omega (arith, is))

step : (text bytes : List ℕ) (start : ℕ) (f : Front) → bytes ≡ text → IsUtf8 bytes → start < length text → slice_index text start ≡ escape → f ≡ front_at (drop start bytes) → IsStep text start f
step text bytes start f same utf8 inside escape is =
    front_step text start f (subst IsUtf8 same utf8) (boundary text start inside escape) inside (subst (λ v. f ≡ front_at (drop start v)) same is)

pub overflow_add-result : goal.overflow_add-result
overflow_add-result c =
    let bytes = c.as_bytes.ensures in
    let step = step c.args.text.now c.as_bytes.result.now c.args.start c.front_of_mark-front.result bytes.value bytes.utf8 c.requires.inside c.requires.escape c.front_of_mark-front.ensures in
    omega (arith, step.room, c.as_bytes.type_inv, ap length bytes.value)

pub returns : goal.returns
returns c =
    let bytes = c.as_bytes.ensures in
    let step = step c.args.text.now c.as_bytes.result.now c.args.start c.front_of_mark-front.result bytes.value bytes.utf8 c.requires.inside c.requires.escape c.front_of_mark-front.ensures in
    step_gives c.args.text.now c.args.start _ c.front_of_mark-front.result (boundary c.args.text.now c.args.start c.requires.inside c.requires.escape) step refl
