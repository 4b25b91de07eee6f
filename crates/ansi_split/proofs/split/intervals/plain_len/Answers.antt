use Rattle.ansi_split.proofs.Common.{◌≡◌, ◌+◌, ◌∷◌, ◌∙◌, ℕ, List, length, ap, arith, length-append, length-plain, Piece, Text, plain_of, kind_is_text, gives_text}
use Rattle.ansi_split.proofs.split.intervals.plain_len.Goals as goal

-- a run that is counted is no longer left
plain_len-next_run : {w : List ℕ} {left ps : List Piece} (len all : ℕ) → left ≡ Text w ∷ ps → len + length (plain_of left) ≡ all → len + length w + length (plain_of ps) ≡ all
plain_len-next_run {w = w} {ps = ps} len all is so_far = omega (arith, ap (λ qs. length (plain_of qs)) is, length-append w (plain_of ps), so_far)

pub overflow_add-len : goal.overflow_add-len
overflow_add-len c =
    let invariant = c.loop-item.invariant in
    let left = gives_text c.in-Some.ensures.steps invariant.text c.range-run.ensures.value (kind_is_text c.if-eq.ensures) in
    omega (arith, plain_len-next_run c.loop-item.len _ left invariant.so_far, length-plain c.args.text.now)

pub loop-item-preserved-then-eq : goal.loop-item-preserved-then-eq
loop-item-preserved-then-eq c =
    let invariant = c.loop-item.invariant in
    let steps = c.in-Some.ensures.steps in
    record { text = steps.text ∙ invariant.text; so_far = plain_len-next_run c.loop-item.len _ (gives_text steps invariant.text c.range-run.ensures.value (kind_is_text c.if-eq.ensures)) invariant.so_far }
