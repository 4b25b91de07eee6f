use Rattle.std.proofs.Common.{◌≡◌, ◌-◌, ◌∙◌, refl, ap, subst, take, drop, arith, false}
use Rattle.std.specs.List.{slice_range}
use Rattle.ansi_items.specs.Plain.{has_escape}
use Rattle.ansi_items.specs.Scans.{pieces_left}
use Rattle.ansi_items.proofs.StepLemmas.{kind_is_text, gives_text}
use Rattle.ansi_split.proofs.RestLemmas.{no_escape-text}
use Rattle.ansi_restyle.proofs.rest.first_run_len.Goals as goal

-- the first item is the run
pub returns-in-Some-clause-plain : goal.returns-in-Some-clause-plain
returns-in-Some-clause-plain c =
    let t = c.args.text.now in
    let gives = c.in-Some.ensures.steps in
    let item = c.in-Some.item in
    let begins : c.new.result ≡ record { text = t; offset = 0 } = c.new.ensures.start in
    let same : c.new.result.text ≡ t = ap (λ s. s.text) begins in
    let first = gives_text {w = slice_range t item.start item.end} gives same refl (kind_is_text c.if-eq.ensures) in
    let bare : has_escape (slice_range t item.start item.end) ≡ false = no_escape-text (drop c.new.result.offset c.new.result.text) (slice_range t item.start item.end) (pieces_left c.next.new.self) first in
    let front : item.start ≡ 0 = gives.start ∙ ap (λ s. s.offset) begins in
    let len : item.end - 0 ≡ item.end = omega arith in
    let run : slice_range t item.start item.end ≡ take item.end t = ap (λ n. slice_range t n item.end) front ∙ ap (λ n. take n t) len in
    subst (λ u. has_escape u ≡ false) run bare
