use Rattle.std.proofs.Common.{◌≡◌, ◌++◌, [], length, string_bytes, sym, ◌∙◌, ap, subst, arith}
use Rattle.std.proofs.lemmas.Bool.{eqb-true}
use Rattle.std.proofs.lemmas.List.{nil_from_length}
use Rattle.ansi_safe.specs.Links.{ending, IsClosed}
use Rattle.ansi_safe.specs.Safe.{is_safe}
use Rattle.ansi_safe.specs.Sanitized.{sanitized}
use Rattle.ansi_safe.proofs.LengthLemmas.{length-sanitized}
use Rattle.ansi_safe.proofs.MadeLemmas.{sanitized-safe, sanitized-closed}
use Rattle.ansi_safe.proofs.SafeLemmas.{sanitized-is_safe, sanitized-is_closed}
use Rattle.ansi_safe.proofs.safe.sanitize.Goals as goal

-- the text isn't safe

pub returns-in_default-clause-len : goal.returns-in_default-clause-len
returns-in_default-clause-len g c = omega (arith, ap length c.in_ok-write_sanitized.ensures, length-sanitized c.args.policy c.args.text.now c.utf8.text)

pub returns-in_default-clause-safe : goal.returns-in_default-clause-safe
returns-in_default-clause-safe g c = ap (is_safe c.args.policy.links) c.in_ok-write_sanitized.ensures ∙ sanitized-is_safe c.args.policy c.args.text.now c.utf8.text

pub returns-in_default-clause-closed : goal.returns-in_default-clause-closed
returns-in_default-clause-closed g c = subst IsClosed (sym c.in_ok-write_sanitized.ensures) (sanitized-is_closed c.args.policy c.args.text.now c.utf8.text)

-- it is, and leaves nothing open

pub returns-then-is_empty-clause-bytes : goal.returns-then-is_empty-clause-bytes
returns-then-is_empty-clause-bytes g c =
    let t = c.args.text.now in
    let closed : ending t ≡ [] = sym c.in-Some.ensures.bytes ∙ nil_from_length _ (eqb-true _ 0 (sym c.is_empty.ensures ∙ c.if-is_empty.true)) in
    sym (sanitized-closed c.args.policy t (sym c.in-Some.ensures.none) closed)

pub returns-then-is_empty-clause-borrowed : goal.returns-then-is_empty-clause-borrowed
returns-then-is_empty-clause-borrowed g c =
    let t = c.args.text.now in
    let closed : ending t ≡ [] = sym c.in-Some.ensures.bytes ∙ nil_from_length _ (eqb-true _ 0 (sym c.is_empty.ensures ∙ c.if-is_empty.true)) in
    (λ _. (sym c.in-Some.ensures.none, closed), λ _. tt)

pub returns-then-is_empty-clause-len : goal.returns-then-is_empty-clause-len
returns-then-is_empty-clause-len g c =
    let t = c.args.text.now in
    let closed : ending t ≡ [] = sym c.in-Some.ensures.bytes ∙ nil_from_length _ (eqb-true _ 0 (sym c.is_empty.ensures ∙ c.if-is_empty.true)) in
    omega (arith, ap length (sanitized-closed c.args.policy t (sym c.in-Some.ensures.none) closed), length-sanitized c.args.policy t c.utf8.text)

pub returns-then-is_empty-clause-safe : goal.returns-then-is_empty-clause-safe
returns-then-is_empty-clause-safe g c = sym c.in-Some.ensures.none

pub returns-then-is_empty-clause-closed : goal.returns-then-is_empty-clause-closed
returns-then-is_empty-clause-closed g c =
    let t = c.args.text.now in
    let closed : ending t ≡ [] = sym c.in-Some.ensures.bytes ∙ nil_from_length _ (eqb-true _ 0 (sym c.is_empty.ensures ∙ c.if-is_empty.true)) in
    subst IsClosed (sanitized-closed c.args.policy t (sym c.in-Some.ensures.none) closed) (sanitized-is_closed c.args.policy t c.utf8.text)

-- it leaves something open

pub returns-clause-bytes : goal.returns-clause-bytes
returns-clause-bytes g c =
    let t = c.args.text.now in
    c.in_ok-write_ended.ensures ∙ ap (λ e. t ++ e) c.in-Some.ensures.bytes ∙ sym (sanitized-safe c.args.policy t (sym c.in-Some.ensures.none))

pub returns-clause-len : goal.returns-clause-len
returns-clause-len g c =
    let t = c.args.text.now in
    let written : string_bytes c.in_ok-write_ended.field-0 ≡ sanitized c.args.policy t = c.in_ok-write_ended.ensures ∙ ap (λ e. t ++ e) c.in-Some.ensures.bytes ∙ sym (sanitized-safe c.args.policy t (sym c.in-Some.ensures.none)) in
    omega (arith, ap length written, length-sanitized c.args.policy t c.utf8.text)

pub returns-clause-safe : goal.returns-clause-safe
returns-clause-safe g c =
    let t = c.args.text.now in
    let written : string_bytes c.in_ok-write_ended.field-0 ≡ sanitized c.args.policy t = c.in_ok-write_ended.ensures ∙ ap (λ e. t ++ e) c.in-Some.ensures.bytes ∙ sym (sanitized-safe c.args.policy t (sym c.in-Some.ensures.none)) in
    ap (is_safe c.args.policy.links) written ∙ sanitized-is_safe c.args.policy t c.utf8.text

pub returns-clause-closed : goal.returns-clause-closed
returns-clause-closed g c =
    let t = c.args.text.now in
    let written : string_bytes c.in_ok-write_ended.field-0 ≡ sanitized c.args.policy t = c.in_ok-write_ended.ensures ∙ ap (λ e. t ++ e) c.in-Some.ensures.bytes ∙ sym (sanitized-safe c.args.policy t (sym c.in-Some.ensures.none)) in
    subst IsClosed (sym written) (sanitized-is_closed c.args.policy t c.utf8.text)
