use Rattle.ansi_style.proofs.Common.{◌≡◌, ◌+◌, suc, true, [], sym, ◌∙◌, ap, ap₂, fold, take, drop, Some, arith, take_rest, take_all, fields_of, code_of, first_field, with_digit}
use Rattle.ansi_style.proofs.FieldLemmas.{fields_of-cut, fields_of-uncut, if_small, code_of-read}
use Rattle.ansi_style.proofs.state.fields.any_field.Goals as goal

pub returns-then-byte-eq59 : goal.returns-then-byte-eq59
returns-then-byte-eq59 c =
    let t = c.args.parameters.now in
    let fields = fields_of-cut t c.loop-i.i c.loop-i-test.true c.if-byte-eq59.true c.loop-i.invariant.none in
    let next : c.loop-i.i + 1 ≡ suc c.loop-i.i = omega arith in
    let code = c.field.ensures ∙ ap (if_small true) c.loop-i.invariant.number ∙ code_of-read (take c.loop-i.i t) in
    ap₂ (λ code rest. (Some code, fields_of rest)) code (take_rest t (c.loop-i.i + 1) ∙ ap (λ n. drop n t) next)
    ∙ sym (ap (first_field code_of) fields)

pub returns : goal.returns
returns c =
    let t = c.args.parameters.now in
    let fields = fields_of-uncut t (λ k below. c.loop-i.invariant.none k (omega (arith, below))) in
    let all : take c.loop-i.i t ≡ t = take_all c.loop-i.i t (omega arith) in
    let code = c.field-2.ensures ∙ ap (if_small true) (c.loop-i.invariant.number ∙ ap (fold with_digit 0) all) ∙ code_of-read t in
    ap (λ code. (Some code, [])) code ∙ sym (ap (first_field code_of) fields)
