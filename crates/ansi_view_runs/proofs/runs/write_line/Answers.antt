use Rattle.std.proofs.Common.{◌≡◌, [], sym, arith, string_bytes, Ok, Err}
use Rattle.std.specs.Prelude.{Result, OnOk}
use Rattle.std.proofs.lemmas.Bool.Decides.{nat_tests}
use Rattle.std.proofs.lemmas.List.{nil_from_length}
use Rattle.ansi_view_runs.proofs.runs.write_line.Goals as goal

-- what is so anyway
OnOk-is : {U E : Type 0} {P : Type 0} (r : Result U E) → P → OnOk r P
OnOk-is (Ok u) is = is
OnOk-is (Err e) is = tt

-- a plain line, with nothing open before it

pub returns-in-Some-of-clause-written : goal.returns-in-Some-of-clause-written
returns-in-Some-of-clause-written g c =
    let b = string_bytes c.args.opening.now in
    let none : b ≡ [] = nil_from_length b (grind (arith, nat_tests, c.is_empty.ensures, c.if-not-is_empty.false)) in
    rw none c.write_plain.ensures

pub returns-in-Some-of-clause-opening : goal.returns-in-Some-of-clause-opening
returns-in-Some-of-clause-opening g c =
    let b = string_bytes c.args.opening.now in
    let none : b ≡ [] = nil_from_length b (grind (arith, nat_tests, c.is_empty.ensures, c.if-not-is_empty.false)) in
    rw none (OnOk-is c.write_plain.result (sym c.in-Some-of.ensures.opening))
