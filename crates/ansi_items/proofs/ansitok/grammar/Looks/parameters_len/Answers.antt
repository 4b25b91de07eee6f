use Rattle.std.proofs.Common.{◌≡◌, ℕ, ◌+◌, ◌<◌, ◌≤◌, Bool, List, take, drop, length, sym, ap, ◌∙◌, cond, arith}
use Rattle.std.proofs.lemmas.Bool.{ne_eqb}
use Rattle.std.proofs.lemmas.List.{length-take-le, take-append-drop}
use Rattle.std.proofs.lemmas.List.Folds.{prefix_len-append}
use Rattle.std.specs.List.{prefix_len}
use Rattle.ansi_items.specs.Bytes.{is_parameter_byte}
use Rattle.ansi_items.proofs.ansitok.grammar.Looks.parameters_len.Goals as goal

-- a run that ends in the front of a list
ends_in_front : (p : ℕ → Bool) (n : ℕ) (xs : List ℕ) → n ≤ length xs → prefix_len p (take n xs) < n → prefix_len p (take n xs) ≡ prefix_len p xs
ends_in_front p n xs room short =
    let front = take n xs in
    sym (ap (prefix_len p) (sym (take-append-drop n xs)) ∙ prefix_len-append p front (drop n xs)
    ∙ ap (λ b. cond b (length front + prefix_len p (drop n xs)) (prefix_len p front)) (ne_eqb _ _ (λ (e : prefix_len p front ≡ length front). omega (arith, e, length-take-le n xs room))))

pub returns-then-first-lt16-clause-len : goal.returns-then-first-lt16-clause-len
returns-then-first-lt16-clause-len c =
    let first = c.parameters_len_of_16-first.ensures.len in
    first ∙ ends_in_front is_parameter_byte 16 c.args.bytes.now (omega arith) (omega (arith, first))
