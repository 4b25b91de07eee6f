use Rattle.std.proofs.Common.{◌≡◌, ℕ, ◌+◌, ◌<◌, List, [], ◌∷◌, ◌++◌, length, map, flat_map, slice_set, drop, inl, inr, append-nil, refl, sym, ◌∙◌, ap, ap₂, subst, arith}
use Rattle.std.proofs.lemmas.Bool.Decides.{nat_tests}
use Rattle.ansi_cells.specs.Wrapped.{CarriedPart}
use Rattle.ansi_text_calls.specs.Answers.{IsWritten}
use Rattle.ansi_text_calls.specs.Lists.{ends_from, AreWritten}
use Rattle.ansi_text_calls.specs.declared.answers.Answer.{Answer}
use Rattle.ansi_calls.proofs.lines.write_only.Goals as goal

set-first : (es : List ℕ) (n : ℕ) → 0 < length es → slice_set es 0 n ≡ n ∷ drop 1 es
set-first [] n some = absurd (omega (arith, some))
set-first (e ∷ es) n some = refl

-- one text is written, and where it ends
one-written : (u : List ℕ) {old new ends : List ℕ} {answer : Answer} → answer.status ≡ 0 → 0 < length ends → IsWritten u answer old new
    → AreWritten (flat_map (λ t. t) (u ∷ [])) (ends_from 0 (u ∷ [])) (record { status = 0; count = 1; len = answer.len }) old new ends (slice_set ends 0 answer.len)
one-written u {old} {new} {ends} {answer} is_ok some (inl w) =
    let end = 0 + length u in
    let all : u ++ [] ≡ u = append-nil u in
    let len : answer.len ≡ length u = ap (λ (a : Answer). a.len) w.1 in
    let end_is : answer.len ≡ end = omega (arith, len) in
    let size : answer.len ≡ length (u ++ []) = len ∙ ap length (sym all) in
    inl (
      omega (arith, w.0, ap length all),
      omega (arith, some),
      ap (λ n. record { status = 0; count = 1; len = n }) size,
      w.2 ∙ ap₂ (λ v n. v ++ drop n old) (sym all) (ap length (sym all)),
      set-first ends answer.len some ∙ ap (λ n. n ∷ drop 1 ends) end_is,
    )
one-written u {answer = answer} is_ok some (inr w) = absurd (omega (arith, ap (λ (a : Answer). a.status) w.1, is_ok))

pub returns-clause-some : goal.returns-clause-some
returns-clause-some g c =
    let text = c.in_ok-text.text.now in
    let lines : map (λ (l : CarriedPart). l.bytes) c.args.lines.now ≡ (text ++ c.as_str.result.now) ∷ []
    = c.in_ok-text.ensures ∙ ap (λ v. (text ++ v) ∷ []) (sym (c.as_str.ensures.value ∙ c.in_ok-close.ensures)) in
    let some : 0 < length c.args.ends.now = grind (arith, nat_tests, c.is_empty.ensures, c.if-is_empty.false) in
    subst (λ (ts : List (List ℕ)). AreWritten (flat_map (λ t. t) ts) (ends_from 0 ts) (record { status = 0; count = 1; len = c.write_between-answer.result.len }) c.args.buffer.now c.write_between-answer.new.buffer c.args.ends.now (slice_set c.args.ends.now 0 c.write_between-answer.result.len))
    (sym lines) (one-written (text ++ c.as_str.result.now) (omega (arith, c.if-answer-ne-OK.false)) some c.write_between-answer.ensures)
