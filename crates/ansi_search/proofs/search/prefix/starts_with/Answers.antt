use Rattle.ansi_search.proofs.Common.{◌∙◌, ap, ap₂, sym, arith, take, nat_eq, starts_with, plain, has_escape, IsFalse, length}
use Rattle.ansi_search.proofs.PrefixLemmas.{starts_with-bare}
use Rattle.ansi_search.proofs.search.prefix.starts_with.Goals as goal

-- the pattern is at the front
pub returns-then-contains : goal.returns-then-contains
returns-then-contains c = c.continues_with.ensures ∙ ap (starts_with nat_eq (plain c.args.text.now)) c.as_bytes.ensures.value

-- the bytes there are plain
pub returns : goal.returns
returns c =
    let t = c.args.text.now in
    let same = c.as_bytes-bytes.ensures.value in
    let size = c.min.ensures in
    let v = c.starts_with.ensures.value in
    let none : IsFalse (has_escape (take c.min.result t)) = ap (λ x. has_escape (take c.min.result x)) (sym same) ∙ sym c.contains.ensures.value ∙ c.if-contains.false in
    v ∙ ap₂ (starts_with nat_eq) same c.as_bytes-2.ensures.value
    ∙ starts_with-bare t c.args.pat.now c.min.result (omega (arith, size, ap length same)) none
