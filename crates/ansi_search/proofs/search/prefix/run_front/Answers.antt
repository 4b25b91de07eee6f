use Rattle.ansi_search.proofs.Common.{rules, ◌≡◌, ◌<◌, ◌++◌, length, take, sym, ◌∙◌, ap, arith, IsFalse, length-take-le, plain, has_escape}
use Rattle.ansi_search.proofs.MatchLemmas.{no_escape-found}
use Rattle.ansi_items.proofs.JoinLemmas.{plain-front}
use Rattle.ansi_search.proofs.PrefixLemmas.{front-bare, front-short, bare_before}
use Rattle.ansi_search.proofs.search.prefix.run_front.Goals as goal

pub returns-in-Some : goal.returns-in-Some
returns-in-Some c =
    let t = c.args.text.now in
    let bytes = c.as_bytes-bytes.result.now in
    let len = c.in-Some.len in
    let size = length-take-le c.min.result bytes (omega (arith, c.min.ensures)) in
    let high : len < length (take c.min.result bytes) = c.in-Some.ensures.0.high in
    let none : IsFalse (has_escape (take len bytes)) = bare_before bytes c.min.result len (omega (arith, high, size)) (omega (arith, high, size, c.min.ensures)) c.in-Some.ensures.0.before in
    let all : plain t ≡ take len bytes ++ plain c.after_mark-in-Some.result.now
    = plain-front t (take len bytes) len (ap (take len) c.as_bytes-bytes.ensures.value) (ap (λ v. has_escape (take len v)) (sym c.as_bytes-bytes.ensures.value) ∙ none)
    ∙ ap (λ u. take len bytes ++ u) (sym (c.after_mark-in-Some.ensures.plain ∙ ap plain c.range_from.ensures.value)) in
    record {
      front = ap (take c.args.most) all;
      most = search rules;
      bytes = search rules;
      all = λ _. all;
      within = search rules;
      shorter = search rules;
    }

-- none is
pub returns-in-None-clause-front : goal.returns-in-None-clause-front
returns-in-None-clause-front c =
    let w = take c.min.result c.as_bytes-bytes.result.now in
    front-bare c.args.text.now w c.min.result c.args.most (ap (take c.min.result) c.as_bytes-bytes.ensures.value)
    (omega (arith, c.min.ensures, ap length c.as_bytes-bytes.ensures.value)) (no_escape-found w c.in-None.ensures)

pub returns-in-None-clause-all : goal.returns-in-None-clause-all
returns-in-None-clause-all c short =
    let w = take c.min.result c.as_bytes-bytes.result.now in
    front-short c.args.text.now w c.min.result c.args.most (ap (take c.min.result) c.as_bytes-bytes.ensures.value)
    (omega (arith, c.min.ensures, ap length c.as_bytes-bytes.ensures.value)) (no_escape-found w c.in-None.ensures) short
