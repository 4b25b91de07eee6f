use Rattle.std.proofs.Common.{◌*◌, ◌≤◌, length, encode_utf8, unwrap_or, sym, ◌∙◌, ap, subst}
use Rattle.ansi_clusters.proofs.WidthLemmas.{width-alone, width-alone-bound}
use Rattle.ansi_clusters.proofs.walks.char_width.Goals as goal

pub returns-in-Some-clause-bound : goal.returns-in-Some-clause-bound
returns-in-Some-clause-bound c =
    subst (λ n. n ≤ 2 * length (encode_utf8 c.args.c)) (sym c.in-Some.ensures.columns_are) (width-alone-bound c.args.c)

pub returns-in-None-clause-value : goal.returns-in-None-clause-value
returns-in-None-clause-value c = c.unwrap_or.ensures ∙ ap (λ o. unwrap_or o 1) c.width.ensures.value ∙ width-alone c.args.c

pub returns-in-None-clause-bound : goal.returns-in-None-clause-bound
returns-in-None-clause-bound c =
    subst (λ n. n ≤ 2 * length (encode_utf8 c.args.c)) (sym (c.unwrap_or.ensures ∙ ap (λ o. unwrap_or o 1) c.width.ensures.value ∙ width-alone c.args.c)) (width-alone-bound c.args.c)
