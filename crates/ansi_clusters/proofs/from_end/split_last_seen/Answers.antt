use Rattle.std.proofs.Common.{◌∷◌, [], ◌++◌, sym, ◌∙◌, ap, arith, append-nil, rules}
use Rattle.std.specs.Str.{chars}
use Rattle.ansi_items.specs.Plain.{plain}
use Rattle.ansi_clusters.specs.Views.{seen}
use Rattle.ansi_clusters.proofs.ViewLemmas.{seen-nil, seen-one, seen-append}
use Rattle.ansi_clusters.proofs.from_end.split_last_seen.Goals as goal

pub left_out-preserved : goal.left_out-preserved
left_out-preserved c =
    let v = c.args.view in
    let front = chars (plain c.in-Some.before.now ++ c.in-Some.front.now) in
    let inv = c.left_out.invariant in
    let last = c.in-Some.last in
    record {
      same = sym (ap (seen v) c.in-Some.ensures.chars ∙ seen-append v front (last ∷ []) ∙ ap (λ u. seen v front ++ u) (seen-one v last ∙ (rw c.in_default-see.is at c.see.ensures)) ∙ append-nil (seen v front)) ∙ inv.same;
      within = omega (arith, inv.within, c.in-Some.ensures.shorter);
      rest_utf8 = search rules;
      run_utf8 = search rules;
    }

pub returns-in-Some-see-clause-chars : goal.returns-in-Some-see-clause-chars
returns-in-Some-see-clause-chars c =
    let v = c.args.view in
    let front = chars (plain c.in-Some.before.now ++ c.in-Some.front.now) in
    let last = c.in-Some.last in
    sym c.left_out.invariant.same ∙ ap (seen v) c.in-Some.ensures.chars ∙ seen-append v front (last ∷ []) ∙ ap (λ u. seen v front ++ u) (seen-one v last ∙ c.in-Some-see.ensures)

pub returns-clause-chars : goal.returns-clause-chars
returns-clause-chars c = (let v = c.args.view in sym c.left_out.invariant.same ∙ ap (seen v) (rw c.in_default.is at c.split_last_char.ensures.chars) ∙ seen-nil v)
