use Rattle.std.proofs.Common.{◌≡◌, false, ◌^◌, ◌<◌, ◌++◌, length, reverse, sym, ◌∙◌, ap, arith, rules}
use Rattle.std.specs.Str.{chars}
use Rattle.unicode_width.specs.Width.{str_width}
use Rattle.ansi_items.specs.Plain.{plain}
use Rattle.ansi_clusters.specs.declared.from_end.SeenChars.{SeenChars}
use Rattle.ansi_clusters.specs.Views.{seen}
use Rattle.ansi_clusters.proofs.FromEndLemmas.{drained, bytes-reverse, seen-width-bound}
use Rattle.ansi_clusters.proofs.from_end.run_width.Goals as goal

pub returns-clause-value : goal.returns-clause-value
returns-clause-value c =
    let t = c.args.run.now in
    let view = c.args.view in
    let read = c.char_iter_width.ensures in
    let same : seen view (chars t) ≡ reverse read.0 = drained (λ (s : SeenChars). seen s.view (chars (plain s.rest.now ++ s.run.now))) _ read.0 read.1 in
    let size : length t < 2 ^ 63 = search rules in
    read.2 (omega (arith, size, bytes-reverse view t read.0 c.utf8.run same)) ∙ ap (str_width false) (sym same)

pub returns-clause-bound : goal.returns-clause-bound
returns-clause-bound c = omega (arith, returns-clause-value c, seen-width-bound c.args.view c.args.run.now c.utf8.run)
