use Rattle.std.proofs.Common.{◌≡◌, false, ◌^◌, ◌<◌, ◌++◌, length, reverse, sym, ◌∙◌, ap, arith, append-nil, rules}
use Rattle.std.specs.Str.{chars}
use Rattle.unicode_width.specs.Width.{str_width}
use Rattle.ansi_items.specs.Plain.{plain}
use Rattle.ansi_items.proofs.PlainLemmas.{length-plain}
use Rattle.ansi_items.proofs.Utf8Lemmas.{IsUtf8-plain}
use Rattle.ansi_clusters.specs.declared.from_end.SeenChars.{SeenChars}
use Rattle.ansi_clusters.specs.Views.{seen}
use Rattle.ansi_clusters.proofs.FromEndLemmas.{drained, bytes-reverse, seen-width-bound}
use Rattle.ansi_clusters.proofs.from_end.width.Goals as goal

pub returns-clause-value : goal.returns-clause-value
returns-clause-value c =
    let t = c.args.text.now in
    let view = c.args.view in
    let read = c.char_iter_width.ensures in
    let same : seen view (chars (plain t)) ≡ reverse read.0
    = sym (ap (λ x. seen view (chars x)) (append-nil (plain t))) ∙ drained (λ (s : SeenChars). seen s.view (chars (plain s.rest.now ++ s.run.now))) _ read.0 read.1 in
    let size : length t < 2 ^ 63 = search rules in
    read.2 (omega (arith, size, length-plain t, bytes-reverse view (plain t) read.0 (IsUtf8-plain t c.utf8.text) same)) ∙ ap (str_width false) (sym same)

pub returns-clause-bound : goal.returns-clause-bound
returns-clause-bound c = (let t = c.args.text.now in omega (arith, returns-clause-value c, seen-width-bound c.args.view (plain t) (IsUtf8-plain t c.utf8.text)))
