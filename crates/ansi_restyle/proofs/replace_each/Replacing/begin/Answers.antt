use Rattle.std.proofs.Common.{drop, ap, ◌∙◌, arith}
use Rattle.ansi_items.specs.Plain.{plain}
use Rattle.ansi_restyle.proofs.PlaceLemmas.{plain-after_place}
use Rattle.ansi_restyle.proofs.ReplacedEachLemmas.{good_front}
use Rattle.ansi_restyle.proofs.replace_each.Replacing.begin.Goals as goal

pub place_of-first-requires : goal.place_of-first-requires
place_of-first-requires g c = good_front c.args.text.now c.utf8.text

pub returns-clause-left : goal.returns-clause-left
returns-clause-left g c =
    let t = c.args.text.now in
    ap plain (c.new.ensures ∙ c.split_at.ensures.back ∙ ap (λ k. drop k t) c.place_of-first.ensures.offset) ∙ plain-after_place t 0 (omega arith)
