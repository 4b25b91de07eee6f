use Rattle.std.proofs.Common.{◌≡◌, [], sym, ◌∙◌, ap, subst, rules}
use Rattle.ansi_items.specs.Plain.{marks}
use Rattle.ansi_items.specs.Scans.{pieces_left}
use Rattle.ansi_items.specs.Pieces.{pieces_of}
use Rattle.ansi_style.specs.States.{rendition_of}
use Rattle.std.specs.List.{list_all}
use Rattle.ansi_safe.specs.declared.cells.Place.TheVariants.{Cell}
use Rattle.ansi_safe.specs.Cells.{piece_stays}
use Rattle.ansi_safe.proofs.LinkLemmas.{IsOpenSoFar, open-begin, open-end, link_after_all-none}
use Rattle.ansi_safe.proofs.cells.pen_after_items.Goals as goal

pub loop-item-init : goal.loop-item-init
loop-item-init c =
    let t = c.args.text.now in
    let style = rendition_of c.args.before.now in
    let begins : c.into_iter-item-iterator.result ≡ record { text = t; offset = 0 } = c.into_iter-item-iterator.ensures.into_iter_gives ∙ c.new-item-items.ensures.start in
    let left : pieces_of t ≡ pieces_left c.into_iter-item-iterator.result = ap pieces_left (sym begins) in
    record {
      text = ap (λ s. s.text) begins;
      decides = ap (list_all (piece_stays Cell)) left;
      so_far = subst (IsOpenSoFar t style [] style []) left (open-begin t style []);
      link_is_text = search rules;
    }

pub returns-clause-link : goal.returns-clause-link
returns-clause-link c = (open-end c.loop-item.invariant.so_far c.in-None.ensures.steps.2).1 ∙ link_after_all-none (marks c.args.text.now)
