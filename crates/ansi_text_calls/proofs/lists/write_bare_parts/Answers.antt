use Rattle.std.proofs.Common.{rules}
use Rattle.ansi_str.specs.Parts.{all_parts}
use Rattle.ansi_text_calls.proofs.ListLemmas.{length-bare_parts, few-bare_parts}
use Rattle.ansi_text_calls.proofs.lists.write_bare_parts.Goals as goal

-- the text has no fewer bytes than its parts, and no fewer than two less than there are parts
pub returns : goal.returns
returns g c =
    let t = c.args.text.now in
    let p = c.args.pat.now in
    let are = c.bare_texts_are_std.ensures.parts t p c.requires in
    c.write_copied.ensures (all_parts t p) (λ old old_ends copied new new_ends post. search rules) (
      length-bare_parts t p are (c.parts_lie_between_matches.ensures.in_turn t p c.utf8.text c.utf8.pat),
      few-bare_parts t p are (c.parts_lie_between_matches.ensures.few t p),
    )
