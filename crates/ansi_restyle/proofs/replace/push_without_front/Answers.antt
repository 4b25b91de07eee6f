use Rattle.std.proofs.Common.{string_bytes}
use Rattle.ansi_items.specs.Plain.{plain}
use Rattle.ansi_search.proofs.PositionLemmas.{no_character_goes_on-past}
use Rattle.ansi_restyle.specs.Rests.{IsDivided}
use Rattle.ansi_restyle.proofs.RemovedLemmas.{length-part}
use Rattle.ansi_restyle.proofs.ReplacedEachLemmas.{without_front-written}
use Rattle.ansi_restyle.proofs.replace.push_without_front.Goals as goal

-- all sequences of the front are written

pub push_sequences-requires : goal.push_sequences-requires
push_sequences-requires g c =
    let n = c.args.len in
    let at = c.unwrap-divided.result in
    let divided : IsDivided c.args.text.now n at.front.now at.rest.text.now = rw (c.unwrap-divided.ensures, c.new.ensures) at c.split_at.ensures.divided in
    no_character_goes_on-past (plain at.front.now) n (length-part n divided)

pub returns : goal.returns
returns g c =
    let n = c.args.len in
    let at = c.unwrap-divided.result in
    let divided : IsDivided c.args.text.now n at.front.now at.rest.text.now = rw (c.unwrap-divided.ensures, c.new.ensures) at c.split_at.ensures.divided in
    without_front-written c.args.text.now (string_bytes c.args.out.now) _ _ at.front.now at.rest.text.now n c.in_ok-push_sequences.ensures.bytes c.in_ok-push_str.ensures.bytes divided
