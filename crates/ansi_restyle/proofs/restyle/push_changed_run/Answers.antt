use Rattle.std.proofs.Common.{string_bytes}
use Rattle.ansi_style.specs.States.{rendition_of}
use Rattle.ansi_restyle.proofs.RestyleWalkLemmas.{run-written}
use Rattle.ansi_restyle.proofs.restyle.push_changed_run.Goals as goal

pub returns : goal.returns
returns g c =
    run-written (string_bytes c.args.out.now) _ _ _ _ c.args.change.now c.args.run.now (rendition_of c.args.style.now) (rendition_of c.apply.new.style)
    c.in_ok-push_str.ensures.bytes c.in_ok-push_str-2.ensures.bytes c.in_ok-write_close.ensures.bytes c.in_ok-write_start.ensures.bytes c.apply.ensures
