use Rattle.std.proofs.Common.{◌≡◌, ◌∙◌, sym}
use Rattle.std.specs.Str.Lossy.{utf8_lossy}
use Rattle.std.proofs.lemmas.Str.{utf8_lossy-IsUtf8}
use Rattle.ansi_view_runs.proofs.view.decode_tested.Goals as goal

-- bytes that are UTF-8 are their own text
pub returns-in-Ok : goal.returns-in-Ok
returns-in-Ok g c =
    let bytes = c.args.bytes.now in
    let text = rw c.in-Ok.is at c.requires in
    let read : c.in-Ok.text.now ≡ utf8_lossy bytes = text.0 ∙ sym (utf8_lossy-IsUtf8 bytes text.1) in
    rw read at c.strip_if_plain.ensures
