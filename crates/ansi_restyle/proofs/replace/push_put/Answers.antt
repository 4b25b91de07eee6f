use Rattle.std.proofs.Common.{sym, ◌∙◌, ap, string_bytes}
use Rattle.ansi_style.specs.States.{rendition_of}
use Rattle.ansi_restyle.specs.Replaced.{link_back}
use Rattle.ansi_restyle.proofs.ReplacedLemmas.{put-written}
use Rattle.ansi_restyle.proofs.replace.push_put.Goals as goal

pub returns : goal.returns
returns g c =
    let pen = c.args.pen.now in
    let after = c.pen_after_from-after in
    put-written (string_bytes c.args.out.now) _ _ _ _ c.args.with.now c.link_back.result.now pen.link.now (rendition_of pen.style) (rendition_of after.result.style)
    c.in_ok-push_str.ensures.bytes c.in_ok-push_str-2.ensures.bytes c.in_ok-write_close.ensures.bytes c.in_ok-write_start.ensures.bytes
    (sym c.has_any.ensures ∙ c.if-not-has_any.false) (c.link_back.ensures ∙ ap (link_back pen.link.now) after.ensures.link) after.ensures.style
