use Rattle.std.proofs.Common.{◌≡◌, ◌∙◌, ◌++◌, length, ap, string_bytes}
use Rattle.ansi_text_calls.proofs.lists.BlockEntryListed.push.Goals as goal

-- the text of the block is added, and the length of the texts is that of their bytes
pub returns : goal.returns
returns g c =
    let old = string_bytes c.args.texts.now in
    let text = c.args.block.now.text in
    let bytes : string_bytes c.push_str.new.self ≡ old ++ text = c.in_ok-push_str.ensures.bytes ∙ ap (λ t. old ++ t) c.text.ensures in
    let end : c.len.result ≡ length (string_bytes c.push_str.new.self) = c.len.ensures ∙ c.push_str.new.self.bytes.ok.0 in
    record { bytes = bytes; entry = (end, (c.of-style.ensures.rendition ∙ c.style.ensures, c.of-style.ensures.exact)) }
