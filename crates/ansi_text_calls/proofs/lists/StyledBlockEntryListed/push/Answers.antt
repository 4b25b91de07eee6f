use Rattle.std.proofs.Common.{◌≡◌, ◌∙◌, ◌+◌, ◌++◌, length, ap, string_bytes}
use Rattle.ansi_str.specs.Written.{start, close_if_any}
use Rattle.ansi_text_calls.specs.Lists.{styled_text}
use Rattle.ansi_text_calls.proofs.ListLemmas.{length-joined, around-more}
use Rattle.ansi_text_calls.proofs.lists.StyledBlockEntryListed.push.Goals as goal

-- the start, the text and the end are added in turn, and the length of the texts is that of their bytes
pub returns : goal.returns
returns g c =
    let old = string_bytes c.args.texts.now in
    let block = c.args.block.now in
    let style = c.style-style.ensures in
    let begun : string_bytes c.write_start.new.out ≡ old ++ start block.style = c.in_ok-write_start.ensures.bytes ∙ ap (λ s. old ++ start s) style in
    let more : string_bytes c.push_str.new.self ≡ string_bytes c.write_start.new.out ++ block.text =
    c.in_ok-push_str.ensures.bytes ∙ ap (λ t. string_bytes c.write_start.new.out ++ t) c.text.ensures in
    let ended : string_bytes c.push_close.new.texts ≡ string_bytes c.push_str.new.self ++ close_if_any block.style =
    c.in_ok-push_close.ensures ∙ ap (λ s. string_bytes c.push_str.new.self ++ close_if_any s) style in
    let bytes : string_bytes c.push_close.new.texts ≡ old ++ styled_text block = around-more _ _ _ _ _ _ _ begun more ended in
    let text_start : c.len-text_start.result ≡ length old + length (start block.style) = c.len-text_start.ensures ∙ c.write_start.new.out.bytes.ok.0 ∙ length-joined _ _ _ begun in
    let text_end : c.len-text_end.result ≡ length old + length (start block.style) + length block.text =
    c.len-text_end.ensures ∙ c.push_str.new.self.bytes.ok.0 ∙ length-joined _ _ _ more ∙ ap (λ n. n + length block.text) (length-joined _ _ _ begun) in
    let end : c.len.result ≡ length (string_bytes c.push_close.new.texts) = c.len.ensures ∙ c.push_close.new.texts.bytes.ok.0 in
    record { bytes = bytes; entry = (text_start, text_end, end, (c.of.ensures.rendition ∙ style, c.of.ensures.exact)) }
