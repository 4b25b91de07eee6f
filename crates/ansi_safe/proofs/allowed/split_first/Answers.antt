use Rattle.std.proofs.Common.{◌≡◌, ◌++◌, encode_utf8, sym, ◌∙◌, ap}
use Rattle.std.proofs.lemmas.Str.{chars_past_char}
use Rattle.ansi_safe.proofs.allowed.split_first.Goals as goal

pub returns : goal.returns
returns c =
    let spelled : c.args.text.now ≡ encode_utf8 c.in_ok-first.first ++ c.as_str.result.now
    = sym c.chars-chars.ensures.rest ∙ c.in_ok-first.ensures.steps.0 ∙ ap (λ v. encode_utf8 c.in_ok-first.first ++ v) (sym c.as_str.ensures) in
    (spelled, chars_past_char c.args.text.now c.as_str.result.now c.in_ok-first.first c.utf8.text spelled)
