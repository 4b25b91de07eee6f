-- Worked examples of what is made of a text.
use Rattle.std.specs.Prelude.{◌≡◌, codes, List, ℕ, chars}
use Rattle.std.proofs.Common.{refl, true, false}
use Rattle.ansi_safe.specs.declared.policy.Links.TheVariants.{Keep, Remove}
use Rattle.ansi_safe.specs.declared.policy.Rest.TheVariants.{Drop, Show}
use Rattle.ansi_safe.specs.Safe.{is_safe}
use Rattle.ansi_safe.specs.Sanitized.{sanitized}

abbrev dropped : List ℕ → List ℕ
dropped t = sanitized (record { rest = Drop; links = Remove }) t

abbrev shown : List ℕ → List ℕ
shown t = sanitized (record { rest = Show; links = Keep }) t

style-ended : dropped (codes "\u{1b}[31mred") ≡ codes "\u{1b}[31mred\u{1b}[39m"
unfolding Rattle.std.specs.Str.chars lib.Utf8.encode
style-ended = refl

title-dropped : dropped (codes "\u{1b}]0;title\u{7}x") ≡ codes "x"
unfolding Rattle.std.specs.Str.chars lib.Utf8.encode
title-dropped = refl

title-shown : shown (codes "\u{1b}]0;title\u{7}x") ≡ codes "^[]0;title^Gx"
unfolding Rattle.std.specs.Str.chars lib.Utf8.encode
title-shown = refl

lone-shown : shown (codes "\u{1b}\u{1b}[31mx") ≡ codes "^[\u{1b}[31mx\u{1b}[39m"
unfolding Rattle.std.specs.Str.chars lib.Utf8.encode
lone-shown = refl

return-dropped : dropped (codes "over\rwritten") ≡ codes "overwritten"
unfolding Rattle.std.specs.Str.chars lib.Utf8.encode
return-dropped = refl

return-shown : shown (codes "over\rwritten") ≡ codes "over^Mwritten"
unfolding Rattle.std.specs.Str.chars lib.Utf8.encode
return-shown = refl

return-before-sequence : dropped (codes "a\r\u{1b}[2J\nb") ≡ codes "a\nb"
unfolding Rattle.std.specs.Str.chars lib.Utf8.encode
return-before-sequence = refl

line_ends-stay : is_safe Remove (codes "a\r\nb\n") ≡ true
unfolding Rattle.std.specs.Str.chars
line_ends-stay = refl

control-shown : shown (codes "Â\u{9b}31mx") ≡ codes "<U+009B>31mx"
unfolding Rattle.std.specs.Str.chars lib.Utf8.encode
control-shown = refl

override-shown : shown (codes "aâ\u{80}®b") ≡ codes "a<U+202E>b"
unfolding Rattle.std.specs.Str.chars lib.Utf8.encode
override-shown = refl

delete-shown : shown (codes "bell\u{7} del\u{7f}") ≡ codes "bell^G del^?"
unfolding Rattle.std.specs.Str.chars lib.Utf8.encode
delete-shown = refl

link-ended : shown (codes "\u{1b}]8;;http://x\u{1b}\\link") ≡ codes "\u{1b}]8;;http://x\u{1b}\\link\u{1b}]8;;\u{1b}\\"
unfolding Rattle.std.specs.Str.chars lib.Utf8.encode
link-ended = refl

link-removed : dropped (codes "\u{1b}]8;;http://x\u{1b}\\link") ≡ codes "link"
unfolding Rattle.std.specs.Str.chars lib.Utf8.encode
link-removed = refl

osc_80-is_no_link : is_safe Keep (codes "\u{1b}]80;;u\u{7}x") ≡ false
unfolding Rattle.std.specs.Str.chars
osc_80-is_no_link = refl

unknown-ended : dropped (codes "\u{1b}[4:3mx") ≡ codes "\u{1b}[4:3mx\u{1b}[0m"
unfolding Rattle.std.specs.Str.chars lib.Utf8.encode
unknown-ended = refl
