use Rattle.std.proofs.Common.{◌≡◌, ◌≢◌, ℕ, true, List, [], ◌∷◌, refl, sym, ◌∙◌, ap, arith}
use Rattle.std.specs.Str.{chars}
use Rattle.std.specs.List.{list_all}
use Rattle.std.proofs.lemmas.List.{nil_from_length}
use Rattle.std.proofs.lemmas.Str.{chars-nil, chars_past_char}
use Rattle.unicode_segmentation.specs.Grapheme.{is_grapheme_break}
use Rattle.ansi_items.specs.Bytes.{is_plain_byte}
use Rattle.ansi_clusters.proofs.ClusterLawLemmas.{breaks-last}
use Rattle.ansi_cells.proofs.shown.is_apart.Goals as goal

-- an ellipsis is a character, and has no ESC

chars-ellipsis : chars (0xE2 ∷ 0x80 ∷ 0xA6 ∷ []) ≡ 0x2026 ∷ []
unfolding chars
chars-ellipsis = refl

pub returns-then-is_ellipsis-clause-bare : goal.returns-then-is_ellipsis-clause-bare
returns-then-is_ellipsis-clause-bare c =
    let is = c.is_ellipsis.ensures c.if-is_ellipsis.true in
    λ _. ap (list_all is_plain_byte) is

pub returns-then-is_ellipsis-clause-breaks : goal.returns-then-is_ellipsis-clause-breaks
returns-then-is_ellipsis-clause-breaks c =
    let is = c.is_ellipsis.ensures c.if-is_ellipsis.true in
    λ holds before some state. ap (is_grapheme_break true before) (ap chars is ∙ chars-ellipsis) ∙ sym (c.ends_before.ensures before [] some state) ∙ holds

-- another tail

pub returns-in-Some-clause-breaks : goal.returns-in-Some-clause-breaks
returns-in-Some-clause-breaks c =
    let rest = c.next.new.self.rest.now in
    let first = chars_past_char c.args.tail.now rest c.in-Some.first c.utf8.tail (sym c.chars.ensures.rest ∙ c.in-Some.ensures.steps.0) in
    λ holds before some is. ap (is_grapheme_break true before) first ∙ sym (c.ends_before-in-Some.ensures before (chars rest) some is) ∙ holds

-- nothing follows
at_end : (before : List ℕ) → before ≢ [] → is_grapheme_break true before [] ≡ true
at_end [] some = absurd (some refl)
at_end (c ∷ before) some = breaks-last c before

pub returns-in-None-clause-breaks : goal.returns-in-None-clause-breaks
returns-in-None-clause-breaks c =
    let none : c.args.tail.now ≡ [] = sym c.chars.ensures.rest ∙ nil_from_length c.chars.result.rest.now (omega (arith, c.in-None.ensures.steps)) in
    λ holds before some is. ap (is_grapheme_break true before) (ap chars none ∙ chars-nil) ∙ at_end before some
