use Rattle.std.proofs.Common.{◌≡◌, true, Some, None, unwrap_or, not, ◌&&◌, ◌||◌, sym, ◌∙◌, ap, rules, tests}
use Rattle.ucd_derived.specs.IndicConjunctBreak.{indic_conjunct_break}
use Rattle.ucd_emoji.specs.Binary.{is_extended_pictographic}
use Rattle.unicode_segmentation.specs.Grapheme.{is_consonant, is_regional}
use Rattle.ansi_clusters.proofs.BreakLemmas.{or-then, or-else, and-then, and-else, is_grapheme_break-decided}
use Rattle.ansi_clusters.proofs.AsciiLemmas.{ends-printable}
use Rattle.ansi_clusters.proofs.break_state.BreakState.ends_before.Goals.{then-self, else-self, then-self-2, else-self-2, then-self-3, else-self-3, then-joins_conjunct, else-joins_conjunct, then-joins_emoji, else-joins_emoji}
use Rattle.ansi_clusters.proofs.break_state.BreakState.ends_before.Goals as goal

pub returns-then-matches : goal.returns-then-matches
returns-then-matches c before after some is =
    c.unwrap_or.ensures ∙ ap (λ o. unwrap_or o true) c.break_by_pair.ensures
    ∙ ends-printable c.args.self before c.args.next after some is (search (rules, tests))

pub returns-in-Some : goal.returns-in-Some
returns-in-Some c before after some is =
    is_grapheme_break-decided c.args.self before c.args.next after some is c.for_char-value.result c.for_char-value.ensures (Some c.in-Some.is_break) (sym c.break_by_pair-2.ensures ∙ c.in-Some.is)

pub returns : goal.returns
returns c before after some is =
    let s = c.args.self in
    let next = c.args.next in
    let v = c.for_char-value.result in
    let conjunct = s.is_linked && is_consonant (indic_conjunct_break next) in
    let emoji = s.is_joined && is_extended_pictographic next in
    let flag = s.is_half_flag && is_regional v in
    let first : c.if-self.joins_conjunct ≡ (s.is_linked && is_consonant (indic_conjunct_break next)) = elim c.if-self.branch [
      | then-self w ↦ and-then _ s.is_linked (is_consonant (indic_conjunct_break next)) (cc) (cc)
      | else-self w ↦ and-else _ s.is_linked (is_consonant (indic_conjunct_break next)) (cc) (cc)
    ] in
    let second : c.if-self-2.joins_emoji ≡ (s.is_joined && is_extended_pictographic next) = elim c.if-self-2.branch [
      | then-self-2 w ↦ and-then _ s.is_joined (is_extended_pictographic next) (cc) (cc)
      | else-self-2 w ↦ and-else _ s.is_joined (is_extended_pictographic next) (cc) (cc)
    ] in
    let third : c.if-self-3.joins_flag ≡ (s.is_half_flag && is_regional v) = elim c.if-self-3.branch [
      | then-self-3 w ↦ and-then _ s.is_half_flag (is_regional v) (cc) (cc)
      | else-self-3 w ↦ and-else _ s.is_half_flag (is_regional v) (cc) (cc)
    ] in
    let one : c.if-joins_conjunct.value ≡ (conjunct || emoji) = elim c.if-joins_conjunct.branch [
      | then-joins_conjunct w ↦ or-then _ conjunct emoji (cc) (sym first ∙ w.if-joins_conjunct.true)
      | else-joins_conjunct w ↦ or-else _ conjunct emoji (w.value-is ∙ second) (sym first ∙ w.if-joins_conjunct.false)
    ] in
    let all : c.if-joins_emoji.result ≡ ((conjunct || emoji) || flag) = elim c.if-joins_emoji.branch [
      | then-joins_emoji w ↦ or-then _ (conjunct || emoji) flag (cc) (sym one ∙ w.if-joins_emoji.true)
      | else-joins_emoji w ↦ or-else _ (conjunct || emoji) flag (w.result-is ∙ third) (sym one ∙ w.if-joins_emoji.false)
    ] in
    ap not all ∙ is_grapheme_break-decided s before next after some is v c.for_char-value.ensures None (sym c.break_by_pair-2.ensures ∙ c.in_default-break_by_pair.is)
