use Rattle.std.proofs.Common.{◌≡◌, not, ◌&&◌, ◌||◌, sym, ◌∙◌, ◌∷◌, ap}
use Rattle.ucd_emoji.specs.Binary.{is_extended_pictographic}
use Rattle.ansi_clusters.specs.BreakStates.{break_state_of}
use Rattle.unicode_segmentation.specs.Grapheme.{is_extend, is_zwj, is_regional}
use Rattle.ansi_clusters.proofs.BreakLemmas.{or-then, or-else, and-then, and-else, break_state-push}
use Rattle.ansi_clusters.proofs.SingleLemmas.{break_state-line_feed}
use Rattle.ansi_clusters.proofs.break_state.BreakState.after.Goals.{then-is_pictograph, else-is_pictograph+then-is_extend, else-is_pictograph+else-is_extend, then-is_zwj, else-is_zwj}
use Rattle.ansi_clusters.proofs.break_state.BreakState.after.Goals as goal

pub returns-then-is_single : goal.returns-then-is_single
returns-then-is_single c before is = c.after_single.ensures before

pub returns-then-c-eq10 : goal.returns-then-c-eq10
returns-then-c-eq10 c before is = c.of.ensures ∙ break_state-line_feed before ∙ ap (λ d. break_state_of (d ∷ before)) (sym c.if-c-eq10.true)

pub returns-then-is_regional : goal.returns-then-is_regional
returns-then-is_regional c before is =
    let v = c.for_char-value.result in
    let s = c.args.self in
    let pict = c.is_pictograph.ensures c.for_char-value.ensures in
    let pictograph : c.if-is_pictograph.result ≡ (is_extended_pictographic c.args.c || (is_extend v && s.is_pictograph))
    = elim c.if-is_pictograph.branch [
      | then-is_pictograph w ↦ or-then _ (is_extended_pictographic c.args.c) (is_extend v && s.is_pictograph) (cc) (sym pict ∙ w.if-is_pictograph.true)
      | else-is_pictograph+then-is_extend w ↦ or-else _ (is_extended_pictographic c.args.c) (is_extend v && s.is_pictograph) (and-then _ (is_extend v) s.is_pictograph (cc) (cc)) (sym pict ∙ w.if-is_pictograph.false)
      | else-is_pictograph+else-is_extend w ↦ or-else _ (is_extended_pictographic c.args.c) (is_extend v && s.is_pictograph) (and-else _ (is_extend v) s.is_pictograph (cc) (cc)) (sym pict ∙ w.if-is_pictograph.false)
    ] in
    let joined : c.if-is_zwj.result ≡ (is_zwj v && s.is_pictograph)
    = elim c.if-is_zwj.branch [
      | then-is_zwj w ↦ and-then _ (is_zwj v) s.is_pictograph (cc) (cc)
      | else-is_zwj w ↦ and-else _ (is_zwj v) s.is_pictograph (cc) (cc)
    ] in
    break_state-push c.args.c s before is v _ _ _ _ c.for_char-value.ensures c.links.ensures pictograph joined (and-then _ (is_regional v) (not s.is_half_flag) (cc) cc)

pub returns-else-is_regional : goal.returns-else-is_regional
returns-else-is_regional c before is =
    let v = c.for_char-value.result in
    let s = c.args.self in
    let pict = c.is_pictograph.ensures c.for_char-value.ensures in
    let pictograph : c.if-is_pictograph.result ≡ (is_extended_pictographic c.args.c || (is_extend v && s.is_pictograph))
    = elim c.if-is_pictograph.branch [
      | then-is_pictograph w ↦ or-then _ (is_extended_pictographic c.args.c) (is_extend v && s.is_pictograph) (cc) (sym pict ∙ w.if-is_pictograph.true)
      | else-is_pictograph+then-is_extend w ↦ or-else _ (is_extended_pictographic c.args.c) (is_extend v && s.is_pictograph) (and-then _ (is_extend v) s.is_pictograph (cc) (cc)) (sym pict ∙ w.if-is_pictograph.false)
      | else-is_pictograph+else-is_extend w ↦ or-else _ (is_extended_pictographic c.args.c) (is_extend v && s.is_pictograph) (and-else _ (is_extend v) s.is_pictograph (cc) (cc)) (sym pict ∙ w.if-is_pictograph.false)
    ] in
    let joined : c.if-is_zwj.result ≡ (is_zwj v && s.is_pictograph)
    = elim c.if-is_zwj.branch [
      | then-is_zwj w ↦ and-then _ (is_zwj v) s.is_pictograph (cc) (cc)
      | else-is_zwj w ↦ and-else _ (is_zwj v) s.is_pictograph (cc) (cc)
    ] in
    break_state-push c.args.c s before is v _ _ _ _ c.for_char-value.ensures c.links.ensures pictograph joined (and-else _ (is_regional v) (not s.is_half_flag) (cc) (cc))
