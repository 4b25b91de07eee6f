-- A style in which a reader could see nothing that is set needs no start and no close.
use Rattle.ansi_style.proofs.Common.{◌≡◌, append-nil, false, ◌&&◌, ◌||◌, [], ◌∙◌, ap, arith, if◌then◌else◌, or_parts, cond_both, Rendition, plain_style, known, has_known, has_any, start, close, close_if_any, style_after_from}
use Rattle.ansi_style.proofs.CloseLemmas.{close_clears}

known-unknown : (s : Rendition) → has_known s ≡ false → known s ≡ plain_style
known-unknown s unset = grind arith

pub start-unknown : (s : Rendition) → has_known s ≡ false → start s ≡ []
start-unknown s unset = ap start (known-unknown s unset)

pub close-unknown : (s : Rendition) → (has_known s || s.unknown) ≡ false → close s ≡ []
close-unknown s unset = grind (arith, known-unknown, or_parts)

pub ruleset unset_styles = (start-unknown, close-unknown, append-nil)

no_known : (s : Rendition) → has_any s ≡ false → has_known s ≡ false
no_known s unset = (or_parts (has_known s) (s.reset && s.unknown) unset).0

pub known-unset : (s : Rendition) → has_any s ≡ false → known s ≡ plain_style
known-unset s unset = known-unknown s (no_known s unset)

pub start-unset : (s : Rendition) → has_any s ≡ false → start s ≡ []
start-unset s unset = start-unknown s (no_known s unset)

pub close_if_any-unset : (s : Rendition) → has_any s ≡ false → close_if_any s ≡ []
close_if_any-unset s unset = ap (λ b. if b then close s else []) unset

-- a close that is written only if something is set resets like a close
pub close_if_any_clears : (p s : Rendition) → known p ≡ known s → known (style_after_from p (close_if_any s)) ≡ plain_style
close_if_any_clears p s same =
    cond_both (has_any s) (close s) [] (λ w. known (style_after_from p w) ≡ plain_style) (λ any. close_clears p s same) (λ unset. same ∙ known-unset s unset)
