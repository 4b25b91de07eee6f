-- If no style and no link is open, nothing opens them again.
use Rattle.std.proofs.Common.{◌≡◌, ℕ, not, ◌&&◌, ◌==◌, true, List, [], ◌++◌, length, refl, ap₂}
use Rattle.std.proofs.lemmas.Bool.{and_parts, eqb-true, not-true, cond_both}
use Rattle.std.proofs.lemmas.List.{nil_from_length}
use Rattle.ansi_style.specs.declared.state.rendition.Rendition.{Rendition}
use Rattle.ansi_style.specs.Rendition.{has_any}
use Rattle.ansi_style.proofs.UnsetLemmas.{start-unset}
use Rattle.ansi_safe.specs.declared.policy.Links.TheVariants.{Keep}
use Rattle.ansi_safe.specs.Safe.{is_safe}
use Rattle.ansi_text_calls.specs.Pens.{opening_of}

pub opening-plain : (s : Rendition) (link : List ℕ) → (not (has_any s) && length link == 0) ≡ true → opening_of s link ≡ []
opening-plain s link plain =
    let parts = and_parts (not (has_any s)) (length link == 0) plain in
    let no_link : link ≡ [] = nil_from_length link (eqb-true (length link) 0 parts.1) in
    ap₂ (λ u v. u ++ v) (start-unset s (not-true (has_any s) parts.0)) (cond_both (is_safe Keep link) link [] (λ w. w ≡ []) (λ yes. no_link) (λ no. refl))
