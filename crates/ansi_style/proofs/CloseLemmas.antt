-- The close of a style resets it: read in a style that is known alike, it leaves nothing known.
use Rattle.ansi_style.proofs.Common.{◌≡◌, ℕ, inl, inr, Bool, true, false, ◌&&◌, ◌||◌, List, ◌++◌, map, is_some, refl, ◌∙◌, ap, arith, append_assoc, codes, cases_Bool, Rendition, plain_style, has_ideogram_attribute, known, apply, written, code_if, close_codes, close, style_after_from}
use Rattle.ansi_style.proofs.SgrLemmas.{apply_all-alike}
use Rattle.ansi_style.proofs.ReadBackLemmas.{◌next◌, LeadFrom, LeadFrom-if, apply_codes, LeadFrom-apply_codes, style_after_from-codes, close_codes_are}

-- If the first code resets everything, the other codes change nothing.

abbrev reset_style : Rendition
reset_style = record plain_style { reset = true }

apply_codes-reset : (s : Rendition) (xs : List (List ℕ)) → (s.unknown && s.reset) ≡ true → apply_codes s (code_if (s.unknown && s.reset) (codes "0") ++ xs) ≡ apply_codes reset_style xs
apply_codes-reset s xs both = ap (λ b. apply_codes s (code_if b (codes "0") ++ xs)) both

keeps-code_if : (p : Rendition) (b : Bool) (code : List ℕ) (xs : List (List ℕ)) → apply p (written code) ≡ p → apply_codes p (code_if b code ++ xs) ≡ apply_codes p xs
keeps-code_if p true code xs kept = ap (λ s. apply_codes s xs) kept
keeps-code_if p false code xs kept = refl

keeps-last : (p : Rendition) (b : Bool) (code : List ℕ) → apply p (written code) ≡ p → apply_codes p (code_if b code) ≡ p
keeps-last p true code kept = kept
keeps-last p false code kept = refl

close_resets : (s : Rendition) → (s.unknown && s.reset) ≡ true → apply_codes s (close_codes s) ≡ reset_style
close_resets s both = simp append_assoc (simp (apply_codes-reset, keeps-code_if, keeps-last))

-- Otherwise each code resets its own part.

LeadFrom-code_if : {s : Rendition} {xs : List (List ℕ)} {p : Rendition} (b : Bool) (code : List ℕ) → (b ≡ false → p ≡ apply p (written code)) → LeadFrom s xs p → LeadFrom s (xs ++ code_if b code) (apply p (written code))
LeadFrom-code_if {p = p} b code unset so_far = LeadFrom-if b code (apply p (written code)) (λ yes. refl) unset so_far

-- everything but `reset` and `unknown` is reset
abbrev flags_only : Rendition → Rendition
flags_only s = record plain_style { reset = s.reset; unknown = s.unknown }

close_ends : (s : Rendition) → (s.unknown && s.reset) ≡ false → apply_codes s (close_codes s) ≡ apply_codes (flags_only s) (code_if s.unknown (codes "0"))
close_ends s other =
    let begun : LeadFrom s (code_if (s.unknown && s.reset) (codes "0")) s = record { reached = ap (λ b. apply_codes s (code_if b (codes "0"))) other } in
    LeadFrom-apply_codes (code_if s.unknown (codes "0"))
    (begun
    next LeadFrom-code_if (is_some s.font) (codes "10") (λ no. grind arith)
    next LeadFrom-code_if (s.bold || s.faint) (codes "22") (λ no. grind arith)
    next LeadFrom-code_if (s.italic || s.fraktur) (codes "23") (λ no. grind arith)
    next LeadFrom-code_if (s.underline || s.double_underline) (codes "24") (λ no. grind arith)
    next LeadFrom-code_if (s.slow_blink || s.rapid_blink) (codes "25") (λ no. grind arith)
    next LeadFrom-code_if s.inverse (codes "27") (λ no. grind arith)
    next LeadFrom-code_if s.hide (codes "28") (λ no. grind arith)
    next LeadFrom-code_if s.crossed_out (codes "29") (λ no. grind arith)
    next LeadFrom-code_if (is_some s.foreground) (codes "39") (λ no. grind arith)
    next LeadFrom-code_if (is_some s.background) (codes "49") (λ no. grind arith)
    next LeadFrom-code_if s.proportional_spacing (codes "50") (λ no. grind arith)
    next LeadFrom-code_if (s.framed || s.encircled) (codes "54") (λ no. grind arith)
    next LeadFrom-code_if s.overlined (codes "55") (λ no. grind arith)
    next LeadFrom-code_if (has_ideogram_attribute s) (codes "65") (λ no. grind arith)
    next LeadFrom-code_if (is_some s.underline_color) (codes "59") (λ no. grind arith)
    next LeadFrom-code_if (s.superscript || s.subscript) (codes "75") (λ no. grind arith))

known-ended : (s : Rendition) (b : Bool) → known (apply_codes (flags_only s) (code_if b (codes "0"))) ≡ plain_style
known-ended s true = refl
known-ended s false = refl

close_codes_end : (s : Rendition) → known (apply_codes s (close_codes s)) ≡ plain_style
close_codes_end s = elim (cases_Bool (s.unknown && s.reset)) [
  | inl both ↦ ap known (close_resets s both)
  | inr other ↦ ap known (close_ends s other) ∙ known-ended s s.unknown
]

-- The same if p is known alike to s.

pub close_codes_clear : (p s : Rendition) → known p ≡ known s → known (apply_codes p (close_codes s)) ≡ plain_style
close_codes_clear p s same = apply_all-alike p s (map written (close_codes s)) same ∙ close_codes_end s

pub close_clears : (p s : Rendition) → known p ≡ known s → known (style_after_from p (close s)) ≡ plain_style
close_clears p s same = ap known (style_after_from-codes p (close_codes s) (close_codes_are s)) ∙ close_codes_clear p s same
