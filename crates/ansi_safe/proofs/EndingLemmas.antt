-- What ends the link and the style that a text leaves open, and when that is nothing.
use Rattle.std.proofs.Common.{◌≡◌, ℕ, ◌+◌, ◌≤◌, Bool, true, false, not, ◌==◌, ◌||◌, ◌&&◌, List, [], ◌∷◌, ◌++◌, length, is_some, codes, if◌then◌else◌, nat_eq, refl, sym, ◌∙◌, ap, ap₂, arith, length-append}
use Rattle.std.proofs.lemmas.Bool.{eqb-true, or_parts}
use Rattle.std.proofs.lemmas.Bool.Decides.{nat_tests}
use Rattle.std.proofs.lemmas.List.{nil_from_length}
use Rattle.ansi_style.specs.declared.state.rendition.Rendition.{Rendition}
use Rattle.ansi_style.specs.Rendition.{has_known, has_ideogram_attribute}
use Rattle.ansi_style.specs.Written.{close, close_codes, written, written_all, code_if, longest_close}
use Rattle.ansi_style.specs.Sgr.{apply}
use Rattle.ansi_style.proofs.CloseLemmas.{close_codes_clear}
use Rattle.ansi_style.proofs.ReadBackLemmas.{◌next◌, apply_codes, apply_codes-append, close_codes_are}
use Rattle.ansi_style.proofs.UnsetLemmas.{close-unknown}
use Rattle.ansi_safe.specs.Links.{link_end, longest_link_end}

-- A style has a close if anything but `reset` alone is set.

written-none : (cs : List (List ℕ)) → written_all cs ≡ [] → cs ≡ []
written-none [] none = refl
written-none (c ∷ cs) none = absurd (cc none)

when-none : (b : Bool) (code : List ℕ) → code_if b code ≡ [] → b ≡ false
when-none true code none = absurd (cc none)
when-none false code none = refl

when-last : (xs : List (List ℕ)) (b : Bool) (code : List ℕ) → xs ++ code_if b code ≡ [] → (xs ≡ []) × (b ≡ false)
when-last [] b code none = (refl, when-none b code none)
when-last (x ∷ xs) b code none = absurd (cc none)

or-false : (x y : Bool) → x ≡ false → y ≡ false → (x || y) ≡ false
or-false x y first second = ap₂ (λ a b. a || b) first second

known-none : (s : Rendition) → close_codes s ≡ [] → (has_known s || s.unknown) ≡ false
known-none s none =
    let a18 = when-last _ s.unknown (codes "0") none in
    let a17 = when-last _ (s.superscript || s.subscript) (codes "75") a18.0 in
    let a16 = when-last _ (is_some s.underline_color) (codes "59") a17.0 in
    let a15 = when-last _ (has_ideogram_attribute s) (codes "65") a16.0 in
    let a14 = when-last _ s.overlined (codes "55") a15.0 in
    let a13 = when-last _ (s.framed || s.encircled) (codes "54") a14.0 in
    let a12 = when-last _ s.proportional_spacing (codes "50") a13.0 in
    let a11 = when-last _ (is_some s.background) (codes "49") a12.0 in
    let a10 = when-last _ (is_some s.foreground) (codes "39") a11.0 in
    let a9 = when-last _ s.crossed_out (codes "29") a10.0 in
    let a8 = when-last _ s.hide (codes "28") a9.0 in
    let a7 = when-last _ s.inverse (codes "27") a8.0 in
    let a6 = when-last _ (s.slow_blink || s.rapid_blink) (codes "25") a7.0 in
    let a5 = when-last _ (s.underline || s.double_underline) (codes "24") a6.0 in
    let a4 = when-last _ (s.italic || s.fraktur) (codes "23") a5.0 in
    let a3 = when-last _ (s.bold || s.faint) (codes "22") a4.0 in
    let a2 = when-last _ (is_some s.font) (codes "10") a3.0 in
    let bold = or_parts s.bold s.faint a3.1 in
    let italic = or_parts s.italic s.fraktur a4.1 in
    let underline = or_parts s.underline s.double_underline a5.1 in
    let blink = or_parts s.slow_blink s.rapid_blink a6.1 in
    let frame = or_parts s.framed s.encircled a13.1 in
    let script = or_parts s.superscript s.subscript a17.1 in
    or-false (has_known s) s.unknown
    (or-false (is_some s.foreground) _ a10.1 (or-false (is_some s.background) _ a11.1 (or-false (is_some s.underline_color) _ a16.1 (or-false (is_some s.font) _ a2.1
    (or-false s.bold _ bold.0 (or-false s.faint _ bold.1 (or-false s.italic _ italic.0 (or-false s.underline _ underline.0 (or-false s.double_underline _ underline.1
    (or-false s.slow_blink _ blink.0 (or-false s.rapid_blink _ blink.1 (or-false s.inverse _ a7.1 (or-false s.hide _ a8.1 (or-false s.crossed_out _ a9.1
    (or-false s.framed _ frame.0 (or-false s.encircled _ frame.1 (or-false s.fraktur _ italic.1 (or-false s.proportional_spacing _ a12.1 (or-false s.overlined _ a14.1
    (or-false (has_ideogram_attribute s) _ a15.1 (or-false s.superscript _ script.0 (or-false s.subscript _ script.1 refl))))))))))))))))))))))
    a18.1

pub close-none : (s : Rendition) → close s ≡ [] → (has_known s || s.unknown) ≡ false
close-none s none = known-none s (written-none (close_codes s) none)

-- Nothing is written.

pub append-both_nil : {X : Type 0} (x y : List X) → x ++ y ≡ [] → (x ≡ []) × (y ≡ [])
append-both_nil [] y none = (refl, none)
append-both_nil (a ∷ x) y none = absurd (cc none)

pub link_end-open : (link : List ℕ) → nat_eq (length link) 0 ≡ false → link_end link ≡ codes "\u{1b}]8;;\u{1b}\\"
link_end-open link some = ap (λ t. if t then [] else codes "\u{1b}]8;;\u{1b}\\") some

pub link_end-shut : (link : List ℕ) → nat_eq (length link) 0 ≡ true → link_end link ≡ []
link_end-shut link none = ap (λ t. if t then [] else codes "\u{1b}]8;;\u{1b}\\") none

link_end-length : (b : ℕ) (link : List ℕ) → length (link_end (b ∷ link)) ≡ 7
link_end-length b link =
    let some : nat_eq (length (b ∷ link)) 0 ≡ false = grind (arith, nat_tests) in
    ap length (link_end-open (b ∷ link) some)

pub link_end-none : (link : List ℕ) → link_end link ≡ [] → length link ≡ 0
link_end-none [] none = refl
link_end-none (b ∷ link) none = absurd (omega (arith, link_end-length b link, ap length none))

-- How long what ends a pen is.

pub length-link_end : (link : List ℕ) → length (link_end link) ≤ longest_link_end
length-link_end [] = omega arith
length-link_end (b ∷ link) = omega (arith, link_end-length b link)

pub length-closing : (link : List ℕ) (style : Rendition) → length (link_end link ++ close style) ≤ longest_link_end + longest_close
length-closing link style = omega (arith, length-append (link_end link) (close style), length-link_end link, (close_codes_are style).short)

-- The close of a style is nothing exactly if the code says that it has none.
pub close-is_nothing : (s : Rendition) (closes : Bool) → closes ≡ (has_known s || s.unknown) → not closes ≡ (length (close s) == 0)
close-is_nothing s false is = sym (ap (λ u. length u == 0) (close-unknown s (sym is)))
close-is_nothing s true is = some (close s) (λ none. (let no = is ∙ close-none s none in cc no))
  where
    some : (u : List ℕ) → (u ≡ [] → ⊥) → false ≡ (length u == 0)
    some [] other = absurd (other refl)
    some (b ∷ u) other = grind (arith, nat_tests)

pub ending-is_nothing : (end : List ℕ) (s : Rendition) (closes : Bool) → nat_eq (length end) 0 ≡ true → closes ≡ (has_known s || s.unknown) → not closes ≡ (length (end ++ close s) == 0)
ending-is_nothing end s closes none is = close-is_nothing s closes is ∙ ap (λ e. length (e ++ close s) == 0) (sym (nil_from_length end (eqb-true (length end) 0 none)))

-- After the close of a style nothing is left to close.

-- after these codes `unknown` isn't set, if it wasn't before
record KeepsUnset (s : Rendition) (xs : List (List ℕ)) : Type 0 where
  keeps : s.unknown ≡ false → (apply_codes s xs).unknown ≡ false

keeps-code_if : {s : Rendition} {xs : List (List ℕ)} (b : Bool) (code : List ℕ) → ((p : Rendition) → p.unknown ≡ false → (apply p (written code)).unknown ≡ false) → KeepsUnset s xs → KeepsUnset s (xs ++ code_if b code)
keeps-code_if {s} {xs} b code leaves so_far = record { keeps = λ unset. ap (λ (p : Rendition). p.unknown) (apply_codes-append s xs (code_if b code)) ∙ by b (so_far.keeps unset) }
  where
    by : (b : Bool) → (apply_codes s xs).unknown ≡ false → (apply_codes (apply_codes s xs) (code_if b code)).unknown ≡ false
    by true unset = leaves (apply_codes s xs) unset
    by false unset = unset

leaves-last : {s : Rendition} {xs : List (List ℕ)} → KeepsUnset s xs → (apply_codes s (xs ++ code_if s.unknown (codes "0"))).unknown ≡ false
leaves-last {s} {xs} so_far = ap (λ (p : Rendition). p.unknown) (apply_codes-append s xs (code_if s.unknown (codes "0"))) ∙ by s.unknown so_far.keeps
  where
    by : (b : Bool) → (b ≡ false → (apply_codes s xs).unknown ≡ false) → (apply_codes (apply_codes s xs) (code_if b (codes "0"))).unknown ≡ false
    by true keeps = refl
    by false keeps = keeps refl

pub close_codes-leave_none : (s : Rendition) → (apply_codes s (close_codes s)).unknown ≡ false
close_codes-leave_none s =
    let begun : KeepsUnset s [] = record { keeps = λ unset. unset } in
    leaves-last
    (begun
    next keeps-code_if (s.unknown && s.reset) (codes "0") (λ p e. refl)
    next keeps-code_if (is_some s.font) (codes "10") (λ p e. e)
    next keeps-code_if (s.bold || s.faint) (codes "22") (λ p e. e)
    next keeps-code_if (s.italic || s.fraktur) (codes "23") (λ p e. e)
    next keeps-code_if (s.underline || s.double_underline) (codes "24") (λ p e. e)
    next keeps-code_if (s.slow_blink || s.rapid_blink) (codes "25") (λ p e. e)
    next keeps-code_if s.inverse (codes "27") (λ p e. e)
    next keeps-code_if s.hide (codes "28") (λ p e. e)
    next keeps-code_if s.crossed_out (codes "29") (λ p e. e)
    next keeps-code_if (is_some s.foreground) (codes "39") (λ p e. e)
    next keeps-code_if (is_some s.background) (codes "49") (λ p e. e)
    next keeps-code_if s.proportional_spacing (codes "50") (λ p e. e)
    next keeps-code_if (s.framed || s.encircled) (codes "54") (λ p e. e)
    next keeps-code_if s.overlined (codes "55") (λ p e. e)
    next keeps-code_if (has_ideogram_attribute s) (codes "65") (λ p e. e)
    next keeps-code_if (is_some s.underline_color) (codes "59") (λ p e. e)
    next keeps-code_if (s.superscript || s.subscript) (codes "75") (λ p e. e))

pub close-closed : (s : Rendition) → close (apply_codes s (close_codes s)) ≡ []
close-closed s =
    let after = apply_codes s (close_codes s) in
    let known : has_known after ≡ false = ap has_known (close_codes_clear s s refl) in
    close-unknown after (ap₂ (λ a b. a || b) known (close_codes-leave_none s))
