-- What is open at the end of a text: its style and its link, what opens both again, and what closes them. A text that isn't UTF-8 makes each call fail with the status `not_utf8`, and what it writes to is unchanged.
use Rattle.std.specs.Prelude.{◌≡◌, ℕ, not, ◌||◌, ◌==◌, List, [], ◌∷◌, ◌++◌, length, nat_lt, Some, unwrap_or, if◌then◌else◌}
use Rattle.ansi_items.specs.Plain.{marks}
use Rattle.ansi_style.specs.declared.state.rendition.Rendition.{Rendition}
use Rattle.ansi_style.specs.Rendition.{has_any}
use Rattle.ansi_style.specs.Styled.{style_after}
use Rattle.ansi_style.specs.Written.{start}
use Rattle.ansi_safe.specs.declared.policy.Links.TheVariants.{Keep}
use Rattle.ansi_safe.specs.Links.{address_of, link_of, ending}
use Rattle.ansi_safe.specs.Safe.{is_safe}
use Rattle.ansi_text_calls.specs.declared.answers.Answer.{Answer}
use Rattle.ansi_text_calls.specs.declared.pens.OpenPen.{OpenPen}
use Rattle.ansi_text_calls.specs.Answers.{no, not_utf8, done, failed, OnUtf8, HasFailed, Gives}
use Rattle.ansi_text_calls.specs.Styles.{IsStyleOf}

-- the address of a link, by the sequence that opened it; it is empty if no link is open
abbrev pub address : List ℕ → List ℕ
address link = unwrap_or (address_of link) []

-- `pen_after` returns the style after the text, and the address of the link after it (own); it doesn't allocate
abbrev pub TellsPen : List ℕ → Answer → OpenPen → OpenPen → Type 0
TellsPen t answer old new =
    OnUtf8 (t ∷ []) ((answer ≡ done 0) × (new.link.now ≡ address (link_of (marks t))) × IsStyleOf (style_after t) new.style)
    ((answer ≡ failed not_utf8) × (new ≡ old))

-- what opens a style and a link again: the start of the style, and the sequence that opened the link, if that is safe (own)
abbrev pub opening_of : Rendition → List ℕ → List ℕ
opening_of s link = start s ++ (if is_safe Keep link then link else [])

-- `pen_start` writes what opens those again that are open at the end of the text, and allocates only if any is
abbrev pub WritesOpening : List ℕ → Answer → List ℕ → List ℕ → Type 0
WritesOpening t answer old new =
    OnUtf8 (t ∷ []) (Gives no (has_any (style_after t) || nat_lt 0 (length (link_of (marks t)))) (Some (opening_of (style_after t) (link_of (marks t)))) answer old new)
    (HasFailed not_utf8 answer old new)

-- `pen_end` writes what ends them, and allocates only if that is something
abbrev pub WritesEnding : List ℕ → Answer → List ℕ → List ℕ → Type 0
WritesEnding t answer old new = OnUtf8 (t ∷ []) (Gives no (not (length (ending t) == 0)) (Some (ending t)) answer old new) (HasFailed not_utf8 answer old new)
