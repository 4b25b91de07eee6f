-- A text that is divided: in the run at its front, and by a walk.
use Rattle.std.proofs.Common.{◌≡◌, ◌≢◌, ℕ, ◌<◌, ◌≤◌, Option, Some, None, IfSome, List, [], ◌∷◌, ◌++◌, length, take, drop, refl, sym, ◌∙◌, ap, arith, IsFalse, length-append}
use Rattle.std.proofs.lemmas.List.{take-append-drop, length-take-le}
use Rattle.ansi_items.specs.Pieces.{Piece, Text, after_text, pieces_of}
use Rattle.ansi_items.specs.Plain.{plain, has_escape}
use Rattle.ansi_items.proofs.PlainLemmas.{all_plain_bytes}
use Rattle.ansi_items.proofs.JoinLemmas.{pieces_of-run, plain-front}
use Rattle.ansi_style.specs.declared.state.rendition.Rendition.{Rendition}
use Rattle.ansi_style.specs.Reading.{after_marks, style_within}
use Rattle.ansi_search.specs.Offsets.{bytes_before, offset_of}
use Rattle.ansi_search.specs.Positions.{no_character_goes_on}
use Rattle.ansi_search.proofs.OffsetLemmas.{bytes_before-last}
use Rattle.ansi_search.proofs.PositionLemmas.{no_character_goes_on-append}
use Rattle.ansi_split.proofs.AfterLemmas.{is_cut_after}
use Rattle.ansi_split.proofs.RestLemmas.{style-bare, no_escape-take}

bytes_before-after_text : (n : ℕ) (w : List ℕ) (ps : List Piece) → n < length w → bytes_before n (after_text w ps) ≡ n
bytes_before-after_text n w (Text v ∷ ps) inside = bytes_before-last n (w ++ v) ps (omega (arith, length-append w v))
bytes_before-after_text n w ps inside = bytes_before-last n w ps inside

nonempty_if_within : (w : List ℕ) (n : ℕ) → n < length w → w ≢ []
nonempty_if_within [] n inside = absurd (omega arith)
nonempty_if_within (b ∷ w) n inside = λ e. cc

-- the offset of a plain byte in the run
pub offset_in_run : (t : List ℕ) (run n : ℕ) → run ≤ length t → IsFalse (has_escape (take run t)) → n < run → n ≡ offset_of t n
offset_in_run t run n within none inside =
    let w = take run t in
    let size : length w ≡ run = length-take-le run t within in
    let pieces : pieces_of t ≡ after_text w (pieces_of (drop run t))
    = ap pieces_of (sym (take-append-drop run t)) ∙ pieces_of-run w (drop run t) (nonempty_if_within w n (omega (arith, size, inside))) (all_plain_bytes w none) in
    sym (ap (bytes_before n) pieces ∙ bytes_before-after_text n w (pieces_of (drop run t)) (omega (arith, size, inside)))

-- a character goes on there in the text exactly if one does in its plain text
pub good_in_run : (t : List ℕ) (run n : ℕ) → run ≤ length t → IsFalse (has_escape (take run t)) → n < run → no_character_goes_on t n ≡ no_character_goes_on (plain t) n
good_in_run t run n within none inside =
    let w = take run t in
    let size : length w ≡ run = length-take-le run t within in
    let at : n < length w = omega (arith, size, inside) in
    ap (λ v. no_character_goes_on v n) (sym (take-append-drop run t)) ∙ no_character_goes_on-append w (drop run t) n at
    ∙ sym (ap (λ v. no_character_goes_on v n) (plain-front t w run refl none) ∙ no_character_goes_on-append w (plain (drop run t)) n at)

-- nothing in the run changes the style
pub style_in_run : (s : Rendition) (t : List ℕ) (run n : ℕ) → run ≤ length t → IsFalse (has_escape (take run t)) → n < run → s ≡ style_within s t n
style_in_run s t run n within none inside =
    sym (style-bare s (take n t) (no_escape-take t n run (omega (arith, inside)) none)) ∙ ap (after_marks s) (is_cut_after t n n (offset_in_run t run n within none inside)).marks_front

pub if_some : {A : Type 0} {X : Type 0} (o : Option A) → X → IfSome o (λ _. X)
if_some (Some a) x = x
if_some None x = tt
