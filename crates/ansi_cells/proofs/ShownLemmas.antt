-- What follows a text that is displayed: what closes its link and its style, a tail, and blanks.
use Rattle.std.proofs.Common.{◌≡◌, ℕ, zero, suc, ◌+◌, ◌-◌, ◌<◌, ◌≤◌, Bool, true, false, not, ◌&&◌, List, [], ◌∷◌, ◌++◌, length, take, nat_le, if◌then◌else◌, refl, sym, ◌∙◌, ap, ap₂, arith, append_assoc, length-append, append-nil}
use Rattle.std.specs.Str.{byte}
use Rattle.std.proofs.lemmas.Bool.{le-leb, lt-leb, and_right}
use Rattle.std.proofs.lemmas.List.{append_cancel_right, length-replicate}
use Rattle.ansi_items.specs.Pieces.{pieces_of}
use Rattle.ansi_items.specs.Plain.{plain, marks, marks_up_to}
use Rattle.ansi_style.specs.declared.state.rendition.Rendition.{Rendition}
use Rattle.ansi_style.specs.Styled.{style_at, style_of, style_after}
use Rattle.ansi_style.specs.Written.{close, longest_close}
use Rattle.ansi_slice.specs.Cut.{interleaved}
use Rattle.ansi_search.specs.Offsets.{StandsIn}
use Rattle.ansi_slice.proofs.CutLemmas.{marks_up_to-marks_past}
use Rattle.ansi_slice.proofs.StretchLemmas.{cut-front}
use Rattle.ansi_clusters.specs.Columns.{columns}
use Rattle.ansi_safe.specs.Links.{link_of, link_at, link_end, longest_link_end, pen_close}
use Rattle.ansi_cells.specs.declared.shown.Alignment.{Alignment}
use Rattle.ansi_cells.specs.declared.shown.Alignment.TheVariants.{Left, Right, Center}
use Rattle.ansi_cells.specs.Shown.{has_tail, truncated_width, truncated_end, truncated_ending, truncated, missing, before_text, between_blanks, closing, padded}
use Rattle.ansi_clusters.specs.Lines.{blanks}
use Rattle.ansi_clusters.proofs.PlaceLemmas.{marks-before}
use Rattle.ansi_safe.proofs.EndingLemmas.{length-closing}

-- The front of a text, and what ends its pen.

pub take-interleaved : {t : List ℕ} {e to : ℕ} → StandsIn t e to → take to t ≡ interleaved (plain t) 0 e (marks_up_to e (marks t))
take-interleaved {t} {e} {to} stands = append_cancel_right (take to t) (interleaved (plain t) 0 e (marks_up_to e (marks t))) (close (style_at t e)) (cut-front {style = style_at t e} stands refl)

pub pen_close-front : {t front link : List ℕ} {e to : ℕ} {style : Rendition} → StandsIn t e to → front ≡ take to t → style ≡ style_after front → link ≡ link_of (marks front) → link_end link ++ close style ≡ pen_close t e
pen_close-front {t} {front} {link} {e} {to} {style} stands is style_is link_is =
    let same : marks front ≡ marks_up_to e (marks t) = ap marks (is ∙ ap (λ i. take i t) stands.offset) ∙ marks-before t e in
    ap₂ (λ l s. link_end l ++ close s) (link_is ∙ ap link_of same) (style_is ∙ ap style_of same)

pub pen_at_end : (t : List ℕ) {link : List ℕ} {style : Rendition} → style ≡ style_after t → link ≡ link_of (marks t) → link_end link ++ close style ≡ closing t
pen_at_end t {link} {style} style_is link_is =
    let all : marks t ≡ marks_up_to (length (plain t)) (marks t) = sym (marks_up_to-marks_past (length (plain t)) (pieces_of t) (omega arith)) in
    ap₂ (λ l s. link_end l ++ close s) (link_is ∙ ap link_of all) (style_is ∙ ap style_of all)

-- The columns that are left for the text, and the tail that is written.

tail-fits : (t tail : List ℕ) (width : ℕ) → nat_le (columns (plain t)) width ≡ true → has_tail t width tail ≡ false
tail-fits t tail width fits = ap (λ b. not b && nat_le (columns (plain tail)) width) fits

tail-wide : (t tail : List ℕ) (width : ℕ) → width < columns (plain tail) → has_tail t width tail ≡ false
tail-wide t tail width wide = and_right (not (nat_le (columns (plain t)) width)) (nat_le (columns (plain tail)) width) (lt-leb (columns (plain tail)) width wide)

tail-there : (t tail : List ℕ) (width : ℕ) → nat_le (columns (plain t)) width ≡ false → columns (plain tail) ≤ width → has_tail t width tail ≡ true
tail-there t tail width more fits = ap₂ (λ a b. not a && b) more (le-leb (columns (plain tail)) width fits)

-- if the tail is written or not, as has_tail says
abbrev IsLeft : List ℕ → List ℕ → ℕ → ℕ → List ℕ → Type 0
IsLeft t tail width left after = (truncated_width t width tail ≡ left) × (after ≡ (if has_tail t width tail then tail else []))

left-none : (t tail : List ℕ) (width : ℕ) → has_tail t width tail ≡ false → IsLeft t tail width width []
left-none t tail width none = (ap (λ b. if b then width - columns (plain tail) else width) none, sym (ap (λ b. if b then tail else []) none))

pub width-fits : (t tail : List ℕ) (width : ℕ) → nat_le (columns (plain t)) width ≡ true → IsLeft t tail width width []
width-fits t tail width fits = left-none t tail width (tail-fits t tail width fits)

pub width-wide : (t tail : List ℕ) (width : ℕ) → width < columns (plain tail) → IsLeft t tail width width []
width-wide t tail width wide = left-none t tail width (tail-wide t tail width wide)

pub width-tail : (t tail : List ℕ) (width : ℕ) → nat_le (columns (plain t)) width ≡ false → columns (plain tail) ≤ width → IsLeft t tail width (width - columns (plain tail)) tail
width-tail t tail width more within =
    let there = tail-there t tail width more within in
    (ap (λ b. if b then width - columns (plain tail) else width) there, sym (ap (λ b. if b then tail else []) there))

pub length-either : (b : Bool) (x : List ℕ) → length (if b then x else []) ≤ length x
length-either true x = omega arith
length-either false x = omega arith

-- A truncated text, as the code writes it: its front, what closes the pen there, and the tail.
pub record IsCutTo (t : List ℕ) (width : ℕ) (tail front close after : List ℕ) : Type 0 where
  pub front_is : front ≡ interleaved (plain t) 0 (truncated_end t width tail) (marks_up_to (truncated_end t width tail) (marks t))
  pub within : length front ≤ length t
  pub close_is : close ≡ pen_close t (truncated_end t width tail)
  pub short : length close ≤ longest_link_end + longest_close
  pub after_is : after ≡ (if has_tail t width tail then tail else [])

length-front : (n : ℕ) (x : List ℕ) → length (take n x) ≤ length x
length-front zero x = omega arith
length-front (suc n) [] = omega arith
length-front (suc n) (b ∷ x) = omega (arith, length-front n x)

pub IsCutTo-front : {t a front link ending after : List ℕ} {to : ℕ} {style last : Rendition} (width : ℕ) (tail : List ℕ) → StandsIn t (truncated_end t width tail) to → front ≡ take to t → a ≡ front → style ≡ style_after a → link ≡ link_of (marks a)
    → ending ≡ link_end link → last ≡ style → after ≡ (if has_tail t width tail then tail else []) → IsCutTo t width tail front (ending ++ close last) after
IsCutTo-front {t} {a} {front} {link} {ending} {after} {to} {style} {last} width tail stands is same style_is link_is ending_is last_is tail_is =
    let written : ending ++ close last ≡ link_end link ++ close style = ap₂ (λ l s. l ++ close s) ending_is last_is in
    record {
      front_is = is ∙ take-interleaved stands;
      within = omega (arith, ap length is, length-front to t);
      close_is = written ∙ pen_close-front stands is (style_is ∙ ap style_after same) (link_is ∙ ap (λ u. link_of (marks u)) same);
      short = omega (arith, ap length written, length-closing link style);
      after_is = tail_is;
    }

-- the ending that the code writes is the close of the pen
pub ending-closing : {t a link ending : List ℕ} {style last : Rendition} → a ≡ t → style ≡ style_after a → link ≡ link_of (marks a) → ending ≡ link_end link → last ≡ style → ending ++ close last ≡ closing t
ending-closing {t} {a} is style_is link_is ending_is last_is = ap₂ (λ l s. l ++ close s) ending_is last_is ∙ pen_at_end a style_is link_is ∙ ap closing is

pub length-ended : {u : List ℕ} (t : List ℕ) → u ≡ closing t → length u ≤ longest_link_end + longest_close
length-ended t is = omega (arith, ap length is, length-closing (link_at t (length (plain t))) (style_at t (length (plain t))))

pub cut-ending : {t tail front close after : List ℕ} {width : ℕ} → IsCutTo t width tail front close after → close ++ after ≡ truncated_ending t width tail
cut-ending cut = ap₂ (λ u v. u ++ v) cut.close_is cut.after_is

pub cut-bytes : {t tail front close after : List ℕ} {width : ℕ} → IsCutTo t width tail front close after → (front ++ close) ++ after ≡ truncated t width tail
unfolding truncated
cut-bytes {front = front} {close = close} {after = after} cut = append_assoc front close after ∙ ap₂ (λ u v. u ++ v) cut.front_is (cut-ending cut)

pub cut-length : {t tail front close after : List ℕ} {width : ℕ} → IsCutTo t width tail front close after → length ((front ++ close) ++ after) ≤ length t + length tail + longest_link_end + longest_close
cut-length {t} {tail} {front} {close} {after} {width} cut =
    omega (arith, cut.within, cut.short, ap length cut.after_is, length-either (has_tail t width tail) tail, length-append (front ++ close) after, length-append front close)

-- A text between blanks, and a padded one.

pub before-within : (alignment : Alignment) (n : ℕ) → before_text alignment n ≤ n
before-within Left n = omega arith
before-within Right n = omega arith
before-within Center n = omega arith

pub length-between : (n : ℕ) (alignment : Alignment) (x : List ℕ) → length (between_blanks n alignment x) ≡ length x + n
length-between n alignment x =
    let before = before_text alignment n in
    omega (
      arith,
      before-within alignment n,
      length-append (blanks before ++ x) (blanks (n - before)),
      length-append (blanks before) x,
      length-replicate before (byte " "),
      length-replicate (n - before) (byte " "),
    )

-- no blanks are nothing
pub between-none : (alignment : Alignment) (x : List ℕ) → between_blanks 0 alignment x ≡ x
between-none Left x = append-nil x
between-none Right x = append-nil x
between-none Center x = append-nil x

-- it is a padded one, if it ends with what closes its pen and the blanks are as many as it lacks
pub padded-between : {u : List ℕ} {n : ℕ} (t : List ℕ) (width : ℕ) (alignment : Alignment) → u ≡ t ++ closing t → n ≡ missing t width → between_blanks n alignment u ≡ padded t width alignment
unfolding padded
padded-between t width alignment is lack = ap₂ (λ n u. between_blanks n alignment u) lack is

pub length-padded : (t : List ℕ) (width : ℕ) (alignment : Alignment) → length (padded t width alignment) ≤ length t + missing t width + longest_link_end + longest_close
length-padded t width alignment =
    omega (arith, ap length (padded-between t width alignment refl refl), length-between (missing t width) alignment (t ++ closing t), length-append t (closing t), length-ended t refl)
