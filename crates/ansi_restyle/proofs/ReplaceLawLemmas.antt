-- What the headlines of a removal and of a replacement say together.
use Rattle.std.proofs.Common.{◌≡◌, ◌∷◌, ℕ, ◌+◌, ◌-◌, ◌<◌, ◌≤◌, List, [], ◌++◌, length, take, drop, sym, ◌∙◌, ap, ap₂, arith, append-nil, append_assoc, length-append, slice_range, get_or}
use Rattle.std.proofs.lemmas.List.{take-append-drop, drop-drop, length-take-le, get_or-take, get_or_append_left}
use Rattle.std.proofs.lemmas.List.FromFn.{get_or-map-range_with_len}
use Rattle.ansi_items.specs.Plain.{plain}
use Rattle.ansi_style.specs.Rendition.{plain_style, known}
use Rattle.ansi_style.specs.Reading.{styled_from}
use Rattle.ansi_style.specs.Styled.{StyledByte, styled, style_at}
use Rattle.ansi_safe.specs.Links.{link_at}
use Rattle.ansi_style.proofs.SpelledLemmas.{styled_from-alike}
use Rattle.ansi_restyle.specs.Linked.{links_in, links_from}
use Rattle.ansi_restyle.specs.Removed.{IsRemoved}
use Rattle.ansi_restyle.specs.Replaced.{IsReplaced}
use Rattle.ansi_restyle.specs.ReplacedEach.{IsReplacedEach}
use Rattle.ansi_restyle.proofs.FrontLemmas.{length-styled_from}
use Rattle.ansi_restyle.proofs.PlaceLemmas.{take_seam, drop_seam}

-- a list is its front, a slice and the rest
three_parts : (a b : ℕ) (bs : List StyledByte) → a ≤ b → take a bs ++ slice_range bs a b ++ drop b bs ≡ bs
three_parts a b bs ordered =
    let sum : a + (b - a) ≡ b = omega arith in
    let rest : slice_range bs a b ++ drop b bs ≡ drop a bs = ap (λ v. slice_range bs a b ++ v) (sym (drop-drop (b - a) a bs ∙ ap (λ k. drop k bs) sum)) ∙ take-append-drop (b - a) (drop a bs) in
    append_assoc (take a bs) (slice_range bs a b) (drop b bs) ∙ ap (λ v. take a bs ++ v) rest ∙ take-append-drop a bs

pub replaced-alike : (t w u : List ℕ) (a b : ℕ) → a ≤ b → IsReplaced t a b w u → styled_from (style_at t (a - 1)) w ≡ slice_range (styled t) a b → styled u ≡ styled t
replaced-alike t w u a b ordered is alike = is.styled_bytes ∙ ap (λ v. take a (styled t) ++ v ++ drop b (styled t)) alike ∙ three_parts a b (styled t) ordered

pub replaced-empty : (t u v : List ℕ) (a b : ℕ) → IsReplaced t a b [] u → IsRemoved t a b v → styled u ≡ styled v
replaced-empty t u v a b is removed = is.styled_bytes ∙ ap (λ x. x ++ drop b (styled t)) (append-nil (take a (styled t))) ∙ sym removed.styled_bytes

pub plain-replaced-empty : (t u v : List ℕ) (a b : ℕ) → IsReplaced t a b [] u → IsRemoved t a b v → plain u ≡ plain v
plain-replaced-empty t u v a b is removed = is.plain_text ∙ ap (λ x. x ++ drop b (plain t)) (append-nil (take a (plain t))) ∙ sym removed.plain_text

-- the known style of a plain byte is that of its styled byte
none : StyledByte
none = record { byte = 0; style = plain_style }

style_there : (t : List ℕ) (i : ℕ) → i < length (plain t) → (get_or (styled t) i none).style ≡ known (style_at t i)
style_there t i within = ap (λ (b : StyledByte). b.style) (get_or-map-range_with_len _ 0 (length (plain t)) i i none within (omega arith))

pub inserted-removed : (t w u v x : List ℕ) (a b : ℕ) → 0 < a → a ≤ length (plain t) → IsRemoved t a b u → IsReplaced u a a w v → IsReplaced t a b w x → styled v ≡ styled x
inserted-removed t w u v x a b some within removed inserted replaced =
    let s = styled t in
    let i = a - 1 in
    let size : length (take a s) ≡ a = length-take-le a s (omega (arith, length-styled_from plain_style t, within)) in
    let is = removed.styled_bytes in
    let all_u : length (styled u) ≡ length (plain u) = length-styled_from plain_style u in
    let inside : i < length (plain u) = omega (arith, all_u, ap length is, length-append (take a s) (drop b s), size, some) in
    let before : known (style_at u i) ≡ known (style_at t i)
    = sym (style_there u i inside)
    ∙ ap (λ (b : StyledByte). b.style) (ap (λ bs. get_or bs i none) is ∙ get_or_append_left (take a s) (drop b s) none i (omega (arith, size, some)) ∙ get_or-take a s i none (omega (arith, some)))
    ∙ style_there t i (omega (arith, within, some)) in
    inserted.styled_bytes
    ∙ ap₂ (λ y z. y ++ z)
    (ap₂ (λ y z. y ++ z) (ap (take a) is ∙ take_seam a (take a s) (drop b s) size) (styled_from-alike (style_at u i) (style_at t i) w before))
    (ap (drop a) is ∙ drop_seam a (take a s) (drop b s) size)
    ∙ sym replaced.styled_bytes

-- the elements before a position are a slice from the first one on
from_front : {A : Type 0} (a : ℕ) (xs : List A) → slice_range xs 0 a ≡ take a xs
from_front a xs = (let same : a - 0 ≡ a = omega arith in ap (λ k. take k xs) same)

pub one_replaced : (t w u v : List ℕ) (a b : ℕ) → IsReplacedEach t (record { range = (a, b); text = w } ∷ []) u → IsReplaced t a b w v → styled u ≡ styled v
one_replaced t w u v a b each alone = each.styled_bytes ∙ ap (λ x. x ++ styled_from (style_at t (a - 1)) w ++ drop b (styled t)) (from_front a (styled t)) ∙ sym alone.styled_bytes

pub plain-one_replaced : (t w u v : List ℕ) (a b : ℕ) → IsReplacedEach t (record { range = (a, b); text = w } ∷ []) u → IsReplaced t a b w v → plain u ≡ plain v
plain-one_replaced t w u v a b each alone = each.plain_text ∙ ap (λ x. x ++ plain w ++ drop b (plain t)) (from_front a (plain t)) ∙ sym alone.plain_text

pub links-one_replaced : (t w u v : List ℕ) (a b : ℕ) → IsReplacedEach t (record { range = (a, b); text = w } ∷ []) u → IsReplaced t a b w v → links_in u ≡ links_in v
links-one_replaced t w u v a b each alone = each.links ∙ ap (λ x. x ++ links_from (link_at t (a - 1)) w ++ drop b (links_in t)) (from_front a (links_in t)) ∙ sym alone.links
