-- The link after pieces, one at a time, with the style there; and the address that a search finds.
use Rattle.std.proofs.Common.{◌≡◌, ◌≢◌, ℕ, ◌+◌, ◌-◌, ◌==◌, Bool, true, false, not, ◌&&◌, List, [], ◌∷◌, ◌++◌, map, filter, reverse, length, take, drop, get_or, slice_range, slice_get, nat_eq, nat_lt, codes, Option, Some, None, is_some, unwrap_or, if◌then◌else◌, refl, sym, ◌∙◌, ap, ap₂, subst, arith, rules}
use Rattle.std.specs.List.{prefix_len, starts_with}
use Rattle.std.specs.Option.{option_map_or}
use Rattle.std.specs.Prelude.{fold}
use Rattle.std.proofs.lemmas.Bool.{and_parts, and_left, and_right, eqb-true, lt-ltb, le-ltb, false_from_ne_true}
use Rattle.std.proofs.lemmas.Bool.Decides.{nat_tests}
use Rattle.std.proofs.lemmas.List.{take_all, length-drop, reverse-append}
use Rattle.std.proofs.lemmas.List.Sums.{prefix_len_is}
use denote.Enum.Bare.{same_true, sameb}
use Rattle.memchr.specs.Find.{IsFirstByte, is_byte}
use Rattle.ansi_items.specs.contracts.ansitok.Kind.{the_type}
use Rattle.ansi_items.specs.declared.ansitok.Item.{Item}
use Rattle.ansi_items.specs.declared.ansitok.Kind.{Kind}
use Rattle.ansi_items.specs.declared.ansitok.Kind.TheVariants.{Text as TextKind, Sgr, Other, Lone}
use Rattle.ansi_items.specs.Sequences.{is_sgr}
use Rattle.ansi_items.specs.Pieces.{Piece, Text, spelling, pieces_of}
use Rattle.ansi_items.specs.Plain.{Mark, marks_of, marks}
use Rattle.ansi_items.specs.Scans.{Scan, GivesItem, pieces_left, piece_of_kind}
use Rattle.ansi_items.proofs.StepLemmas.{BeginsWithMark, is_mark}
use Rattle.ansi_style.specs.declared.state.rendition.Rendition.{Rendition}
use Rattle.ansi_style.specs.Sgr.{apply}
use Rattle.ansi_style.specs.Reading.{style_after_from}
use Rattle.ansi_style.proofs.ReadBackLemmas.{code_pieces}
use Rattle.ansi_style.proofs.SgrLemmas.{apply-no_sgr}
use Rattle.ansi_style.proofs.StyledLemmas.{style_through, style_after_from-pieces}
use Rattle.ansi_style.proofs.ThroughLemmas.{state_through, state_after-marks_of}
use Rattle.ansi_safe.specs.Links.{fields_of, address_of, is_link, opens_link, link_of, link_after, link_after_all}

-- The address of a link sequence, by the place of its second semicolon.

abbrev pub has_no_semicolon : ℕ → Bool
has_no_semicolon b = not (b == 59)

-- in the fields of a sequence, if it begins like a link sequence
abbrev address_in : Bool → List ℕ → Option (List ℕ)
address_in begins fields =
    let parameters = prefix_len has_no_semicolon fields in
    if begins && nat_lt parameters (length fields) then Some (drop (parameters + 1) fields) else None

no_semicolon : (b : ℕ) → is_byte 59 b ≡ false → has_no_semicolon b ≡ true
no_semicolon b h = grind (arith, nat_tests)

semicolon_stops : (b : ℕ) → is_byte 59 b ≡ true → has_no_semicolon b ≡ false
semicolon_stops b h = grind (arith, nat_tests)

pub parameters-found : (fields : List ℕ) (n : ℕ) → IsFirstByte (is_byte 59) fields (Some n) → prefix_len has_no_semicolon fields ≡ n
parameters-found fields n first =
    prefix_len_is has_no_semicolon fields n 0 (omega (arith, first.0.high))
    (λ j below. no_semicolon (get_or fields j 0) (false_from_ne_true _ (first.0.before j (omega arith) below)))
    (λ inside. semicolon_stops (get_or fields n 0) first.1)

pub address-found : (w fields : List ℕ) (n : ℕ) → starts_with nat_eq w (codes "\u{1b}]8;") ≡ true → fields ≡ fields_of w → IsFirstByte (is_byte 59) fields (Some n)
    → Some (take (length fields - (n + 1)) (drop (n + 1) fields)) ≡ address_of w
address-found w fields n begins is first =
    let parameters = parameters-found fields n first in
    ap Some (take_all (length fields - (n + 1)) (drop (n + 1) fields) (omega (arith, length-drop (n + 1) fields)))
    ∙ sym (
    ap₂ address_in begins (sym is)
    ∙ ap (λ k. if nat_lt k (length fields) then Some (drop (k + 1) fields) else None) parameters
    ∙ ap (λ b. if b then Some (drop (n + 1) fields) else None) (lt-ltb n (length fields) first.0.high))

pub address-none : (w fields : List ℕ) → starts_with nat_eq w (codes "\u{1b}]8;") ≡ true → fields ≡ fields_of w → IsFirstByte (is_byte 59) fields None → None ≡ address_of w
address-none w fields begins is none =
    let parameters : prefix_len has_no_semicolon fields ≡ length fields
    = prefix_len_is has_no_semicolon fields (length fields) 0 (omega arith)
    (λ j below. no_semicolon (get_or fields j 0) (false_from_ne_true _ (none j (omega arith) below)))
    (λ inside. absurd (omega arith)) in
    sym (
    ap₂ address_in begins (sym is)
    ∙ ap (λ k. if nat_lt k (length fields) then Some (drop (k + 1) fields) else None) parameters
    ∙ ap (λ b. if b then Some (drop (length fields + 1) fields) else None) (le-ltb (length fields) (length fields) (omega arith)))

-- An SGR is no link sequence.

is_some_test : {X : Type 0} (b : Bool) (x : X) → is_some (if b then Some x else None) ≡ b
is_some_test true x = refl
is_some_test false x = refl

is_link-unless : (w : List ℕ) → starts_with nat_eq w (codes "\u{1b}]8;") ≡ false → is_link w ≡ false
is_link-unless w other = ap (λ b. is_some (address_in b (fields_of w))) other

other_opener : (a b : ℕ) (rest : Bool) → (nat_eq 27 a && (nat_eq 91 b && true)) ≡ true → (nat_eq 27 a && (nat_eq 93 b && rest)) ≡ false
other_opener a b rest h =
    let bracket : 91 ≡ b = eqb-true 91 b (and_parts _ _ (and_parts _ _ h).1).0 in
    and_right _ _ (and_left _ _ (subst (λ k. nat_eq 93 k ≡ false) bracket refl))

pub is_link-sgr : (w : List ℕ) → is_sgr w ≡ true → is_link w ≡ false
is_link-sgr [] is = refl
is_link-sgr (a ∷ []) is = is_link-unless (a ∷ []) (and_right _ _ refl)
is_link-sgr (a ∷ b ∷ w) is =
    let tests = sym (is_some_test _ _) ∙ is in
    is_link-unless (a ∷ b ∷ w) (other_opener a b _ (and_parts _ _ (and_parts _ _ (and_parts _ _ tests).0).0).0)

-- The link after pieces, if `link` is open before them.

abbrev pub link_through : List ℕ → List Piece → List ℕ
link_through link ps = state_through link_after link ps

abbrev bytes_of_all : List Mark → List (List ℕ)
bytes_of_all ms = map (λ (m : Mark). m.bytes) ms

through-marks : (link : List ℕ) (ps : List Piece) → fold link_after link (bytes_of_all (marks_of ps)) ≡ link_through link ps
through-marks = state_after-marks_of link_after

-- a link sequence that opens a link
abbrev link_opened_by : List ℕ → List ℕ
link_opened_by w = if opens_link w then w else []

abbrev first_opened : List (List ℕ) → List ℕ → List ℕ
first_opened ws link = option_map_or link_opened_by (slice_get ws 0) link

first_opened-push : (ws : List (List ℕ)) (w link : List ℕ) → first_opened (ws ++ w ∷ []) link ≡ first_opened ws (link_opened_by w)
first_opened-push [] w link = refl
first_opened-push (v ∷ ws) w link = refl

link_after-last : (link : List ℕ) (ws : List (List ℕ)) → fold link_after link ws ≡ first_opened (reverse (filter is_link ws)) link
link_after-last link [] = refl
link_after-last link (w ∷ ws) = link_after-last (link_after link w) ws ∙ either (is_link w)
  where
    either : (b : Bool) → first_opened (reverse (filter is_link ws)) (if b then link_opened_by w else link) ≡ first_opened (reverse (if b then w ∷ filter is_link ws else filter is_link ws)) link
    either true = sym (ap (λ vs. first_opened vs link) (reverse-append (w ∷ []) (filter is_link ws)) ∙ first_opened-push (reverse (filter is_link ws)) w link)
    either false = refl

link_of-last : (o : Option (List ℕ)) → link_opened_by (unwrap_or o []) ≡ option_map_or link_opened_by o []
link_of-last None = refl
link_of-last (Some w) = refl

-- if no link is open before them
pub link_after_all-none : (ms : List Mark) → link_after_all [] ms ≡ link_of ms
link_after_all-none ms = link_after-last [] (bytes_of_all ms) ∙ sym (link_of-last (slice_get (reverse (filter is_link (bytes_of_all ms))) 0))

pub link_of-fold : (ms : List Mark) → link_of ms ≡ fold link_after [] (map (λ (m : Mark). m.bytes) ms)
link_of-fold ms = link_of-last (slice_get (reverse (filter is_link (bytes_of_all ms))) 0) ∙ sym (link_after-last [] (bytes_of_all ms))

pub link_of-pieces : (ps : List Piece) → link_of (marks_of ps) ≡ link_through [] ps
link_of-pieces ps = link_of-fold (marks_of ps) ∙ through-marks [] ps

-- codes leave a link as it is
pub link_through-codes : (link : List ℕ) (xs : List (List ℕ)) → link_through link (code_pieces xs) ≡ link
link_through-codes link [] = refl
link_through-codes link (x ∷ xs) = link_through-codes link xs

-- The state of a walk over t with a style and a link open before it: after the pieces that are left, the same style and link are open as after t.
pub record IsOpenSoFar (t : List ℕ) (before : Rendition) (open_before : List ℕ) (style : Rendition) (link : List ℕ) (left : List Piece) : Type 0 where
  pub styled : style_through style left ≡ style_after_from before t
  pub linked : link_through link left ≡ link_after_all open_before (marks t)

pub open-begin : (t : List ℕ) (before : Rendition) (open_before : List ℕ) → IsOpenSoFar t before open_before before open_before (pieces_of t)
open-begin t before open_before = record { styled = sym (style_after_from-pieces before t); linked = sym (through-marks open_before (pieces_of t)) }

style_and_link_through-mark : (style : Rendition) (link : List ℕ) (p : Piece) (ps : List Piece) → is_mark p ≡ true
    → (style_through style (p ∷ ps) ≡ style_through (apply style (spelling p)) ps) × (link_through link (p ∷ ps) ≡ link_through (link_after link (spelling p)) ps)
style_and_link_through-mark style link (Text w) ps is = absurd (cc is)
style_and_link_through-mark style link p ps is = (refl, refl)

open-mark : {t w open_before : List ℕ} {before style : Rendition} {link : List ℕ} {kind : Kind} {old ps : List Piece} → IsOpenSoFar t before open_before style link old → BeginsWithMark kind w old ps → IsOpenSoFar t before open_before (apply style w) (link_after link w) ps
open-mark {t} {w} {open_before} {before} {style} {link} {kind} {old} {ps} so_far mark =
    let here = subst (IsOpenSoFar t before open_before style link) mark.pieces so_far in
    let through = style_and_link_through-mark style link mark.mark ps mark.is_mark in
    subst (λ v. IsOpenSoFar t before open_before (apply style v) (link_after link v) ps) mark.bytes (record { styled = sym through.0 ∙ here.styled; linked = sym through.1 ∙ here.linked })

-- over an SGR
pub open-sgr : {t w open_before : List ℕ} {before style next : Rendition} {link : List ℕ} {kind : Kind} {old ps : List Piece} → IsOpenSoFar t before open_before style link old → BeginsWithMark kind w old ps → kind ≡ Sgr → next ≡ apply style w → IsOpenSoFar t before open_before next link ps
open-sgr {t} {w} {open_before} {before} {style} {next} {link} {ps = ps} so_far mark kind next_is =
    let none : link_after link w ≡ link = ap (λ b. if b then link_opened_by w else link) (is_link-sgr w (mark.sgr kind)) in
    subst (λ l. IsOpenSoFar t before open_before next l ps) none (subst (λ s. IsOpenSoFar t before open_before s (link_after link w) ps) (sym next_is) (open-mark so_far mark))

-- over another sequence
pub open-other : {t w open_before : List ℕ} {before style : Rendition} {link next : List ℕ} {kind : Kind} {old ps : List Piece} → IsOpenSoFar t before open_before style link old → BeginsWithMark kind w old ps → kind ≢ Sgr → next ≡ link_after link w → IsOpenSoFar t before open_before style next ps
open-other {t} {w} {open_before} {before} {style} {link} {next} {ps = ps} so_far mark kind next_is =
    subst (λ l. IsOpenSoFar t before open_before style l ps) (sym next_is) (subst (λ s. IsOpenSoFar t before open_before s (link_after link w) ps) (apply-no_sgr style w (mark.no_sgr kind)) (open-mark so_far mark))

-- over a text, or a lone escape
pub open-rest : {t open_before : List ℕ} {before style : Rendition} {link : List ℕ} {old new : Scan} {item : Item} → IsOpenSoFar t before open_before style link (pieces_left old) → GivesItem old item new → item.kind ≢ Sgr → item.kind ≢ Other
    → IsOpenSoFar t before open_before style link (pieces_left new)
open-rest {t} {open_before} {before} {style} {link} {old} {new} {item} so_far gives no_sgr no_other =
    by_kind item.kind (slice_range old.text item.start item.end) no_sgr no_other (subst (IsOpenSoFar t before open_before style link) gives.piece so_far)
  where
    by_kind : (k : Kind) (w : List ℕ) → k ≢ Sgr → k ≢ Other → IsOpenSoFar t before open_before style link (piece_of_kind k w ∷ pieces_left new) → IsOpenSoFar t before open_before style link (pieces_left new)
    by_kind TextKind w no_sgr no_other here = record { styled = here.styled; linked = here.linked }
    by_kind Sgr w no_sgr no_other here = absurd (no_sgr refl)
    by_kind Other w no_sgr no_other here = absurd (no_other refl)
    by_kind Lone w no_sgr no_other here = record { styled = here.styled; linked = here.linked }

pub open-end : {t open_before : List ℕ} {before style : Rendition} {link : List ℕ} {old : List Piece} → IsOpenSoFar t before open_before style link old → old ≡ [] → (style ≡ style_after_from before t) × (link ≡ link_after_all open_before (marks t))
open-end {t} {open_before} {before} {style} {link} so_far none = (let here = subst (IsOpenSoFar t before open_before style link) none so_far in (here.styled, here.linked))

-- by the test that the code makes
pub is_kind : (kind : Kind) {k : Kind} → true ≡ sameb the_type k kind → k ≡ kind
is_kind kind same = same_true the_type (search rules) _ _ (sym same)
