-- The link at a place, one piece at a time, and the place of its address inside it.
use Rattle.std.proofs.Common.{◌≡◌, ℕ, ◌+◌, ◌-◌, ◌<◌, ◌≤◌, ◌⊎◌, inl, inr, Bool, true, false, List, [], ◌∷◌, ◌++◌, map, length, nat_lt, filter, reverse, slice_get, unwrap_or, IsNone, ◌↔◌, Option, Some, None, if◌then◌else◌, refl, sym, ◌∙◌, ap, subst, arith, length-append}
use Rattle.std.specs.Option.{option_map}
use Rattle.std.specs.Str.{IsUtf8}
use Rattle.std.proofs.lemmas.Bool.{ltb-false, lt-ltb, le-ltb}
use Rattle.std.proofs.lemmas.Bool.Decides.{nat_tests}
use Rattle.ansi_items.specs.Sequences.{IsSequence}
use Rattle.ansi_items.specs.Pieces.{Piece, Text, pieces_of}
use Rattle.ansi_items.specs.Plain.{Mark, marks, plain_of, plain, marks_up_to}
use Rattle.ansi_items.specs.declared.ansitok.Kind.{Kind}
use Rattle.ansi_items.proofs.StepLemmas.{BeginsWithMark, plain_of-mark}
use Rattle.ansi_style.proofs.MarkLemmas.{state_by_marks, state_by_marks-before, state_by_marks-text, state_by_marks-mark}
use Rattle.ansi_cells.specs.Addresses.{address_at}
use Rattle.ansi_safe.specs.Links.{address_of, is_link, opens_link, link_of, link_after, link_at}
use Rattle.ansi_safe.proofs.LinkLemmas.{link_of-fold}
use Rattle.ansi_safe.proofs.AddressLemmas.{IsAddressAt, address-stands as in_sequence}

-- ---- the link at a place of pieces, if `link` is open before them

abbrev pub link_by_marks : List ℕ → List Piece → ℕ → List ℕ
link_by_marks link ps i = state_by_marks link_after link ps i

marks_past-text : (link w : List ℕ) (ps : List Piece) (i : ℕ) → length w ≤ i → link_by_marks link (Text w ∷ ps) i ≡ link_by_marks link ps (i - length w)
marks_past-text link w ps i within =
    let all : i ≡ length w + (i - length w) = omega arith in
    ap (link_by_marks link (Text w ∷ ps)) all ∙ state_by_marks-text link_after link w ps (i - length w)

-- a link is a whole sequence, or none is open
abbrev pub IsNoneOrSequence : List ℕ → Type 0
IsNoneOrSequence link = (link ≡ []) ⊎ IsSequence link

still-sequence : (link w : List ℕ) → IsNoneOrSequence link → IsSequence w → IsNoneOrSequence (link_after link w)
still-sequence link w before is = either (is_link w) (opens_link w)
  where
    either : (b c : Bool) → IsNoneOrSequence (if b then (if c then w else []) else link)
    either true true = inr is
    either true false = inl refl
    either false c = before

-- The state of a walk to the plain byte n: the link so far, and the place of the byte in what is left.
pub record IsAddressWalk (t : List ℕ) (n : ℕ) (link : List ℕ) (left : ℕ) (ps : List Piece) : Type 0 where
  pub within : nat_lt left (length (plain_of ps)) ≡ nat_lt n (length (plain t))
  pub linked : link_by_marks link ps left ≡ link_at t n
  pub sequence : IsNoneOrSequence link

pub address_walk-begin : (t : List ℕ) (n : ℕ) → IsAddressWalk t n [] n (pieces_of t)
address_walk-begin t n = record { within = refl; linked = sym (link_of-fold (marks_up_to n (marks t))); sequence = inl refl }

lt-past : (n k m : ℕ) → k ≤ n → nat_lt n (k + m) ≡ nat_lt (n - k) m
lt-past n k m le = grind (arith, nat_tests)

-- past a text
pub address_walk-text : {t link w : List ℕ} {n left next : ℕ} {old ps : List Piece} → IsAddressWalk t n link left old → old ≡ Text w ∷ ps → length w ≤ left → next ≡ left - length w → IsAddressWalk t n link next ps
address_walk-text {t} {link} {w} {n} {left} {next} {old} {ps} way first within next_is =
    let here = subst (IsAddressWalk t n link left) first way in
    rw next_is (record {
      within = sym (ap (nat_lt left) (length-append w (plain_of ps)) ∙ lt-past left (length w) (length (plain_of ps)) within) ∙ here.within;
      linked = sym (marks_past-text link w ps left within) ∙ here.linked;
      sequence = here.sequence;
    })

-- past a sequence that may open a link or end one
pub address_walk-other : {t link w next : List ℕ} {n left : ℕ} {kind : Kind} {old ps : List Piece} → IsAddressWalk t n link left old → BeginsWithMark kind w old ps → IsSequence w → next ≡ link_after link w → IsAddressWalk t n next left ps
address_walk-other {t} {link} {w} {next} {n} {left} {kind} {old} {ps} way mark is next_is =
    let here = subst (IsAddressWalk t n link left) mark.pieces way in
    rw next_is (record {
      within = ap (λ x. nat_lt left (length x)) (sym (plain_of-mark mark.mark ps mark.is_mark)) ∙ here.within;
      linked = ap (λ v. link_by_marks (link_after link v) ps left) (sym mark.bytes) ∙ sym (state_by_marks-mark link_after link mark.mark ps left mark.is_mark) ∙ here.linked;
      sequence = still-sequence link w here.sequence is;
    })

-- past a mark that does neither
pub address_walk-rest : {t link w : List ℕ} {n left : ℕ} {kind : Kind} {old ps : List Piece} → IsAddressWalk t n link left old → BeginsWithMark kind w old ps → is_link w ≡ false → IsAddressWalk t n link left ps
address_walk-rest {t} {link} {w} {n} {left} {kind} {old} {ps} way mark other =
    let here = subst (IsAddressWalk t n link left) mark.pieces way in
    let same : link_after link w ≡ link = ap (λ b. if b then (if opens_link w then w else []) else link) other in
    record {
      within = ap (λ x. nat_lt left (length x)) (sym (plain_of-mark mark.mark ps mark.is_mark)) ∙ here.within;
      linked = ap (λ v. link_by_marks v ps left) (sym same) ∙ ap (λ v. link_by_marks (link_after link v) ps left) (sym mark.bytes) ∙ sym (state_by_marks-mark link_after link mark.mark ps left mark.is_mark) ∙ here.linked;
      sequence = here.sequence;
    }

-- the byte is in the next text
pub address_walk-last : {t link w : List ℕ} {n left : ℕ} {old ps : List Piece} → IsAddressWalk t n link left old → old ≡ Text w ∷ ps → left < length w → address_of link ≡ address_at t n
address_walk-last {t} {link} {w} {n} {left} {old} {ps} way first last =
    let here = subst (IsAddressWalk t n link left) first way in
    let inside : nat_lt n (length (plain t)) ≡ true = sym here.within ∙ lt-ltb left (length (w ++ plain_of ps)) (omega (arith, last, length-append w (plain_of ps))) in
    ap address_of (sym (state_by_marks-before link_after link w ps left last) ∙ here.linked) ∙ sym (ap (λ b. if b then address_of (link_at t n) else None) inside)

-- or there is none
pub address_walk-end : {t link : List ℕ} {n left : ℕ} {old : List Piece} → IsAddressWalk t n link left old → old ≡ [] → None ≡ address_at t n
address_walk-end {t} {link} {n} {left} way none =
    let here = subst (IsAddressWalk t n link left) none way in
    let past : nat_lt n (length (plain t)) ≡ false = sym here.within ∙ le-ltb left 0 (omega arith) in
    sym (ap (λ b. if b then address_of (link_at t n) else None) past)

-- a link that is open has an address

opened-address : (w : List ℕ) (b : Bool) → opens_link w ≡ b → address_of (if b then w else []) ≡ None → (if b then w else []) ≡ []
opened-address w true opens none = absurd (let no : false ≡ true = sym (ap (λ o. nat_lt 0 (length (unwrap_or o []))) none) ∙ opens in cc no)
opened-address w false opens none = refl

link_of-address : (ms : List Mark) → address_of (link_of ms) ≡ None → link_of ms ≡ []
link_of-address ms none = (let last = unwrap_or (slice_get (reverse (filter is_link (map (λ (m : Mark). m.bytes) ms))) 0) [] in opened-address last (opens_link last) refl none)

-- so there is no address exactly past the end, and if no link is open
pub none-exactly : {X : Type 0} (o : Option X) (f : X → List ℕ) (t : List ℕ) (n : ℕ) → option_map f o ≡ address_at t n → IsNone o ↔ ((length (plain t) ≤ n) ⊎ (link_at t n ≡ []))
none-exactly None f t n is = (λ _. place (nat_lt n (length (plain t))) refl is, λ _. refl)
  where
    place : (b : Bool) → nat_lt n (length (plain t)) ≡ b → None ≡ (if b then address_of (link_at t n) else None) → (length (plain t) ≤ n) ⊎ (link_at t n ≡ [])
    place true inside none = inr (link_of-address (marks_up_to n (marks t)) (sym none))
    place false past none = inl (ltb-false n (length (plain t)) past)
none-exactly (Some x) f t n is = (λ no. absurd (cc no), λ why. absurd (some_or why))
  where
    some_or : (length (plain t) ≤ n) ⊎ (link_at t n ≡ []) → ⊥
    some_or (inl past) = (let no : Some (f x) ≡ None = is ∙ ap (λ b. if b then address_of (link_at t n) else None) (le-ltb n (length (plain t)) past) in cc no)
    some_or (inr none) = (let no : Some (f x) ≡ None = is ∙ ap (λ w. if nat_lt n (length (plain t)) then address_of w else None) none ∙ either (nat_lt n (length (plain t))) in cc no)
      where
        either : (b : Bool) → (if b then address_of [] else None) ≡ None
        either true = refl
        either false = refl

-- the address of a link that is open is between two boundaries of it
pub address-stands : (w a : List ℕ) → IsUtf8 w → IsNoneOrSequence w → Some a ≡ address_of w → IsAddressAt w a
address-stands w a utf8 (inl none) is = absurd (let no : Some a ≡ None = is ∙ ap address_of none in cc)
address-stands w a utf8 (inr sequence) is = in_sequence w a utf8 sequence is
