-- The links that pieces make, one piece at a time.
use Rattle.std.proofs.Common.{◌≡◌, ℕ, ◌+◌, ◌<◌, ◌^◌, Bool, true, false, ◌&&◌, Some, None, List, [], ◌∷◌, ◌++◌, length, map, filter, nat_lt, unwrap_or, is_some, refl, sym, ◌∙◌, ap, ap₂, subst, arith, if◌then◌else◌, length-append}
use Rattle.ansi_items.specs.Pieces.{Piece, Text, spelling, pieces_of}
use Rattle.ansi_items.specs.Plain.{Mark, plain_of, plain, marks_of}
use Rattle.ansi_items.specs.declared.ansitok.Kind.{Kind}
use Rattle.ansi_items.proofs.StepLemmas.{BeginsWithMark, is_mark, plain_of-mark}
use Rattle.ansi_style.proofs.MarkLemmas.{mark_further_on, marks_of-text, marks_of-mark, map-further-0}
use Rattle.ansi_safe.specs.Links.{address_of, is_link}
use Rattle.ansi_restyle.specs.Links.{LinkedRange, link_between, links_from, link_marks, links}
use Rattle.ansi_restyle.proofs.StayLemmas.{further_twice}

abbrev pub address_or : List ℕ → List ℕ
address_or w = unwrap_or (address_of w) []

-- the links of pieces after n plain bytes, if a link with this address is open before them from a on
abbrev pub links_through : ℕ → ℕ → List ℕ → List Piece → List LinkedRange
links_through n a address [] = link_between a n address
links_through n a address (Text w ∷ ps) = links_through (n + length w) a address ps
links_through n a address (p ∷ ps) =
    if is_link (spelling p) then link_between a n address ++ links_through n n (address_or (spelling p)) ps else links_through n a address ps

-- They are those that the marks make.

abbrev link_marks_of : List Mark → List Mark
link_marks_of ms = filter (λ (m : Mark). is_link m.bytes) ms

links-further : (n : ℕ) (ms : List Mark) → link_marks_of (map (mark_further_on n) ms) ≡ map (mark_further_on n) (link_marks_of ms)
links-further n [] = refl
links-further n (m ∷ ms) = by_test (is_link m.bytes) (links-further n ms)
  where
    by_test : (b : Bool) → link_marks_of (map (mark_further_on n) ms) ≡ map (mark_further_on n) (link_marks_of ms)
        → (if b then mark_further_on n m ∷ link_marks_of (map (mark_further_on n) ms) else link_marks_of (map (mark_further_on n) ms)) ≡ map (mark_further_on n) (if b then m ∷ link_marks_of ms else link_marks_of ms)
    by_test true more = ap (λ ks. mark_further_on n m ∷ ks) more
    by_test false more = more

abbrev by_marks : ℕ → ℕ → List ℕ → ℕ → List Mark → List LinkedRange
by_marks n a address size ms = links_from a address (n + size) (map (mark_further_on n) (link_marks_of ms))

by_mark : (n a : ℕ) (address w : List ℕ) (size : ℕ) (ms : List Mark) (ps : List Piece) → ((k : ℕ) (v : List ℕ) → by_marks n k v size ms ≡ links_through n k v ps)
    → by_marks n a address size (record { place = 0; bytes = w } ∷ ms) ≡ (if is_link w then link_between a n address ++ links_through n n (address_or w) ps else links_through n a address ps)
by_mark n a address w size ms ps more = by_test (is_link w)
  where
    by_test : (b : Bool) → links_from a address (n + size) (map (mark_further_on n) (if b then record { place = 0; bytes = w } ∷ link_marks_of ms else link_marks_of ms))
        ≡ (if b then link_between a n address ++ links_through n n (address_or w) ps else links_through n a address ps)
    by_test true =
        let here : n + 0 ≡ n = omega arith in
        ap (λ k. link_between a k address ++ links_from k (address_or w) (n + size) (map (mark_further_on n) (link_marks_of ms))) here
        ∙ ap (λ ls. link_between a n address ++ ls) (more n (address_or w))
    by_test false = more a address

pub links-through : (n a : ℕ) (address : List ℕ) (ps : List Piece) → by_marks n a address (length (plain_of ps)) (marks_of ps) ≡ links_through n a address ps
links-through n a address [] = (let end : n + 0 ≡ n = omega arith in ap (λ k. link_between a k address) end)
links-through n a address (Text w ∷ ps) =
    let end : n + length (w ++ plain_of ps) ≡ n + length w + length (plain_of ps) = omega (arith, length-append w (plain_of ps)) in
    ap₂ (λ k ms. links_from a address k (map (mark_further_on n) ms)) end (ap link_marks_of (marks_of-text w ps) ∙ links-further (length w) (marks_of ps))
    ∙ ap (links_from a address (n + length w + length (plain_of ps))) (further_twice n (length w) (link_marks_of (marks_of ps)))
    ∙ links-through (n + length w) a address ps
links-through n a address (p ∷ ps) =
    ap (by_marks n a address (length (plain_of ps))) (marks_of-mark p ps refl)
    ∙ by_mark n a address (spelling p) (length (plain_of ps)) (marks_of ps) ps (λ k v. links-through n k v ps)

-- those of what is left, t
abbrev pub links_left : ℕ → ℕ → List ℕ → List ℕ → List LinkedRange
links_left n a address t = links_from a address (n + length (plain t)) (map (mark_further_on n) (link_marks t))

pub left-through : (n a : ℕ) (address t : List ℕ) → links_left n a address t ≡ links_through n a address (pieces_of t)
left-through n a address t = links-through n a address (pieces_of t)

pub left-all : (t : List ℕ) → links_left 0 0 [] t ≡ links t
left-all t = (let end : 0 + length (plain t) ≡ length (plain t) = omega arith in ap₂ (links_from 0 []) end (map-further-0 (link_marks t)))

-- The state of a walk: these links are left, and the positions fit.
pub record IsLinkWalk (all : List LinkedRange) (n a : ℕ) (address : List ℕ) (ps : List Piece) : Type 0 where
  pub left : links_through n a address ps ≡ all
  pub fits : n + length (plain_of ps) < 2 ^ 64

pub link_walk-begin : (n a : ℕ) (address t : List ℕ) → n + length (plain t) < 2 ^ 64 → IsLinkWalk (links_left n a address t) n a address (pieces_of t)
link_walk-begin n a address t fits = record { left = sym (left-through n a address t); fits = fits }

-- past a text
pub link_walk-text : {all : List LinkedRange} {n a : ℕ} {address w : List ℕ} {old ps : List Piece} → IsLinkWalk all n a address old → old ≡ Text w ∷ ps → IsLinkWalk all (n + length w) a address ps
link_walk-text {all} {n} {a} {address} {w} {old} {ps} walk first =
    let here = subst (IsLinkWalk all n a address) first walk in
    record { left = here.left; fits = omega (arith, here.fits, length-append w (plain_of ps)) }

-- past a mark

through-mark : (n a : ℕ) (address : List ℕ) (p : Piece) (ps : List Piece) → is_mark p ≡ true
    → links_through n a address (p ∷ ps) ≡ (if is_link (spelling p) then link_between a n address ++ links_through n n (address_or (spelling p)) ps else links_through n a address ps)
through-mark n a address (Text w) ps is = absurd (cc is)
through-mark n a address p ps is = refl

past-mark : {all : List LinkedRange} {n a : ℕ} {address w : List ℕ} {kind : Kind} {old ps : List Piece} → IsLinkWalk all n a address old → BeginsWithMark kind w old ps
    → ((if is_link w then link_between a n address ++ links_through n n (address_or w) ps else links_through n a address ps) ≡ all) × (n + length (plain_of ps) < 2 ^ 64)
past-mark {all} {n} {a} {address} {w} {kind} {old} {ps} walk mark =
    let here = subst (IsLinkWalk all n a address) mark.pieces walk in (
      ap (λ v. if is_link v then link_between a n address ++ links_through n n (address_or v) ps else links_through n a address ps) (sym mark.bytes)
          ∙ sym (through-mark n a address mark.mark ps mark.is_mark) ∙ here.left,
      subst (λ x. n + length x < 2 ^ 64) (plain_of-mark mark.mark ps mark.is_mark) here.fits,
    )

-- that is no link sequence
pub link_walk-other : {all : List LinkedRange} {n a : ℕ} {address w : List ℕ} {kind : Kind} {old ps : List Piece} → IsLinkWalk all n a address old → BeginsWithMark kind w old ps → is_link w ≡ false → IsLinkWalk all n a address ps
link_walk-other {all} {n} {a} {address} {w} {kind} {old} {ps} walk mark other =
    let here = past-mark walk mark in
    record { left = sym (ap (λ b. if b then link_between a n address ++ links_through n n (address_or w) ps else links_through n a address ps) other) ∙ here.0; fits = here.1 }

-- a link sequence, with this address
pub no_address : (w : List ℕ) → None ≡ address_of w → is_link w ≡ false
no_address w is = ap is_some (sym is)

past-link : {all : List LinkedRange} {n a : ℕ} {address w next : List ℕ} {kind : Kind} {old ps : List Piece} → IsLinkWalk all n a address old → BeginsWithMark kind w old ps → Some next ≡ address_of w
    → (link_between a n address ++ links_through n n next ps ≡ all) × (n + length (plain_of ps) < 2 ^ 64)
past-link {all} {n} {a} {address} {w} {next} {kind} {old} {ps} walk mark is =
    let here = past-mark walk mark in
    (ap (λ o. if is_some o then link_between a n address ++ links_through n n (unwrap_or o []) ps else links_through n a address ps) is ∙ here.0, here.1)

-- the link before it has no text
pub link_walk-link : {all : List LinkedRange} {n a : ℕ} {address w next : List ℕ} {kind : Kind} {old ps : List Piece} → IsLinkWalk all n a address old → BeginsWithMark kind w old ps → Some next ≡ address_of w
    → (nat_lt a n && nat_lt 0 (length address)) ≡ false → IsLinkWalk all n n next ps
link_walk-link {all} {n} {a} {address} {w} {next} {kind} {old} {ps} walk mark is none =
    let here = past-link walk mark is in
    record { left = sym (ap (λ b. (if b then record { range = (a, n); address = address } ∷ [] else []) ++ links_through n n next ps) none) ∙ here.0; fits = here.1 }

-- or it has: it is the first link
pub link_walk-first : {all : List LinkedRange} {n a : ℕ} {address w next : List ℕ} (rest : List ℕ) {kind : Kind} {old ps : List Piece} → IsLinkWalk all n a address old → BeginsWithMark kind w old ps → Some next ≡ address_of w
    → (nat_lt a n && nat_lt 0 (length address)) ≡ true → pieces_of rest ≡ ps → (all ≡ record { range = (a, n); address = address } ∷ links_left n n next rest) × (n + length (plain rest) < 2 ^ 64)
link_walk-first {all} {n} {a} {address} {w} {next} rest {kind} {old} {ps} walk mark is some left =
    let here = past-link walk mark is in (
      sym here.0 ∙ ap (λ b. (if b then record { range = (a, n); address = address } ∷ [] else []) ++ links_through n n next ps) some
          ∙ ap (λ ls. record { range = (a, n); address = address } ∷ ls) (ap (links_through n n next) (sym left) ∙ sym (left-through n n next rest)),
      subst (λ qs. n + length (plain_of qs) < 2 ^ 64) (sym left) here.1,
    )

-- at the end

pub link_walk-last : {all : List LinkedRange} {n a : ℕ} {address : List ℕ} {old : List Piece} → IsLinkWalk all n a address old → old ≡ [] → (nat_lt a n && nat_lt 0 (length address)) ≡ true
    → (all ≡ record { range = (a, n); address = address } ∷ links_left n n [] []) × (n + length (plain []) < 2 ^ 64)
link_walk-last {all} {n} {a} {address} {old} walk end some =
    let here = subst (IsLinkWalk all n a address) end walk in
    let none : links_left n n [] [] ≡ [] = left-through n n [] [] ∙ ended (nat_lt n n) in (
      sym here.left ∙ ap (λ b. if b then record { range = (a, n); address = address } ∷ [] else []) some
          ∙ ap (λ ls. record { range = (a, n); address = address } ∷ ls) (sym none),
      here.fits,
    )
  where
    nothing : List LinkedRange
    nothing = []

    ended : (b : Bool) → (if b && false then record { range = (n, n); address = [] } ∷ [] else nothing) ≡ nothing
    ended true = refl
    ended false = refl

pub link_walk-none : {all : List LinkedRange} {n a : ℕ} {address : List ℕ} {old : List Piece} → IsLinkWalk all n a address old → old ≡ [] → (nat_lt a n && nat_lt 0 (length address)) ≡ false → all ≡ []
link_walk-none {all} {n} {a} {address} {old} walk end none =
    let here = subst (IsLinkWalk all n a address) end walk in
    sym here.left ∙ ap (λ b. if b then record { range = (a, n); address = address } ∷ [] else []) none
