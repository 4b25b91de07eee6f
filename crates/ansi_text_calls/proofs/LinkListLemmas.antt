-- The links of a text, one more at a time: their entries, and how long their addresses are.
use Rattle.std.proofs.Common.{◌≡◌, ℕ, ◌+◌, ◌-◌, ◌≤◌, Bool, true, false, ◌&&◌, Some, None, List, [], ◌∷◌, ◌++◌, length, drop, slice_range, nat_lt, unwrap_or, refl, sym, ◌∙◌, ap, subst, arith, if◌then◌else◌, append-nil, length-append, length-drop}
use Rattle.std.proofs.lemmas.Bool.{ltb-true}
use Rattle.std.proofs.lemmas.List.{length-take}
use Rattle.std.proofs.lemmas.List.Concat.{flat_map-append}
use Rattle.ansi_items.specs.Pieces.{Piece, Text, spelling, pieces_of}
use Rattle.ansi_items.proofs.JoinLemmas.{spelled, spelled-pieces_of}
use Rattle.ansi_safe.specs.Links.{terminator_len, is_link}
use Rattle.ansi_restyle.specs.Links.{LinkedRange, link_between, links}
use Rattle.ansi_restyle.proofs.LinkWalkLemmas.{address_or, links_through, left-through, left-all}
use Rattle.ansi_text_calls.specs.declared.links.LinkEntry.{LinkEntry}
use Rattle.ansi_text_calls.specs.Links.{addresses, link_entries_from}

pub addresses-append : (ls ks : List LinkedRange) → addresses (ls ++ ks) ≡ addresses ls ++ addresses ks
addresses-append ls ks = flat_map-append (λ (l : LinkedRange). l.address) ls ks

pub addresses-more : (ls : List LinkedRange) (l : LinkedRange) → addresses (ls ++ l ∷ []) ≡ addresses ls ++ l.address
addresses-more ls l = addresses-append ls (l ∷ []) ∙ ap (λ u. addresses ls ++ u) (append-nil l.address)

-- the entry of a link whose address ends at n
abbrev pub entry_ending : ℕ → LinkedRange → LinkEntry
entry_ending n l = record { start = l.range.0; end = l.range.1; address_end = n }

pub entries-more : (n : ℕ) (ls : List LinkedRange) (l : LinkedRange)
    → link_entries_from n (ls ++ l ∷ []) ≡ link_entries_from n ls ++ entry_ending (n + length (addresses ls) + length l.address) l ∷ []
entries-more n [] l = ap (λ k. entry_ending k l ∷ []) (omega arith)
entries-more n (k ∷ ls) l =
    let next = n + length k.address in
    ap (λ es. entry_ending next k ∷ es)
    (entries-more next ls l ∙ ap (λ i. link_entries_from next ls ++ entry_ending i l ∷ []) (omega (arith, length-append k.address (addresses ls))))

pub length-entries : (n : ℕ) (ls : List LinkedRange) → length (link_entries_from n ls) ≡ length ls
length-entries n [] = refl
length-entries n (l ∷ ls) = omega (arith, length-entries (n + length l.address) ls)

-- There are no more links than their addresses have bytes, and no more than n.
pub record AreShort (n : ℕ) (ls : List LinkedRange) : Type 0 where
  pub few : length ls ≤ length (addresses ls)
  pub short : length (addresses ls) ≤ n

short-more : {m n : ℕ} {ls : List LinkedRange} → AreShort m ls → m ≤ n → AreShort n ls
short-more are less = record { few = are.few; short = omega (arith, are.short, less) }

short-append : {m n : ℕ} {ls ks : List LinkedRange} → AreShort m ls → AreShort n ks → AreShort (m + n) (ls ++ ks)
short-append {m} {n} {ls} {ks} front back =
    let size = ap length (addresses-append ls ks) in
    let both = length-append (addresses ls) (addresses ks) in
    record { few = omega (arith, front.few, back.few, size, both, length-append ls ks); short = omega (arith, front.short, back.short, size, both) }

short-between : (a b : ℕ) (address : List ℕ) → AreShort (length address) (link_between a b address)
short-between a b address = by_test (nat_lt a b) (nat_lt 0 (length address)) refl
  where
    none : AreShort (length address) []
    none = record { few = omega arith; short = omega arith }

    by_test : (text some : Bool) → nat_lt 0 (length address) ≡ some → AreShort (length address) (if text && some then record { range = (a, b); address = address } ∷ [] else [])
    by_test true true is =
        let size = length-append address [] in
        record { few = omega (arith, ltb-true 0 (length address) is, size); short = omega (arith, size) }
    by_test true false is = none
    by_test false some is = none

-- an address is a part of its sequence
length-address_or : (w : List ℕ) → length (address_or w) ≤ length w
length-address_or w = by_test _ _
  where
    end : ℕ
    end = length w - terminator_len w

    by_test : (is : Bool) (n : ℕ) → length (unwrap_or (if is then Some (drop n (slice_range w 4 end)) else None) []) ≤ length w
    by_test true n = omega (arith, length-drop n (slice_range w 4 end), length-take (end - 4) (drop 4 w), length-drop 4 w)
    by_test false n = omega arith

short-through : (n a : ℕ) (address : List ℕ) (ps : List Piece) → AreShort (length address + length (spelled ps)) (links_through n a address ps)
short-through n a address [] = short-more (short-between a n address) (omega arith)
short-through n a address (Text w ∷ ps) = short-more (short-through (n + length w) a address ps) (omega (arith, length-append w (spelled ps)))
short-through n a address (p ∷ ps) = by_test (is_link (spelling p)) (short-through n n (address_or (spelling p)) ps) (short-through n a address ps)
  where
    size : length (spelling p ++ spelled ps) ≡ length (spelling p) + length (spelled ps)
    size = length-append (spelling p) (spelled ps)

    by_test : (is : Bool) → AreShort (length (address_or (spelling p)) + length (spelled ps)) (links_through n n (address_or (spelling p)) ps)
        → AreShort (length address + length (spelled ps)) (links_through n a address ps)
        → AreShort (length address + length (spelling p ++ spelled ps)) (if is then link_between a n address ++ links_through n n (address_or (spelling p)) ps else links_through n a address ps)
    by_test true linked other = short-more (short-append (short-between a n address) linked) (omega (arith, length-address_or (spelling p), size))
    by_test false linked other = short-more other (omega (arith, size))

pub links-short : (t : List ℕ) → AreShort (length t) (links t)
links-short t =
    let all : links_through 0 0 [] (pieces_of t) ≡ links t = sym (left-through 0 0 [] t) ∙ left-all t in
    subst (AreShort (length t)) all (short-more (short-through 0 0 [] (pieces_of t)) (omega (arith, ap length (spelled-pieces_of t))))

-- so one link more has room in numbers of this length
pub room-for-one : (t : List ℕ) (done left : List LinkedRange) (l : LinkedRange) → done ++ l ∷ left ≡ links t
    → (length done + 1 ≤ length t) × (length (addresses done) + length l.address ≤ length t)
room-for-one t done left l all =
    let are = links-short t in
    let bytes = ap length (ap addresses (sym all) ∙ addresses-append done (l ∷ left)) in
    let count = ap length all in
    (omega (arith, are.few, are.short, count, length-append done (l ∷ left)), omega (arith, are.short, bytes, length-append (addresses done) (addresses (l ∷ left)), length-append l.address (addresses left)))
