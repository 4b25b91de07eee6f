-- A text with a range linked.
use Rattle.std.proofs.Common.{◌≡◌, ◌≢◌, ℕ, ◌+◌, ◌-◌, ◌≤◌, ◌⊎◌, ◌==◌, inl, inr, Bool, true, false, not, List, [], ◌∷◌, ◌++◌, length, map, flat_map, take, drop, replicate, slice_range, nat_eq, nat_lt, unwrap_or, is_some, Some, None, codes, IsTrue, if◌then◌else◌, refl, sym, ◌∙◌, ap, ap₂, subst, arith, append-nil, append_assoc, length-append}
use Rattle.std.specs.Cmp.Lexicographic.{pointwise}
use Rattle.std.specs.List.{list_all, prefix_len}
use Rattle.std.specs.Str.{byte}
use Rattle.std.specs.Int.{is_in_range}
use Rattle.std.proofs.Math.Seq.{take-append_seam, drop-append_seam}
use Rattle.std.proofs.lemmas.Bool.{and_from, and_parts, cases_lt, cases_Bool, eq-eqb, eqb-true, lt-ltb}
use Rattle.std.proofs.lemmas.Bool.Decides.{nat_tests}
use Rattle.std.proofs.lemmas.Grind.{flat_map-append}
use Rattle.std.proofs.lemmas.List.{take-append-drop, map-append, length-map, length-take-le, length-drop, nil_from_length}
use Rattle.ansi_items.specs.Bytes.{is_body_byte}
use Rattle.ansi_items.specs.Sequences.{IsSequence}
use Rattle.ansi_items.specs.Pieces.{Piece, Text, Sequence, LoneEscape, ArePieces, spelling, pieces_of, after_text, merged}
use Rattle.ansi_items.specs.Plain.{plain, plain_of, marks, marks_up_to, is_whole}
use Rattle.ansi_items.proofs.PieceLemmas.{pieces_are}
use Rattle.ansi_items.proofs.PlainLemmas.{one_text}
use Rattle.ansi_items.proofs.JoinLemmas.{spelled, AllStandAnywhere, pieces_of-append, pieces_of-spelled, is_whole-append, is_whole-spelled, pieces_stand}
use Rattle.ansi_style.proofs.MarkLemmas.{state_by_marks, state_by_marks-before, state_by_marks-text, state_by_marks-mark}
use Rattle.ansi_style.proofs.ThroughLemmas.{state_through-append, state_through-merged, state_after-marks_of, seen_through, seen_through-append, seen_through-merged, seen_by-alike, seen_by-pieces}
use Rattle.ansi_style.specs.Styled.{styled, residue}
use Rattle.ansi_search.specs.Offsets.{offset_of}
use Rattle.ansi_search.proofs.OffsetLemmas.{after_of, after_of-last, after_of-text, pieces_of-after}
use Rattle.ansi_split.proofs.AfterLemmas.{is_cut_after}
use Rattle.ansi_safe.specs.Links.{longest_address, terminator_len, address_of, is_link, opens_link, link_of, link_after, link_after_all, link_at, link_end}
use Rattle.ansi_safe.specs.Safe.{is_printable_byte}
use Rattle.ansi_safe.proofs.LinkLemmas.{link_of-fold, link_of-pieces, link_through}
use Rattle.ansi_safe.proofs.EndingLemmas.{length-link_end, link_end-open, link_end-shut}
use Rattle.ansi_restyle.specs.Ranges.{are_in_turn}
use Rattle.ansi_restyle.specs.Restyled.{front, rest}
use Rattle.ansi_restyle.specs.Linked.{links_in}
use Rattle.ansi_restyle.specs.Links.{without_links, is_clean_address, link_to, as_link, with_link, IsLinked, IsInThree}
use Rattle.ansi_restyle.proofs.FrontLemmas.{front_pieces, front_pieces-last, front_pieces-text, pieces_of-front, is_whole-front, is_whole-rest, plain-rest}
use Rattle.ansi_restyle.proofs.LengthLemmas.{length-both}
use Rattle.ansi_restyle.proofs.RangeLemmas.{are_first, in_turn-within}
use Rattle.ansi_restyle.proofs.StayLemmas.{filter_stand}
use Rattle.ansi_restyle.proofs.WithoutLinksLemmas.{unlinked, is_link-text, is_without_links, length-without_links}

-- The sequence that opens a link to a clean address.

printable-body : (a : List ℕ) → list_all is_printable_byte a ≡ true → list_all (is_body_byte 93) a ≡ true
printable-body [] all = refl
printable-body (b ∷ a) all =
    let both = and_parts (is_printable_byte b) (list_all is_printable_byte a) all in
    and_from (is_body_byte 93 b) (list_all (is_body_byte 93) a) (one b both.0) (printable-body a both.1)
  where
    one : (c : ℕ) → is_printable_byte c ≡ true → is_body_byte 93 c ≡ true
    one c is = grind (arith, nat_tests)

pub clean_parts : (a : List ℕ) → is_clean_address a ≡ true → (is_in_range 1 longest_address (length a) ≡ true) × (list_all is_printable_byte a ≡ true)
clean_parts a clean = and_parts (is_in_range 1 longest_address (length a)) (list_all is_printable_byte a) clean

pub link_to-sequence : (a : List ℕ) → is_clean_address a ≡ true → IsSequence (link_to a)
link_to-sequence a clean = inr (inl (record {
  opener = 93;
  body = 56 ∷ 59 ∷ 59 ∷ a;
  terminator = 27 ∷ 92 ∷ [];
  spelled = refl;
  opens = refl;
  is_body = printable-body a (clean_parts a clean).1;
  ends = inl refl;
}))

pub link_to-terminator : (a : List ℕ) → terminator_len (link_to a) ≡ 2
link_to-terminator a =
    let w = link_to a in
    let u = 27 ∷ 93 ∷ 56 ∷ 59 ∷ 59 ∷ a in
    let is : w ≡ (u ++ 27 ∷ []) ++ 92 ∷ [] = sym (append_assoc u (27 ∷ []) (92 ∷ [])) in
    let at : length w - 1 ≡ length (u ++ 27 ∷ []) = omega (arith, ap length is, length-append (u ++ 27 ∷ []) (92 ∷ [])) in
    let last : drop (length w - 1) w ≡ 92 ∷ [] = ap₂ drop at is ∙ drop-append_seam (u ++ 27 ∷ []) (92 ∷ []) in
    ap (λ v. if pointwise nat_eq (7 ∷ []) v then 1 else 2) last

pub link_to-fields : (a : List ℕ) → slice_range (link_to a) 4 (length (link_to a) - terminator_len (link_to a)) ≡ 59 ∷ a
link_to-fields a =
    let w = link_to a in
    let fields = 59 ∷ a in
    let size : length w ≡ 4 + length (fields ++ 27 ∷ 92 ∷ []) = omega (arith, length-append a (27 ∷ 92 ∷ [])) in
    let n : length w - terminator_len w - 4 ≡ length fields = omega (arith, link_to-terminator a, size, length-append fields (27 ∷ 92 ∷ [])) in
    ap (λ k. take k (fields ++ 27 ∷ 92 ∷ [])) n ∙ take-append_seam fields (27 ∷ 92 ∷ [])

pub link_to-address : (a : List ℕ) → address_of (link_to a) ≡ Some a
link_to-address a =
    ap (λ (fields : List ℕ). if nat_lt (prefix_len (λ b. not (b == byte ";")) fields) (length fields) then Some (drop (prefix_len (λ b. not (b == byte ";")) fields + 1) fields) else None) (link_to-fields a)
    ∙ ap (λ c. if c then Some a else None) (lt-ltb 0 (length (59 ∷ a)) (omega arith))

pub link_to-is_link : (a : List ℕ) → is_link (link_to a) ≡ true
link_to-is_link a = ap is_some (link_to-address a)

link_to-opens : (a : List ℕ) → is_clean_address a ≡ true → opens_link (link_to a) ≡ true
link_to-opens a clean = ap (λ o. nat_lt 0 (length (unwrap_or o []))) (link_to-address a) ∙ not_empty (length a) (clean_parts a clean).0
  where
    not_empty : (n : ℕ) → is_in_range 1 longest_address n ≡ true → nat_lt 0 n ≡ true
    not_empty n is = grind (arith, nat_tests)

opened : (link w : List ℕ) → is_link w ≡ true → opens_link w ≡ true → link_after link w ≡ w
opened link w is opens = ap₂ (λ b c. if b then (if c then w else []) else link) is opens

-- The link at a position, by the pieces up to there.

pub through-one_text : (link w : List ℕ) → link_through link (one_text w) ≡ link
through-one_text link [] = refl
through-one_text link (b ∷ w) = refl

pub by-front : (link : List ℕ) (ps : List Piece) (i : ℕ) → state_by_marks link_after link ps i ≡ link_through link (front_pieces i ps)
by-front link [] i = refl
by-front link (Text w ∷ ps) i = elim (cases_lt i (length w)) [
  | inl last ↦
      state_by_marks-before link_after link w ps i last ∙ sym (ap (link_through link) (front_pieces-last i w ps last) ∙ through-one_text link (take i w))
  | inr within ↦ (
      let all : i ≡ length w + (i - length w) = omega (arith, within) in
      ap (state_by_marks link_after link (Text w ∷ ps)) all ∙ state_by_marks-text link_after link w ps (i - length w)
      ∙ by-front link ps (i - length w) ∙ sym (ap (link_through link) (front_pieces-text i w ps within)))
]
by-front link (p ∷ ps) i = state_by_marks-mark link_after link p ps i refl ∙ by-front (link_after link (spelling p)) ps i

-- a front, and then a front of what follows it
front-front : (link : List ℕ) (a n : ℕ) (ps : List Piece) → link_through (link_through link (front_pieces a ps)) (front_pieces n (after_of a ps)) ≡ link_through link (front_pieces (a + n) ps)
front-front link a n [] = refl
front-front link a n (Text w ∷ ps) = elim (cases_lt a (length w)) [
  | inl last ↦ (
      let v = drop a w in
      let size : length v ≡ length w - a = length-drop a w in
      let before : link_through link (front_pieces a (Text w ∷ ps)) ≡ link = ap (link_through link) (front_pieces-last a w ps last) ∙ through-one_text link (take a w) in
      ap₂ (λ l qs. link_through l (front_pieces n qs)) before (after_of-last a w ps last)
      ∙ (elim (cases_lt n (length v)) [
        | inl inside ↦
            ap (link_through link) (front_pieces-last n v ps inside) ∙ through-one_text link (take n v)
            ∙ sym (ap (link_through link) (front_pieces-last (a + n) w ps (omega (arith, inside, size))) ∙ through-one_text link (take (a + n) w))
        | inr past ↦ (
            let left : n - length v ≡ a + n - length w = omega (arith, size, last) in
            ap (link_through link) (front_pieces-text n v ps past) ∙ ap (λ k. link_through link (front_pieces k ps)) left
            ∙ sym (ap (link_through link) (front_pieces-text (a + n) w ps (omega (arith, past, size, last)))))
      ]))
  | inr within ↦ (
      let left : a - length w + n ≡ a + n - length w = omega (arith, within) in
      ap₂ (λ ps qs. link_through (link_through link ps) (front_pieces n qs)) (front_pieces-text a w ps within) (after_of-text a w ps within)
      ∙ front-front link (a - length w) n ps ∙ ap (λ k. link_through link (front_pieces k ps)) left
      ∙ sym (ap (link_through link) (front_pieces-text (a + n) w ps (omega (arith, within)))))
]
front-front link a n (p ∷ ps) = front-front (link_after link (spelling p)) a n ps

pub link_at-front : (t : List ℕ) (i : ℕ) → link_at t i ≡ link_through [] (pieces_of (front i t))
link_at-front t i = link_of-fold (marks_up_to i (marks t)) ∙ by-front [] (pieces_of t) i ∙ sym (ap (link_through []) (pieces_of-front t i))

pub link_at-next : (t : List ℕ) (a n : ℕ) → link_through (link_at t a) (pieces_of (front n (rest a t))) ≡ link_at t (a + n)
link_at-next t a n =
    ap₂ (λ l qs. link_through l qs) (link_at-front t a ∙ ap (link_through []) (pieces_of-front t a)) (pieces_of-front (rest a t) n ∙ ap (front_pieces n) (pieces_of-after t a))
    ∙ front-front [] a n (pieces_of t) ∙ sym (link_at-front t (a + n) ∙ ap (link_through []) (pieces_of-front t (a + n)))

-- so these links are open there
pen_at_start : (t before : List ℕ) (a : ℕ) → before ≡ front a t → link_of (marks before) ≡ link_at t a
pen_at_start t before a is = ap (λ u. link_of (marks u)) is ∙ link_of-pieces (pieces_of (front a t)) ∙ sym (link_at-front t a)

pen_at_end : (t link within : List ℕ) (a b : ℕ) → a ≤ b → link ≡ link_at t a → within ≡ front (b - a) (rest a t) → link_after_all link (marks within) ≡ link_at t b
pen_at_end t link within a b ordered there is =
    let sum : a + (b - a) ≡ b = omega (arith, ordered) in
    state_after-marks_of link_after link (pieces_of within)
    ∙ ap₂ (λ l u. link_through l (pieces_of u)) there is ∙ link_at-next t a (b - a) ∙ ap (link_at t) sum

-- A link that is open is a whole sequence, which opens it.

abbrev IsOpen : List ℕ → Type 0
IsOpen link = (link ≡ []) ⊎ (IsSequence link × (is_link link ≡ true) × (opens_link link ≡ true))

open-after : (link w : List ℕ) → IsOpen link → IsSequence w → IsOpen (link_after link w)
open-after link w before is = by_tests (is_link w) refl (opens_link w) refl
  where
    by_tests : (b : Bool) → is_link w ≡ b → (c : Bool) → opens_link w ≡ c → IsOpen (if b then (if c then w else []) else link)
    by_tests true first true second = inr (is, first, second)
    by_tests true first false second = inl refl
    by_tests false first c second = before

open-through : (link : List ℕ) (ps : List Piece) → AllStandAnywhere ps → IsOpen link → IsOpen (link_through link ps)
open-through link [] all before = before
open-through link (Text w ∷ ps) all before = open-through link ps all.1 before
open-through link (Sequence w ∷ ps) all before = open-through (link_after link w) ps all.1 (open-after link w before all.0)
open-through link (LoneEscape ∷ ps) all before = absurd all.0

open-at : (t : List ℕ) (i : ℕ) → IsTrue (is_whole t) → IsOpen (link_at t i)
open-at t i whole = subst IsOpen (sym (link_at-front t i)) (open-through [] (pieces_of (front i t)) (pieces_stand (front i t) (is_whole-front t i whole)) (inl refl))

-- What a text has besides links, by its pieces.

abbrev kept : Piece → List ℕ
kept (Text w) = w
kept p = if is_link (spelling p) then [] else spelling p

abbrev kept_of : List Piece → List ℕ
kept_of ps = flat_map kept ps

without : (p : Piece) (ps : List Piece) (u : List ℕ) → spelled (unlinked ps) ≡ u → spelled (unlinked (p ∷ ps)) ≡ (if is_link (spelling p) then [] else spelling p) ++ u
without p ps u more = by_test (is_link (spelling p))
  where
    by_test : (b : Bool) → spelled (if not b then p ∷ unlinked ps else unlinked ps) ≡ (if b then [] else spelling p) ++ u
    by_test true = more
    by_test false = ap (λ v. spelling p ++ v) more

without-kept : (t : List ℕ) (ps : List Piece) → ArePieces t ps → spelled (unlinked ps) ≡ kept_of ps
without-kept t [] are = refl
without-kept t (Text w ∷ ps) are =
    without (Text w) ps (kept_of ps) (without-kept are.0 ps are.3) ∙ ap (λ b. (if b then [] else w) ++ kept_of ps) (is_link-text w are.2.0 are.2.1)
without-kept t (p ∷ ps) are = without p ps (kept_of ps) (without-kept are.0 ps are.3)

without_links-kept : (t : List ℕ) → without_links t ≡ kept_of (pieces_of t)
without_links-kept t = without-kept t (pieces_of t) (pieces_are t)

kept-after_text : (w : List ℕ) (ps : List Piece) → kept_of (after_text w ps) ≡ w ++ kept_of ps
kept-after_text w (Text v ∷ ps) = append_assoc w v (kept_of ps)
kept-after_text w ps = refl

kept-merged : (ps : List Piece) → kept_of (merged ps) ≡ kept_of ps
kept-merged [] = refl
kept-merged (Text w ∷ ps) = kept-after_text w (merged ps) ∙ ap (λ v. w ++ v) (kept-merged ps)
kept-merged (p ∷ ps) = ap (λ v. (if is_link (spelling p) then [] else spelling p) ++ v) (kept-merged ps)

-- ---- consecutive whole texts, with `link` open before them: the link at each plain byte, what they have besides, and the link after them

abbrev seen_link : List ℕ → ℕ → List ℕ
seen_link link b = link

abbrev each_link : List ℕ → List Piece → List (List ℕ)
each_link link ps = seen_through link_after seen_link link ps

each-pieces : (t : List ℕ) → links_in t ≡ each_link [] (pieces_of t)
each-pieces t =
    seen_by-alike link_after seen_link (plain t) (link_at t) (state_by_marks link_after [] (pieces_of t)) (λ i below. link_of-fold (marks_up_to i (marks t)))
    ∙ seen_by-pieces link_after seen_link [] (pieces_of t)

length-each : (link : List ℕ) (ps : List Piece) → length (each_link link ps) ≡ length (plain_of ps)
length-each link [] = refl
length-each link (Text w ∷ ps) = omega (arith, length-append (map (seen_link link) w) (each_link link ps), length-map w (seen_link link), length-append w (plain_of ps), length-each link ps)
length-each link (p ∷ ps) = length-each (link_after link (spelling p)) ps

record IsRead (link t : List ℕ) (ls : List (List ℕ)) (ks next : List ℕ) : Type 0 where
  whole : IsTrue (is_whole t)
  each : each_link link (pieces_of t) ≡ ls
  others : kept_of (pieces_of t) ≡ ks
  after : link_through link (pieces_of t) ≡ next

read-append : {link u v middle next ks hs : List ℕ} {ls ms : List (List ℕ)} → IsRead link u ls ks middle → IsRead middle v ms hs next → IsRead link (u ++ v) (ls ++ ms) (ks ++ hs) next
read-append {link} {u} {v} {middle} {next} {ks} {hs} {ls} {ms} first second =
    let ps = pieces_of u in
    let qs = pieces_of v in
    let both = pieces_of-append u v first.whole second.whole in
    record {
      whole = is_whole-append u v first.whole second.whole;
      each = ap (each_link link) both ∙ seen_through-merged link_after seen_link link (ps ++ qs) ∙ seen_through-append link_after seen_link link ps qs
          ∙ ap₂ ◌++◌ first.each (ap (λ l. each_link l qs) first.after ∙ second.each);
      others = ap kept_of both ∙ kept-merged (ps ++ qs) ∙ flat_map-append kept ps qs ∙ ap₂ ◌++◌ first.others second.others;
      after = ap (link_through link) both ∙ state_through-merged link_after link (ps ++ qs) ∙ state_through-append link_after link ps qs
          ∙ ap (λ l. link_through l qs) first.after ∙ second.after;
    }

-- a text without plain bytes that has only link sequences
read-then : {link u v middle next ks : List ℕ} {ls : List (List ℕ)} → IsRead link u ls ks middle → IsRead middle v [] [] next → IsRead link (u ++ v) ls ks next
read-then {link} {u} {v} {middle} {next} {ks} {ls} first second =
    let both = read-append first second in
    record { whole = both.whole; each = both.each ∙ append-nil ls; others = both.others ∙ append-nil ks; after = both.after }

read-text : (link t : List ℕ) → IsTrue (is_whole t) → IsRead link t (each_link link (pieces_of t)) (kept_of (pieces_of t)) (link_through link (pieces_of t))
read-text link t whole = record { whole = whole; each = refl; others = refl; after = refl }

read-spelled : (link : List ℕ) (ps : List Piece) (t : List ℕ) → spelled ps ≡ t → AllStandAnywhere ps → IsRead link t (each_link link ps) (kept_of ps) (link_through link ps)
read-spelled link ps t is stand = subst (λ u. IsRead link u (each_link link ps) (kept_of ps) (link_through link ps)) is (
    let pieces = pieces_of-spelled ps stand in
    record {
      whole = is_whole-spelled ps stand;
      each = ap (each_link link) pieces ∙ seen_through-merged link_after seen_link link ps;
      others = ap kept_of pieces ∙ kept-merged ps;
      after = ap (link_through link) pieces ∙ state_through-merged link_after link ps;
    })

read-nil : (link : List ℕ) → IsRead link [] [] [] link
read-nil link = record { whole = refl; each = refl; others = refl; after = refl }

read-end : (link : List ℕ) → IsRead link (codes "\u{1b}]8;;\u{1b}\\") [] [] []
read-end link = record { whole = refl; each = refl; others = refl; after = refl }

read-link_end : (link : List ℕ) → IsRead link (link_end link) [] [] []
read-link_end link = elim (cases_Bool (nat_eq (length link) 0)) [
  | inl none ↦ subst (λ w. IsRead link w [] [] []) (sym (link_end-shut link none)) (subst (λ l. IsRead l [] [] [] []) (sym (nil_from_length link (eqb-true (length link) 0 none))) (read-nil []))
  | inr some ↦ subst (λ w. IsRead link w [] [] []) (sym (link_end-open link some)) (read-end link)
]

read-link : (link w : List ℕ) → IsSequence w → is_link w ≡ true → opens_link w ≡ true → IsRead link w [] [] w
read-link link w is link_is opens =
    let made = read-spelled link (Sequence w ∷ []) w (append-nil w) (is, tt) in
    record {
      whole = made.whole;
      each = made.each;
      others = made.others ∙ ap (λ b. (if b then [] else w) ++ []) link_is;
      after = made.after ∙ opened link w link_is opens;
    }

read-open : (link : List ℕ) → IsOpen link → IsRead [] link [] [] link
read-open link (inl none) = subst (λ l. IsRead [] l [] [] l) (sym none) (read-nil [])
read-open link (inr some) = read-link [] link some.0 some.1 some.2

-- a text without its links, in one link

each-unlinked : (link : List ℕ) (ps : List Piece) → AllStandAnywhere ps → each_link link (unlinked ps) ≡ map (seen_link link) (plain_of ps)
each-unlinked link [] all = refl
each-unlinked link (Text w ∷ ps) all =
    ap (λ b. each_link link (if not b then Text w ∷ unlinked ps else unlinked ps)) (is_link-text w all.0.0 all.0.1)
    ∙ ap (λ v. map (seen_link link) w ++ v) (each-unlinked link ps all.1) ∙ sym (map-append (seen_link link) w (plain_of ps))
each-unlinked link (p ∷ ps) all = by_test (is_link (spelling p)) refl (each-unlinked link ps all.1)
  where
    by_test : (b : Bool) → is_link (spelling p) ≡ b → each_link link (unlinked ps) ≡ map (seen_link link) (plain_of ps) → each_link link (if not b then p ∷ unlinked ps else unlinked ps) ≡ map (seen_link link) (plain_of ps)
    by_test true is more = more
    by_test false is more = ap (λ b. each_link (if b then (if opens_link (spelling p) then spelling p else []) else link) (unlinked ps)) is ∙ more

through-unlinked : (link : List ℕ) (ps : List Piece) → AllStandAnywhere ps → link_through link (unlinked ps) ≡ link
through-unlinked link [] all = refl
through-unlinked link (Text w ∷ ps) all =
    ap (λ b. link_through link (if not b then Text w ∷ unlinked ps else unlinked ps)) (is_link-text w all.0.0 all.0.1) ∙ through-unlinked link ps all.1
through-unlinked link (p ∷ ps) all = by_test (is_link (spelling p)) refl (through-unlinked link ps all.1)
  where
    by_test : (b : Bool) → is_link (spelling p) ≡ b → link_through link (unlinked ps) ≡ link → link_through link (if not b then p ∷ unlinked ps else unlinked ps) ≡ link
    by_test true is more = more
    by_test false is more = ap (λ b. link_through (if b then (if opens_link (spelling p) then spelling p else []) else link) (unlinked ps)) is ∙ more

kept-unlinked : (ps : List Piece) → AllStandAnywhere ps → kept_of (unlinked ps) ≡ kept_of ps
kept-unlinked [] all = refl
kept-unlinked (Text w ∷ ps) all =
    ap (λ b. kept_of (if not b then Text w ∷ unlinked ps else unlinked ps)) (is_link-text w all.0.0 all.0.1) ∙ ap (λ v. w ++ v) (kept-unlinked ps all.1)
kept-unlinked (p ∷ ps) all = by_test (is_link (spelling p)) refl (kept-unlinked ps all.1)
  where
    by_test : (b : Bool) → is_link (spelling p) ≡ b → kept_of (unlinked ps) ≡ kept_of ps → kept_of (if not b then p ∷ unlinked ps else unlinked ps) ≡ (if is_link (spelling p) then [] else spelling p) ++ kept_of ps
    by_test true is more = more ∙ sym (ap (λ b. (if b then [] else spelling p) ++ kept_of ps) is)
    by_test false is more = ap (λ v. (if is_link (spelling p) then [] else spelling p) ++ v) more

read-unlinked : (link t : List ℕ) → IsTrue (is_whole t) → IsRead link (without_links t) (map (seen_link link) (plain t)) (kept_of (pieces_of t)) link
read-unlinked link t whole =
    let ps = pieces_of t in
    let all = pieces_stand t whole in
    let made = read-spelled link (unlinked ps) (without_links t) refl (filter_stand (λ p. not (is_link (spelling p))) ps all) in
    record { whole = made.whole; each = made.each ∙ each-unlinked link ps all; others = made.others ∙ kept-unlinked ps all; after = made.after ∙ through-unlinked link ps all }

read-as_link : (link a t : List ℕ) → is_clean_address a ≡ true → IsTrue (is_whole t) → IsRead link (as_link a t) (map (seen_link (link_to a)) (plain t)) (kept_of (pieces_of t)) []
read-as_link link a t clean whole =
    let w = link_to a in
    read-then (read-append (read-link link w (link_to-sequence a clean) (link_to-is_link a) (link_to-opens a clean)) (read-unlinked w t whole)) (read-end w)

each-same : (link x : List ℕ) → map (seen_link link) x ≡ replicate (length x) link
each-same link [] = refl
each-same link (b ∷ x) = ap (λ ls. link ∷ ls) (each-same link x)

-- So a range is linked of a whole text.

parts : (n m : ℕ) (first second third all : List (List ℕ)) → all ≡ first ++ (second ++ third) → length first ≡ n → length first + length second ≡ m → (take n all ≡ first) × (drop m all ≡ third)
parts n m first second third all is size sum = (
  ap₂ take (sym size) is ∙ take-append_seam first (second ++ third),
  ap₂ drop (sym sum ∙ sym (length-append first second)) (is ∙ sym (append_assoc first second third)) ∙ drop-append_seam (first ++ second) third,
)

abbrev pub full : List ℕ → ℕ × ℕ → List ℕ → List ℕ
full t r address =
    let n = r.1 - r.0 in
    let here = rest r.0 t in
    front r.0 t ++ link_end (link_at t r.0) ++ as_link address (front n here) ++ link_at t r.1 ++ rest n here

pub is_linked : (t : List ℕ) (r : ℕ × ℕ) (address : List ℕ) → IsTrue (is_whole t) → are_in_turn (plain t) 0 (r ∷ []) ≡ true → is_clean_address address ≡ true → IsLinked t r address (full t r address)
is_linked t r address whole good clean =
    let n = r.1 - r.0 in
    let here = rest r.0 t in
    let part = front n here in
    let last = rest n here in
    let f = front r.0 t in
    let q = link_at t r.0 in
    let q_end = link_at t r.1 in
    let w = link_to address in
    let u = full t r address in
    let first = are_first (plain t) 0 r [] good in
    let ends : r.0 ≤ r.1 = first.ends in
    let inside : r.1 ≤ length (plain t) = in_turn-within (plain t) r.1 [] first.later in
    let whole_here = is_whole-rest t r.0 whole in
    let whole_part = is_whole-front here n whole_here in
    let whole_last = is_whole-rest here n whole_here in
    let fs = each_link [] (pieces_of f) in
    let ps = each_link q (pieces_of part) in
    let ls = each_link q_end (pieces_of last) in
    let kf = kept_of (pieces_of f) in
    let kp = kept_of (pieces_of part) in
    let kl = kept_of (pieces_of last) in
    let sum : r.0 + n ≡ r.1 = omega (arith, ends) in
    let at_start : IsRead [] f fs kf q = record { whole = is_whole-front t r.0 whole; each = refl; others = refl; after = sym (link_at-front t r.0) } in
    let within : IsRead q part ps kp q_end = record { whole = whole_part; each = refl; others = refl; after = link_at-next t r.0 n ∙ ap (link_at t) sum } in
    let onward = read-text q_end last whole_last in
    let all_t = read-append at_start (read-append within onward) in
    let all_u = read-append (read-then (read-append (read-then at_start (read-link_end q)) (read-as_link [] address part clean whole_part)) (read-open q_end (open-at t r.1 whole))) onward in
    let is_t : f ++ (part ++ last) ≡ t = ap (λ v. f ++ v) (take-append-drop (offset_of here n) here) ∙ take-append-drop (offset_of t r.0) t in
    let links_t : links_in t ≡ fs ++ (ps ++ ls) = each-pieces t ∙ ap (λ v. each_link [] (pieces_of v)) (sym is_t) ∙ all_t.each in
    let size_f : length fs ≡ r.0
    = length-each [] (pieces_of f) ∙ ap length (is_cut_after t r.0 (offset_of t r.0) refl).plain_front ∙ length-take-le r.0 (plain t) (omega (arith, ends, inside)) in
    let size_here : length (plain here) ≡ length (plain t) - r.0 = ap length (plain-rest t r.0) ∙ length-drop r.0 (plain t) in
    let size_part : length (plain part) ≡ n
    = ap length (is_cut_after here n (offset_of here n) refl).plain_front ∙ length-take-le n (plain here) (omega (arith, size_here, ends, inside)) in
    let size_p : length ps ≡ n = length-each q (pieces_of part) ∙ size_part in
    let both = parts r.0 r.1 fs ps ls (links_in t) links_t size_f (omega (arith, size_f, size_p, ends)) in
    let others : without_links u ≡ without_links t
    = without_links-kept u ∙ all_u.others ∙ append_assoc kf kp kl ∙ sym (without_links-kept t ∙ ap (λ v. kept_of (pieces_of v)) (sym is_t) ∙ all_t.others) in
    let bare_t = is_without_links t whole in
    let bare_u = is_without_links u all_u.whole in
    record {
      linked_bytes = each-pieces u ∙ all_u.each
          ∙ ap₂ (λ xs ys. xs ++ ys) (ap₂ (λ xs ys. xs ++ ys) (sym both.0) (each-same w (plain part) ∙ ap (λ k. replicate k w) size_part)) (sym both.1);
      open_link = link_of-pieces (pieces_of u) ∙ all_u.after ∙ sym (link_of-pieces (pieces_of t) ∙ ap (λ v. link_through [] (pieces_of v)) (sym is_t) ∙ all_t.after);
      others = others;
      styled_bytes = sym bare_u.styled_bytes ∙ ap styled others ∙ bare_t.styled_bytes;
      plain_text = sym bare_u.plain_text ∙ ap plain others ∙ bare_t.plain_text;
      whole = all_u.whole;
      open_at_end = sym bare_u.open_at_end ∙ ap residue others ∙ bare_t.open_at_end;
    }

-- an empty range links nothing

pub is_linked-empty : (t : List ℕ) (r : ℕ × ℕ) (address : List ℕ) → r.0 ≡ r.1 → IsTrue (is_whole t) → IsLinked t r address t
is_linked-empty t r address same whole =
    let ls = links_in t in
    let none : r.1 - r.0 ≡ 0 = omega (arith, same) in
    let all : take r.0 ls ++ replicate (r.1 - r.0) (link_to address) ++ drop r.1 ls ≡ ls
    = ap₂ (λ k m. (take r.0 ls ++ replicate k (link_to address)) ++ drop m ls) none (sym same)
    ∙ ap (λ xs. xs ++ drop r.0 ls) (append-nil (take r.0 ls)) ∙ take-append-drop r.0 ls in
    record { linked_bytes = sym all; open_link = refl; others = refl; styled_bytes = refl; plain_text = refl; whole = whole; open_at_end = refl }

pub with_link-empty : (t : List ℕ) (r : ℕ × ℕ) (address : List ℕ) → r.0 ≡ r.1 → with_link t r address ≡ t
with_link-empty t r address same = ap (λ b. if b then t else full t r address) (eq-eqb r.0 r.1 same)

pub with_link-full : (t : List ℕ) (r : ℕ × ℕ) (address : List ℕ) → r.0 ≢ r.1 → with_link t r address ≡ full t r address
with_link-full t r address filled = ap (λ b. if b then t else full t r address) (differ (r.0 == r.1) refl)
  where
    differ : (b : Bool) → (r.0 == r.1) ≡ b → b ≡ false
    differ true is = absurd (filled (eqb-true r.0 r.1 is))
    differ false is = refl

-- What is written, from the parts of the text.
pub written-linked : (t before within after start_link end_link address : List ℕ) (r : ℕ × ℕ) → r.0 ≢ r.1 → IsInThree t r before within after → start_link ≡ link_of (marks before) → end_link ≡ link_after_all start_link (marks within)
    → before ++ link_end start_link ++ as_link address within ++ end_link ++ after ≡ with_link t r address
written-linked t before within after start_link end_link address r filled three start_is end_is =
    let first = are_first (plain t) 0 r [] three.good in
    let open_start : start_link ≡ link_at t r.0 = start_is ∙ pen_at_start t before r.0 three.before_is in
    let open_end : end_link ≡ link_at t r.1 = end_is ∙ pen_at_end t start_link within r.0 r.1 first.ends open_start three.within_is in
    ap₂ (λ u v. u ++ v)
    (ap₂ (λ u v. u ++ v) (ap₂ (λ u v. u ++ v) (ap₂ (λ u v. u ++ v) three.before_is (ap link_end open_start)) (ap (as_link address) three.within_is)) open_end)
    three.after_is
    ∙ sym (with_link-full t r address filled)

-- Its length.

pub length-with_link : (t : List ℕ) (r : ℕ × ℕ) (address u : List ℕ) → r.0 ≢ r.1 → u ≡ with_link t r address → length u ≤ length t + length address + length (link_at t r.1) + 21
length-with_link t r address u filled is =
    let n = r.1 - r.0 in
    let here = rest r.0 t in
    let part = front n here in
    let last = rest n here in
    let f = front r.0 t in
    let e = link_end (link_at t r.0) in
    let v = as_link address part in
    let q = link_at t r.1 in
    let size : length u ≡ length f + length e + length v + length q + length last
    = ap length (is ∙ with_link-full t r address filled) ∙ length-append (f ++ e ++ v ++ q) last ∙ ap (λ k. k + length last) (length-append (f ++ e ++ v) q)
    ∙ ap (λ k. k + length q + length last) (length-append (f ++ e) v) ∙ ap (λ k. k + length v + length q + length last) (length-append f e) in
    let own : length v ≡ length address + 14 + length (without_links part)
    = omega (
      arith,
      length-append (link_to address ++ without_links part) (codes "\u{1b}]8;;\u{1b}\\"),
      length-append (link_to address) (without_links part),
      length-append address (27 ∷ 92 ∷ []),
    ) in
    omega (arith, size, own, length-link_end (link_at t r.0), length-without_links part, length-both t r.0, length-both here n)

-- Its bytes in a row.
pub five : (o a b c d e : List ℕ) → ((((o ++ a) ++ b) ++ c) ++ d) ++ e ≡ o ++ ((((a ++ b) ++ c) ++ d) ++ e)
five o a b c d e =
    ap (λ u. ((u ++ c) ++ d) ++ e) (append_assoc o a b) ∙ ap (λ u. (u ++ d) ++ e) (append_assoc o (a ++ b) c) ∙ ap (λ u. u ++ e) (append_assoc o ((a ++ b) ++ c) d)
    ∙ append_assoc o (((a ++ b) ++ c) ++ d) e
