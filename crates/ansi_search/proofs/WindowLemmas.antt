-- A search that goes forward by the cut of a pattern, a window at a time.
use Rattle.ansi_search.proofs.Common.{◌≡◌, ◌≢◌, ℕ, ◌+◌, ◌-◌, ◌<◌, ◌≤◌, inl, inr, true, false, List, ◌∷◌, ◌++◌, take, drop, length, nat_eq, IsTrue, Some, None, refl, sym, ◌∙◌, ap, arith, slice_index, and_parts, cases_lt, eq-eqb, true≢false, get_or-take, get_or-drop, get_or_append_left, get_or-append-add, length-take-le, length-drop, length-append, drop-drop, drop-append-le, drop_at, take_at, IsCharBoundary-start, starts_with, slice_range, IsUtf8, Nowhere, OccursAt, Passes, is_byte, OccursIn, Nowhere-then, OccursAt-split, OccursAt-from_part, Nowhere-right, Nowhere-left, known-next, Item, Piece, Text, spelling, ArePieces, pieces_of, plain, plain_of, Scan, GivesItem, pieces_left, gives_text, pieces_are, length-plain, CriticalCut, Point, Window, first_match_from, is_char_boundary, IsCut, MatchesBetween, IsReached, IsPoint, IsWindow, IsMismatch, StandsNowhere, LacksRareByte, []}
use Rattle.std.proofs.Math.Seq.{get_or-append_right}
use Rattle.ansi_items.specs.declared.ansitok.Kind.TheVariants.{Text as TextKind}
use Rattle.ansi_search.proofs.MatchLemmas.{IsMatch, is_match-utf8, starts_with-occurs, starts_with-from, first_match_from-is}
use Rattle.ansi_search.proofs.SliceLemmas.{length-slice_range}
use Rattle.ansi_search.proofs.EndLemmas.{starts_with-within}

-- What is in the plain text.

meets-next : (x p : List ℕ) (i low n : ℕ) → MatchesBetween x p i low n → slice_index x (i + n) ≡ slice_index p n → MatchesBetween x p i low (n + 1)
meets-next x p i low n meets same k from upto = elim (cases_lt k n) [
  | inl before ↦ meets k from before
  | inr past ↦ (let last : k ≡ n = omega (arith, past, upto) in ap (slice_index p) last ∙ sym same ∙ ap (λ j. slice_index x (i + j)) (sym last))
]

pub meets-from : (x p : List ℕ) (i low c n : ℕ) → low ≤ c → MatchesBetween x p i low n → MatchesBetween x p i c n
meets-from x p i low c n upto meets k from below = meets k (omega (arith, upto, from)) below

-- what is in a run is in the plain text
in-run : (x run : List ℕ) (place i : ℕ) → OccursAt x run place → place ≤ i → i < place + length run → slice_index x i ≡ slice_index run (i - place)
in-run x run place i occurs past inside =
    let sum : i ≡ place + (i - place) = omega (arith, past) in
    ap (slice_index x) sum ∙ occurs.reads (i - place) (omega (arith, past, inside))

pub OccursAt-all_matches : (x p : List ℕ) (i : ℕ) → MatchesBetween x p i 0 (length p) → i + length p ≤ length x → OccursAt x p i
OccursAt-all_matches x p i meets fits = record { fits = fits; reads = λ k inside. sym (meets k (omega arith) inside) }

pub OccursAt-front_and_rest : (x p : List ℕ) (i low c : ℕ) → MatchesBetween x p i low (length p) → low ≤ c → c ≤ length p → starts_with nat_eq (drop i x) (take c p) ≡ true → i + length p ≤ length x → OccursAt x p i
OccursAt-front_and_rest x p i low c meets upto within starts fits = grind (arith, get_or-take, length-take-le, OccursAt-all_matches, starts_with-occurs)

pub apart-both : (x p : List ℕ) (i c : ℕ) → c ≤ length p → starts_with nat_eq (drop i x) (take c p) ≡ false → ¬ (OccursAt x p i)
apart-both x p i c within other occurs =
    let size : length (take c p) ≡ c = length-take-le c p within in
    true≢false (sym (starts_with-from (drop i x) (take c p) _ (OccursAt-split x (take c p) i (record {
      fits = omega (arith, size, within, occurs.fits);
      reads = λ k inside. occurs.reads k (omega (arith, size, inside, within)) ∙ sym (get_or-take c p k 0 (omega (arith, size, inside)));
    }))) ∙ other)

-- What a comparison shows.

-- the pattern doesn't occur where its first byte doesn't
pub nowhere-without : (w p v : List ℕ) (b at n : ℕ) → 0 < length p → slice_index p 0 ≡ b → v ≡ drop at w → Nowhere (Passes (is_byte b) v) 0 n → Nowhere (OccursAt w p) at (at + n)
nowhere-without w p v b at n some first rest none k low high occurs =
    none (k - at) (omega arith) (omega (arith, low, high)) (eq-eqb _ _ (ap (λ u. slice_index u (k - at)) rest ∙ get_or-drop at w (k - at) 0 ∙ ap (slice_index w) (omega (arith, low)) ∙ occurs.reads 0 some ∙ first))

Nowhere-OccursAt : (x p : List ℕ) (i j : ℕ) → Nowhere (OccursIn (slice_index p) (length p) (slice_index x) (length x)) i j → Nowhere (OccursAt x p) i j
Nowhere-OccursAt x p i j none k low high occurs = none k low high (record { fits = occurs.fits; reads = occurs.reads })

-- the next byte isn't the byte of p at the place r, which is in no match before n
pub reached-mismatch : {t p : List ℕ} {cut : CriticalCut} {start : ℕ} {w : Window} (run : List ℕ) (place r n : ℕ) → IsCut p cut → r ≤ cut.at → IsWindow t p cut.at start w → OccursAt (plain t) run place
    → place ≤ w.position + w.met → w.position + w.met < place + length run → slice_index run (w.position + w.met - place) ≢ slice_index p w.met
    → w.position + (w.met - cut.at) + 1 ≤ n → n + r ≤ place + length run → ((k : ℕ) → w.position + (w.met - cut.at) + 1 ≤ k → k < n → slice_index (plain t) (k + r) ≢ slice_index p r)
    → IsReached t p start n
reached-mismatch {t} {p} {cut} {start} {w} run place r n is_cut upto comes occurs past inside other forward within passed =
    let x = plain t in
    let c = cut.at in
    let pos = w.position in
    let met = w.met in
    let from : c ≤ met = comes.cut in
    let low : w.low ≤ c = comes.low in
    let below : c < length p = is_cut.below in
    let fits : place + length run ≤ length x = occurs.fits in
    let begins : start ≤ pos = comes.reached.forward in
    let here : Nowhere (OccursAt x p) pos (pos + (met - c + 1))
    = Nowhere-OccursAt x p pos (pos + (met - c + 1)) (Nowhere-right (slice_index p) (length p) (slice_index x) (length x) c is_cut.critical pos met from comes.short (meets-from x p pos w.low c met low comes.meets)
    (λ same. other (sym (in-run x run place (pos + met) occurs past inside) ∙ sym same))) in
    let there : Nowhere (OccursAt x p) (pos + (met - c + 1)) n = λ k above before stands. passed k (omega (arith, above)) before (stands.reads r (omega (arith, upto, below))) in
    record {
      forward = omega (arith, begins, forward);
      within = omega (arith, fits, within, length-plain t);
      none = Nowhere-then comes.reached.none (Nowhere-then here there);
    }

-- a byte that doesn't occur in the text from an offset of the run on, at which a match at m would have it
pub passed-in-run : {t run : List ℕ} {here : Point} (b m r from next n : ℕ) → OccursAt (plain t) run here.position → OccursAt t run here.offset
    → here.position ≤ m + r → from ≡ here.offset + (m + r - here.position) → n + r ≤ here.position + length run → n + from ≤ m + next
    → StandsNowhere b t from next → (k : ℕ) → m ≤ k → k < n → slice_index (plain t) (k + r) ≢ b
passed-in-run {t} {run} {here} b m r from next n occurs bytes past is inside before none k low high same =
    let j = from + (k - m) in
    let at : j - here.offset ≡ k + r - here.position = omega (arith, past, is, low) in
    none j (omega arith) (omega (arith, before, low, high))
    (in-run t run here.offset j bytes (omega (arith, is)) (omega (arith, past, is, low, high, inside)) ∙ ap (slice_index run) at
    ∙ sym (in-run (plain t) run here.position (k + r) occurs (omega (arith, past, low)) (omega (arith, high, inside))) ∙ same)

-- the window moves on in the run
pub ahead-later : (t p : List ℕ) (r : ℕ) (here : Point) (w v : Window) → LacksRareByte t p r here w → v.next ≡ w.next → w.position ≤ v.position → LacksRareByte t p r here v
ahead-later t p r here w v ahead same later j from before = ahead j (omega (arith, later, from)) (omega (arith, same, before))

-- the last byte
pub meets-last : {t p : List ℕ} {c start : ℕ} {w : Window} (run : List ℕ) (place : ℕ) → IsWindow t p c start w → OccursAt (plain t) run place
    → place ≤ w.position + w.met → w.position + w.met < place + length run → slice_index run (w.position + w.met - place) ≡ slice_index p w.met → length p ≤ w.met + 1
    → MatchesBetween (plain t) p w.position w.low (length p)
meets-last run place comes occurs past inside same last = grind (arith, in-run, meets-next)

-- what follows the cut matches, but all of it doesn't: no match begins in the next places up to the shift
pub reached-apart : {t p : List ℕ} {cut : CriticalCut} {start : ℕ} {w : Window} → IsCut p cut → IsMismatch t p cut.at start w → IsReached t p start (w.position + cut.shift)
reached-apart {t} {p} {cut} {start} {w} is_cut apart =
    let x = plain t in
    let begins : start ≤ w.position = apart.reached.forward in
    let fits : w.position + length p ≤ length x = apart.fits in
    let shift : cut.shift ≤ length p = is_cut.fits in
    record {
      forward = omega (arith, begins);
      within = omega (arith, fits, shift, length-plain t);
      none = Nowhere-then apart.reached.none (Nowhere-OccursAt x p w.position (w.position + cut.shift)
          (Nowhere-left (slice_index p) (length p) (slice_index x) (length x) cut.at cut.shift is_cut.critical is_cut.least w.position apart.meets
          (λ stands. apart.other (record { fits = stands.fits; reads = stands.reads }))));
    }

-- and what was met is known a period on
pub comes-repeats : {t p : List ℕ} {cut : CriticalCut} {start : ℕ} {w : Window} → IsCut p cut → IsTrue cut.repeats → IsMismatch t p cut.at start w
    → IsWindow t p cut.at start (record { position = w.position + cut.shift; low = 0; met = length p - cut.shift; point = w.point; next = w.next })
comes-repeats {t} {p} {cut} {start} {w} is_cut repeats apart =
    let x = plain t in
    let period = is_cut.period repeats in
    let before : w.point.position ≤ w.position = apart.point.before in
    record {
      reached = reached-apart is_cut apart;
      point = record { boundary = apart.point.boundary; rest = apart.point.rest; before = omega (arith, before) };
      low = omega arith;
      cut = omega (arith, period.1);
      short = omega (arith, is_cut.some, is_cut.fits);
      meets = λ k from inside. known-next (slice_index p) (length p) (slice_index x) (length x) cut.at cut.shift period.2 period.0 w.position apart.meets k inside;
    }

pub point-later : {t : List ℕ} {point : Point} {i j : ℕ} → IsPoint t point i → i ≤ j → IsPoint t point j
point-later point later = record { boundary = point.boundary; rest = point.rest; before = omega (arith, point.before, later) }

pub point-first : (t : List ℕ) (n : ℕ) → IsUtf8 t → IsPoint t (record { offset = 0; position = 0 }) n
point-first t n utf8 = record { boundary = IsCharBoundary-start t utf8; rest = refl; before = omega arith }

-- Searches in a row.

pub reached-then : {t p : List ℕ} {start i n : ℕ} → IsReached t p start i → IsReached t p i n → IsReached t p start n
reached-then front back = record { forward = omega (arith, front.forward, back.forward); within = back.within; none = Nowhere-then front.none back.none }

pub comes-then : {t p : List ℕ} {c start i : ℕ} {w : Window} → IsReached t p start i → IsWindow t p c i w → IsWindow t p c start w
comes-then reached comes = record { reached = reached-then reached comes.reached; point = comes.point; low = comes.low; cut = comes.cut; short = comes.short; meets = comes.meets }

-- A run of the text that a scanner gives.

run-is : {old new : Scan} {item : Item} {u w : List ℕ} (x : List ℕ) (place : ℕ) → GivesItem old item new → old.text ≡ u → item.kind ≡ TextKind → plain_of (pieces_left old) ≡ drop place x → w ≡ slice_range u item.start item.end
    → drop place x ≡ w ++ plain_of (pieces_left new)
run-is x place gives same kind left is = sym left ∙ ap plain_of (gives_text gives same is kind)

pub run-left : {old new : Scan} {item : Item} {u w : List ℕ} (x : List ℕ) (place : ℕ) → GivesItem old item new → old.text ≡ u → item.kind ≡ TextKind → plain_of (pieces_left old) ≡ drop place x → w ≡ slice_range u item.start item.end
    → plain_of (pieces_left new) ≡ drop (place + length w) x
run-left {new = new} {w = w} x place gives same kind left is =
    sym (drop_at w (plain_of (pieces_left new)) (length w) refl) ∙ ap (drop (length w)) (sym (run-is x place gives same kind left is)) ∙ drop-drop (length w) place x

pub run-occurs : {old new : Scan} {item : Item} {u w : List ℕ} (x : List ℕ) (place : ℕ) → GivesItem old item new → old.text ≡ u → item.kind ≡ TextKind → plain_of (pieces_left old) ≡ drop place x → w ≡ slice_range u item.start item.end
    → place ≤ length x → OccursAt x w place
run-occurs {new = new} {w = w} x place gives same kind left is within =
    let splits = run-is x place gives same kind left is in
    let y = plain_of (pieces_left new) in
    OccursAt-from_part x w place (omega (arith, within, sym (length-drop place x) ∙ ap length splits, length-append w y)) (ap (take (length w)) splits ∙ take_at w y (length w) refl)

pub run-length : {old new : Scan} {item : Item} {u : List ℕ} → GivesItem old item new → old.text ≡ u → length (slice_range u item.start item.end) ≡ item.end - item.start
run-length {item = item} {u = u} gives same = length-slice_range u item.start item.end (omega (arith, gives.forward)) (omega (arith, gives.end_boundary.0, ap length same))

-- Whether the front matches.

pub front-in-run : (x run f : List ℕ) (place i : ℕ) → OccursAt x run place → place ≤ i → i + length f ≤ place + length run → starts_with nat_eq (drop (i - place) run) f ≡ starts_with nat_eq (drop i x) f
front-in-run x run f place i occurs past inside =
    let rest = drop (place + length run) x in
    let sum : place + (i - place) ≡ i = omega (arith, past) in
    let splits : drop i x ≡ drop (i - place) run ++ rest
    = ap (λ n. drop n x) (sym sum) ∙ sym (drop-drop (i - place) place x) ∙ ap (drop (i - place)) (OccursAt-split x run place occurs)
    ∙ drop-append-le (i - place) run rest (omega (arith, past, inside)) in
    sym (starts_with-within f (drop (i - place) run) rest (omega (arith, length-drop (i - place) run, past, inside))) ∙ ap (λ v. starts_with nat_eq v f) (sym splits)

-- A byte that doesn't occur in a text doesn't occur in its plain text.

abbrev Lacks : ℕ → List ℕ → Type 0
Lacks b x = StandsNowhere b x 0 (length x)

lacks-front : (b : ℕ) (x u v : List ℕ) → x ≡ u ++ v → Lacks b x → Lacks b u
lacks-front b x u v is none j low inside same =
    none j low (omega (arith, ap length is, length-append u v, inside)) (ap (λ y. slice_index y j) is ∙ get_or_append_left u v 0 j inside ∙ same)

lacks-rest : (b : ℕ) (x u v : List ℕ) → x ≡ u ++ v → Lacks b x → Lacks b v
lacks-rest b x u v is none j low inside same =
    none (length u + j) (omega arith) (omega (arith, ap length is, length-append u v, inside)) (ap (λ y. slice_index y (length u + j)) is ∙ get_or-append-add u v j 0 ∙ same)

lacks-append : (b : ℕ) (u v : List ℕ) → Lacks b u → Lacks b v → Lacks b (u ++ v)
lacks-append b u v front rest j low inside same = elim (cases_lt j (length u)) [
  | inl before ↦ front j low before (sym (get_or_append_left u v 0 j before) ∙ same)
  | inr past ↦ rest (j - length u) (omega arith) (omega (arith, inside, length-append u v, past)) (sym (get_or-append_right u v j 0 past) ∙ same)
]

lacks-plain_of : (b : ℕ) (t : List ℕ) (ps : List Piece) → ArePieces t ps → Lacks b t → Lacks b (plain_of ps)
lacks-plain_of b t [] are none = λ j low inside _. omega (arith, low, inside)
lacks-plain_of b t (Text w ∷ ps) are none = lacks-append b w (plain_of ps) (lacks-front b t w are.0 are.1 none) (lacks-plain_of b are.0 ps are.3 (lacks-rest b t w are.0 are.1 none))
lacks-plain_of b t (p ∷ ps) are none = lacks-plain_of b are.0 ps are.3 (lacks-rest b t (spelling p) are.0 are.1 none)

-- The first match.

match-occurs : (x p : List ℕ) (i : ℕ) → 0 < length p → IsMatch x p i → OccursAt x p i
match-occurs x p i some found = starts_with-occurs x p i some (and_parts (is_char_boundary x i) (starts_with nat_eq (drop i x) p) found).1

pub reached-match : {t p : List ℕ} {from i : ℕ} → IsUtf8 p → 0 < length p → IsReached t p from i → OccursAt (plain t) p i → Some i ≡ first_match_from (plain t) p from
reached-match {t} {p} {from} {i} utf8 some reached occurs =
    let x = plain t in
    first_match_from-is x p from (Some i) (
      record {
        low = reached.forward;
        high = omega (arith, occurs.fits);
        before = λ k low high found. reached.none k low high (match-occurs x p k some found);
      },
      is_match-utf8 x p i utf8 some ∙ starts_with-from (drop i x) p _ (OccursAt-split x p i occurs),
    )

pub none-past : (x p : List ℕ) (from : ℕ) → length x < from → None ≡ first_match_from x p from
none-past x p from past = first_match_from-is x p from None (λ k low high _. omega (arith, past, low, high))

pub none-without : (t p : List ℕ) (from r : ℕ) → r < length p → Nowhere (Passes (is_byte (slice_index p r)) t) 0 (length t) → None ≡ first_match_from (plain t) p from
none-without t p from r inside none =
    let lacks = lacks-plain_of (slice_index p r) t (pieces_of t) (pieces_are t) (λ j low before same. none j low before (eq-eqb _ _ same)) in
    first_match_from-is (plain t) p from None (λ k low high found.
    let occurs = match-occurs (plain t) p k (omega (arith, inside)) found in
    lacks (k + r) (omega arith) (omega (arith, inside, occurs.fits)) (occurs.reads r inside))

pub reached-end : {t p : List ℕ} {c from : ℕ} {w : Window} → 0 < length p → IsWindow t p c from w → length (plain t) ≤ w.position + w.met → None ≡ first_match_from (plain t) p from
reached-end {t} {p} {c} {from} {w} some comes end =
    let x = plain t in
    first_match_from-is x p from None (λ k low high found.
    let occurs = match-occurs x p k some found in
    comes.reached.none k low (omega (arith, occurs.fits, end, comes.short)) occurs)
