-- Letters of two bytes and printable ASCII: each is a cluster of one column beside another.
use Rattle.std.proofs.Common.{◌≡◌, ℕ, Bool, suc, ◌+◌, ◌<◌, ◌≤◌, true, false, ◌&&◌, ◌||◌, get_or, slice_index, List, [], ◌∷◌, ◌++◌, length, take, drop, chars, cond, slice_range, encode_utf8, encode_utf8_all, refl, sym, ◌∙◌, ap, ap₂, subst, arith, append-nil, append_assoc, length-append, take-append-drop, ◌-◌, ◌≢◌, ◌*◌, take-add}
use Rattle.std.specs.List.{list_all, count_by, prefix_len}
use Rattle.std.specs.Str.{IsUtf8, IsCharBoundary, byte}
use Rattle.std.proofs.lemmas.Bool.{agree_below, agree_below_at, and_parts}
use Rattle.std.proofs.lemmas.Bool.Decides.{nat_tests}
use Rattle.std.proofs.lemmas.List.{drop-drop, drop_at, length-take, length-take-le, take_at}
use Rattle.std.proofs.lemmas.List.Folds.{list_all-append}
use Rattle.std.proofs.lemmas.List.Sums.{sum_by-append, sum_by-cons, prefix_len-le-length, prefix_len_stops}
use Rattle.std.proofs.lemmas.Str.{IsUtf8-take, IsUtf8-drop, IsCharBoundary-past_char, IsCharBoundary-from_rest, IsCharBoundary-from_take, IsCharBoundary-start, IsUtf8-from_ascii, chars-IsAscii, chars-nil, length-encode, chars-append, encodes-append, encodes-chars}
use Rattle.ansi_clusters.specs.declared.break_state.BreakState.{BreakState}
use Rattle.ansi_clusters.specs.declared.walks.Walk.{Walk}
use Rattle.ansi_clusters.specs.declared.views.View.{View}
use Rattle.ansi_clusters.specs.BreakStates.{break_state_of}
use Rattle.ansi_clusters.specs.Letters.{is_letter, is_wide, are_wide_bytes, is_letter_byte, is_first_byte, AreLettersBefore, IsPlainSingle, ArePlain, IsPlainFront, ArePlainBefore, AreWide, AreWideBefore, IsWideFront}
use Rattle.ansi_clusters.specs.Walks.{IsWalkIn, IsNext, IsPastClusters}
use Rattle.ansi_clusters.specs.Words.{ArePastLetters}
use Rattle.unicode_segmentation.specs.Grapheme.{ends_in_linker, ends_in_pictograph, ends_in_half_flag}
use Rattle.ucd_breaks.specs.declared.GraphemeClusterBreak.TheVariants.{Other}
use Rattle.ansi_clusters.proofs.SingleLemmas.{IsShownSingle-letter, IsShownSingle-wide, letter-elsewhere, wide-elsewhere, single-elsewhere, break_state-single}
use Rattle.ansi_clusters.proofs.SingleWalkLemmas.{walk_past, past-single, clusters-single, letters-none, letters-single}
use Rattle.ansi_clusters.proofs.WalkLemmas.{rest_at}
use Rattle.std.proofs.lemmas.Str.Ascii.{IsAscii-from_all}
use Rattle.ansi_clusters.proofs.AsciiLemmas.{is_printable, All-printable_is_ascii}
use Rattle.ansi_clusters.proofs.WidthLemmas.{width-alone-bound}
use Rattle.std.specs.Int.{is_in_range}
use Rattle.std.specs.Char.{len_utf8}
use Rattle.ansi_clusters.specs.Columns.{cluster_width}
use Rattle.ansi_items.proofs.SequenceLemmas.{all-run}
use Rattle.unicode_segmentation.proofs.TextLemmas.{IsUtf8-after, chars-encode_utf8}

-- ---- the characters of bytes of letters

pub boundary-letters : (t : List ℕ) → IsUtf8 t → IsCharBoundary t (prefix_len is_letter_byte t)
boundary-letters t utf8 = (prefix_len-le-length is_letter_byte t, λ inside high. by (get_or t (prefix_len is_letter_byte t) 0) high (prefix_len_stops is_letter_byte t 0 inside))
  where
    by : (b : ℕ) → 128 ≤ b → is_letter_byte b ≡ false → 192 ≤ b
    by b high stops = grind (arith, nat_tests)

letter-char : (c : ℕ) → list_all is_letter_byte (encode_utf8 c) ≡ true → is_letter c ≡ true
unfolding lib.Utf8.encode
letter-char c all = grind (arith, nat_tests)

letters-all : (cs : List ℕ) → list_all is_letter_byte (encode_utf8_all cs) ≡ true → list_all is_letter cs ≡ true
letters-all [] all = refl
letters-all (c ∷ cs) all =
    let both = and_parts _ _ (sym (list_all-append is_letter_byte (encode_utf8 c) (encode_utf8_all cs)) ∙ all) in
    ap₂ (λ a b. a && b) (letter-char c both.0) (letters-all cs both.1)

letters-chars : (w : List ℕ) → IsUtf8 w → list_all is_letter_byte w ≡ true → list_all is_letter (chars w) ≡ true
letters-chars w utf8 all = letters-all (chars w) (ap (list_all is_letter_byte) (encodes-chars w utf8) ∙ all)

-- the bytes of a kana or an ideograph
wide-code : (c : ℕ) (rest : List ℕ) → are_wide_bytes (slice_index (encode_utf8 c ++ rest) 0) (slice_index (encode_utf8 c ++ rest) 1) (slice_index (encode_utf8 c ++ rest) 2) ≡ true → (is_wide c ≡ true) × (length (encode_utf8 c) ≡ 3)
unfolding lib.Utf8.encode
wide-code c rest is = grind (arith, nat_tests)

wide-single : (c : ℕ) → is_wide c ≡ true → IsPlainSingle c 2
wide-single c is = record { shown = IsShownSingle-wide c is; elsewhere = wide-elsewhere c is }

-- the text begins with one
pub wide-first : (t : List ℕ) → IsUtf8 t → 3 ≤ length t → are_wide_bytes (slice_index t 0) (slice_index t 1) (slice_index t 2) ≡ true → (c : ℕ) × (rest : List ℕ) × (t ≡ encode_utf8 c ++ rest) × (is_wide c ≡ true) × (length (encode_utf8 c) ≡ 3)
wide-first t utf8 some wide = by (chars t) (encodes-chars t utf8)
  where
    by : (cs : List ℕ) → encode_utf8_all cs ≡ t → (c : ℕ) × (rest : List ℕ) × (t ≡ encode_utf8 c ++ rest) × (is_wide c ≡ true) × (length (encode_utf8 c) ≡ 3)
    by [] none = absurd (omega (arith, some, ap length none))
    by (c ∷ cs) bytes =
        let rest = encode_utf8_all cs in
        let same : are_wide_bytes (slice_index (encode_utf8 c ++ rest) 0) (slice_index (encode_utf8 c ++ rest) 1) (slice_index (encode_utf8 c ++ rest) 2) ≡ true = ap (λ u. are_wide_bytes (slice_index u 0) (slice_index u 1) (slice_index u 2)) bytes ∙ wide in
        let is = wide-code c rest same in
        (c, rest, sym bytes, is.0, is.1)

-- a text that begins with them, up to a place before their end
pub letters-before : (t w rest : List ℕ) (k : ℕ) → t ≡ w ++ rest → IsUtf8 w → list_all is_letter_byte w ≡ true → IsCharBoundary w k → k < length w → AreLettersBefore t (take k w)
letters-before t w rest k text utf8 all boundary inside =
    let front = take k w in
    let back = drop k w in
    let front_utf8 = IsUtf8-take w k utf8 boundary in
    let back_utf8 = IsUtf8-drop w k utf8 boundary in
    let split : w ≡ front ++ back = sym (take-append-drop k w) in
    let letters = and_parts _ _ (sym (list_all-append is_letter (chars front) (chars back)) ∙ ap (list_all is_letter) (sym (chars-append front back front_utf8) ∙ ap chars (sym split)) ∙ letters-chars w utf8 all) in
    by (chars back) letters.0 letters.1 (encodes-chars front front_utf8) (encodes-chars back back_utf8)
  where
    by : (ds : List ℕ) → list_all is_letter (chars (take k w)) ≡ true → list_all is_letter ds ≡ true → encode_utf8_all (chars (take k w)) ≡ take k w → encode_utf8_all ds ≡ drop k w → AreLettersBefore t (take k w)
    by [] first second front_is back_is = absurd (omega (arith, inside, ap length back_is, ap length (take-append-drop k w), length-append (take k w) (drop k w), length-take-le k w (omega (arith, inside))))
    by (d ∷ ds) first second front_is back_is = record {
      letters = chars (take k w);
      last = d;
      more = encode_utf8_all ds ++ rest;
      all = first;
      last_is = (and_parts _ _ second).0;
      front_is = sym front_is;
      bytes = text ∙ ap (λ u. u ++ rest) (sym (take-append-drop k w) ∙ ap (λ u. take k w ++ u) (sym back_is)) ∙ append_assoc (take k w) (encode_utf8 d ++ encode_utf8_all ds) rest ∙ ap (λ u. take k w ++ u) (append_assoc (encode_utf8 d) (encode_utf8_all ds) rest);
    }

-- a part of a part of a part at the front of a text
pub slice-front : (t : List ℕ) (n : ℕ) → slice_range t 0 n ≡ take n t
slice-front t n = (let count : n - 0 ≡ n = omega arith in ap (λ k. take k t) count)

module _ (t near w front : List ℕ) (m n k : ℕ) (near_is : near ≡ slice_range t 0 m) (w_is : w ≡ slice_range near 0 n) (front_is : front ≡ slice_range w 0 k) where
  pub front-is : front ≡ take k w
  front-is = front_is ∙ slice-front w k

  pub text-split : t ≡ w ++ (drop n near ++ drop m t)
  text-split =
      sym (take-append-drop m t) ∙ ap (λ u. u ++ drop m t) (sym (near_is ∙ slice-front t m) ∙ sym (take-append-drop n near) ∙ ap (λ u. u ++ drop n near) (sym (w_is ∙ slice-front near n)))
      ∙ append_assoc w (drop n near) (drop m t)

  pub front-taken : front ≡ take (length front) t
  front-taken =
      let rest = drop k w ++ (drop n near ++ drop m t) in
      let all : t ≡ front ++ rest = text-split ∙ ap (λ u. u ++ (drop n near ++ drop m t)) (sym (take-append-drop k w) ∙ ap (λ u. u ++ drop k w) (sym front-is)) ∙ append_assoc front (drop k w) (drop n near ++ drop m t) in
      sym (ap (take (length front)) all ∙ take_at front rest (length front) refl)

  pub front-size : (length front ≤ m) × (length front ≤ length t)
  front-size =
      let one = ap length (front-is) ∙ length-take k w in
      let two = ap length (w_is ∙ slice-front near n) ∙ length-take n near in
      let three = ap length (near_is ∙ slice-front t m) ∙ length-take m t in
      (omega (arith, one, two, three), omega (arith, one, two, three))

-- ---- how many they are

-- as many pass either of two tests of bytes that agree
pub count-agree : (p q : ℕ → Bool) → agree_below p q 256 ≡ true → (xs : List ℕ) → ((k : ℕ) → k < length xs → get_or xs k 0 < 256) → count_by p xs ≡ count_by q xs
count-agree p q agrees [] below = refl
count-agree p q agrees (x ∷ xs) below =
    omega (
      arith,
      sum_by-cons (λ y. cond (p y) 1 0) x xs,
      sum_by-cons (λ y. cond (q y) 1 0) x xs,
      ap {B = ℕ} (λ b. cond b 1 0) (agree_below_at p q 256 x agrees (below 0 (omega arith))),
      count-agree p q agrees xs (λ k inside. below (suc k) (omega (arith, inside))),
    )

pub count-most : (p : ℕ → Bool) (xs : List ℕ) → count_by p xs ≤ length xs
count-most p [] = omega arith
count-most p (x ∷ xs) = omega (arith, sum_by-cons (λ y. cond (p y) 1 0) x xs, few (p x), count-most p xs)
  where
    few : (b : Bool) → cond b 1 0 ≤ 1
    few true = omega arith
    few false = omega arith

-- those of a part, and those after it
pub count-parts : (p : ℕ → Bool) (n at : ℕ) (xs : List ℕ) → count_by p (take n (drop at xs)) + count_by p (drop (at + n) xs) ≡ count_by p (drop at xs)
count-parts p n at xs =
    omega (arith, sum_by-append (λ y. cond (p y) 1 0) (take n (drop at xs)) (drop n (drop at xs)), ap (count_by p) (take-append-drop n (drop at xs)), ap (count_by p) (drop-drop n at xs))

count-letter : (c : ℕ) → is_letter c ≡ true → count_by is_first_byte (encode_utf8 c) ≡ 1
unfolding lib.Utf8.encode
count-letter c is = grind (arith, nat_tests)

pub count-letters : (cs : List ℕ) → list_all is_letter cs ≡ true → count_by is_first_byte (encode_utf8_all cs) ≡ length cs
count-letters [] all = refl
count-letters (c ∷ cs) all =
    let both = and_parts (is_letter c) (list_all is_letter cs) all in
    omega (arith, sum_by-append (λ b. cond (is_first_byte b) 1 0) (encode_utf8 c) (encode_utf8_all cs), count-letter c both.0, count-letters cs both.1)

-- ---- a walk over them

-- the state after such a character, as after nothing
pub plain-state : {c width : ℕ} (before : List ℕ) → IsPlainSingle c width → break_state_of [] ≡ break_state_of (c ∷ before)
unfolding ends_in_linker ends_in_pictograph ends_in_half_flag
plain-state {c} before is = break_state-single c before Other is.shown.single (single-elsewhere c is.shown.single.break is.elsewhere)

-- a letter is one
letter-single : (c : ℕ) → is_letter c ≡ true → IsPlainSingle c 1
letter-single c is = record { shown = IsShownSingle-letter c is; elsewhere = letter-elsewhere c is }

printable-letter : (c : ℕ) → is_printable c ≡ true → is_letter c ≡ true
printable-letter c printable = ap (λ b. b || (is_in_range 0xC0 0x2FF c || is_in_range 0x380 0x47F c)) printable

-- the walk after n bytes of them
abbrev pub past_letter_bytes : Walk → ℕ → Walk
past_letter_bytes w n = walk_past w n (break_state_of [])

plain-letters : (cs : List ℕ) → list_all is_letter cs ≡ true → ArePlain cs (length cs)
plain-letters [] all = refl
plain-letters (c ∷ cs) all =
    let both = and_parts (is_letter c) (list_all is_letter cs) all in
    (1, length cs, letter-single c both.0, plain-letters cs both.1, omega arith)

pub plain-printable : (x : List ℕ) → list_all is_printable x ≡ true → ArePlain x (length x)
plain-printable [] all = refl
plain-printable (c ∷ x) all =
    let both = and_parts (is_printable c) (list_all is_printable x) all in
    (1, length x, letter-single c (printable-letter c both.0), plain-printable x both.1, omega arith)

plain-wide : (cs : List ℕ) (n : ℕ) → AreWide cs n → ArePlain cs n
plain-wide [] n none = none
plain-wide (c ∷ cs) n all = (all.0, all.1, all.2, plain-wide cs all.1 all.4, all.5)

clusters-plain : {view : View} {t : List ℕ} {from : Walk} (c : ℕ) (cs : List ℕ) {w : Walk} {n : ℕ} (m d last : ℕ) (more : List ℕ) → IsUtf8 t → IsPastClusters view t from w n → slice_range t w.offset w.run_end ≡ encode_utf8_all (c ∷ cs) ++ (encode_utf8 d ++ more) → ArePlain (c ∷ cs) m → IsPlainSingle d last
    → IsPastClusters view t from (past_letter_bytes w (length (encode_utf8_all (c ∷ cs)))) (n + m)
clusters-plain {view} {t} {from} c [] {w} {n} m d last more utf8 so_far bytes all last_is =
    let width = all.0 in
    let same : encode_utf8_all (c ∷ []) ≡ encode_utf8 c = append-nil (encode_utf8 c) in
    let count : n + width ≡ n + m = omega (arith, all.4, all.3) in
    subst (λ k. IsPastClusters view t from (past_letter_bytes w (length (encode_utf8_all (c ∷ [])))) k) count
    (clusters-single (length (encode_utf8_all (c ∷ []))) (break_state_of []) more utf8 so_far (bytes ∙ ap (λ u. u ++ (encode_utf8 d ++ more)) same) all.2.shown last_is.shown (ap length same) (λ before. plain-state before all.2))
clusters-plain {view} {t} {from} c (e ∷ cs) {w} {n} m d last more utf8 so_far bytes all last_is =
    let width = all.0 in
    let left = all.1 in
    let next = all.3 in
    let len = length (encode_utf8 c) in
    let rest = encode_utf8_all (e ∷ cs) ++ (encode_utf8 d ++ more) in
    let then : slice_range t w.offset w.run_end ≡ encode_utf8 c ++ rest = bytes ∙ append_assoc (encode_utf8 c) (encode_utf8_all (e ∷ cs)) (encode_utf8 d ++ more) in
    let second : rest ≡ encode_utf8 e ++ (encode_utf8_all cs ++ (encode_utf8 d ++ more)) = append_assoc (encode_utf8 e) (encode_utf8_all cs) (encode_utf8 d ++ more) in
    let one = clusters-single len (break_state_of []) (encode_utf8_all cs ++ (encode_utf8 d ++ more)) utf8 so_far (then ∙ ap (λ u. encode_utf8 c ++ u) second) all.2.shown next.2.shown refl (λ before. plain-state before all.2) in
    let here : IsNext t w c = record { rest = rest; bytes = then } in
    let all_past = clusters-plain e cs left d last more utf8 one (rest_at t utf8 w so_far.walk c here) next last_is in
    let size : len + length (encode_utf8_all (e ∷ cs)) ≡ length (encode_utf8_all (c ∷ (e ∷ cs))) = sym (length-append (encode_utf8 c) (encode_utf8_all (e ∷ cs))) in
    let position : w.position + len + length (encode_utf8_all (e ∷ cs)) ≡ w.position + length (encode_utf8_all (c ∷ (e ∷ cs))) = omega (arith, size) in
    let offset : w.offset + len + length (encode_utf8_all (e ∷ cs)) ≡ w.offset + length (encode_utf8_all (c ∷ (e ∷ cs))) = omega (arith, size) in
    let at : ℕ → ℕ → Walk = λ p o. record { position = p; offset = o; run_end = w.run_end; break_state = break_state_of [] } in
    let count : n + width + left ≡ n + m = omega (arith, all.4) in
    subst (λ k. IsPastClusters view t from (past_letter_bytes w (length (encode_utf8_all (c ∷ (e ∷ cs))))) k) count
    (subst (λ v. IsPastClusters view t from v (n + width + left)) (ap₂ at position offset) all_past)

-- ---- the front of a text that is such characters

pub plain-append : (cs ds : List ℕ) (n m : ℕ) → ArePlain cs n → ArePlain ds m → ArePlain (cs ++ ds) (n + m)
plain-append [] ds n m none all = (let same : m ≡ n + m = omega (arith, none) in subst (ArePlain ds) same all)
plain-append (c ∷ cs) ds n m all more = (all.0, all.1 + m, all.2, plain-append cs ds all.1 m all.3 more, omega (arith, all.4))

plain-last : (cs : List ℕ) (c n : ℕ) → ArePlain (cs ++ c ∷ []) n → (m : ℕ) × (width : ℕ) × ArePlain cs m × IsPlainSingle c width × (n ≡ m + width)
plain-last [] c n all = (0, all.0, refl, all.2, omega (arith, all.4, all.3))
plain-last (e ∷ cs) c n all =
    let rest = plain-last cs c all.1 all.3 in
    (all.0 + rest.0, rest.1, (all.0, rest.0, all.2, rest.2, refl), rest.3, omega (arith, all.4, rest.4))

-- each has at most two columns for a byte
pub plain-bound : (cs : List ℕ) (n : ℕ) → ArePlain cs n → n ≤ 2 * length (encode_utf8_all cs)
plain-bound [] n none = omega (arith, none)
plain-bound (c ∷ cs) n all = omega (arith, all.4, all.2.shown.columns_are, width-alone-bound c, plain-bound cs all.1 all.3, length-append (encode_utf8 c) (encode_utf8_all cs))

-- what is left after some bytes
pub rest-past : (t : List ℕ) (at : ℕ) (first rest : List ℕ) → drop at t ≡ first ++ rest → drop (at + length first) t ≡ rest
rest-past t at first rest bytes = sym (drop-drop (length first) at t) ∙ ap (drop (length first)) bytes ∙ drop_at first rest (length first) refl

-- none
pub front-none : (t : List ℕ) → IsUtf8 t → IsPlainFront t 0 0
front-none t utf8 = record { boundary = IsCharBoundary-start t utf8; plain = subst (λ cs. ArePlain cs 0) (sym chars-nil) refl }

module _ (t : List ℕ) (utf8 : IsUtf8 t) where
  pub front-bound : {at n : ℕ} → IsPlainFront t at n → n ≤ 2 * at
  front-bound {at} {n} front =
      omega (arith, plain-bound (chars (take at t)) n front.plain, ap length (encodes-chars (take at t) (IsUtf8-take t at utf8 front.boundary)), length-take-le at t front.boundary.0)

  -- more of them after some
  pub front-more : {at len n m : ℕ} → IsPlainFront t at n → IsPlainFront (drop at t) len m → IsPlainFront t (at + len) (n + m)
  front-more {at} {len} {n} {m} front more =
      let split : chars (take (at + len) t) ≡ chars (take at t) ++ chars (take len (drop at t)) = ap chars (take-add at len t) ∙ chars-append (take at t) (take len (drop at t)) (IsUtf8-take t at utf8 front.boundary) in
      record {
        boundary = IsCharBoundary-from_rest t at len front.boundary.0 more.boundary;
        plain = subst (λ cs. ArePlain cs (n + m)) (sym split) (plain-append (chars (take at t)) (chars (take len (drop at t))) n m front.plain more.plain);
      }

  -- letters are such characters
  pub front-letters : (n : ℕ) → n ≡ prefix_len is_letter_byte t → IsPlainFront t n (count_by is_first_byte (take n t))
  front-letters n is =
      let boundary = subst (IsCharBoundary t) (sym is) (boundary-letters t utf8) in
      let w = take n t in
      let w_utf8 = IsUtf8-take t n utf8 boundary in
      let all : list_all is_letter_byte w ≡ true = ap (λ k. list_all is_letter_byte (take k t)) is ∙ all-run is_letter_byte t in
      let letters = letters-chars w w_utf8 all in
      let count : length (chars w) ≡ count_by is_first_byte w = sym (count-letters (chars w) letters) ∙ ap (count_by is_first_byte) (encodes-chars w w_utf8) in
      record { boundary = boundary; plain = subst (ArePlain (chars w)) count (plain-letters (chars w) letters) }

  -- and so is printable ASCII
  pub front-printable : (n : ℕ) → n ≡ prefix_len is_printable t → IsPlainFront t n n
  front-printable n is =
      let w = take n t in
      let within : n ≤ length t = omega (arith, is, prefix_len-le-length is_printable t) in
      let all : list_all is_printable w ≡ true = ap (λ k. list_all is_printable (take k t)) is ∙ all-run is_printable t in
      let ascii = IsAscii-from_all w (All-printable_is_ascii w all) in
      record {
        boundary = IsCharBoundary-from_take t n utf8 within (IsUtf8-from_ascii w ascii);
        plain = subst (λ cs. ArePlain cs n) (sym (chars-IsAscii w ascii)) (subst (ArePlain w) (length-take-le n t within) (plain-printable w all));
      }

  -- a character is one
  pub front-first : (c width : ℕ) (rest : List ℕ) → t ≡ encode_utf8 c ++ rest → IsPlainSingle c width → IsPlainFront t (length (encode_utf8 c)) width
  front-first c width rest first single =
      let boundary : IsCharBoundary t (length (encode_utf8 c)) = subst (IsCharBoundary t) (let size : 0 + len_utf8 c ≡ length (encode_utf8 c) = omega (arith, length-encode c) in size) (IsCharBoundary-past_char t rest 0 c (omega arith) utf8 first) in
      let bytes : take (length (encode_utf8 c)) t ≡ encode_utf8 c = ap (take (length (encode_utf8 c))) first ∙ take_at (encode_utf8 c) rest (length (encode_utf8 c)) refl in
      let one : chars (take (length (encode_utf8 c)) t) ≡ c ∷ [] = ap chars bytes ∙ chars-encode_utf8 c (subst IsUtf8 bytes (IsUtf8-take t (length (encode_utf8 c)) utf8 boundary)) in
      record { boundary = boundary; plain = subst (λ cs. ArePlain cs width) (sym one) (width, 0, single, refl, omega arith) }

  -- so is a kana or an ideograph
  pub front-wide : (c : ℕ) (rest : List ℕ) → t ≡ encode_utf8 c ++ rest → is_wide c ≡ true → length (encode_utf8 c) ≡ 3 → IsPlainFront t 3 2
  front-wide c rest bytes is size = subst (λ n. IsPlainFront t n 2) size (front-first c 2 rest bytes (wide-single c is))

  -- before the last of them
  pub front-before : {len n : ℕ} (last : ℕ) (front : List ℕ) → IsUtf8 front → IsPlainFront t len n → take len t ≡ front ++ encode_utf8 last → (width : ℕ) × (m : ℕ) × (n ≡ m + width) × (width ≡ cluster_width (last ∷ [])) × ArePlainBefore t (take (length front) t) m
  front-before {len} {n} last front front_utf8 all is =
      let whole_utf8 = IsUtf8-take t len utf8 all.boundary in
      let cs : chars (take len t) ≡ chars front ++ last ∷ [] = ap chars is ∙ chars-append front (encode_utf8 last) front_utf8 ∙ ap (λ u. chars front ++ u) (chars-encode_utf8 last (IsUtf8-after (take len t) front (encode_utf8 last) whole_utf8 front_utf8 is)) in
      let parts = plain-last (chars front) last n (subst (λ ds. ArePlain ds n) cs all.plain) in
      let bytes : t ≡ front ++ (encode_utf8 last ++ drop len t) = sym (take-append-drop len t) ∙ ap (λ u. u ++ drop len t) is ∙ append_assoc front (encode_utf8 last) (drop len t) in
      let taken : take (length front) t ≡ front = ap (take (length front)) bytes ∙ take_at front (encode_utf8 last ++ drop len t) (length front) refl in (
        parts.1,
        parts.0,
        parts.4,
        parts.3.shown.columns_are,
        record {
          singles = chars front;
          last = last;
          width = parts.1;
          more = drop len t;
          all = parts.2;
          last_is = parts.3;
          front_is = taken ∙ sym (encodes-chars front front_utf8);
          bytes = bytes ∙ ap (λ u. u ++ (encode_utf8 last ++ drop len t)) (sym taken);
        },
      )

-- a walk over no clusters
pub clusters-nothing : {view : View} {t : List ℕ} {w : Walk} → IsWalkIn view t w → IsPastClusters view t w w 0
clusters-nothing walk = record { clusters = []; walk = walk; ordered = omega arith; all = refl; seen = omega arith; each = refl; columns_are = refl; bound = omega arith }

-- a walk over the characters that the run begins with, but the last one
pub past-stretch : {view : View} {t run : List ℕ} {w : Walk} {n : ℕ} (len : ℕ) (state : BreakState) → IsUtf8 t → IsWalkIn view t w → slice_range t w.offset w.run_end ≡ run → ArePlainBefore run (take len run) n → 0 < len → len ≤ length run → state ≡ break_state_of [] → IsPastClusters view t w (walk_past w len state) n
past-stretch {view} {t} {run} {w} {n} len state utf8 walk run_is are some within state_is = by are.singles are.all are.front_is
  where
    size : length (take len run) ≡ len
    size = length-take-le len run within

    by : (cs : List ℕ) → ArePlain cs n → take len run ≡ encode_utf8_all cs → IsPastClusters view t w (walk_past w len state) n
    by [] all front_is = absurd (omega (arith, some, size, ap length front_is))
    by (c ∷ cs) all front_is =
        let whole : slice_range t w.offset w.run_end ≡ encode_utf8_all (c ∷ cs) ++ (encode_utf8 are.last ++ are.more) = run_is ∙ are.bytes ∙ ap (λ u. u ++ (encode_utf8 are.last ++ are.more)) front_is in
        let past = clusters-plain c cs n are.last are.width are.more utf8 (clusters-nothing walk) whole all are.last_is in
        let count : 0 + n ≡ n = omega arith in
        let length_is : length (encode_utf8_all (c ∷ cs)) ≡ len = ap length (sym front_is) ∙ size in
        subst (λ k. IsPastClusters view t w (walk_past w len state) k) count
        (subst (λ v. IsPastClusters view t w v (0 + n)) (ap₂ (λ k s. walk_past w k s) length_is (sym state_is)) past)

-- letters are such characters
pub letters-stretch : {t front : List ℕ} {n : ℕ} → AreLettersBefore t front → n ≡ count_by is_first_byte front → ArePlainBefore t front n
letters-stretch {t} {front} {n} are count_is =
    let count : length are.letters ≡ n = omega (arith, count_is, ap (count_by is_first_byte) are.front_is, count-letters are.letters are.all) in
    record {
      singles = are.letters;
      last = are.last;
      width = 1;
      more = are.more;
      all = subst (ArePlain are.letters) count (plain-letters are.letters are.all);
      last_is = letter-single are.last are.last_is;
      front_is = are.front_is;
      bytes = are.bytes;
    }

-- and so are those that aren't blanks
pub wide-stretch : {t front : List ℕ} {n : ℕ} → AreWideBefore t front n → ArePlainBefore t front n
wide-stretch {n = n} are = record { singles = are.singles; last = are.last; width = are.width; more = are.more; all = plain-wide are.singles n are.all; last_is = are.last_is; front_is = are.front_is; bytes = are.bytes }

-- these are letters of a word
words-wide : {view : View} {t : List ℕ} {from : Walk} (c : ℕ) (cs : List ℕ) {w : Walk} {n : ℕ} (m d last : ℕ) (more : List ℕ) → IsUtf8 t → IsWalkIn view t w → ArePastLetters view t from w n → slice_range t w.offset w.run_end ≡ encode_utf8_all (c ∷ cs) ++ (encode_utf8 d ++ more) → AreWide (c ∷ cs) m → IsPlainSingle d last
    → ArePastLetters view t from (past_letter_bytes w (length (encode_utf8_all (c ∷ cs)))) (n + m)
words-wide {view} {t} {from} c [] {w} {n} m d last more utf8 walk so_far bytes all last_is =
    let same : encode_utf8_all (c ∷ []) ≡ encode_utf8 c = append-nil (encode_utf8 c) in
    let count : n + all.0 ≡ n + m = omega (arith, all.5, all.4) in
    subst (λ k. ArePastLetters view t from (past_letter_bytes w (length (encode_utf8_all (c ∷ [])))) k) count
    (letters-single (length (encode_utf8_all (c ∷ []))) (break_state_of []) more utf8 walk so_far (bytes ∙ ap (λ u. u ++ (encode_utf8 d ++ more)) same) all.2.shown last_is.shown (ap length same) (λ before. plain-state before all.2) all.3)
words-wide {view} {t} {from} c (e ∷ cs) {w} {n} m d last more utf8 walk so_far bytes all last_is =
    let width = all.0 in
    let left = all.1 in
    let next = all.4 in
    let len = length (encode_utf8 c) in
    let rest = encode_utf8_all (e ∷ cs) ++ (encode_utf8 d ++ more) in
    let then : slice_range t w.offset w.run_end ≡ encode_utf8 c ++ rest = bytes ∙ append_assoc (encode_utf8 c) (encode_utf8_all (e ∷ cs)) (encode_utf8 d ++ more) in
    let second : rest ≡ encode_utf8 e ++ (encode_utf8_all cs ++ (encode_utf8 d ++ more)) = append_assoc (encode_utf8 e) (encode_utf8_all cs) (encode_utf8 d ++ more) in
    let two = then ∙ ap (λ u. encode_utf8 c ++ u) second in
    let state = λ (before : List ℕ). plain-state before all.2 in
    let after = encode_utf8_all cs ++ (encode_utf8 d ++ more) in
    let one = letters-single len (break_state_of []) after utf8 walk so_far two all.2.shown next.2.shown refl state all.3 in
    let later = past-single view t utf8 w walk c e after two (walk_past w len (break_state_of [])) width next.0 all.2.shown next.2.shown refl refl refl state in
    let here : IsNext t w c = record { rest = rest; bytes = then } in
    let all_past = words-wide e cs left d last more utf8 later.0 one (rest_at t utf8 w walk c here) next last_is in
    let size : len + length (encode_utf8_all (e ∷ cs)) ≡ length (encode_utf8_all (c ∷ (e ∷ cs))) = sym (length-append (encode_utf8 c) (encode_utf8_all (e ∷ cs))) in
    let position : w.position + len + length (encode_utf8_all (e ∷ cs)) ≡ w.position + length (encode_utf8_all (c ∷ (e ∷ cs))) = omega (arith, size) in
    let offset : w.offset + len + length (encode_utf8_all (e ∷ cs)) ≡ w.offset + length (encode_utf8_all (c ∷ (e ∷ cs))) = omega (arith, size) in
    let at : ℕ → ℕ → Walk = λ p o. record { position = p; offset = o; run_end = w.run_end; break_state = break_state_of [] } in
    let count : n + width + left ≡ n + m = omega (arith, all.5) in
    subst (λ k. ArePastLetters view t from (past_letter_bytes w (length (encode_utf8_all (c ∷ (e ∷ cs))))) k) count
    (subst (λ v. ArePastLetters view t from v (n + width + left)) (ap₂ at position offset) all_past)

pub past-words : {view : View} {t run : List ℕ} {w : Walk} {n : ℕ} (len : ℕ) (state : BreakState) → IsUtf8 t → IsWalkIn view t w → slice_range t w.offset w.run_end ≡ run → AreWideBefore run (take len run) n → 0 < len → len ≤ length run → state ≡ break_state_of [] → ArePastLetters view t w (walk_past w len state) n
past-words {view} {t} {run} {w} {n} len state utf8 walk run_is are some within state_is = by are.singles are.all are.front_is
  where
    size : length (take len run) ≡ len
    size = length-take-le len run within

    by : (cs : List ℕ) → AreWide cs n → take len run ≡ encode_utf8_all cs → ArePastLetters view t w (walk_past w len state) n
    by [] all front_is = absurd (omega (arith, some, size, ap length front_is))
    by (c ∷ cs) all front_is =
        let whole : slice_range t w.offset w.run_end ≡ encode_utf8_all (c ∷ cs) ++ (encode_utf8 are.last ++ are.more) = run_is ∙ are.bytes ∙ ap (λ u. u ++ (encode_utf8 are.last ++ are.more)) front_is in
        let past = words-wide c cs n are.last are.width are.more utf8 walk (letters-none view t w) whole all are.last_is in
        let count : 0 + n ≡ n = omega arith in
        let length_is : length (encode_utf8_all (c ∷ cs)) ≡ len = ap length (sym front_is) ∙ size in
        subst (λ k. ArePastLetters view t w (walk_past w len state) k) count
        (subst (λ v. ArePastLetters view t w v (0 + n)) (ap₂ (λ k s. walk_past w k s) length_is (sym state_is)) past)

-- ---- ideographs and the like

wide-append : (cs : List ℕ) (n c width : ℕ) → AreWide cs n → IsPlainSingle c width → c ≢ byte " " → AreWide (cs ++ c ∷ []) (n + width)
wide-append [] n c width none single solid = (width, 0, single, solid, refl, omega (arith, none))
wide-append (e ∷ cs) n c width all single solid = (all.0, all.1 + width, all.2, all.3, wide-append cs all.1 c width all.4 single solid, omega (arith, all.5))

-- one more kana or ideograph after those that were passed
module _ (t : List ℕ) (utf8 : IsUtf8 t) (at n : ℕ) (boundary : IsCharBoundary t at) (cs : List ℕ) (all : AreWide cs n) (front : take at t ≡ encode_utf8_all cs) (c : ℕ) (rest : List ℕ) (next : drop at t ≡ encode_utf8 c ++ rest) (is : is_wide c ≡ true) (size : length (encode_utf8 c) ≡ 3) where
  solid : c ≢ byte " "
  solid same = (let no : is_wide 0x20 ≡ true = ap is_wide (sym same) ∙ is in cc no)

  pub wide-front : IsWideFront t (at + 3) (n + 2)
  wide-front =
      let place : at + 3 - 3 ≡ at = omega arith in
      let count : n + 2 - 2 ≡ n = omega arith in
      record {
        size = omega arith;
        wide = omega arith;
        before = subst (λ k. AreWideBefore t (take k t) (n + 2 - 2)) (sym place) (subst (AreWideBefore t (take at t)) (sym count) (record {
          singles = cs;
          last = c;
          width = 2;
          more = rest;
          all = all;
          last_is = wide-single c is;
          front_is = front;
          bytes = sym (take-append-drop at t) ∙ ap (λ u. take at t ++ u) next;
        }));
      }

  pub wide-next : (ds : List ℕ) × AreWide ds (n + 2) × (take (at + 3) t ≡ encode_utf8_all ds)
  wide-next = (
    cs ++ c ∷ [],
    wide-append cs n c 2 all (wide-single c is) solid,
    ap (λ k. take (at + k) t) (sym size) ∙ take-add at (length (encode_utf8 c)) t ∙ ap₂ (λ u v. u ++ v) front (ap (take (length (encode_utf8 c))) next ∙ take_at (encode_utf8 c) rest (length (encode_utf8 c)) refl)
        ∙ sym (encodes-append cs (c ∷ []) ∙ ap (λ u. encode_utf8_all cs ++ u) (append-nil (encode_utf8 c))),
  )
