-- The last mark of a text, found by its last two ESC.
use Rattle.std.proofs.Common.{◌≡◌, ℕ, zero, suc, ◌+◌, ◌-◌, ◌<◌, ◌≤◌, true, List, [], ◌∷◌, ◌++◌, length, take, drop, Some, None, refl, sym, ◌∙◌, ap, ap₂, subst, arith, length-append, append_assoc}
use Rattle.std.specs.Str.{IsUtf8, IsCharBoundary}
use Rattle.std.specs.List.{list_all}
use Rattle.std.proofs.lemmas.Bool.{and_parts, and_from, eqb-true, false_from_ne_true, not_from_false}
use Rattle.std.proofs.lemmas.List.{take-append-drop, take_at, drop_at, drop-drop, length-drop}
use Rattle.std.proofs.lemmas.Str.{IsCharBoundary-from_drop, IsCharBoundary-from_rest}
use Rattle.memchr.specs.Find.{Nowhere, Passes, IsLastByte, is_byte}
use Rattle.ansi_items.specs.Bytes.{escape, is_plain_byte}
use Rattle.ansi_items.specs.Sequences.{IsSequence}
use Rattle.ansi_items.specs.Pieces.{Piece, Text, Sequence, LoneEscape, spelling, StandsBefore, ArePieces, pieces_of}
use Rattle.ansi_items.specs.Plain.{plain}
use Rattle.ansi_items.proofs.PieceLemmas.{pieces_are}
use Rattle.ansi_items.proofs.PlainLemmas.{has_escape-bare, plain-bare}
use Rattle.ansi_clusters.specs.Reverse.{IsLastMark}
use Rattle.ansi_clusters.proofs.ReverseLemmas.{Unreached, unreached-none, unreached-last, unreached-string, mark-plain, take-past_escape}

plain_where : (x : List ℕ) → Nowhere (Passes (is_byte escape) x) 0 (length x) → list_all is_plain_byte x ≡ true
plain_where [] none = refl
plain_where (b ∷ x) none =
    and_from (is_plain_byte b) (list_all is_plain_byte x) (not_from_false _ (false_from_ne_true _ (none 0 (omega arith) (omega arith))))
    (plain_where x (λ k low below. none (suc k) (omega arith) (omega arith)))

-- a text without an ESC is plain
pub plain-no_mark : (t : List ℕ) → IsLastByte (is_byte escape) t None → plain t ≡ t
plain-no_mark t none = plain-bare t (has_escape-bare t (plain_where t none))

-- the text from its last ESC on
pub record LastEscape (x : List ℕ) (k : ℕ) : Type 0 where
  pub after : List ℕ
  pub from : drop k x ≡ escape ∷ after
  pub bytes : list_all is_plain_byte after ≡ true

last_escape_at : (x : List ℕ) (k : ℕ) → IsLastByte (is_byte escape) x (Some k) → LastEscape x k
last_escape_at [] k found = absurd (omega (arith, found.0.high))
last_escape_at (b ∷ x) zero found =
    record { after = x; from = ap (λ a. a ∷ x) (eqb-true b escape found.1); bytes = plain_where x (λ k low below. found.0.after (suc k) (omega arith) (omega arith)) }
last_escape_at (b ∷ x) (suc k) found =
    let rest = last_escape_at x k (record { low = omega arith; high = omega (arith, found.0.high); after = λ n low below. found.0.after (suc n) (omega arith) (omega arith) }, found.1) in
    record { after = rest.after; from = rest.from; bytes = rest.bytes }

plain_drop : (n : ℕ) (x : List ℕ) → list_all is_plain_byte x ≡ true → list_all is_plain_byte (drop n x) ≡ true
plain_drop zero x all = all
plain_drop (suc n) [] all = all
plain_drop (suc n) (b ∷ x) all = plain_drop n x (and_parts (is_plain_byte b) (list_all is_plain_byte x) all).1

-- the text after its last ESC is plain
after_escape : (t : List ℕ) (at n : ℕ) → LastEscape t at → 0 < n → list_all is_plain_byte (drop (at + n) t) ≡ true
after_escape t at zero last some = absurd (omega arith)
after_escape t at (suc n) last some =
    ap (list_all is_plain_byte) (sym (drop-drop (suc n) at t ∙ ap (λ i. drop i t) (omega arith)) ∙ ap (drop (suc n)) last.from) ∙ plain_drop n last.after last.bytes

-- A mark at the front of what begins at `at`: no sequence before it goes on, and the text after it is plain.
mark-last : (t : List ℕ) (at n : ℕ) (p : Piece) (ps : List Piece) (v : List ℕ) → at ≤ length t → IsUtf8 (drop at t) → drop at t ≡ escape ∷ v → Unreached (take at t) (escape ∷ v)
    → pieces_of (drop at t) ≡ p ∷ ps → n ≡ length (spelling p) → 0 < n → IsCharBoundary (drop at t) n → list_all is_plain_byte (drop (at + n) t) ≡ true → IsUtf8 t → IsLastMark t at (at + n)
mark-last t at n p ps v inside rest_utf8 from unreached first len some boundary all utf8 = record {
  ordered = omega arith;
  start_boundary = IsCharBoundary-from_drop t at inside rest_utf8;
  end_boundary = IsCharBoundary-from_rest t at n inside boundary;
  plain = mark-plain t at n p ps v from unreached first len all;
}

-- the last ESC is the only one
pub mark-alone : (t : List ℕ) (last n : ℕ) (p : Piece) (ps : List Piece) → IsUtf8 t → IsUtf8 (drop last t) → IsLastByte (is_byte escape) t (Some last) → IsLastByte (is_byte escape) (take last t) None
    → pieces_of (drop last t) ≡ p ∷ ps → n ≡ length (spelling p) → 0 < n → IsCharBoundary (drop last t) n → IsLastMark t last (last + n)
mark-alone t last n p ps utf8 rest_utf8 found none first len some boundary =
    let tail = last_escape_at t last found in
    mark-last t last n p ps tail.after (omega (arith, found.0.high)) rest_utf8 tail.from (unreached-none (take last t) (escape ∷ tail.after) (plain_where (take last t) none)) first len some boundary
    (after_escape t last n tail some) utf8

-- The last two ESC, the text before them, and between them.
record TwoEscapes (t : List ℕ) (opening last : ℕ) : Type 0 where
  tail : LastEscape t last
  between : LastEscape (take last t) opening
  size : length between.after + opening + 1 ≡ last
  front : take last t ≡ take opening t ++ escape ∷ between.after
  from : drop opening t ≡ (escape ∷ between.after) ++ escape ∷ tail.after

two_escapes : (t : List ℕ) (opening last : ℕ) → IsLastByte (is_byte escape) t (Some last) → IsLastByte (is_byte escape) (take last t) (Some opening) → TwoEscapes t opening last
two_escapes t opening last found before =
    let x = take last t in
    let tail = last_escape_at t last found in
    let between = last_escape_at x opening before in
    let parts = take-append-drop last t in
    let count : length x ≡ last = omega (arith, found.0.high, ap length parts, length-append x (drop last t), length-drop last t) in
    let y = take opening x in
    let front_is : x ≡ y ++ escape ∷ between.after = sym (take-append-drop opening x) ∙ ap (λ u. y ++ u) between.from in
    let count_front : length y ≡ opening = omega (arith, before.0.high, ap length (take-append-drop opening x), length-append y (drop opening x), length-drop opening x) in
    let whole : t ≡ y ++ ((escape ∷ between.after) ++ escape ∷ tail.after)
    = sym parts ∙ ap₂ (λ a b. a ++ b) front_is tail.from ∙ append_assoc y (escape ∷ between.after) (escape ∷ tail.after) in
    let same : take opening t ≡ y = ap (take opening) whole ∙ take_at y _ opening count_front in
    record {
      tail = tail;
      between = between;
      size = omega (arith, count, before.0.high, ap length between.from, length-drop opening x);
      front = front_is ∙ ap (λ u. u ++ escape ∷ between.after) (sym same);
      from = ap (drop opening) whole ∙ drop_at y _ opening count_front;
    }

-- the last ESC begins a mark: what begins at the ESC before it doesn't reach it
pub mark-after : (t : List ℕ) (opening last n : ℕ) (p q : Piece) (ps qs : List Piece) → IsUtf8 t → IsUtf8 (drop last t) → IsLastByte (is_byte escape) t (Some last) → IsLastByte (is_byte escape) (take last t) (Some opening)
    → pieces_of (drop opening t) ≡ q ∷ qs → opening + length (spelling q) ≤ last → pieces_of (drop last t) ≡ p ∷ ps → n ≡ length (spelling p) → 0 < n → IsCharBoundary (drop last t) n → IsLastMark t last (last + n)
mark-after t opening last n p q ps qs utf8 rest_utf8 found before opened short first len some boundary =
    let two = two_escapes t opening last found before in
    let v = two.tail.after in
    let unreached : Unreached (take opening t ++ escape ∷ two.between.after) (escape ∷ v)
    = unreached-last (take opening t) two.between.after v q qs two.between.bytes (ap pieces_of (sym two.from) ∙ opened) (omega (arith, two.size)) in
    mark-last t last n p ps v (omega (arith, found.0.high)) rest_utf8 two.tail.from (subst (λ u. Unreached u (escape ∷ v)) (sym two.front) unreached) first len some boundary
    (after_escape t last n two.tail some) utf8

-- a piece that begins with an ESC and goes on past the next one is a sequence
reaching_sequence : (p : Piece) (s v rest : List ℕ) → StandsBefore p rest → (escape ∷ s) ++ escape ∷ v ≡ spelling p ++ rest → suc (length s) < length (spelling p) → IsSequence (spelling p)
reaching_sequence (Text []) s v rest stands e long = absurd (stands.0 refl)
reaching_sequence (Text (b ∷ w)) s v rest stands e long =
    absurd (cc (and_parts (is_plain_byte b) (list_all is_plain_byte w) stands.1).0)
reaching_sequence (Sequence w) s v rest stands e long = stands
reaching_sequence LoneEscape s v rest stands e long = absurd (omega arith)

-- the ESC before the last one begins the mark, which reaches the last
pub mark-reaching : (t : List ℕ) (opening last n : ℕ) (p : Piece) (ps : List Piece) → IsUtf8 t → IsUtf8 (drop opening t) → IsLastByte (is_byte escape) t (Some last) → IsLastByte (is_byte escape) (take last t) (Some opening)
    → pieces_of (drop opening t) ≡ p ∷ ps → n ≡ length (spelling p) → last < opening + n → IsCharBoundary (drop opening t) n → IsLastMark t opening (opening + n)
mark-reaching t opening last n p ps utf8 rest_utf8 found before first len long boundary =
    let two = two_escapes t opening last found before in
    let s = two.between.after in
    let v = two.tail.after in
    let are = subst (ArePieces (drop opening t)) first (pieces_are (drop opening t)) in
    let k = n - suc (suc (length s)) in
    let past : suc (length s) < n = omega (arith, two.size, long) in
    let spelled : spelling p ≡ escape ∷ (s ++ escape ∷ take k v)
    = sym (take_at (spelling p) are.0 n (sym len)) ∙ ap (take n) (sym are.1 ∙ two.from) ∙ take-past_escape s v n past in
    let whole = reaching_sequence p s v are.0 are.2 (sym two.from ∙ are.1) (omega (arith, past, len)) in
    let string : IsSequence (escape ∷ (s ++ escape ∷ take k v)) = subst IsSequence spelled whole in
    let rest : s ++ escape ∷ v ≡ (s ++ escape ∷ take k v) ++ drop k v
    = ap (λ u. s ++ escape ∷ u) (sym (take-append-drop k v)) ∙ sym (append_assoc s (escape ∷ take k v) (drop k v)) in
    let unreached : Unreached (take opening t) (escape ∷ (s ++ escape ∷ v))
    = subst (λ u. Unreached (take opening t) (escape ∷ u)) (sym rest) (unreached-string (take opening t) s (take k v) (drop k v) string) in
    let m = opening + n - last in
    let past_last : opening + n ≡ last + m = omega arith in
    let all = ap (λ i. list_all is_plain_byte (drop i t)) past_last ∙ after_escape t last m two.tail (omega arith) in
    mark-last t opening n p ps (s ++ escape ∷ v) (omega (arith, found.0.high, two.size)) rest_utf8 two.from unreached first len (omega arith) boundary all utf8
