-- Where the next ESC is, and how many looks a scanner took up to there.
use Rattle.ansi_items.proofs.Common.{◌≡◌, ℕ, zero, suc, ◌+◌, ◌-◌, ◌*◌, ◌<◌, ◌≤◌, Bool, true, false, List, [], ◌∷◌, length, drop, get_or, take, slice_index, append-nil, take_rest, prefix_len-drop_yes, Option, Some, None, sym, ◌∙◌, ap, ⊎_elim, arith, cases_lt, false_from_ne_true, nat_tests, get_or-drop, length-drop, drop-drop, prefix_len, prefix_len_is, prefix_len_stops, prefix_len-le-length, prefix_len-drop_no, prefix_len-drop_all, unwrap_or, if◌then◌else◌, IsFirstByte, IsCharBoundary, IsScanning, is_byte, is_plain_byte, before_escape}
use Rattle.std.specs.Prelude.{min}
use Rattle.ansi_items.proofs.SequenceLemmas.{all-run, prefix_len-run}

-- what a search for ESC finds
pub escape_found : (bytes : List ℕ) (end : Option ℕ) → IsFirstByte (is_byte 0x1B) bytes end → unwrap_or end (length bytes) ≡ before_escape bytes
escape_found bytes None h = sym (
    prefix_len_is is_plain_byte bytes (length bytes) 0 (omega arith)
    (λ j below. no_escape (get_or bytes j 0) (false_from_ne_true _ (h j (omega arith) below)))
    (λ inside. absurd (omega arith)))
  where
    no_escape : (b : ℕ) → is_byte 0x1B b ≡ false → is_plain_byte b ≡ true
    no_escape b other = grind (arith, nat_tests)
escape_found bytes (Some k) h = sym (
    prefix_len_is is_plain_byte bytes k 0 (omega (arith, h.0.high))
    (λ j below. no_escape (get_or bytes j 0) (false_from_ne_true _ (h.0.before j (omega arith) below)))
    (λ inside. escape_stops (get_or bytes k 0) h.1))
  where
    no_escape : (b : ℕ) → is_byte 0x1B b ≡ false → is_plain_byte b ≡ true
    no_escape b other = grind (arith, nat_tests)

    escape_stops : (b : ℕ) → is_byte 0x1B b ≡ true → is_plain_byte b ≡ false
    escape_stops b is = grind (arith, nat_tests)

-- no ESC is before the next one
pub at_next : (text : List ℕ) (from place : ℕ) → place ≡ from + before_escape (drop from text) → before_escape (drop place text) ≡ 0
at_next text from place is = ⊎_elim
    (λ below.
    let stops : is_plain_byte (get_or (drop from text) (before_escape (drop from text)) 0) ≡ false = prefix_len_stops is_plain_byte (drop from text) 0 (omega (arith, length-drop from text)) in
    let same : get_or (drop from text) (before_escape (drop from text)) 0 ≡ get_or text place 0 = get_or-drop from text (before_escape (drop from text)) 0 ∙ ap (λ k. get_or text k 0) (sym is) in
    prefix_len-drop_no is_plain_byte text place 0 below (ap is_plain_byte (sym same) ∙ stops))
    (λ past. prefix_len-drop_all is_plain_byte text place past)
    (cases_lt place (length text))

run_later : (p : ℕ → Bool) (k : ℕ) (xs : List ℕ) → k ≤ prefix_len p xs → k + prefix_len p (drop k xs) ≡ prefix_len p xs
run_later p zero xs le = omega arith
run_later p (suc k) [] le = absurd (omega arith)
run_later p (suc k) (x ∷ xs) le = by (p x) (run_later p k xs) le
  where
    by : (b : Bool) → (k ≤ prefix_len p xs → k + prefix_len p (drop k xs) ≡ prefix_len p xs) → suc k ≤ (if b then 1 + prefix_len p xs else 0)
        → suc k + prefix_len p (drop k xs) ≡ (if b then 1 + prefix_len p xs else 0)
    by true more le = omega (arith, more (omega arith))
    by false more le = absurd (omega arith)

-- the next ESC from a place on is the next from each place before it on
pub next_later : (text : List ℕ) (from later place : ℕ) → place ≡ from + before_escape (drop from text) → from ≤ later → later ≤ place → place ≡ later + before_escape (drop later text)
next_later text from later place is low high =
    let run = run_later is_plain_byte (later - from) (drop from text) (omega (arith, is)) in
    let same : before_escape (drop (later - from) (drop from text)) ≡ before_escape (drop later text) = ap before_escape (drop-drop (later - from) from text ∙ ap (λ k. drop k text) (omega arith)) in
    omega (arith, run, same, is)

-- no ESC is between
pub between_is_plain : (text : List ℕ) (from place : ℕ) → place ≡ from + before_escape (drop from text) → before_escape (take (place - from) (drop from text)) ≡ length (take (place - from) (drop from text))
between_is_plain text from place is =
    let u = drop from text in
    let len : place - from ≡ before_escape u = omega arith in
    let run = take (before_escape u) u in
    ap (λ n. before_escape (take n u)) len ∙ ap before_escape (sym (append-nil run)) ∙ prefix_len-run is_plain_byte run [] (all-run is_plain_byte u) tt ∙ ap (λ n. length (take n u)) (sym len)

-- what is left begins with the next ESC
pub after_is_next : (text : List ℕ) (from place : ℕ) → place ≡ from + before_escape (drop from text) → before_escape (take (length text - place) (drop place text)) ≡ 0
after_is_next text from place is = ap before_escape (take_rest text place) ∙ at_next text from place is

-- the next ESC after a control string's opener is the next from each place after the ESC before on
pub next_after_opener : (text : List ℕ) (start place len : ℕ) → place ≡ start + 2 + before_escape (drop (start + 2) text) → start + 1 < length text → is_plain_byte (slice_index text (start + 1)) ≡ true
    → 1 ≤ len → start + len ≤ place → place ≡ start + len + before_escape (drop (start + len) text)
next_after_opener text start place len is inside plain some within =
    let opener : before_escape (drop (start + 1) text) ≡ 1 + before_escape (drop (start + 1 + 1) text) = prefix_len-drop_yes is_plain_byte text (start + 1) 0 inside plain in
    let same : before_escape (drop (start + 1 + 1) text) ≡ before_escape (drop (start + 2) text) = ap (λ k. before_escape (drop k text)) (omega arith) in
    next_later text (start + 1) (start + len) place (omega (arith, is, opener, same)) (omega arith) within

-- What a scanner has looked at.

-- by the iterator's first ESC
pub scanning_start : (t : List ℕ) (place reads : ℕ) → IsCharBoundary t 0 → place ≡ 0 + before_escape (drop 0 t) → reads + 0 ≡ 0 + min (place + 1) (length t) → IsScanning t 0 place reads
scanning_start t place reads here next looks = record { boundary = here; next = next; each = omega arith; few = omega arith }

pub scanning_bound : (t : List ℕ) (offset place reads : ℕ) → IsScanning t offset place reads → reads ≤ 3 * length t
scanning_bound t offset place reads h = omega (arith, h.few, h.next, h.boundary.0, prefix_len-le-length is_plain_byte (drop offset t), length-drop offset t)

-- at the next ESC, after the text before it
pub scanning_text : (t : List ℕ) (offset place reads : ℕ) → IsCharBoundary t place → IsScanning t offset place reads → IsScanning t place place reads
scanning_text t offset place reads here h = record { boundary = here; next = omega (arith, at_next t offset place h.next); each = h.each; few = h.few }
