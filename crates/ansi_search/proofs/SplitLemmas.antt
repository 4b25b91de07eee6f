-- A text divided where no sequence goes on: its plain text is that of both parts.
use Rattle.std.proofs.lemmas.Bool.Decides.{nat_tests}
use Rattle.std.proofs.lemmas.Bool.{and_from, false_from_ne_true, or_from}
use Rattle.std.proofs.lemmas.List.Folds.{list_all_at}
use Rattle.std.proofs.lemmas.List.{get_or_at, get_or-append-add}
use Rattle.ansi_search.proofs.Common.{◌≡◌, ◌≢◌, ℕ, zero, suc, ◌+◌, ◌-◌, ◌<◌, ◌≤◌, inl, inr, Bool, true, false, true≢false, List, [], ◌∷◌, ◌++◌, length, take, drop, refl, sym, ◌∙◌, ap, ap₂, subst, arith, slice_index, list_all, and_parts, cases_lt, list_all-append, take_all, ◌⊎◌, eqb-true, has_escape, plain-bare, IsCharBoundary, ◌==◌, append_assoc, drop-append_seam, drop-drop, get_or_append_left, get_or-append_right, get_or-take, get_or_past, length-append, length-take, length-take-le, take-append-le, take-append-drop, escape, is_plain_byte, Piece, Text, Sequence, LoneEscape, spelling, ArePieces, after_text, after_text_are, pieces_of, plain_of, plain, pieces_are, pieces_of-unique, spelled, bytes_before, slice_range}
use Rattle.std.specs.Str.{byte}
use Rattle.ansi_items.specs.Bytes.{bell, is_parameter_byte, is_intermediate_byte, is_final_byte, is_escape_final_byte, opens_control_string, is_body_byte}
use Rattle.ansi_items.specs.Sequences.{IsSequence}
use Rattle.ansi_items.specs.Pieces.{StandsBefore}
use Rattle.ansi_items.proofs.JoinLemmas.{spelled-pieces_of}
use Rattle.ansi_items.proofs.PlainLemmas.{has_escape-bare}
use Rattle.ansi_search.proofs.OffsetLemmas.{IsPassed, passed-begin, bytes_before-text, bytes_before-last}
use Rattle.ansi_search.specs.Offsets.{BeginsItem, goes_on, IsEnd, IsSurelyPlain}

-- No sequence that begins in u goes on in v.
abbrev pub NoneCrosses : List ℕ → List ℕ → Type 0
NoneCrosses u v = (x s : List ℕ) → u ≡ x ++ escape ∷ s → (n : ℕ) → length (escape ∷ s) < n → n ≤ length (escape ∷ s) + length v → ¬ (IsSequence (take n ((escape ∷ s) ++ v)))

-- Then the pieces are those of u and those of v, but for a text that goes on.

abbrev joined : List Piece → List Piece → List Piece
joined [] qs = qs
joined (Text w ∷ ps) qs = after_text w (joined ps qs)
joined (p ∷ ps) qs = p ∷ joined ps qs

crosses_less : (w rest v : List ℕ) → NoneCrosses (w ++ rest) v → NoneCrosses rest v
crosses_less w rest v none x s e = none (w ++ x) s (ap (λ y. w ++ y) e ∙ sym (append_assoc w x (escape ∷ s)))

lone_before : (rest v : List ℕ) → NoneCrosses (escape ∷ rest) v → StandsBefore LoneEscape rest → StandsBefore LoneEscape (rest ++ v)
lone_before rest v none alone n whole =
    let t = (escape ∷ rest) ++ v in
    let size : length t ≡ length (escape ∷ rest) + length v = length-append (escape ∷ rest) v in
    elim (cases_lt (length t) n) [
      | inl all ↦ within (length t) (omega (arith, size)) (subst IsSequence (take_all n t (omega arith) ∙ sym (take_all (length t) t (omega arith))) whole)
      | inr some ↦ within n (omega (arith, size, some)) whole
    ]
  where
    within : (k : ℕ) → k ≤ length (escape ∷ rest) + length v → ¬ (IsSequence (take k ((escape ∷ rest) ++ v)))
    within k fits is = elim (cases_lt (length (escape ∷ rest)) k) [
      | inl past ↦ none [] rest refl k past fits is
      | inr inside ↦ alone k (subst IsSequence (take-append-le k (escape ∷ rest) v inside) is)
    ]

joined_are : (u v : List ℕ) (ps qs : List Piece) → ArePieces u ps → ArePieces v qs → NoneCrosses u v → ArePieces (u ++ v) (joined ps qs)
joined_are u v [] qs are after none = subst (λ w. ArePieces (w ++ v) qs) (sym are) after
joined_are u v (p ∷ ps) qs are after none =
    let rest = are.0 in
    let first = subst (λ w. NoneCrosses w v) are.1 none in
    let rest_are = joined_are rest v ps qs are.3 after (crosses_less (spelling p) rest v first) in
    subst (λ w. ArePieces (w ++ v) (joined (p ∷ ps) qs)) (sym are.1) (subst (λ w. ArePieces w (joined (p ∷ ps) qs)) (sym (append_assoc (spelling p) rest v)) (with_first p rest are.2 first rest_are))
  where
    with_first : (p : Piece) (rest : List ℕ) → StandsBefore p rest → NoneCrosses (spelling p ++ rest) v → ArePieces (rest ++ v) (joined ps qs) → ArePieces (spelling p ++ (rest ++ v)) (joined (p ∷ ps) qs)
    with_first (Text w) rest stands first more = after_text_are w (rest ++ v) (joined ps qs) stands.0 stands.1 more
    with_first (Sequence w) rest stands first more = (rest ++ v, refl, stands, more)
    with_first LoneEscape rest stands first more = (rest ++ v, refl, lone_before rest v first stands, more)

pieces_of-split : (u v : List ℕ) → NoneCrosses u v → pieces_of (u ++ v) ≡ joined (pieces_of u) (pieces_of v)
pieces_of-split u v none = sym (pieces_of-unique (u ++ v) (joined (pieces_of u) (pieces_of v)) (joined_are u v (pieces_of u) (pieces_of v) (pieces_are u) (pieces_are v) none))

plain_of-after_text : (w : List ℕ) (ps : List Piece) → plain_of (after_text w ps) ≡ w ++ plain_of ps
plain_of-after_text w (Text v ∷ ps) = append_assoc w v (plain_of ps)
plain_of-after_text w ps = refl

plain_of-joined : (ps qs : List Piece) → plain_of (joined ps qs) ≡ plain_of ps ++ plain_of qs
plain_of-joined [] qs = refl
plain_of-joined (Text w ∷ ps) qs = plain_of-after_text w (joined ps qs) ∙ ap (λ x. w ++ x) (plain_of-joined ps qs) ∙ sym (append_assoc w (plain_of ps) (plain_of qs))
plain_of-joined (p ∷ ps) qs = plain_of-joined ps qs

pub plain-split : (u v : List ℕ) → NoneCrosses u v → plain (u ++ v) ≡ plain u ++ plain v
plain-split u v none = ap plain_of (pieces_of-split u v none) ∙ plain_of-joined (pieces_of u) (pieces_of v)

bytes_before-after_text : (w : List ℕ) (ps : List Piece) (n : ℕ) → bytes_before (length w + n) (after_text w ps) ≡ length w + bytes_before n ps
bytes_before-after_text w (Text v ∷ ps) n = elim (cases_lt n (length v)) [
  | inl last ↦
      bytes_before-last (length w + n) (w ++ v) ps (omega (arith, length-append w v, last))
      ∙ ap (λ k. length w + k) (sym (bytes_before-last n v ps last))
  | inr past ↦ (
      let left : length w + n - length (w ++ v) ≡ n - length v = omega (arith, length-append w v) in
      let here : bytes_before (length w + n) (Text (w ++ v) ∷ ps) ≡ length (w ++ v) + bytes_before (n - length v) ps
      = bytes_before-text (length w + n) (w ++ v) ps (omega (arith, length-append w v, past)) ∙ ap (λ k. length (w ++ v) + bytes_before k ps) left in
      omega (arith, here, length-append w v, bytes_before-text n v ps past))
]
bytes_before-after_text w ps n = (let left : length w + n - length w ≡ n = omega arith in bytes_before-text (length w + n) w ps (omega arith) ∙ ap (λ k. length w + bytes_before k ps) left)

bytes_before-joined : (ps qs : List Piece) (n : ℕ) → bytes_before (length (plain_of ps) + n) (joined ps qs) ≡ length (spelled ps) + bytes_before n qs
bytes_before-joined [] qs n = (let same : 0 + n ≡ n = omega arith in ap (λ k. bytes_before k qs) same ∙ omega arith)
bytes_before-joined (Text w ∷ ps) qs n =
    let more = length (plain_of ps) + n in
    let all : length (w ++ plain_of ps) + n ≡ length w + more = omega (arith, length-append w (plain_of ps)) in
    let here : bytes_before (length (w ++ plain_of ps) + n) (after_text w (joined ps qs)) ≡ length w + bytes_before more (joined ps qs)
    = ap (λ k. bytes_before k (after_text w (joined ps qs))) all ∙ bytes_before-after_text w (joined ps qs) more in
    omega (arith, here, bytes_before-joined ps qs n, length-append w (spelled ps))
bytes_before-joined (Sequence w ∷ ps) qs n = omega (arith, bytes_before-joined ps qs n, length-append w (spelled ps))
bytes_before-joined (LoneEscape ∷ ps) qs n = omega (arith, bytes_before-joined ps qs n)

-- u has been passed
pub passed-split : (u v : List ℕ) → NoneCrosses u v → IsPassed (u ++ v) (length (plain u)) (length u) (pieces_of v)
passed-split u v none =
    let whole = plain-split u v none in
    record {
      count = sym (ap length whole ∙ length-append (plain u) (plain v));
      rest = ap (drop (length (plain u))) whole ∙ drop-append_seam (plain u) (plain v);
      offset = λ n. ap (bytes_before (length (plain u) + n)) (pieces_of-split u v none) ∙ bytes_before-joined (pieces_of u) (pieces_of v) n
          ∙ ap (λ w. length w + bytes_before n (pieces_of v)) (spelled-pieces_of u);
    }

-- none begins in a run
crosses-run : (u v : List ℕ) → list_all is_plain_byte u ≡ true → NoneCrosses u v
crosses-run u v all x s e n past fits whole =
    let parts = and_parts (list_all is_plain_byte x) (list_all is_plain_byte (escape ∷ s)) (sym (list_all-append is_plain_byte x (escape ∷ s)) ∙ sym (ap (list_all is_plain_byte) e) ∙ all) in
    true≢false (sym parts.1)

pub passed-run : (x : List ℕ) (k : ℕ) → k ≤ length x → list_all is_plain_byte (take k x) ≡ true → IsPassed x k k (pieces_of (drop k x))
passed-run x k within all =
    let u = take k x in
    let v = drop k x in
    let size : length u ≡ k = length-take-le k x within in
    let count : length (plain u) ≡ k = ap length (plain-bare u (has_escape-bare u all)) ∙ size in
    subst (λ n. IsPassed x n k (pieces_of v)) count
    (subst (λ n. IsPassed x (length (plain u)) n (pieces_of v)) size
    (subst (λ y. IsPassed y (length (plain u)) (length u) (pieces_of v)) (take-append-drop k x) (passed-split u v (crosses-run u v all))))

-- What is inside a sequence.

-- no byte of x is the byte c, which isn't 0
abbrev Lacks : ℕ → List ℕ → Type 0
Lacks c x = (k : ℕ) → slice_index x k ≢ c

lacks_where_all : (test : ℕ → Bool) (x : List ℕ) → test escape ≡ false → list_all test x ≡ true → Lacks escape x
lacks_where_all test [] none all k is = absurd (omega (arith, is))
lacks_where_all test (b ∷ x) none all zero is = true≢false (sym (and_parts (test b) (list_all test x) all).0 ∙ ap test is ∙ none)
lacks_where_all test (b ∷ x) none all (suc k) is = lacks_where_all test x none (and_parts (test b) (list_all test x) all).1 k is

lacks_one : (test : ℕ → Bool) (b : ℕ) → test escape ≡ false → test b ≡ true → Lacks escape (b ∷ [])
lacks_one test b none is = lacks_where_all test (b ∷ []) none (and_from (test b) true is refl)

lacks_before : (b : ℕ) (x : List ℕ) → b ≢ escape → Lacks escape x → Lacks escape (b ∷ x)
lacks_before b x other lacks zero is = other is
lacks_before b x other lacks (suc k) is = lacks k is

lacks-append : (x y : List ℕ) → Lacks escape x → Lacks escape y → Lacks escape (x ++ y)
lacks-append x y first second k is = elim (cases_lt k (length x)) [
  | inl inside ↦ first k (sym (get_or_append_left x y 0 k inside) ∙ is)
  | inr past ↦ second (k - length x) (sym (get_or-append_right x y (length x) k 0 refl past) ∙ is)
]

closing_after : (x : List ℕ) (k : ℕ) → Lacks escape x → slice_index (x ++ escape ∷ byte "\\" ∷ []) k ≡ escape → k ≡ length x
closing_after x k lacks is =
    let st = escape ∷ byte "\\" ∷ [] in
    elim (cases_lt k (length x)) [
      | inl inside ↦ absurd (lacks k (sym (get_or_append_left x st 0 k inside) ∙ is))
      | inr past ↦ first (k - length x) (omega arith) (sym (get_or-append_right x st (length x) k 0 refl past) ∙ is)
    ]
  where
    first : (j : ℕ) → k ≡ length x + j → slice_index (escape ∷ byte "\\" ∷ []) j ≡ escape → k ≡ length x
    first zero at is = omega arith
    first (suc zero) at is = absurd (omega (arith, is))
    first (suc (suc j)) at is = absurd (omega (arith, is))

-- after its front, only the ESC of a closing ESC `\` is an ESC
escape_inside : (w : List ℕ) (k : ℕ) → IsSequence w → slice_index w (suc k) ≡ escape → slice_index w (suc k + 1) ≡ byte "\\"
escape_inside w k (inl c) is =
    let before = c.parameters ++ c.intermediates in
    let lacks : Lacks escape (byte "[" ∷ (before ++ c.final ∷ []))
    = lacks_before (byte "[") (before ++ c.final ∷ []) (λ e. absurd (omega (arith, e)))
    (lacks-append before (c.final ∷ [])
    (lacks-append c.parameters c.intermediates (lacks_where_all is_parameter_byte c.parameters refl c.are_parameters) (lacks_where_all is_intermediate_byte c.intermediates refl c.are_intermediates))
    (lacks_one is_final_byte c.final refl c.is_final)) in
    absurd (lacks k (ap (λ v. slice_index v (suc k)) (sym c.spelled) ∙ is))
escape_inside w k (inr (inl c)) is =
    let lacks : Lacks escape (c.opener ∷ c.body)
    = lacks_before c.opener c.body (λ e. true≢false (sym c.opens ∙ ap opens_control_string e)) (lacks_where_all (is_body_byte c.opener) c.body refl c.is_body) in
    let here : slice_index ((c.opener ∷ c.body) ++ c.terminator) k ≡ escape = ap (λ v. slice_index v (suc k)) (sym c.spelled) ∙ is in
    elim c.ends [
      | inl st ↦ (
          let front = escape ∷ c.opener ∷ c.body in
          let at : k ≡ length (c.opener ∷ c.body) = closing_after (c.opener ∷ c.body) k lacks (ap (λ v. slice_index ((c.opener ∷ c.body) ++ v) k) (sym st) ∙ here) in
          let next : suc k + 1 ≡ length front + 1 = omega arith in
          ap₂ slice_index (c.spelled ∙ ap (λ v. front ++ v) st) next ∙ get_or-append-add front (escape ∷ byte "\\" ∷ []) 1 0)
      | inr bel ↦
          absurd (lacks-append (c.opener ∷ c.body) (bell ∷ []) lacks (lacks_one (is_body_byte 0) bell refl refl) k (ap (λ v. slice_index ((c.opener ∷ c.body) ++ v) k) (sym bel.1) ∙ here))
    ]
escape_inside w k (inr (inr c)) is =
    let lacks : Lacks escape (c.intermediates ++ c.final ∷ [])
    = lacks-append c.intermediates (c.final ∷ []) (lacks_where_all is_intermediate_byte c.intermediates refl c.are_intermediates) (lacks_one is_escape_final_byte c.final refl c.is_final) in
    absurd (lacks k (ap (λ v. slice_index v (suc k)) (sym c.spelled) ∙ is))

all_go_on : (test : ℕ → Bool) (x : List ℕ) → ((b : ℕ) → test b ≡ true → goes_on b ≡ true) → list_all test x ≡ true → list_all goes_on x ≡ true
all_go_on test [] each all = refl
all_go_on test (b ∷ x) each all = (let parts = and_parts (test b) (list_all test x) all in and_from _ _ (each b parts.0) (all_go_on test x each parts.1))

parameter_goes_on : (b : ℕ) → is_parameter_byte b ≡ true → goes_on b ≡ true
parameter_goes_on b is = grind (arith, nat_tests)

intermediate_goes_on : (b : ℕ) → is_intermediate_byte b ≡ true → goes_on b ≡ true
intermediate_goes_on b is = grind (arith, nat_tests)

goes_on_before : (front : List ℕ) (last k : ℕ) → list_all goes_on front ≡ true → k < length front → goes_on (slice_index (front ++ last ∷ []) k) ≡ true
goes_on_before front last k all inside = ap goes_on (get_or_append_left front (last ∷ []) 0 k inside) ∙ read (goes_on (slice_index front k)) refl
  where
    read : (b : Bool) → goes_on (slice_index front k) ≡ b → goes_on (slice_index front k) ≡ true
    read true is = is
    read false is = absurd (true≢false (sym all ∙ list_all_at goes_on front k 0 inside is))

-- each byte but the last goes on, or it is a control string, which ends with BEL or with ESC and `\`
pub inside : (w : List ℕ) (k : ℕ) → IsSequence w → k + 1 < length w → (goes_on (slice_index w k) ≡ true) ⊎ (slice_index w (length w - 1) ≡ bell) ⊎ (slice_index w (length w - 2) ≡ escape)
inside w k (inl c) within =
    let front = escape ∷ byte "[" ∷ (c.parameters ++ c.intermediates) in
    let all : list_all goes_on front ≡ true
    = list_all-append goes_on c.parameters c.intermediates
    ∙ and_from _ _ (all_go_on is_parameter_byte c.parameters parameter_goes_on c.are_parameters) (all_go_on is_intermediate_byte c.intermediates intermediate_goes_on c.are_intermediates) in
    inl (ap (λ v. goes_on (slice_index v k)) c.spelled ∙ goes_on_before front c.final k all (omega (arith, ap length c.spelled, length-append front (c.final ∷ []), within)))
inside w k (inr (inl c)) within =
    let front = escape ∷ c.opener ∷ c.body in
    elim c.ends [
      | inl st ↦ (
          let spelled : w ≡ front ++ escape ∷ byte "\\" ∷ [] = c.spelled ∙ ap (λ v. front ++ v) st in
          let at : length w - 2 ≡ length front = omega (arith, ap length spelled, length-append front (escape ∷ byte "\\" ∷ [])) in
          inr (inr (ap₂ slice_index spelled at ∙ get_or_at front escape (byte "\\" ∷ []) 0 (length front) refl)))
      | inr bel ↦ (
          let spelled : w ≡ front ++ bell ∷ [] = c.spelled ∙ ap (λ v. front ++ v) bel.1 in
          let at : length w - 1 ≡ length front = omega (arith, ap length spelled, length-append front (bell ∷ [])) in
          inr (inl (ap₂ slice_index spelled at ∙ get_or_at front bell [] 0 (length front) refl)))
    ]
inside w k (inr (inr c)) within =
    let front = escape ∷ c.intermediates in
    inl (ap (λ v. goes_on (slice_index v k)) c.spelled
    ∙ goes_on_before front c.final k (all_go_on is_intermediate_byte c.intermediates intermediate_goes_on c.are_intermediates) (omega (arith, ap length c.spelled, length-append front (c.final ∷ []), within)))

-- None goes on where an item begins, or where a text is surely plain.

-- a byte of the first n of y and v
before_seam : (y v : List ℕ) (n k : ℕ) → k < length y → length y < n → slice_index (take n (y ++ v)) k ≡ slice_index y k
before_seam y v n k inside past = get_or-take n (y ++ v) k 0 (omega arith) ∙ get_or_append_left y v 0 k inside

after_seam : (y v : List ℕ) (n k : ℕ) → length y + k < n → slice_index (take n (y ++ v)) (length y + k) ≡ slice_index v k
after_seam y v n k inside = get_or-take n (y ++ v) (length y + k) 0 inside ∙ get_or-append-add y v k 0

pub crosses-item : (u v : List ℕ) → BeginsItem v → NoneCrosses u v
crosses-item u [] begins x s e n past fits whole = absurd (omega arith)
crosses-item u (b ∷ v) begins x s e n past fits whole =
    let y = escape ∷ s in
    let w = take n (y ++ b ∷ v) in
    let some : (b ∷ v) ≢ [] = λ e. cc in
    let zero : length y ≡ length y + 0 = omega arith in
    let here : slice_index w (length y) ≡ escape = ap (slice_index w) zero ∙ after_seam y (b ∷ v) n 0 (omega arith) ∙ begins.0 some in
    let next : slice_index w (length y + 1) ≡ byte "\\" = escape_inside w (length s) whole here in
    elim (cases_lt (length y + 1) n) [
      | inl inside ↦ begins.1 (sym (after_seam y (b ∷ v) n 1 inside) ∙ next)
      | inr end ↦ absurd (omega (arith, next, get_or_past w (length y + 1) 0 (omega (arith, end, length-take n (y ++ b ∷ v)))))
    ]

crosses-plain : (u v : List ℕ) → ((k : ℕ) → (slice_index v k ≢ escape) × (slice_index v k ≢ bell)) → (u ≢ [] → goes_on (slice_index u (length u - 1)) ≡ false) → NoneCrosses u v
crosses-plain u v bytes ends x s e n past fits whole =
    let y = escape ∷ s in
    let w = take n (y ++ v) in
    let size : length w ≡ n = length-take-le n (y ++ v) (omega (arith, fits, length-append y v)) in
    let last : slice_index w (length s) ≡ slice_index y (length s) = before_seam y v n (length s) (omega arith) past in
    let at : length u - 1 ≡ length x + length s = omega (arith, ap length e, length-append x y) in
    let same : slice_index u (length u - 1) ≡ slice_index y (length s) = ap₂ slice_index e at ∙ get_or-append-add x y (length s) 0 in
    let some : u ≢ [] = λ none. absurd (omega (arith, ap length none, ap length e, length-append x y)) in
    let stops : goes_on (slice_index y (length s)) ≡ false = ap goes_on (sym same) ∙ ends some in
    let inside_v : (k : ℕ) → length y ≤ k → k < n → slice_index w k ≡ slice_index v (k - length y)
    = λ k low high. (let sum : k ≡ length y + (k - length y) = omega arith in ap (slice_index w) sum ∙ after_seam y v n (k - length y) (omega arith)) in
    elim (inside w (length s) whole (omega (arith, size))) [
      | inl on ↦ true≢false (sym on ∙ ap goes_on last ∙ stops)
      | inr (inl rings) ↦ (bytes (length w - 1 - length y)).1 (sym (inside_v (length w - 1) (omega (arith, size)) (omega (arith, size))) ∙ rings)
      | inr (inr closes) ↦ elim (cases_lt (length w - 2) (length y)) [
        | inl front ↦ (
            let here : length w - 2 ≡ length s = omega (arith, size, front) in
            true≢false (sym (ap goes_on (sym last ∙ ap (slice_index w) (sym here) ∙ closes)) ∙ stops))
        | inr back ↦ (bytes (length w - 2 - length y)).0 (sym (inside_v (length w - 2) back (omega (arith, size))) ∙ closes)
      ]
    ]

-- An end of a text.

abbrev pub end_of : (t : List ℕ) (i : ℕ) → IsCharBoundary t i → (before : ℕ) → IsPassed t before i (pieces_of (drop i t)) → IsEnd t i
end_of t i boundary before way = record { boundary = boundary; before = before; count = way.count; rest = way.rest; offset = way.offset }

end-split : (t : List ℕ) (i : ℕ) → IsCharBoundary t i → NoneCrosses (take i t) (drop i t) → IsEnd t i
end-split t i boundary none =
    let u = take i t in
    let v = drop i t in
    end_of t i boundary (length (plain u))
    (subst (λ n. IsPassed t (length (plain u)) n (pieces_of v)) (length-take-le i t boundary.0)
    (subst (λ x. IsPassed x (length (plain u)) (length u) (pieces_of v)) (take-append-drop i t) (passed-split u v none)))

-- it begins where an item does
pub end-item : (t : List ℕ) (i : ℕ) → IsCharBoundary t i → (0 < i → BeginsItem (drop i t)) → IsEnd t i
end-item t zero boundary begins = end_of t 0 boundary 0 (passed-begin t)
end-item t (suc i) boundary begins = end-split t (suc i) boundary (crosses-item (take (suc i) t) (drop (suc i) t) (begins (omega arith)))

-- it is surely plain
pub end-plain : (t : List ℕ) (i : ℕ) → IsSurelyPlain t i → IsEnd t i
end-plain t zero h = end_of t 0 h.boundary 0 (passed-begin t)
end-plain t (suc i) h =
    let u = take (suc i) t in
    let size : length u ≡ suc i = length-take-le (suc i) t h.boundary.0 in
    let last : slice_index u (length u - 1) ≡ slice_index t (suc i - 1) = get_or-take (suc i) t (length u - 1) 0 (omega (arith, size)) ∙ ap (slice_index t) (let less : length u - 1 ≡ suc i - 1 = omega (arith, size) in less) in
    end-split t (suc i) h.boundary (crosses-plain u (drop (suc i) t) h.bytes (λ _. ap goes_on last ∙ h.begins (omega arith)))

pub plain-surely : (t : List ℕ) (i : ℕ) → IsSurelyPlain t i → plain (drop i t) ≡ drop i t
plain-surely t i h = plain-bare (drop i t) (bare (drop i t) h.bytes)
  where
    bare : (x : List ℕ) → ((k : ℕ) → (slice_index x k ≢ escape) × (slice_index x k ≢ bell)) → has_escape x ≡ false
    bare [] lacks = refl
    bare (b ∷ x) lacks = or_from (b == escape) (has_escape x) (false_from_ne_true _ (λ is. (lacks 0).0 (eqb-true b escape is))) (bare x (λ k. lacks (suc k)))

-- the plain text from an offset on, up to an item and after it
pub length-plain-split : (t w : List ℕ) (start end : ℕ) → start ≤ end → BeginsItem (drop end t) → w ≡ slice_range t start end → length (plain w) + length (plain (drop end t)) ≡ length (plain (drop start t))
length-plain-split t w start end ordered begins is =
    let rest : drop (end - start) (drop start t) ≡ drop end t = drop-drop (end - start) start t ∙ ap (λ k. drop k t) (omega arith) in
    let both : w ++ drop end t ≡ drop start t = ap₂ (λ u v. u ++ v) is (sym rest) ∙ take-append-drop (end - start) (drop start t) in
    sym (length-append (plain w) (plain (drop end t))) ∙ ap length (sym (plain-split w (drop end t) (crosses-item w (drop end t) begins))) ∙ ap (λ u. length (plain u)) both
