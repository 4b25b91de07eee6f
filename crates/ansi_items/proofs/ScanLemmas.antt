-- One step of a scanner.
use Rattle.ansi_items.proofs.Common.{◌≡◌, ◌≢◌, ℕ, ◌+◌, ◌-◌, ◌<◌, ◌≤◌, inl, inr, ⊎_elim, true, false, not, ◌==◌, List, [], ◌∷◌, ◌++◌, length, take, drop, slice_index, refl, sym, ◌∙◌, ap, ap₂, subst, arith, if◌then◌else◌, cond-false, not-true, eqb-true, cases_Bool, get_or_at, length-append, length-drop, length-take-le, append_assoc, drop-drop, prefix_len_passes, prefix_len-le-length, prefix_len-drop_yes, nat_tests, IsCharBoundary-after_ascii, IsCharBoundary-before_ascii, IsCharBoundary-end, IsCharBoundary-from_rest, IsUtf8-drop, slice_range, IsUtf8, IsCharBoundary, byte, Sgr, Other, Item, Front, escape, bell, is_plain_byte, is_final_byte, is_escape_final_byte, IsSequence, is_sgr, Piece, Text, Sequence, LoneEscape, spelling, StandsBefore, first_piece, pieces_of, kind_of, piece_of, piece_of_kind, GivesItem, front_of, front_at, before_escape}
use Rattle.ansi_items.specs.declared.ansitok.Kind.TheVariants.{Text as TextKind}
use Rattle.ansi_items.proofs.PieceLemmas.{first_piece_splits, pieces_are, pieces_of-unique}
use Rattle.ansi_items.proofs.FrontLemmas.{front_is_first}

-- the first piece, and those of what is left
pub pieces_of-cons : (b : ℕ) (bs : List ℕ) → pieces_of (b ∷ bs) ≡ (first_piece (b ∷ bs)).0 ∷ pieces_of (first_piece (b ∷ bs)).1
pieces_of-cons b bs =
    let first = first_piece (b ∷ bs) in
    let splits = first_piece_splits b bs in
    sym (pieces_of-unique (b ∷ bs) (first.0 ∷ pieces_of first.1) (first.1, splits.0, splits.1, pieces_are first.1))

-- a piece, from its kind and its bytes
pub piece_of_kind-kind_of : (p : Piece) → piece_of_kind (kind_of p) (spelling p) ≡ p
piece_of_kind-kind_of (Text w) = refl
piece_of_kind-kind_of (Sequence w) = either (is_sgr w)
  where
    either : (b : _) → piece_of_kind (if b then Sgr else Other) w ≡ Sequence w
    either true = refl
    either false = refl
piece_of_kind-kind_of LoneEscape = refl

-- Where a piece ends, a character does.

-- the last byte is ASCII
record EndsInAscii (w : List ℕ) : Type 0 where
  front : List ℕ
  last : ℕ
  spelled : w ≡ front ++ last ∷ []
  ascii : last < 128

final_ascii : (b : ℕ) → is_final_byte b ≡ true → b < 128
final_ascii b h = grind (arith, nat_tests)

escape_final_ascii : (b : ℕ) → is_escape_final_byte b ≡ true → b < 128
escape_final_ascii b h = grind (arith, nat_tests)

sequence_ends : (w : List ℕ) → IsSequence w → EndsInAscii w
sequence_ends w (inl c) = record { front = escape ∷ byte "[" ∷ (c.parameters ++ c.intermediates); last = c.final; spelled = c.spelled; ascii = final_ascii c.final c.is_final }
sequence_ends w (inr (inl c)) = elim c.ends [
  | inl st ↦ record {
    front = escape ∷ c.opener ∷ (c.body ++ escape ∷ []);
    last = byte "\\";
    spelled = c.spelled ∙ ap (λ v. escape ∷ c.opener ∷ (c.body ++ v)) st ∙ ap (λ v. escape ∷ c.opener ∷ v) (sym (append_assoc c.body (escape ∷ []) (byte "\\" ∷ [])));
    ascii = omega arith;
  }
  | inr bel ↦ record {
    front = escape ∷ c.opener ∷ c.body;
    last = bell;
    spelled = c.spelled ∙ ap (λ v. escape ∷ c.opener ∷ (c.body ++ v)) bel.1;
    ascii = omega arith;
  }
]
sequence_ends w (inr (inr c)) = record { front = escape ∷ c.intermediates; last = c.final; spelled = c.spelled; ascii = escape_final_ascii c.final c.is_final }

ascii_end : (t w rest : List ℕ) → IsUtf8 t → t ≡ w ++ rest → EndsInAscii w → IsCharBoundary t (length w)
ascii_end t w rest utf8 split e =
    let whole : t ≡ e.front ++ e.last ∷ rest = split ∙ ap (λ v. v ++ rest) e.spelled ∙ append_assoc e.front (e.last ∷ []) rest in
    let len : length e.front + 1 ≡ length w = sym (ap length e.spelled ∙ length-append e.front (e.last ∷ [])) in
    let inside : length e.front < length t = omega (arith, ap length whole, length-append e.front (e.last ∷ rest)) in
    let last : slice_index t (length e.front) ≡ e.last = ap (λ v. slice_index v (length e.front)) whole ∙ get_or_at e.front e.last rest 0 (length e.front) refl in
    subst (IsCharBoundary t) len (IsCharBoundary-after_ascii t (length e.front) utf8 inside (omega (arith, last, e.ascii)))

boundary_before_escape : (t w rest : List ℕ) → t ≡ w ++ rest → (rest ≢ [] → slice_index rest 0 ≡ escape) → IsCharBoundary t (length w)
boundary_before_escape t w [] split h = subst (IsCharBoundary t) (ap length split ∙ length-append w [] ∙ omega arith) (IsCharBoundary-end t)
boundary_before_escape t w (b ∷ rest) split h =
    let some : (b ∷ rest) ≢ [] = λ e. cc in
    let inside : length w < length t = omega (arith, ap length split, length-append w (b ∷ rest)) in
    let here : slice_index t (length w) ≡ b = ap (λ v. slice_index v (length w)) split ∙ get_or_at w b rest 0 (length w) refl in
    IsCharBoundary-before_ascii t (length w) inside (omega (arith, here, h some))

pub piece_ends : (t : List ℕ) (p : Piece) (rest : List ℕ) → IsUtf8 t → t ≡ spelling p ++ rest → StandsBefore p rest → IsCharBoundary t (length (spelling p))
piece_ends t (Text w) rest utf8 split stands = boundary_before_escape t w rest split stands.2
piece_ends t (Sequence w) rest utf8 split stands = ascii_end t w rest utf8 split (sequence_ends w stands)
piece_ends t LoneEscape rest utf8 split stands = ascii_end t (escape ∷ []) rest utf8 split (record { front = []; last = escape; spelled = refl; ascii = omega arith })

-- A step from a place in a text, over the piece at that place.

abbrev pub item_at : ℕ → Front → Item
item_at offset f = record { kind = f.kind; start = offset; end = offset + f.len }

pub record IsStep (text : List ℕ) (offset : ℕ) (f : Front) : Type 0 where
  pub positive : 0 < f.len
  pub room : offset + f.len ≤ length text
  pub boundary : IsCharBoundary text (offset + f.len)
  pub piece : pieces_of (drop offset text) ≡ piece_of text (item_at offset f) ∷ pieces_of (drop (offset + f.len) text)
  pub kind : f.kind ≡ kind_of (piece_of text (item_at offset f))
  pub bytes : slice_range text offset (offset + f.len) ≡ spelling (piece_of text (item_at offset f))

step_over : (t : List ℕ) (offset b : ℕ) (bs : List ℕ) → IsUtf8 t → IsCharBoundary t offset → drop offset t ≡ b ∷ bs → IsStep t offset (front_at (b ∷ bs))
step_over t offset b bs utf8 here is =
    let u = b ∷ bs in
    let f = front_at u in
    let first = first_piece u in
    let p = first.0 in
    let front = front_is_first b bs in
    let splits = first_piece_splits b bs in
    let left : length u ≡ length t - offset = sym (ap length is) ∙ length-drop offset t in
    let len : length (spelling p) ≡ f.len = ap length front.spelled ∙ length-take-le f.len u front.inside in
    let boundary : IsCharBoundary t (offset + f.len) = IsCharBoundary-from_rest t offset f.len here.0
    (subst (λ v. IsCharBoundary v f.len) (sym is) (subst (IsCharBoundary u) len (piece_ends u p first.1 (subst IsUtf8 is (IsUtf8-drop t offset utf8 here)) splits.0 splits.1))) in
    let bytes : slice_range t offset (offset + f.len) ≡ spelling p = ap₂ (λ n v. take n v) (omega arith) is ∙ sym front.spelled in
    let piece : piece_of t (item_at offset f) ≡ p = ap₂ piece_of_kind front.kind bytes ∙ piece_of_kind-kind_of p in
    let rest : first.1 ≡ drop (offset + f.len) t = front.left ∙ ap (drop f.len) (sym is) ∙ drop-drop f.len offset t in
    record {
      positive = omega (arith, len, ap length splits.0, length-append (spelling p) first.1, splits.2);
      room = boundary.0;
      boundary = boundary;
      piece = ap pieces_of is ∙ pieces_of-cons b bs ∙ ap₂ (λ q v. q ∷ pieces_of v) (sym piece) rest;
      kind = front.kind ∙ ap kind_of (sym piece);
      bytes = bytes ∙ ap spelling (sym piece);
    }

step_at : (t : List ℕ) (offset : ℕ) → IsUtf8 t → IsCharBoundary t offset → (u : List ℕ) → drop offset t ≡ u → 0 < length u → IsStep t offset (front_at u)
step_at t offset utf8 here [] is some = absurd (omega arith)
step_at t offset utf8 here (b ∷ bs) is some = step_over t offset b bs utf8 here is

-- the same, by the front that the code read
pub front_step : (t : List ℕ) (offset : ℕ) (f : Front) → IsUtf8 t → IsCharBoundary t offset → offset < length t → f ≡ front_at (drop offset t) → IsStep t offset f
front_step t offset f utf8 here inside e = subst (IsStep t offset) (sym e) (step_at t offset utf8 here (drop offset t) refl (omega (arith, length-drop offset t)))

-- up to the next ESC
pub text_step : (t : List ℕ) (offset place : ℕ) → IsUtf8 t → IsCharBoundary t offset → place ≡ offset + before_escape (drop offset t) → offset < place
    → IsStep t offset (front_of TextKind (place - offset))
unfolding front_at
text_step t offset place utf8 here is some =
    let u = drop offset t in
    let plain : is_plain_byte (slice_index u 0) ≡ true = prefix_len_passes is_plain_byte u 0 0 (omega arith) in
    let len : place - offset ≡ before_escape u = omega arith in
    front_step t offset (front_of TextKind (place - offset)) utf8 here (omega (arith, prefix_len-le-length is_plain_byte u, length-drop offset t))
    (ap (front_of TextKind) len ∙ sym (cond-false _ _ _ (not-true _ plain)))

-- a place in the text up to which there is no ESC has one
pub escape_at_place : (t : List ℕ) (place : ℕ) → place < length t → before_escape (drop place t) ≡ 0 → slice_index t place ≡ escape
escape_at_place t place inside none = ⊎_elim
    (λ is. eqb-true _ _ is)
    (λ other. absurd (omega (arith, none, prefix_len-drop_yes is_plain_byte t place 0 inside (ap not other))))
    (cases_Bool (slice_index t place == escape))

-- What a scanner gives by a step.
pub step_gives : (t : List ℕ) (offset place : ℕ) (f : Front) → IsCharBoundary t offset → IsStep t offset f → place ≡ offset + f.len
    → GivesItem (record { text = t; offset = offset }) (record { kind = f.kind; start = offset; end = place }) (record { text = t; offset = place })
step_gives t offset place f here step e =
    subst (λ p. GivesItem (record { text = t; offset = offset }) (record { kind = f.kind; start = offset; end = p }) (record { text = t; offset = p })) (sym e)
    (record { text = refl; start = refl; end = refl; forward = omega (arith, step.positive); piece = step.piece; kind = step.kind; bytes = step.bytes; start_boundary = here; end_boundary = step.boundary })
