-- What the scanner gives as a link sequence, and the place of its address inside it.
use Rattle.std.proofs.Common.{◌≡◌, ◌≢◌, ℕ, ◌+◌, ◌-◌, ◌<◌, ◌≤◌, inl, inr, Bool, true, false, ◌&&◌, List, [], ◌∷◌, ◌++◌, length, take, drop, get_or, slice_range, nat_eq, nat_lt, codes, Some, None, if◌then◌else◌, refl, sym, ◌∙◌, ap, ap₂, subst, arith, lit<, length-append, length-drop}
use Rattle.std.specs.List.{prefix_len, starts_with, ends_with, list_all}
use Rattle.std.specs.Cmp.Lexicographic.{pointwise}
use Rattle.std.specs.Str.{IsUtf8, IsCharBoundary}
use Rattle.std.proofs.lemmas.Bool.{and_parts, eqb-true, ltb-true}
use Rattle.std.proofs.lemmas.Bool.Decides.{nat_tests}
use Rattle.std.proofs.lemmas.List.{get_or-append-add, get_or-drop, get_or-take, drop-take, drop-drop, length-take}
use Rattle.std.proofs.lemmas.List.Sums.{prefix_len_stops}
use Rattle.std.proofs.Math.Seq.{drop-append_seam}
use Rattle.std.proofs.lemmas.Str.{IsCharBoundary-before_ascii, IsCharBoundary-after_ascii}
use Rattle.ansi_items.specs.Bytes.{escape, is_intermediate_byte}
use Rattle.ansi_items.specs.Sequences.{IsControlString, IsSequence, is_sgr}
use Rattle.ansi_items.specs.Pieces.{Sequence, ArePieces, spelling}
use Rattle.ansi_items.specs.Scans.{Scan, GivesItem, pieces_left, piece_of_kind}
use Rattle.ansi_items.specs.declared.ansitok.Item.{Item}
use Rattle.ansi_items.specs.declared.ansitok.Kind.{Kind}
use Rattle.ansi_items.specs.declared.ansitok.Kind.TheVariants.{Text as TextKind, Sgr, Other, Lone}
use Rattle.ansi_items.proofs.PieceLemmas.{pieces_are}
use Rattle.ansi_items.proofs.StepLemmas.{gives_mark}
use Rattle.ansi_safe.specs.Links.{terminator_len, fields_of, address_of, is_link}
use Rattle.ansi_safe.proofs.LinkLemmas.{is_link-sgr, has_no_semicolon}

-- what the scanner gives as another sequence is a whole one
pub other_is_sequence : {old new : Scan} {item : Item} {t w : List ℕ} → GivesItem old item new → old.text ≡ t → w ≡ slice_range t item.start item.end → item.kind ≡ Other → IsSequence w
other_is_sequence {old} {new} {item} {t} {w} gives same is kind =
    let bytes : slice_range old.text item.start item.end ≡ w = ap (λ v. slice_range v item.start item.end) same ∙ sym is in
    let named : pieces_left old ≡ piece_of_kind item.kind w ∷ pieces_left new = subst (λ v. pieces_left old ≡ piece_of_kind item.kind v ∷ pieces_left new) bytes gives.piece in
    let first : pieces_left old ≡ Sequence w ∷ pieces_left new = subst (λ k. pieces_left old ≡ piece_of_kind k w ∷ pieces_left new) kind named in
    (subst (ArePieces (drop old.offset old.text)) first (pieces_are (drop old.offset old.text))).2

-- and what it gives as an SGR or a lone escape is no link sequence
pub GivesItem-no_link : {old new : Scan} {item : Item} {t w : List ℕ} → GivesItem old item new → old.text ≡ t → w ≡ slice_range t item.start item.end → item.kind ≢ TextKind → item.kind ≢ Other → is_link w ≡ false
GivesItem-no_link {old} {new} {item} {t} {w} gives same is no_text no_other =
    let mark = gives_mark gives same is no_text in
    let bytes : slice_range old.text item.start item.end ≡ w = ap (λ v. slice_range v item.start item.end) same ∙ sym is in
    by_kind item.kind no_text no_other mark.sgr (sym bytes ∙ gives.bytes ∙ ap (λ v. spelling (piece_of_kind item.kind v)) bytes)
  where
    by_kind : (k : Kind) → k ≢ TextKind → k ≢ Other → (k ≡ Sgr → is_sgr w ≡ true) → w ≡ spelling (piece_of_kind k w) → is_link w ≡ false
    by_kind TextKind no_text no_other sgr bytes = absurd (no_text refl)
    by_kind Sgr no_text no_other sgr bytes = is_link-sgr w (sgr refl)
    by_kind Other no_text no_other sgr bytes = absurd (no_other refl)
    by_kind Lone no_text no_other sgr bytes = ap is_link bytes

-- The place of the address inside a link sequence.

abbrev link_opening : List ℕ
link_opening = codes "\u{1b}]8;"

byte-at : (w u v : List ℕ) (n k : ℕ) → w ≡ u ++ v → n ≡ length u + k → get_or v k 0 < 128 → get_or w n 0 < 128
byte-at w u v n k is at less = omega (arith, ap₂ (λ x i. get_or x i 0) is at, get_or-append-add u v k 0, less)

-- its terminator begins with an ASCII byte
record HasAsciiTerminator (w : List ℕ) : Type 0 where
  inside : length w - terminator_len w < length w
  within : terminator_len w ≤ length w
  ascii : get_or w (length w - terminator_len w) 0 < 128

ended-st : (w u : List ℕ) → w ≡ u ++ 0x1B ∷ 0x5C ∷ [] → (b : Bool) → ends_with nat_eq w (codes "\u{7}") ≡ b → HasAsciiTerminator w
ended-st w u is true test =
    let one : terminator_len w ≡ 1 = ap (λ b. if b then 1 else 2) test in
    let size = ap length is ∙ length-append u (0x1B ∷ 0x5C ∷ []) in
    record { inside = omega (arith, one, size); within = omega (arith, one, size); ascii = byte-at w u (0x1B ∷ 0x5C ∷ []) _ 1 is (omega (arith, one, size)) (lit< tt) }
ended-st w u is false test =
    let two : terminator_len w ≡ 2 = ap (λ b. if b then 1 else 2) test in
    let size = ap length is ∙ length-append u (0x1B ∷ 0x5C ∷ []) in
    record { inside = omega (arith, two, size); within = omega (arith, two, size); ascii = byte-at w u (0x1B ∷ 0x5C ∷ []) _ 0 is (omega (arith, two, size)) (lit< tt) }

ended-bel : (w u : List ℕ) → w ≡ u ++ 7 ∷ [] → HasAsciiTerminator w
ended-bel w u is =
    let size : length w ≡ length u + 1 = ap length is ∙ length-append u (7 ∷ []) in
    let last : drop (length w - 1) w ≡ 7 ∷ [] = (let at : length w - 1 ≡ length u = omega (arith, size) in ap₂ drop at is ∙ drop-append_seam u (7 ∷ [])) in
    let one : terminator_len w ≡ 1 = ap (λ v. if pointwise nat_eq (7 ∷ []) v then 1 else 2) last in
    record { inside = omega (arith, one, size); within = omega (arith, one, size); ascii = byte-at w u (7 ∷ []) _ 0 is (omega (arith, one, size)) (lit< tt) }

ended-string : (w : List ℕ) → IsControlString w → HasAsciiTerminator w
ended-string w s =
    let u = escape ∷ s.opener ∷ s.body in
    elim s.ends [
      | inl st ↦ ended-st w u (s.spelled ∙ ap (λ v. u ++ v) st) (ends_with nat_eq w (codes "\u{7}")) refl
      | inr bel ↦ ended-bel w u (s.spelled ∙ ap (λ v. u ++ v) bel.1)
    ]

no-control_sequence : (w v : List ℕ) → w ≡ escape ∷ 0x5B ∷ v → starts_with nat_eq w link_opening ≡ true → HasAsciiTerminator w
no-control_sequence w v is begins = absurd (let no : false ≡ true = subst (λ x. starts_with nat_eq x link_opening ≡ true) is begins in cc)

no-escape_sequence : (w is : List ℕ) (final : ℕ) → w ≡ escape ∷ (is ++ final ∷ []) → list_all is_intermediate_byte is ≡ true → starts_with nat_eq w link_opening ≡ true → HasAsciiTerminator w
no-escape_sequence w [] final spelled all begins =
    let tests = subst (λ x. starts_with nat_eq x link_opening ≡ true) spelled begins in
    absurd (let no : false ≡ true = (and_parts (nat_eq 0x5D final) false tests).1 in cc no)
no-escape_sequence w (i ∷ is) final spelled all begins =
    let tests = subst (λ x. starts_with nat_eq x link_opening ≡ true) spelled begins in
    let bracket : 0x5D ≡ i = eqb-true 0x5D i (and_parts _ _ tests).0 in
    let no : false ≡ true = subst (λ b. is_intermediate_byte b ≡ true) (sym bracket) (and_parts (is_intermediate_byte i) (list_all is_intermediate_byte is) all).0 in
    absurd (cc no)

HasAsciiTerminator-link : (w : List ℕ) → IsSequence w → starts_with nat_eq w link_opening ≡ true → HasAsciiTerminator w
HasAsciiTerminator-link w (inl s) begins = no-control_sequence w _ s.spelled begins
HasAsciiTerminator-link w (inr (inl s)) begins = ended-string w s
HasAsciiTerminator-link w (inr (inr s)) begins = no-escape_sequence w s.intermediates s.final s.spelled s.are_intermediates begins

-- so its address is between two boundaries
pub record IsAddressAt (w a : List ℕ) : Type 0 where
  pub end : terminator_len w ≤ length w
  pub begin : length a ≤ length w - terminator_len w
  pub is : a ≡ slice_range w (length w - terminator_len w - length a) (length w - terminator_len w)
  pub begins : IsCharBoundary w (length w - terminator_len w - length a)
  pub ends : IsCharBoundary w (length w - terminator_len w)

semicolon-ascii : (b : ℕ) → has_no_semicolon b ≡ false → b < 128
semicolon-ascii b is = grind (arith, nat_tests)

some_parts : {X : Type 0} (b c : Bool) (a x : X) → Some a ≡ (if b && c then Some x else None) → (b ≡ true) × (c ≡ true) × (a ≡ x)
some_parts true true a x e = (refl, refl, cc)
some_parts true false a x e = absurd (cc)
some_parts false c a x e = absurd (cc)

address-in : (w a : List ℕ) (p : ℕ) → IsUtf8 w → HasAsciiTerminator w → (let fields = slice_range w 4 (length w - terminator_len w) in
    p < length fields → get_or fields p 0 < 128 → a ≡ drop (p + 1) fields → IsAddressAt w a)
address-in w a p utf8 ended = λ less ascii is.
    let end = length w - terminator_len w in
    let fields = slice_range w 4 end in
    let size : length fields ≡ end - 4 = omega (arith, length-take (end - 4) (drop 4 w), length-drop 4 w) in
    let own : length a ≡ end - 4 - (p + 1) = omega (arith, ap length is, length-drop (p + 1) fields, size) in
    let from : end - length a ≡ 4 + (p + 1) = omega (arith, own, size, less) in
    let count : end - (end - length a) ≡ length a = omega (arith, own, size, less) in
    let all : end - 4 ≡ p + 1 + length a = omega (arith, own, size, less) in
    let there : get_or w (4 + p) 0 < 128 = omega (arith, ascii, get_or-take (end - 4) (drop 4 w) p 0 (omega (arith, less, size)), get_or-drop 4 w p 0) in
    let next : 4 + p + 1 ≡ end - length a = omega (arith, from) in
    record {
      end = ended.within;
      begin = omega (arith, own);
      is = is ∙ ap (λ n. drop (p + 1) (take n (drop 4 w))) all ∙ drop-take (p + 1) (length a) (drop 4 w) ∙ ap (take (length a)) (drop-drop (p + 1) 4 w) ∙ ap₂ (λ n k. take n (drop k w)) (sym count) (sym from);
      begins = subst (IsCharBoundary w) next (IsCharBoundary-after_ascii w (4 + p) utf8 (omega (arith, size, less)) there);
      ends = IsCharBoundary-before_ascii w end ended.inside ended.ascii;
    }

pub address-stands : (w a : List ℕ) → IsUtf8 w → IsSequence w → Some a ≡ address_of w → IsAddressAt w a
address-stands w a utf8 sequence is =
    let fields = fields_of w in
    let p = prefix_len has_no_semicolon fields in
    let parts = some_parts (starts_with nat_eq w link_opening) (nat_lt p (length fields)) a (drop (p + 1) fields) is in
    let less = ltb-true p (length fields) parts.1 in
    address-in w a p utf8 (HasAsciiTerminator-link w sequence parts.0) less (semicolon-ascii _ (prefix_len_stops has_no_semicolon fields 0 less)) parts.2
