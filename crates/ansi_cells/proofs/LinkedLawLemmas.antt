-- The linked bytes of a text, from its pieces in turn, and those of a truncated and of a padded text, with its plain text.
use Rattle.std.proofs.Common.{◌≡◌, ◌≢◌, ℕ, zero, suc, ◌-◌, inl, inr, Bool, true, false, List, [], ◌∷◌, ◌++◌, length, map, take, slice_range, nat_eq, nat_le, codes, if◌then◌else◌, IsTrue, refl, sym, ◌∙◌, ap, ap₂, subst, arith, append-nil}
use Rattle.std.specs.List.{list_all}
use Rattle.std.proofs.lemmas.Bool.{cases_Bool, eqb-true, le-leb}
use Rattle.std.proofs.lemmas.List.{map-append, nil_from_length, take-map}
use Rattle.ansi_items.specs.Bytes.{is_plain_byte}
use Rattle.ansi_items.specs.Pieces.{Piece, Text, pieces_of}
use Rattle.ansi_items.specs.Plain.{marks, plain, marks_up_to, is_whole}
use Rattle.ansi_items.proofs.JoinLemmas.{AllStandAnywhere, pieces_of-append, pieces_of-spelled, is_whole-append, is_whole-spelled, pieces_stand, spelled}
use Rattle.ansi_style.specs.Styled.{style_at}
use Rattle.ansi_style.specs.Written.{close_codes, written, written_all}
use Rattle.ansi_style.proofs.ReadBackLemmas.{AreCodes, close_codes_are, code_pieces, code_pieces_stand, spelled-code_pieces}
use Rattle.ansi_slice.specs.Cut.{interleaved}
use Rattle.ansi_slice.proofs.CutLemmas.{marks_up_to-marks_past}
use Rattle.ansi_slice.proofs.ShownLemmas.{state_through-interleaved_pieces, seen_through-interleaved_pieces, at_places, interleaved_pieces, interleaved_pieces_stand, spelled-interleaved_pieces}
use Rattle.ansi_cells.specs.declared.shown.Alignment.{Alignment}
use Rattle.ansi_cells.specs.Addresses.{LinkedByte, linked, without_link}
use Rattle.ansi_safe.specs.Links.{link_end, link_at, link_of, link_after, link_after_all, pen_close}
use Rattle.ansi_cells.specs.Shown.{has_tail, truncated_end, truncated, missing, before_text, padded}
use Rattle.ansi_clusters.specs.Lines.{blanks}
use Rattle.ansi_cells.proofs.AddressLemmas.{link_by_marks}
use Rattle.ansi_safe.proofs.LinkLemmas.{link_of-fold, link_through, link_through-codes, link_of-pieces}
use Rattle.ansi_safe.proofs.EndingLemmas.{link_end-open, link_end-shut}
use Rattle.ansi_style.proofs.ThroughLemmas.{state_through-append, state_through-merged, seen_through, seen_through-append, seen_through-merged, seen_by-alike, seen_by-pieces, bytes-seen, bytes-seen_through}

-- a plain byte in a link
abbrev pub linked_byte : List ℕ → ℕ → LinkedByte
linked_byte link b = record { byte = b; link = link }

-- the plain bytes of the pieces, each with its link, if `link` is open before them
abbrev pub linked_through : List ℕ → List Piece → List LinkedByte
linked_through link ps = seen_through link_after linked_byte link ps

pub linked-pieces : (t : List ℕ) → linked t ≡ linked_through [] (pieces_of t)
linked-pieces t =
    seen_by-alike link_after linked_byte (plain t) (link_at t) (link_by_marks [] (pieces_of t)) (λ i below. link_of-fold (marks_up_to i (marks t)))
    ∙ seen_by-pieces link_after linked_byte [] (pieces_of t)

-- without their links they are the plain text

abbrev pub bytes_of : List LinkedByte → List ℕ
bytes_of bs = map (λ (b : LinkedByte). b.byte) bs

bytes_of-without_link : (x : List ℕ) → bytes_of (without_link x) ≡ x
bytes_of-without_link x = bytes-seen link_after linked_byte (λ (b : LinkedByte). b.byte) (λ link b. refl) [] x

pub bytes_of-linked : (t : List ℕ) → bytes_of (linked t) ≡ plain t
bytes_of-linked t = ap bytes_of (linked-pieces t) ∙ bytes-seen_through link_after linked_byte (λ (b : LinkedByte). b.byte) (λ link b. refl) [] (pieces_of t)

-- ---- consecutive whole texts, with `link` open before them: their linked bytes, and the link after them

pub record IsLinked (link t : List ℕ) (bs : List LinkedByte) (next : List ℕ) : Type 0 where
  pub whole : IsTrue (is_whole t)
  pub bytes : linked_through link (pieces_of t) ≡ bs
  pub after : link_through link (pieces_of t) ≡ next

pub IsLinked-append : {link u v middle next : List ℕ} {xs ys : List LinkedByte} → IsLinked link u xs middle → IsLinked middle v ys next → IsLinked link (u ++ v) (xs ++ ys) next
IsLinked-append {link} {u} {v} {middle} {next} {xs} {ys} first second = record {
  whole = is_whole-append u v first.whole second.whole;
  bytes = ap (linked_through link) (pieces_of-append u v first.whole second.whole) ∙ seen_through-merged link_after linked_byte link (pieces_of u ++ pieces_of v) ∙ seen_through-append link_after linked_byte link (pieces_of u) (pieces_of v)
      ∙ ap₂ ◌++◌ first.bytes (ap (λ q. linked_through q (pieces_of v)) first.after ∙ second.bytes);
  after = ap (link_through link) (pieces_of-append u v first.whole second.whole) ∙ state_through-merged link_after link (pieces_of u ++ pieces_of v) ∙ state_through-append link_after link (pieces_of u) (pieces_of v)
      ∙ ap (λ q. link_through q (pieces_of v)) first.after ∙ second.after;
}

pub IsLinked-text : (t : List ℕ) → IsTrue (is_whole t) → IsLinked [] t (linked t) (link_of (marks t))
IsLinked-text t whole = record { whole = whole; bytes = sym (linked-pieces t); after = sym (link_of-pieces (pieces_of t)) }

pub IsLinked-nil : (link : List ℕ) → IsLinked link [] [] link
IsLinked-nil link = record { whole = refl; bytes = refl; after = refl }

pub IsLinked-spelled : (link : List ℕ) (ps : List Piece) (t : List ℕ) → spelled ps ≡ t → AllStandAnywhere ps → IsLinked link t (linked_through link ps) (link_through link ps)
IsLinked-spelled link ps t is stand = subst (λ u. IsLinked link u (linked_through link ps) (link_through link ps)) is (record {
  whole = is_whole-spelled ps stand;
  bytes = ap (linked_through link) (pieces_of-spelled ps stand) ∙ seen_through-merged link_after linked_byte link ps;
  after = ap (link_through link) (pieces_of-spelled ps stand) ∙ state_through-merged link_after link ps;
})

-- what is shown, with the marks at places that pass a test
pub IsLinked-interleaved : (t link : List ℕ) (test : ℕ → Bool) (a b : ℕ) → IsTrue (is_whole t)
    → IsLinked link (interleaved (plain t) a b (at_places test (marks t))) (linked_through link (interleaved_pieces test a b (pieces_of t))) (link_after_all link (at_places test (marks t)))
IsLinked-interleaved t link test a b whole =
    let made = IsLinked-spelled link (interleaved_pieces test a b (pieces_of t)) (interleaved (plain t) a b (at_places test (marks t))) (spelled-interleaved_pieces (pieces_of t) test a b) (interleaved_pieces_stand (pieces_of t) test a b (pieces_stand t whole)) in
    record { whole = made.whole; bytes = made.bytes; after = made.after ∙ state_through-interleaved_pieces link_after (pieces_of t) link test a b }

-- of a front they are the slice
pub IsLinked-front : (t : List ℕ) (e : ℕ) → IsTrue (is_whole t) → IsLinked [] (interleaved (plain t) 0 e (marks_up_to e (marks t))) (take e (linked t)) (link_at t e)
IsLinked-front t e whole =
    let made = IsLinked-interleaved t [] (λ p. nat_le p e) 0 e whole in
    let all : e - 0 ≡ e = omega arith in
    record {
      whole = made.whole;
      bytes = made.bytes ∙ seen_through-interleaved_pieces link_after linked_byte (pieces_of t) [] (λ p. nat_le p e) 0 e (λ p below. le-leb p e (omega arith)) ∙ ap (λ bs. slice_range bs 0 e) (sym (linked-pieces t)) ∙ ap (λ n. take n (linked t)) all;
      after = made.after ∙ sym (link_of-fold (marks_up_to e (marks t)));
    }

-- codes leave a link as it is

linked_through-codes : (link : List ℕ) (xs : List (List ℕ)) → linked_through link (code_pieces xs) ≡ []
linked_through-codes link [] = refl
linked_through-codes link (x ∷ xs) = linked_through-codes (link_after link (written x)) xs

pub IsLinked-codes : {n : ℕ} (link : List ℕ) (xs : List (List ℕ)) → AreCodes xs n → IsLinked link (written_all xs) [] link
IsLinked-codes link xs are =
    let made = IsLinked-spelled link (code_pieces xs) (written_all xs) (spelled-code_pieces xs) (code_pieces_stand xs are) in
    record { whole = made.whole; bytes = made.bytes ∙ linked_through-codes link xs; after = made.after ∙ link_through-codes link xs }

-- and the end of a link ends it

link_end-written : (link : List ℕ) → IsLinked link (codes "\u{1b}]8;;\u{1b}\\") [] []
link_end-written link = record { whole = refl; bytes = refl; after = refl }

pub IsLinked-link_end : (link : List ℕ) → IsLinked link (link_end link) [] []
IsLinked-link_end link = elim (cases_Bool (nat_eq (length link) 0)) [
  | inl none ↦ subst (λ w. IsLinked link w [] []) (sym (link_end-shut link none)) (subst (λ l. IsLinked l [] [] []) (sym (nil_from_length link (eqb-true (length link) 0 none))) (IsLinked-nil []))
  | inr some ↦ subst (λ w. IsLinked link w [] []) (sym (link_end-open link some)) (link_end-written link)
]

pub IsLinked-pen_close : (t : List ℕ) (i : ℕ) → IsLinked (link_at t i) (pen_close t i) [] []
IsLinked-pen_close t i = IsLinked-append (IsLinked-link_end (link_at t i)) (IsLinked-codes [] (close_codes (style_at t i)) (close_codes_are (style_at t i)))

-- ---- of a truncated text, and of a padded text

IsLinked-tail : (b : Bool) (tail : List ℕ) → IsTrue (is_whole tail) → IsLinked [] (if b then tail else []) (if b then linked tail else []) (if b then link_of (marks tail) else [])
IsLinked-tail true tail whole = IsLinked-text tail whole
IsLinked-tail false tail whole = IsLinked-nil []

IsLinked-truncated : (t : List ℕ) (width : ℕ) (tail : List ℕ) → IsTrue (is_whole t) → IsTrue (is_whole tail)
    → IsLinked [] (truncated t width tail) (take (truncated_end t width tail) (linked t) ++ (if has_tail t width tail then linked tail else [])) (if has_tail t width tail then link_of (marks tail) else [])
unfolding truncated
IsLinked-truncated t width tail whole tail_whole =
    let end = truncated_end t width tail in
    IsLinked-append (IsLinked-front t end whole) (IsLinked-append (IsLinked-pen_close t end) (IsLinked-tail (has_tail t width tail) tail tail_whole))

pub truncated-whole : (t : List ℕ) (width : ℕ) (tail : List ℕ) → IsTrue (is_whole t) → IsTrue (is_whole tail) → IsTrue (is_whole (truncated t width tail))
truncated-whole t width tail whole tail_whole = (IsLinked-truncated t width tail whole tail_whole).whole

pub truncated-linked : (t : List ℕ) (width : ℕ) (tail : List ℕ) → IsTrue (is_whole t) → IsTrue (is_whole tail)
    → linked (truncated t width tail) ≡ take (truncated_end t width tail) (linked t) ++ (if has_tail t width tail then linked tail else [])
truncated-linked t width tail whole tail_whole = linked-pieces (truncated t width tail) ∙ (IsLinked-truncated t width tail whole tail_whole).bytes

pub truncated-closed : (t : List ℕ) (width : ℕ) (tail : List ℕ) → IsTrue (is_whole t) → IsTrue (is_whole tail) → link_of (marks (truncated t width tail)) ≡ (if has_tail t width tail then link_of (marks tail) else [])
truncated-closed t width tail whole tail_whole = link_of-pieces (pieces_of (truncated t width tail)) ∙ (IsLinked-truncated t width tail whole tail_whole).after

pub truncated-plain : (t : List ℕ) (width : ℕ) (tail : List ℕ) → IsTrue (is_whole t) → IsTrue (is_whole tail)
    → plain (truncated t width tail) ≡ take (truncated_end t width tail) (plain t) ++ (if has_tail t width tail then plain tail else [])
truncated-plain t width tail whole tail_whole =
    let end = truncated_end t width tail in
    sym (bytes_of-linked (truncated t width tail)) ∙ ap bytes_of (truncated-linked t width tail whole tail_whole) ∙ map-append _ (take end (linked t)) (if has_tail t width tail then linked tail else [])
    ∙ ap₂ ◌++◌ (sym (take-map _ end (linked t)) ∙ ap (take end) (bytes_of-linked t)) (either (has_tail t width tail))
  where
    either : (b : Bool) → bytes_of (if b then linked tail else []) ≡ (if b then plain tail else [])
    either true = bytes_of-linked tail
    either false = refl

pub blanks_are_plain : (n : ℕ) → list_all is_plain_byte (blanks n) ≡ true
blanks_are_plain zero = refl
blanks_are_plain (suc n) = blanks_are_plain n

IsLinked-blanks : (n : ℕ) → IsLinked [] (blanks n) (without_link (blanks n)) []
IsLinked-blanks zero = IsLinked-nil []
IsLinked-blanks (suc n) = (
    let filled : blanks (suc n) ≢ [] = λ e. cc in
    let made = IsLinked-spelled [] (Text (blanks (suc n)) ∷ []) (blanks (suc n)) (append-nil (blanks (suc n))) ((filled, blanks_are_plain (suc n)), tt) in
    record { whole = made.whole; bytes = made.bytes ∙ append-nil (without_link (blanks (suc n))); after = made.after })

IsLinked-padded : (t : List ℕ) (width : ℕ) (alignment : Alignment) → IsTrue (is_whole t)
    → IsLinked [] (padded t width alignment)
    (without_link (blanks (before_text alignment (missing t width))) ++ linked t ++ without_link (blanks (missing t width - before_text alignment (missing t width)))) []
unfolding padded
IsLinked-padded t width alignment whole =
    let lack = missing t width in
    let before = before_text alignment lack in
    let end = length (plain t) in
    let open_there : link_of (marks t) ≡ link_at t end = ap link_of (sym (marks_up_to-marks_past end (pieces_of t) (omega arith))) in
    let closed = subst (λ l. IsLinked l (pen_close t end) [] []) (sym open_there) (IsLinked-pen_close t end) in
    let made = IsLinked-append (IsLinked-append (IsLinked-blanks before) (IsLinked-append (IsLinked-text t whole) closed)) (IsLinked-blanks (lack - before)) in
    record {
      whole = made.whole;
      bytes = made.bytes ∙ ap (λ u. (without_link (blanks before) ++ u) ++ without_link (blanks (lack - before))) (append-nil (linked t));
      after = made.after;
    }

pub padded-whole : (t : List ℕ) (width : ℕ) (alignment : Alignment) → IsTrue (is_whole t) → IsTrue (is_whole (padded t width alignment))
padded-whole t width alignment whole = (IsLinked-padded t width alignment whole).whole

pub padded-linked : (t : List ℕ) (width : ℕ) (alignment : Alignment) → IsTrue (is_whole t)
    → linked (padded t width alignment) ≡ without_link (blanks (before_text alignment (missing t width))) ++ linked t ++ without_link (blanks (missing t width - before_text alignment (missing t width)))
padded-linked t width alignment whole = linked-pieces (padded t width alignment) ∙ (IsLinked-padded t width alignment whole).bytes

pub padded-closed : (t : List ℕ) (width : ℕ) (alignment : Alignment) → IsTrue (is_whole t) → link_of (marks (padded t width alignment)) ≡ []
padded-closed t width alignment whole = link_of-pieces (pieces_of (padded t width alignment)) ∙ (IsLinked-padded t width alignment whole).after

pub padded-plain : (t : List ℕ) (width : ℕ) (alignment : Alignment) → IsTrue (is_whole t)
    → plain (padded t width alignment) ≡ blanks (before_text alignment (missing t width)) ++ plain t ++ blanks (missing t width - before_text alignment (missing t width))
padded-plain t width alignment whole =
    let before = blanks (before_text alignment (missing t width)) in
    let after = blanks (missing t width - before_text alignment (missing t width)) in
    sym (bytes_of-linked (padded t width alignment)) ∙ ap bytes_of (padded-linked t width alignment whole)
    ∙ map-append _ (without_link before ++ linked t) (without_link after)
    ∙ ap₂ ◌++◌ (map-append _ (without_link before) (linked t) ∙ ap₂ ◌++◌ (bytes_of-without_link before) (bytes_of-linked t)) (bytes_of-without_link after)
