-- A text that is cut, what closes its pen there, and plain bytes: nothing is open after them, not even an unknown code, and their plain text.
use Rattle.std.proofs.Common.{◌≡◌, ℕ, inl, inr, true, false, List, [], ◌∷◌, ◌++◌, length, take, nat_eq, nat_le, codes, IsTrue, refl, sym, ◌∙◌, ap, ap₂, subst}
use Rattle.std.specs.List.{list_all}
use Rattle.std.proofs.lemmas.Bool.{cases_Bool, or_from}
use Rattle.std.proofs.lemmas.List.{map-append, take-map}
use Rattle.ansi_items.specs.Bytes.{is_plain_byte}
use Rattle.ansi_items.specs.Pieces.{Piece, pieces_of}
use Rattle.ansi_items.specs.Plain.{marks, marks_of, plain, marks_up_to, is_whole, has_escape}
use Rattle.ansi_items.proofs.JoinLemmas.{AllStandAnywhere, pieces_of-append, pieces_of-spelled, is_whole-append, is_whole-spelled, pieces_stand, spelled}
use Rattle.ansi_items.proofs.PlainLemmas.{has_escape-bare, one_text, pieces_of-bare, plain-bare, is_whole-plain}
use Rattle.ansi_style.specs.declared.state.rendition.Rendition.{Rendition}
use Rattle.ansi_style.specs.Rendition.{plain_style, has_known}
use Rattle.ansi_style.specs.Styled.{style_at}
use Rattle.ansi_style.specs.Written.{close, close_codes}
use Rattle.ansi_style.proofs.CloseLemmas.{close_codes_clear}
use Rattle.ansi_style.proofs.ReadBackLemmas.{apply_codes, close_codes_are, code_pieces, code_pieces_stand, spelled-code_pieces, style_through-codes}
use Rattle.ansi_style.proofs.StyledLemmas.{style_through, style_through-append, style_through-merged, style_after_from-pieces}
use Rattle.ansi_style.proofs.UnsetLemmas.{close-unknown}
use Rattle.ansi_slice.specs.Cut.{interleaved}
use Rattle.ansi_slice.proofs.ShownLemmas.{interleaved_pieces, interleaved_pieces_stand, spelled-interleaved_pieces, style_through-interleaved_pieces}
use Rattle.ansi_safe.specs.Links.{link_of, link_at, link_end, pen_close}
use Rattle.ansi_safe.proofs.LinkLemmas.{link_of-pieces}
use Rattle.ansi_safe.proofs.EndingLemmas.{close_codes-leave_none, link_end-open, link_end-shut}
use Rattle.ansi_cells.specs.Addresses.{linked}
use Rattle.ansi_cells.specs.Shown.{closing}
use Rattle.ansi_cells.proofs.LinkedLawLemmas.{IsLinked, IsLinked-append, IsLinked-front, IsLinked-pen_close, IsLinked-text, bytes_of, bytes_of-linked, linked-pieces}
use Rattle.ansi_cells.proofs.ShownLemmas.{pen_at_end}

-- ---- the close of a style leaves none that has a close

close_codes-closed : (s : Rendition) → close (apply_codes s (close_codes s)) ≡ []
close_codes-closed s =
    let after = apply_codes s (close_codes s) in
    close-unknown after (or_from (has_known after) after.unknown (ap has_known (close_codes_clear s s refl)) (close_codes-leave_none s))

-- ---- consecutive whole texts, with the style s before them: the style after them

record IsTraced (s : Rendition) (t : List ℕ) (past : Rendition) : Type 0 where
  whole : IsTrue (is_whole t)
  after : style_through s (pieces_of t) ≡ past

IsTraced-append : {s middle past : Rendition} {u v : List ℕ} → IsTraced s u middle → IsTraced middle v past → IsTraced s (u ++ v) past
IsTraced-append {s} {middle} {past} {u} {v} first second = record {
  whole = is_whole-append u v first.whole second.whole;
  after = ap (style_through s) (pieces_of-append u v first.whole second.whole) ∙ style_through-merged s (pieces_of u ++ pieces_of v) ∙ style_through-append s (pieces_of u) (pieces_of v)
      ∙ ap (λ r. style_through r (pieces_of v)) first.after ∙ second.after;
}

IsTraced-spelled : (s : Rendition) (ps : List Piece) (t : List ℕ) → spelled ps ≡ t → AllStandAnywhere ps → IsTraced s t (style_through s ps)
IsTraced-spelled s ps t is stand = subst (λ u. IsTraced s u (style_through s ps)) is (record {
  whole = is_whole-spelled ps stand;
  after = ap (style_through s) (pieces_of-spelled ps stand) ∙ style_through-merged s ps;
})

IsTraced-front : (t : List ℕ) (e : ℕ) → IsTrue (is_whole t) → IsTraced plain_style (interleaved (plain t) 0 e (marks_up_to e (marks t))) (style_at t e)
IsTraced-front t e whole =
    let made = IsTraced-spelled plain_style (interleaved_pieces (λ p. nat_le p e) 0 e (pieces_of t)) (interleaved (plain t) 0 e (marks_up_to e (marks t)))
    (spelled-interleaved_pieces (pieces_of t) (λ p. nat_le p e) 0 e) (interleaved_pieces_stand (pieces_of t) (λ p. nat_le p e) 0 e (pieces_stand t whole)) in
    record { whole = made.whole; after = made.after ∙ style_through-interleaved_pieces (pieces_of t) plain_style (λ p. nat_le p e) 0 e }

link_end-traced : (s : Rendition) → IsTraced s (codes "\u{1b}]8;;\u{1b}\\") s
link_end-traced s = record { whole = refl; after = refl }

IsTraced-link_end : (s : Rendition) (link : List ℕ) → IsTraced s (link_end link) s
IsTraced-link_end s link = elim (cases_Bool (nat_eq (length link) 0)) [
  | inl none ↦ subst (λ w. IsTraced s w s) (sym (link_end-shut link none)) (record { whole = refl; after = refl })
  | inr some ↦ subst (λ w. IsTraced s w s) (sym (link_end-open link some)) (link_end-traced s)
]

IsTraced-close : (s : Rendition) → IsTraced s (close s) (apply_codes s (close_codes s))
IsTraced-close s =
    let xs = close_codes s in
    let made = IsTraced-spelled s (code_pieces xs) (close s) (spelled-code_pieces xs) (code_pieces_stand xs (close_codes_are s)) in
    record { whole = made.whole; after = made.after ∙ style_through-codes s xs }

-- ---- plain bytes

is_whole-bare : (x : List ℕ) → has_escape x ≡ false → IsTrue (is_whole x)
is_whole-bare x none = subst (λ u. IsTrue (is_whole u)) (plain-bare x none) (is_whole-plain x)

IsTraced-bare : (s : Rendition) (x : List ℕ) → has_escape x ≡ false → IsTraced s x s
IsTraced-bare s x none = record { whole = is_whole-bare x none; after = ap (style_through s) (pieces_of-bare x none) ∙ alone x }
  where
    alone : (x : List ℕ) → style_through s (one_text x) ≡ s
    alone [] = refl
    alone (b ∷ x) = refl

pub marks-bare : (x : List ℕ) → has_escape x ≡ false → marks x ≡ []
marks-bare x none = ap marks_of (pieces_of-bare x none) ∙ alone x
  where
    alone : (x : List ℕ) → marks_of (one_text x) ≡ []
    alone [] = refl
    alone (b ∷ x) = refl

-- ---- the text t up to its place e, what closes its pen there, and plain bytes

abbrev pub closed_cut : List ℕ → ℕ → List ℕ → List ℕ
closed_cut t e last = interleaved (plain t) 0 e (marks_up_to e (marks t)) ++ (pen_close t e ++ last)

module _ (t : List ℕ) (e : ℕ) (last : List ℕ) (whole : IsTrue (is_whole t)) (bare : list_all is_plain_byte last ≡ true) where
  none : has_escape last ≡ false
  none = has_escape-bare last bare

  linked_is : IsLinked [] (closed_cut t e last) (take e (linked t) ++ ([] ++ linked last)) (link_of (marks last))
  linked_is = IsLinked-append (IsLinked-front t e whole) (IsLinked-append (IsLinked-pen_close t e) (IsLinked-text last (is_whole-bare last none)))

  traced : IsTraced plain_style (closed_cut t e last) (apply_codes (style_at t e) (close_codes (style_at t e)))
  traced =
      let s = style_at t e in
      IsTraced-append (IsTraced-front t e whole) (IsTraced-append (IsTraced-append (IsTraced-link_end s (link_at t e)) (IsTraced-close s)) (IsTraced-bare (apply_codes s (close_codes s)) last none))

  -- nothing is open at the end
  pub closing-cut : closing (closed_cut t e last) ≡ []
  closing-cut =
      let u = closed_cut t e last in
      let s = style_at t e in
      sym (pen_at_end u (sym (style_after_from-pieces plain_style u ∙ traced.after)) (sym (link_of-pieces (pieces_of u) ∙ linked_is.after ∙ ap link_of (marks-bare last none))))
      ∙ ap (λ w. link_end [] ++ w) (close_codes-closed s)

  pub plain-cut : plain (closed_cut t e last) ≡ take e (plain t) ++ last
  plain-cut =
      let u = closed_cut t e last in
      sym (bytes_of-linked u) ∙ ap bytes_of (linked-pieces u ∙ linked_is.bytes) ∙ map-append _ _ _
      ∙ ap₂ ◌++◌ (sym (take-map _ e _) ∙ ap (take e) (bytes_of-linked t)) (bytes_of-linked last ∙ plain-bare last none)
