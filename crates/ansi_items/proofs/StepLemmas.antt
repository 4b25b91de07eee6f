-- A step of a scanner: over a text, or over a mark, which is a sequence or a lone escape.
use Rattle.ansi_items.proofs.Common.{rules, ◌≡◌, ◌≢◌, ℕ, Bool, true, false, List, ◌∷◌, drop, refl, sym, ◌∙◌, ap, ap₂, subst, is_some, if◌then◌else◌, sameb, same_true, slice_range, Item, Kind, Sgr, Other, Lone, is_sgr, Piece, Text, Sequence, LoneEscape, spelling, pieces_of, plain_of, mark_of, Scan, GivesItem, pieces_left, kind_of, piece_of_kind}
use Rattle.ansi_items.specs.contracts.ansitok.Kind.{the_type}
use Rattle.ansi_items.specs.declared.ansitok.Kind.TheVariants.{Text as TextKind}

-- the piece is a mark: it is no text
abbrev pub is_mark : Piece → Bool
is_mark p = is_some (mark_of 0 p)

-- by the test that the code makes
pub kind_is_text : {k : Kind} → true ≡ sameb the_type k TextKind → k ≡ TextKind
kind_is_text same = same_true the_type (search rules) _ _ (sym same)

-- a mark of this kind, with the bytes w, was the first of the pieces
pub record BeginsWithMark (kind : Kind) (w : List ℕ) (old new : List Piece) : Type 0 where
  pub mark : Piece
  pub pieces : old ≡ mark ∷ new
  pub is_mark : is_mark mark ≡ true
  pub bytes : spelling mark ≡ w
  pub sgr : kind ≡ Sgr → is_sgr w ≡ true
  pub no_sgr : kind ≢ Sgr → is_sgr w ≡ false

-- the first piece, by the bytes that the code has of it
GivesItem-first_piece : (old new : Scan) (item : Item) (text w : List ℕ) → GivesItem old item new → old.text ≡ text → w ≡ slice_range text item.start item.end
    → (pieces_left old ≡ piece_of_kind item.kind w ∷ pieces_left new) × (item.kind ≡ kind_of (piece_of_kind item.kind w)) × (w ≡ spelling (piece_of_kind item.kind w))
GivesItem-first_piece old new item text w gives same is =
    let bytes : slice_range old.text item.start item.end ≡ w = ap (λ v. slice_range v item.start item.end) same ∙ sym is in (
      subst (λ v. pieces_left old ≡ piece_of_kind item.kind v ∷ pieces_left new) bytes gives.piece,
      subst (λ v. item.kind ≡ kind_of (piece_of_kind item.kind v)) bytes gives.kind,
      subst (λ v. v ≡ spelling (piece_of_kind item.kind v)) bytes gives.bytes,
    )

pub gives_text : {old new : Scan} {item : Item} {text w : List ℕ} → GivesItem old item new → old.text ≡ text → w ≡ slice_range text item.start item.end
    → item.kind ≡ TextKind → pieces_left old ≡ Text w ∷ pieces_left new
gives_text {old} {new} {item} {text} {w} gives same is kind =
    subst (λ k. pieces_left old ≡ piece_of_kind k w ∷ pieces_left new) kind (GivesItem-first_piece old new item text w gives same is).0

-- what follows the item has the pieces that are left
pub gives_rest : {old new : Scan} {item : Item} {text v : List ℕ} → GivesItem old item new → old.text ≡ text → v ≡ drop item.end text → pieces_of v ≡ pieces_left new
gives_rest {old} {new} {item} {text} {v} gives same is =
    ap pieces_of is ∙ ap₂ (λ n t. pieces_of (drop n t)) gives.end (sym (gives.text ∙ same))

pub gives_mark : {old new : Scan} {item : Item} {text w : List ℕ} → GivesItem old item new → old.text ≡ text → w ≡ slice_range text item.start item.end
    → item.kind ≢ TextKind → BeginsWithMark item.kind w (pieces_left old) (pieces_left new)
gives_mark {old} {new} {item} {text} {w} gives same is other =
    let piece = GivesItem-first_piece old new item text w gives same is in
    by_kind item.kind other piece.0 piece.1 piece.2
  where
    by_kind : (k : Kind) → k ≢ TextKind → pieces_left old ≡ piece_of_kind k w ∷ pieces_left new → k ≡ kind_of (piece_of_kind k w) → w ≡ spelling (piece_of_kind k w)
        → BeginsWithMark k w (pieces_left old) (pieces_left new)
    by_kind TextKind other pieces kind bytes = absurd (other refl)
    by_kind Sgr other pieces kind bytes = record { mark = Sequence w; pieces = pieces; is_mark = refl; bytes = refl; sgr = λ _. by_test (is_sgr w) kind; no_sgr = λ other. absurd (other refl) }
      where
        by_test : (b : Bool) → Sgr ≡ (if b then Sgr else Other) → b ≡ true
        by_test true e = refl
        by_test false e = absurd (cc e)
    by_kind Other other pieces kind bytes = record { mark = Sequence w; pieces = pieces; is_mark = refl; bytes = refl; sgr = λ e. absurd (cc e); no_sgr = λ _. by_test (is_sgr w) kind }
      where
        by_test : (b : Bool) → Other ≡ (if b then Sgr else Other) → b ≡ false
        by_test true e = absurd (cc e)
        by_test false e = refl
    by_kind Lone other pieces kind bytes = record { mark = LoneEscape; pieces = pieces; is_mark = refl; bytes = sym bytes; sgr = λ e. absurd (cc e); no_sgr = λ _. ap is_sgr bytes }

pub plain_of-mark : (p : Piece) (ps : List Piece) → is_mark p ≡ true → plain_of (p ∷ ps) ≡ plain_of ps
plain_of-mark (Text w) ps is = absurd (cc is)
plain_of-mark p ps is = refl
