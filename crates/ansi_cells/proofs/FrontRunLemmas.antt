-- A run of a text, in the state after nothing: the walk there.
use Rattle.std.proofs.Common.{◌≡◌, ℕ, ◌+◌, ◌-◌, ◌<◌, ◌≤◌, true, List, [], ◌∷◌, ◌++◌, length, take, drop, refl, sym, ◌∙◌, ap, subst, arith, length-append}
use Rattle.std.specs.List.{list_all}
use Rattle.std.specs.Str.{IsCharBoundary}
use Rattle.std.proofs.lemmas.Grind.{flat_map-append}
use Rattle.std.proofs.lemmas.List.{take_all, take_at, take-take}
use Rattle.ansi_items.specs.Bytes.{is_plain_byte}
use Rattle.ansi_items.specs.Pieces.{Piece, Text, ArePieces, pieces_of}
use Rattle.ansi_items.specs.Plain.{plain, plain_bytes, plain_of}
use Rattle.ansi_items.proofs.JoinLemmas.{spelled}
use Rattle.ansi_items.proofs.PieceLemmas.{pieces_are}
use Rattle.ansi_search.specs.Offsets.{bytes_before, offset_of}
use Rattle.ansi_search.proofs.OffsetLemmas.{IsOverText, bytes_before-last}
use Rattle.ansi_clusters.specs.declared.views.View.{View}
use Rattle.ansi_clusters.specs.declared.walks.Walk.{Walk}
use Rattle.ansi_clusters.specs.BreakStates.{break_state_of}
use Rattle.ansi_clusters.specs.Walks.{seen_before, IsWalkIn}
use Rattle.ansi_cells.proofs.KeptLemmas.{bytes_before-append}

-- the bytes w of a text are plain, and lie between two offsets
pub record IsPlainPart (t w : List ℕ) (at next : ℕ) : Type 0 where
  pub begins : IsCharBoundary t at
  pub ends : IsCharBoundary t next
  pub count : next ≡ at + length w
  pub bytes : take (length w) (drop at t) ≡ w
  pub plain : list_all is_plain_byte w ≡ true

-- so are those of a run
pub plain-part : {t w : List ℕ} {at next : ℕ} {old ps : List Piece} → IsOverText t w at next old ps → IsCharBoundary t next → IsPlainPart t w at next
plain-part {t} {w} {at} over ends =
    let are = subst (ArePieces (drop at t)) (over.there ∙ over.first) (pieces_are (drop at t)) in
    record {
      begins = over.begins;
      ends = ends;
      count = over.count;
      bytes = ap (take (length w)) are.1 ∙ take_at w are.0 (length w) refl;
      plain = are.2.1;
    }

-- its first bytes
pub run-bytes : {t w : List ℕ} {at next i : ℕ} → IsPlainPart t w at next → i ≡ at → (n : ℕ) → n ≤ length w → take n (drop i t) ≡ take n w
run-bytes {t} {w} {at} part offset n within =
    ap (λ i. take n (drop i t)) offset ∙ sym (take-take n (length w) (drop at t) within) ∙ ap (take n) part.bytes

-- w is at the front of the run, and the state there is that after nothing
pub run-walk-in : (view : View) {t w : List ℕ} {passed at : ℕ} (more : List ℕ) (ps : List Piece) (front : List Piece) (v : Walk) → pieces_of t ≡ front ++ Text (w ++ more) ∷ ps → break_state_of [] ≡ break_state_of (seen_before view t (length (plain_of front))) → passed ≡ length (spelled front) → IsPlainPart t w passed at
    → 0 < length w → v.position ≡ length (plain_of front) → v.offset ≡ passed → v.run_end ≡ at → v.break_state ≡ break_state_of [] → IsWalkIn view t v
run-walk-in view {t} {w} {passed} {at} more ps front v pieces state bytes part some place offset run_end break_state =
    let x = plain_of front in
    let run = w ++ more in
    let y = run ++ plain_of ps in
    let filled : 0 < length run = omega (arith, some, length-append w more) in
    let text : plain t ≡ x ++ y = ap plain_of pieces ∙ flat_map-append plain_bytes front (Text run ∷ ps) in
    let there : offset_of t (length x) ≡ length (spelled front)
    = ap (bytes_before (length x)) pieces ∙ bytes_before-append front (Text run ∷ ps) ∙ ap (λ n. length (spelled front) + n) (bytes_before-last 0 run ps filled) ∙ omega arith in
    let size : v.run_end - v.offset ≡ length w = omega (arith, part.count, offset, run_end) in
    record {
      offset = offset ∙ bytes ∙ sym (ap (offset_of t) place ∙ there);
      run = record {
        ordered = omega (arith, part.count, offset, run_end);
        start_boundary = subst (IsCharBoundary t) (sym offset) part.begins;
        end_boundary = subst (IsCharBoundary t) (sym run_end) part.ends;
        bytes = ap (λ n. list_all is_plain_byte (take n (drop v.offset t))) size ∙ ap (list_all is_plain_byte) (run-bytes part offset (length w) (omega arith) ∙ take_all (length w) w (omega arith)) ∙ part.plain;
      };
      end = λ e. absurd (omega (arith, e, size, some));
      break_state = break_state ∙ state ∙ ap (λ n. break_state_of (seen_before view t n)) (sym place);
      within = omega (arith, place, ap length text, length-append x y);
    }
