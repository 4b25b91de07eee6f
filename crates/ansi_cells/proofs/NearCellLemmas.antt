-- A part at the front of a text, up to a run that may go on after the part: what one pass over its pieces finds holds of the text too.
use Rattle.std.proofs.Common.{◌≡◌, ℕ, ◌+◌, ◌-◌, ◌<◌, ◌≤◌, true, List, [], ◌∷◌, ◌++◌, length, take, drop, refl, sym, ◌∙◌, ap, subst, arith, append-nil, append_assoc, length-append}
use Rattle.std.specs.List.{list_all}
use Rattle.std.specs.Str.{IsUtf8, IsCharBoundary}
use Rattle.std.proofs.lemmas.Bool.{and_parts}
use Rattle.std.proofs.lemmas.List.{drop-take, length-take-le, take-take}
use Rattle.ansi_items.specs.Pieces.{Piece, Text, Sequence, LoneEscape, spelling, StandsBefore, ArePieces, pieces_of, after_text}
use Rattle.ansi_items.proofs.JoinLemmas.{after_text_are}
use Rattle.ansi_items.proofs.PieceLemmas.{pieces_are, pieces_of-unique}
use Rattle.ansi_style.specs.declared.state.rendition.Rendition.{Rendition}
use Rattle.ansi_cells.proofs.FrontRunLemmas.{IsPlainPart}
use Rattle.ansi_clusters.proofs.NearLemmas.{boundary-near}
use Rattle.ansi_cells.proofs.PlainCellLemmas.{is_plain_piece, IsPlainSoFar}

-- the bytes of a run of the part
pub part-near : {t w : List ℕ} {n at next : ℕ} → IsUtf8 t → IsCharBoundary t n → IsPlainPart (take n t) w at next → IsPlainPart t w at next
part-near {t} {w} {n} {at} {next} utf8 end part =
    let within : next ≤ n = omega (arith, length-take-le n t end.0, part.ends.0) in
    let more : n ≡ at + (n - at) = omega (arith, part.count, within) in
    let same : take (length w) (drop at (take n t)) ≡ take (length w) (drop at t)
    = ap (λ m. take (length w) (drop at (take m t))) more ∙ ap (take (length w)) (drop-take at (n - at) t) ∙ take-take (length w) (n - at) (drop at t) (omega (arith, part.count, within)) in
    record {
      begins = boundary-near utf8 end at (omega (arith, part.count, within)) part.begins;
      ends = boundary-near utf8 end next within part.ends;
      count = part.count;
      bytes = sym same ∙ part.bytes;
      plain = part.plain;
    }

-- a run before pieces goes on in the text that comes first among them
goes-on : (w : List ℕ) (ps : List Piece) → (more : List ℕ) × (rest : List Piece) × (after_text w ps ≡ Text (w ++ more) ∷ rest)
goes-on w (Text v ∷ ps) = (v, ps, refl)
goes-on w [] = ([], [], ap (λ u. Text u ∷ []) (sym (append-nil w)))
goes-on w (Sequence v ∷ ps) = ([], Sequence v ∷ ps, ap (λ u. Text u ∷ Sequence v ∷ ps) (sym (append-nil w)))
goes-on w (LoneEscape ∷ ps) = ([], LoneEscape ∷ ps, ap (λ u. Text u ∷ LoneEscape ∷ ps) (sym (append-nil w)))

filled : (u : List ℕ) (front : List Piece) (w : List ℕ) (ps : List Piece) → ArePieces u (front ++ Text w ∷ ps) → 0 < length u
filled u [] [] ps are = absurd (are.2.0 refl)
filled u [] (b ∷ w) ps are = omega (arith, ap length are.1)
filled u (p ∷ front) w ps are = omega (arith, ap length are.1, length-append (spelling p) are.0, filled are.0 front w ps are.3)

-- a run or an SGR stands before more as well
stands-before-more : (p : Piece) (rest v : List ℕ) → is_plain_piece p ≡ true → 0 < length rest → StandsBefore p rest → StandsBefore p (rest ++ v)
stands-before-more (Text w) [] v is some stands = absurd (omega (arith, some))
stands-before-more (Text w) (b ∷ rest) v is some stands = (stands.0, stands.1, λ _. stands.2 (λ e. cc))
stands-before-more (Sequence w) rest v is some stands = stands
stands-before-more LoneEscape rest v is some stands = absurd (cc is)

run-on : (u v : List ℕ) (front : List Piece) (w : List ℕ) (ps : List Piece) → ArePieces u (front ++ Text w ∷ ps) → list_all is_plain_piece front ≡ true → (more : List ℕ) × (rest : List Piece) × ArePieces (u ++ v) (front ++ Text (w ++ more) ∷ rest)
run-on u v [] w ps are all =
    let qs = pieces_of (are.0 ++ v) in
    let on = goes-on w qs in
    let text : w ++ (are.0 ++ v) ≡ u ++ v = sym (ap (λ x. x ++ v) are.1 ∙ append_assoc w are.0 v) in
    (on.0, on.1, subst (ArePieces (u ++ v)) on.2 (subst (λ x. ArePieces x (after_text w qs)) text (after_text_are w (are.0 ++ v) qs are.2.0 are.2.1 (pieces_are (are.0 ++ v)))))
run-on u v (p ∷ front) w ps are all =
    let both = and_parts (is_plain_piece p) (list_all is_plain_piece front) all in
    let later = run-on are.0 v front w ps are.3 both.1 in
    (later.0, later.1, (are.0 ++ v, ap (λ x. x ++ v) are.1 ∙ append_assoc (spelling p) are.0 v, stands-before-more p are.0 v both.0 (filled are.0 front w ps are.3) are.2, later.2))

-- what was passed before the run
pub so_far-near : {u w : List ℕ} {width left last position passed : ℕ} {style : Rendition} {ps : List Piece} (v : List ℕ) → IsPlainSoFar u width left style last position passed (Text w ∷ ps)
    → (more : List ℕ) × (rest : List Piece) × IsPlainSoFar (u ++ v) width left style last position passed (Text (w ++ more) ∷ rest)
so_far-near {u} {w} {ps = ps} v so_far =
    let front = so_far.front in
    let on = run-on u v front w ps (subst (ArePieces u) so_far.all (pieces_are u)) so_far.are_plain in (
      on.0,
      on.1,
      record {
        front = front;
        all = sym (pieces_of-unique (u ++ v) (front ++ Text (w ++ on.0) ∷ on.1) on.2);
        are_plain = so_far.are_plain;
        bytes = so_far.bytes;
        utf8 = so_far.utf8;
        taken = so_far.taken;
        plain = so_far.plain;
        count = so_far.count;
        sum = so_far.sum;
        style_is = so_far.style_is;
        last_is = so_far.last_is;
      },
    )
