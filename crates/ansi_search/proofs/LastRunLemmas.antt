-- The last run of text, and an end of it.
use Rattle.ansi_search.proofs.Common.{◌≡◌, ℕ, ◌+◌, ◌-◌, ◌<◌, ◌≤◌, List, [], ◌∷◌, length, take, drop, refl, sym, ◌∙◌, ap, ap₂, subst, arith, length-drop, IsCharBoundary, IsCharBoundary-end, IsCharBoundary-from_rest, drop-drop, slice_range, Kind, Piece, Text, pieces_of, plain_of, plain, has_escape, plain_of-mark, offset_of}
use Rattle.ansi_items.proofs.PlainLemmas.{has_escape-plain, one_text, pieces_of-bare}
use Rattle.ansi_search.proofs.SliceLemmas.{slice_range-past}
use Rattle.ansi_search.proofs.OffsetLemmas.{IsOverText, IsOverMark, IsPassed, passed-begin, passed-text, passed-mark, passed-after}
use Rattle.ansi_search.proofs.SplitLemmas.{end_of, end-plain, plain-surely}
use Rattle.ansi_search.specs.Offsets.{IsEnd, IsLastRun, IsSurelyPlain}

-- How far a walk has come; if no text is left, m..e is the last run. There is one exactly if a plain byte was passed.
pub record IsRunWalk (t : List ℕ) (passed m e : ℕ) (left : List Piece) : Type 0 where
  pub place : ℕ
  pub way : IsPassed t place passed left
  pub ordered : m ≤ e
  pub within : e ≤ length t
  pub some : 0 < place → m < e
  pub run : plain_of left ≡ [] → m < e → IsLastRun t m e

pub run_walk-begin : (t : List ℕ) → IsRunWalk t 0 0 0 (pieces_of t)
run_walk-begin t = record { place = 0; way = passed-begin t; ordered = omega arith; within = omega arith; some = λ one. absurd (omega (arith, one)); run = λ bare some. absurd (omega (arith, some)) }

pub run_walk-text : {t : List ℕ} {passed at m e : ℕ} {w : List ℕ} {left ps : List Piece} → IsRunWalk t passed m e left → IsOverText t w passed at left ps → passed < at → w ≡ slice_range t passed at → IsCharBoundary t at
    → IsRunWalk t at passed at ps
run_walk-text {t} {passed} {w = w} {ps = ps} walk over forward is boundary = record {
  place = walk.place + length w;
  way = passed-text walk.way over;
  ordered = omega (arith, over.count);
  within = over.within;
  some = λ _. forward;
  run = λ bare some. record {
    end = end_of t passed over.begins walk.place (subst (IsPassed t walk.place passed) (sym over.there) walk.way);
    boundary = boundary;
    marks = ps;
    pieces = over.there ∙ over.first ∙ ap (λ v. Text v ∷ ps) is;
    bare = bare;
  };
}

pub run_walk-mark : {t : List ℕ} {passed at m e : ℕ} {kind : Kind} {w : List ℕ} {left ps : List Piece} → IsRunWalk t passed m e left → IsOverMark kind t w passed at left ps → IsRunWalk t at m e ps
run_walk-mark walk over = record {
  place = walk.place;
  way = passed-mark walk.way over;
  ordered = walk.ordered;
  within = walk.within;
  some = walk.some;
  run = λ bare some. walk.run (grind (arith, plain_of-mark)) some;
}

-- at the end of a text with plain bytes there is a run
pub run_walk-some : {t : List ℕ} {passed m e : ℕ} {left : List Piece} → IsRunWalk t passed m e left → plain_of left ≡ [] → 0 < length (plain t) → m < e
run_walk-some walk bare some = walk.some (omega (arith, ap length bare, walk.way.count, some))

-- the last run of what follows an item
pub last_run-after : {t rest : List ℕ} {start m e : ℕ} → IsEnd t start → rest ≡ drop start t → IsLastRun rest m e → IsLastRun t (start + m) (start + e)
last_run-after {t} {rest} {start} {m} {e} end is run =
    let b = end.before in
    let count : e - m ≡ start + e - (start + m) = omega arith in
    let after : drop m rest ≡ drop (start + m) t = ap (drop m) is ∙ drop-drop m start t in
    let way : IsPassed t (b + run.end.before) (start + m) (pieces_of (drop (start + m) t))
    = subst (λ u. IsPassed t (b + run.end.before) (start + m) (pieces_of u)) after
    (passed-after {rest = rest} (record { count = ap (λ u. b + length (plain u)) is ∙ end.count; rest = end.rest ∙ ap plain (sym is); offset = λ n. end.offset n ∙ ap (λ u. start + offset_of u n) (sym is) })
    (record { count = run.end.count; rest = run.end.rest; offset = run.end.offset })) in
    record {
      end = end_of t (start + m) (IsCharBoundary-from_rest t start m end.boundary.0 (subst (λ u. IsCharBoundary u m) is run.end.boundary)) (b + run.end.before) way;
      boundary = IsCharBoundary-from_rest t start e end.boundary.0 (subst (λ u. IsCharBoundary u e) is run.boundary);
      marks = run.marks;
      pieces = ap pieces_of (sym after) ∙ run.pieces ∙ ap (λ v. Text v ∷ run.marks) (ap₂ (λ n u. take n u) count after);
      bare = run.bare;
    }

-- an end that is surely plain
pub run-surely : (t : List ℕ) (i : ℕ) → IsSurelyPlain t i → i < length t → IsLastRun t i (length t)
run-surely t i surely some = record {
  end = end-plain t i surely;
  boundary = IsCharBoundary-end t;
  marks = [];
  pieces = pieces_of-bare (drop i t) (ap has_escape (sym (plain-surely t i surely)) ∙ has_escape-plain (drop i t))
      ∙ one_text-some (drop i t) (omega (arith, some, length-drop i t)) ∙ ap (λ v. Text v ∷ []) (sym (slice_range-past t i (length t) (omega arith)));
  bare = refl;
}
  where
    one_text-some : (x : List ℕ) → 0 < length x → one_text x ≡ Text x ∷ []
    one_text-some [] some = absurd (omega (arith, some))
    one_text-some (b ∷ x) some = refl
