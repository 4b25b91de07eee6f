-- How far the walk to the first run of a text has come, and what a step of it is.
use Rattle.std.specs.Prelude.{IfSome, Option, Some, None}
use Rattle.std.proofs.Common.{◌-◌, take, drop, slice_range, take-add, drop-drop}
use Rattle.ansi_blocks.proofs.Common.{◌≡◌, ◌≢◌, ℕ, Bool, true, false, ◌+◌, ◌≤◌, nat_tests, ◌==◌, List, [], ◌∷◌, ◌++◌, arith, length, length-append, refl, sym, ◌∙◌, ap, ap₂, subst, if◌then◌else◌, append_assoc, append-nil, ne_eqb, Piece, Text, Sequence, spelling, pieces_of, Rendition, plain_style, apply, copied, sequences_before, block_after, blocks_from, is_mark, BeginsWithMark}
use Rattle.ansi_items.specs.declared.ansitok.Kind.{Kind}
use Rattle.ansi_items.specs.declared.ansitok.Kind.TheVariants.{Sgr}
use Rattle.ansi_style.proofs.SgrLemmas.{apply-no_sgr}
use Rattle.ansi_blocks.proofs.BlockLemmas.{blocks_through, sequences_before_pieces, blocks_from-walked, sequences_before-front}

-- over a mark; an SGR doesn't wait
blocks_through-mark : (p : Piece) (w : List ℕ) (s : Rendition) (held : List ℕ) (ps : List Piece) → is_mark p ≡ true → spelling p ≡ w
    → (blocks_through s held (p ∷ ps) ≡ blocks_through (apply s w) (held ++ copied (Sequence w)) ps) × (sequences_before_pieces (p ∷ ps) ≡ copied (Sequence w) ++ sequences_before_pieces ps)
blocks_through-mark (Text v) w s held ps is same = absurd (cc is)
blocks_through-mark p w s held ps is same = (ap (λ u. blocks_through (apply s u) (held ++ copied (Sequence u)) ps) same, ap (λ u. copied (Sequence u) ++ sequences_before_pieces ps) same)

-- What is joined, and what waits before the first run among the pieces that are left, are all that waits.
pub record IsJoinedSoFar (whole joined : List ℕ) (left : List Piece) : Type 0 where
  pub bytes : joined ++ sequences_before_pieces left ≡ whole

joined-mark : {whole joined more w : List ℕ} {kind : Kind} {left ps : List Piece} → IsJoinedSoFar whole joined left → BeginsWithMark kind w left ps → more ≡ joined ++ copied (Sequence w) → IsJoinedSoFar whole more ps
joined-mark {whole} {joined} {more} {w} {kind} {left} {ps} so_far begins is =
    let front = ap sequences_before_pieces begins.pieces ∙ (blocks_through-mark begins.mark w plain_style [] ps begins.is_mark begins.bytes).1 in
    record { bytes = ap (λ u. u ++ sequences_before_pieces ps) is ∙ append_assoc joined (copied (Sequence w)) (sequences_before_pieces ps) ∙ ap (λ u. joined ++ u) (sym front) ∙ so_far.bytes }

pub joined-other : {whole joined more w : List ℕ} {kind : Kind} {left ps : List Piece} → IsJoinedSoFar whole joined left → BeginsWithMark kind w left ps → kind ≢ Sgr → more ≡ joined ++ w → IsJoinedSoFar whole more ps
joined-other {joined = joined} {w = w} so_far begins other is = joined-mark so_far begins (is ∙ sym (ap (λ b. joined ++ (if b then [] else w)) (begins.no_sgr other)))

-- The blocks of t from a style on are those of the pieces that are left, at a place of t, with what waits and the style so far. If what waits is as long as the stretch from `start` on, it is that stretch.
pub record IsRunSoFar (from : Rendition) (t : List ℕ) (s : Rendition) (len start at : ℕ) (pieces : List Piece) : Type 0 where
  pub held : List ℕ
  pub blocks : blocks_from from t ≡ blocks_through s held pieces
  pub front : sequences_before t 0 ≡ held ++ sequences_before_pieces pieces
  pub sized : len ≡ length held
  pub within : start ≤ at
  pub together : start + len ≡ at → held ≡ slice_range t start at

pub run-begin : (s : Rendition) (t : List ℕ) → IsRunSoFar s t s 0 0 0 (pieces_of t)
run-begin s t = record { held = []; blocks = blocks_from-walked s t; front = sequences_before-front t; sized = refl; within = omega arith; together = λ _. refl }

slice_range-more : (t : List ℕ) (start at end : ℕ) → start ≤ at → at ≤ end → slice_range t start at ++ slice_range t at end ≡ slice_range t start end
slice_range-more t start at end first second =
    let both : end - start ≡ (at - start) + (end - at) = omega arith in
    let place : start + (at - start) ≡ at = omega arith in
    sym (ap (λ n. take n (drop start t)) both ∙ take-add (at - start) (end - at) (drop start t) ∙ ap (λ v. slice_range t start at ++ take (end - at) v) (drop-drop (at - start) start t ∙ ap (λ n. drop n t) place))

-- over an SGR, which ends at j
pub run-sgr : {from s r : Rendition} {t : List ℕ} {len start at end : ℕ} {kind : Kind} {w : List ℕ} {pieces ps : List Piece} (j : ℕ) → IsRunSoFar from t s len start at pieces → BeginsWithMark kind w pieces ps
    → kind ≡ Sgr → j ≡ end → r ≡ apply s w → IsRunSoFar from t r len j end ps
run-sgr {from} {s} {r} {t} {len} {start} {at} {end} {kind} {w} {pieces} {ps} j so_far begins sgr ends is =
    let first = subst (IsRunSoFar from t s len start at) begins.pieces so_far in
    let step = blocks_through-mark begins.mark w s first.held ps begins.is_mark begins.bytes in
    let none : copied (Sequence w) ≡ [] = ap (λ b. if b then [] else w) (begins.sgr sgr) in
    let past : j + len ≡ end → first.held ≡ slice_range t j end =
    λ same. (let unwaited : length first.held ≡ 0 = omega (arith, same, ends, first.sized) in
    let nowhere : end - j ≡ 0 = omega (arith, ends) in
    no_bytes first.held unwaited ∙ sym (ap (λ n. take n (drop j t)) nowhere)) in
    record {
      held = first.held;
      blocks = first.blocks ∙ step.0 ∙ ap₂ (λ r h. blocks_through r h ps) (sym is) (ap (λ u. first.held ++ u) none ∙ append-nil first.held);
      front = first.front ∙ ap (λ u. first.held ++ u) (step.1 ∙ ap (λ u. u ++ sequences_before_pieces ps) none);
      sized = first.sized;
      within = omega (arith, ends);
      together = past;
    }
  where
    no_bytes : (v : List ℕ) → length v ≡ 0 → v ≡ []
    no_bytes [] none = refl
    no_bytes (x ∷ v) none = absurd (omega (arith, none))

-- over any other mark, from i up to j
pub run-other : {from s : Rendition} {t : List ℕ} {len start at end : ℕ} {kind : Kind} {w : List ℕ} {pieces ps : List Piece} (i j : ℕ) → IsRunSoFar from t s len start at pieces → BeginsWithMark kind w pieces ps
    → kind ≢ Sgr → i ≡ at → j ≡ end → w ≡ slice_range t i j → i + length w ≡ j → IsRunSoFar from t s (len + length w) start end ps
run-other {from} {s} {t} {len} {start} {at} {end} {kind} {w} {pieces} {ps} i j so_far begins other begin ends is reach =
    let first = subst (IsRunSoFar from t s len start at) begins.pieces so_far in
    let step = blocks_through-mark begins.mark w s first.held ps begins.is_mark begins.bytes in
    let all : copied (Sequence w) ≡ w = ap (λ b. if b then [] else w) (begins.no_sgr other) in
    let forward : at ≤ end = omega (arith, begin, ends, reach) in
    let whole : start + (len + length w) ≡ end → first.held ++ w ≡ slice_range t start end =
    λ same. (let before : start + len ≡ at = omega (arith, same, begin, ends, reach) in
    ap₂ (λ u v. u ++ v) (first.together before) (is ∙ ap₂ (λ m n. slice_range t m n) begin ends) ∙ slice_range-more t start at end first.within forward) in
    record {
      held = first.held ++ w;
      blocks = first.blocks ∙ step.0 ∙ ap₂ (λ r h. blocks_through r (first.held ++ h) ps) (apply-no_sgr s w (begins.no_sgr other)) all;
      front = first.front ∙ ap (λ u. first.held ++ u) (step.1 ∙ ap (λ u. u ++ sequences_before_pieces ps) all) ∙ sym (append_assoc first.held w (sequences_before_pieces ps));
      sized = ap (λ n. n + length w) first.sized ∙ sym (length-append first.held w);
      within = omega (arith, first.within, forward);
      together = whole;
    }

-- what follows from three facts follows if there is a result
pub if_three : {X : Type 0} {P Q R S : X → Type 0} (o : Option X) → IfSome o P → IfSome o Q → IfSome o R → ((x : X) → P x → Q x → R x → S x) → IfSome o S
if_three None p q r gives = tt
if_three (Some x) p q r gives = gives x p q r

-- at the run
pub run-text : {from s : Rendition} {t : List ℕ} {len start at : ℕ} {w : List ℕ} {pieces : List Piece} (after : List ℕ) → IsRunSoFar from t s len start at pieces → pieces ≡ Text w ∷ pieces_of after
    → (blocks_from from t ≡ block_after (sequences_before t 0) w s ∷ blocks_from s after) × (len ≡ length (sequences_before t 0))
run-text {from} {s} {t} {len} {start} {at} {w} {pieces} after so_far is =
    let first = subst (IsRunSoFar from t s len start at) is so_far in
    let held : sequences_before t 0 ≡ first.held = first.front ∙ append-nil first.held in
    (first.blocks ∙ ap₂ (λ u bs. block_after u w s ∷ bs) (sym held) (sym (blocks_from-walked s after)), first.sized ∙ ap length (sym held))

-- what waits is the bytes before it from `start` on, if they are as many
pub run-together : {from s : Rendition} {t : List ℕ} {len start at i : ℕ} {w : List ℕ} {pieces : List Piece} (after before : List ℕ) → IsRunSoFar from t s len start at pieces → pieces ≡ Text w ∷ pieces_of after
    → i ≡ at → before ≡ slice_range t start i → start + length before ≡ i → length before ≡ len → before ≡ sequences_before t 0
run-together {from} {s} {t} {len} {start} {at} {i} {w} {pieces} after before so_far is begin bytes reach same =
    let first = subst (IsRunSoFar from t s len start at) is so_far in
    let held : sequences_before t 0 ≡ first.held = first.front ∙ append-nil first.held in
    let all : start + len ≡ at = omega (arith, same, begin, reach) in
    bytes ∙ ap (λ n. slice_range t start n) begin ∙ sym (held ∙ first.together all)

-- a block that is allocated is no borrow
pub not_borrowed : (n k : ℕ) → n ≡ k → (n ≡ 0 → false ≡ true) → (k == 0) ≡ false
not_borrowed n k is some = ne_eqb k 0 (λ none. absurd (cc (some (is ∙ none))))
