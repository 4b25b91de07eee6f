-- Texts that an iterator returns, one more at a time, and all of them.
use Rattle.std.proofs.Common.{◌≡◌, ◌∙◌, ℕ, ◌+◌, ◌<◌, ◌≤◌, ◌^◌, Bool, List, [], ◌∷◌, ◌++◌, length, take, drop, map, All, Option, Result, Ok, Err, refl, sym, ap, ap₂, subst, arith, append-nil, length-append, IsTrue, IsOk}
use Rattle.std.specs.Prelude.{flat_map}
use Rattle.std.specs.Iterator.{Yields, Drains, HoldsAlong}
use Rattle.std.specs.List.{list_all}
use Rattle.std.specs.declared.borrow.CowStr.{CowStr}
use Rattle.std.proofs.lemmas.Bool.{and_parts}
use Rattle.std.proofs.lemmas.List.{length-map, length-drop, map-append, map-id}
use Rattle.std.proofs.lemmas.List.Concat.{flat_map-cons, flat_map-append}
use Rattle.std.proofs.lemmas.List.Elements.{All-from_recursion, recursion_from_All, All-head, All-tail}
use Rattle.std.proofs.lemmas.Slice.{drop-append-drop}
use Rattle.std.proofs.Math.Seq.{take-append_seam}
use Rattle.ansi_split.specs.Splits.{CarriedPart, GivesCarriedPart}
use Rattle.ansi_text_calls.specs.Lists.{ends_from, given_bytes}

-- texts one after the other
abbrev pub joined_texts : List (List ℕ) → List ℕ
joined_texts ts = flat_map (λ t. t) ts

module _ {X : Type 0} (text : X → List ℕ) where
  pub joined-more : (xs : List X) (x : X) → joined_texts (map text (xs ++ x ∷ [])) ≡ joined_texts (map text xs) ++ text x
  joined-more xs x =
      ap joined_texts (map-append text xs (x ∷ [])) ∙ flat_map-append (λ t. t) (map text xs) (text x ∷ [])
      ∙ ap (λ u. joined_texts (map text xs) ++ u) (flat_map-cons (λ t. t) (text x) [] ∙ append-nil (text x))

  pub ends-more : (n : ℕ) (xs : List X) (x : X) → ends_from n (map text (xs ++ x ∷ [])) ≡ ends_from n (map text xs) ++ (n + length (joined_texts (map text xs)) + length (text x)) ∷ []
  ends-more n [] x = ap (λ k. k ∷ []) (omega arith)
  ends-more n (y ∷ xs) x =
      let next = n + length (text y) in
      ap (λ es. next ∷ es)
      (ends-more next xs x ∙ ap (λ k. ends_from next (map text xs) ++ k ∷ [])
      (omega (arith, ap length (flat_map-cons (λ t. t) (text y) (map text xs)), length-append (text y) (joined_texts (map text xs)))))

-- the same of texts
pub joined_one : (texts : List (List ℕ)) (x : List ℕ) → joined_texts (texts ++ x ∷ []) ≡ joined_texts texts ++ x
joined_one texts x = ap joined_texts (sym (map-id (texts ++ x ∷ []))) ∙ joined-more (λ t. t) texts x ∙ ap (λ us. joined_texts us ++ x) (map-id texts)

pub ends_one : (texts : List (List ℕ)) (x : List ℕ) → ends_from 0 (texts ++ x ∷ []) ≡ ends_from 0 texts ++ (0 + length (joined_texts texts) + length x) ∷ []
ends_one texts x =
    ap (ends_from 0) (sym (map-id (texts ++ x ∷ []))) ∙ ends-more (λ t. t) 0 texts x
    ∙ ap (λ us. ends_from 0 us ++ (0 + length (joined_texts us) + length x) ∷ []) (map-id texts)

-- one more item follows those that are written
pub written-more : {T : Type 0} (old now after items more : List T) → now ≡ items ++ drop (length items) old → after ≡ take (length items) now ++ more ++ drop (length items + length more) now
    → after ≡ (items ++ more) ++ drop (length (items ++ more)) old
written-more old now after items more is put =
    let end = length items + length more in
    let front : take (length items) now ≡ items = ap (take (length items)) is ∙ take-append_seam items (drop (length items) old) in
    let back : drop end now ≡ drop (length (items ++ more)) old
    = ap (drop end) is ∙ drop-append-drop (length items) old items end (omega arith) refl ∙ ap (λ n. drop n old) (sym (length-append items more)) in
    put ∙ ap₂ (λ u v. u ++ more ++ v) front back

-- these bytes are at the front, up to a place, and the rest is unchanged
pub record IsPutSoFar (old u now : List ℕ) (place : ℕ) : Type 0 where
  pub bytes : now ≡ u ++ drop (length u) old
  pub at : place ≡ length u

pub put-begin : (old : List ℕ) → IsPutSoFar old [] old 0
put-begin old = record { bytes = refl; at = refl }

pub put-more : {old u now after : List ℕ} {place next : ℕ} (more : List ℕ) → IsPutSoFar old u now place → place + length more ≤ length old
    → (place + length more ≤ length now → after ≡ take place now ++ more ++ drop (place + length more) now) → next ≡ place + length more → IsPutSoFar old (u ++ more) after next
put-more {old} {u} {now} {after} {place} {next} more so_far room put next_is =
    let rest = drop (length u) old in
    let size : length now ≡ length old = omega (arith, ap length so_far.bytes, length-append u rest, length-drop (length u) old, so_far.at, room) in
    record {
      bytes = written-more old now after u more so_far.bytes (put (omega (arith, size, room)) ∙ ap (λ n. take n now ++ more ++ drop (n + length more) now) so_far.at);
      at = omega (arith, next_is, so_far.at, length-append u more);
    }

-- all is written
pub put-end : {old u now v : List ℕ} {place : ℕ} → IsPutSoFar old u now place → u ≡ v → place ≤ length old → (place ≡ length v) × (place ≤ length old) × (now ≡ v ++ drop place old)
put-end {old} {u} {place = place} put same room =
    let at = put.at in
    (at ∙ ap length same, room, put.bytes ∙ ap₂ (λ w n. w ++ drop n old) same (sym at))

abbrev text_of : CarriedPart → List ℕ
text_of p = p.bytes

abbrev is_borrow : CarriedPart → Bool
is_borrow p = p.borrowed

-- the parts that a split has left are given in turn, and the lines that a wrap has left
module _ {A E : Type 0} (most_added : ℕ) where
  abbrev steps : List CarriedPart → Option (Result (CowStr A) E) → List CarriedPart → Type 0
  steps old given new = GivesCarriedPart most_added old given new

  -- borrows are given
  lent-given : (left later : List CarriedPart) (rs : List (Result (CowStr A) E)) → IsTrue (list_all is_borrow left) → Yields steps left rs later → All IsOk rs
  lent-given left later [] lent ran = All-from_recursion IsOk [] tt
  lent-given left later (Ok c ∷ rs) lent (new, step, ran) =
      let rest = (and_parts (is_borrow step.0) (list_all is_borrow new) (subst (λ xs. IsTrue (list_all is_borrow xs)) step.1 lent)).1 in
      All-from_recursion IsOk (Ok c ∷ rs) (refl, recursion_from_All IsOk rs (lent-given new later rs rest ran))
  lent-given left later (Err e ∷ rs) lent (new, step, ran) =
      let first = (and_parts (is_borrow step.0) (list_all is_borrow step.1) (subst (λ xs. IsTrue (list_all is_borrow xs)) step.2 lent)).0 in
      absurd (cc (first, step.3))

  -- what is given is the front of what was left
  texts-given : (left later : List CarriedPart) (rs : List (Result (CowStr A) E)) → All IsOk rs → Yields steps left rs later → map text_of left ≡ map given_bytes rs ++ map text_of later
  texts-given left later [] ok ran = ap (map text_of) ran
  texts-given left later (Ok c ∷ rs) ok (new, step, ran) =
      ap (map text_of) step.1 ∙ ap₂ (λ t ts. t ∷ ts) (sym step.2.0) (texts-given new later rs (All-tail IsOk (Ok c) rs ok) ran)
  texts-given left later (Err e ∷ rs) ok (new, step, ran) = absurd (let err = All-head IsOk (Err e) rs ok in cc err)

  -- and at the end all of it
  all-given : (left : List CarriedPart) (rs : List (Result (CowStr A) E)) → All IsOk rs → Drains steps left rs → map given_bytes rs ≡ map text_of left
  all-given left rs ok (new, (last, ran, ends)) =
      sym (texts-given left last rs ok ran ∙ ap (λ xs. map given_bytes rs ++ map text_of xs) ends.0 ∙ append-nil (map given_bytes rs))

  pub lent-drained : (left : List CarriedPart) (rs : List (Result (CowStr A) E)) → IsTrue (list_all is_borrow left) → Drains steps left rs → map given_bytes rs ≡ map text_of left
  lent-drained left rs lent (new, (last, ran, ends)) = all-given left rs (lent-given left last rs lent ran) (new, (last, ran, ends))

  -- what is given is no longer than that
  pub given-fits : (left : List CarriedPart) → IsTrue (list_all is_borrow left) → length (joined_texts (map text_of left)) < 2 ^ 64 → length left < 2 ^ 64
      → HoldsAlong steps left (λ rs. All IsOk rs × (length (joined_texts (map given_bytes rs)) < 2 ^ 64) × (length rs < 2 ^ 64))
  given-fits left lent short few rs later ran =
      let ok = lent-given left later rs lent ran in
      let is = texts-given left later rs ok ran in (
        ok,
        omega (arith, short, ap length (ap joined_texts is ∙ flat_map-append (λ t. t) (map given_bytes rs) (map text_of later)), length-append (joined_texts (map given_bytes rs)) (joined_texts (map text_of later))),
        omega (arith, few, ap length is, length-append (map given_bytes rs) (map text_of later), length-map left text_of, length-map rs given_bytes),
      )
