-- The steps of a reader: where a run ends, and how many bytes of printable ASCII it begins with.
use Rattle.std.proofs.Common.{◌≡◌, ◌≢◌, ℕ, suc, ◌+◌, ◌-◌, ◌<◌, ◌≤◌, Bool, true, false, ◌&&◌, List, [], ◌∷◌, length, take, drop, slice_index, slice_range, min, nat_eq, nat_le, refl, sym, ◌∙◌, ap, arith, if◌then◌else◌}
use Rattle.std.specs.List.{list_all, prefix_len}
use Rattle.std.specs.Str.{IsCharBoundary, IsUtf8}
use Rattle.std.proofs.lemmas.List.{take_rest}
use Rattle.std.proofs.lemmas.List.Sums.{prefix_len-le-length, prefix_len-drop_yes}
use Rattle.std.proofs.lemmas.Bool.Decides.{nat_tests}
use Rattle.ansi_items.specs.Bytes.{escape, is_plain_byte}
use Rattle.ansi_items.specs.Counts.{before_escape}
use Rattle.ansi_items.specs.declared.ansitok.Kind.TheVariants.{Text as TextKind}
use Rattle.ansi_items.specs.Fronts.{front_of}
use Rattle.ansi_items.proofs.ScanLemmas.{step_gives, text_step}
use Rattle.ansi_search.proofs.SliceLemmas.{length-slice_range}
use Rattle.ansi_safe.specs.Safe.{is_printable_byte}
use Rattle.ansi_safe.proofs.FrontLemmas.{prefix_len-take}
use Rattle.ansi_clusters.specs.declared.steps.Step.{Step}
use Rattle.ansi_clusters.specs.Steps.{IsStepOf, GivesStep}

-- printable ASCII has no ESC
printable-plain : (b : ℕ) → is_printable_byte b ≡ true → is_plain_byte b ≡ true
printable-plain b is = grind (arith, nat_tests, is)

-- so the next ESC comes after what is printable at the front
pub escape-past : (xs : List ℕ) → before_escape xs ≡ prefix_len is_printable_byte xs + before_escape (drop (prefix_len is_printable_byte xs) xs)
escape-past [] = refl
escape-past (x ∷ xs) = by (is_printable_byte x) (printable-plain x) (escape-past xs)
  where
    n : ℕ
    n = prefix_len is_printable_byte xs

    by : (p : Bool) → (p ≡ true → is_plain_byte x ≡ true) → before_escape xs ≡ n + before_escape (drop n xs)
        → before_escape (x ∷ xs) ≡ (if p then 1 + n else 0) + before_escape (drop (if p then 1 + n else 0) (x ∷ xs))
    by true both more =
        let next : 1 + n ≡ suc n = omega arith in
        let past : before_escape (drop (1 + n) (x ∷ xs)) ≡ before_escape (drop n xs) = ap (λ m. before_escape (drop m (x ∷ xs))) next in
        ap (λ b. if b then 1 + before_escape xs else 0) (both refl) ∙ omega (arith, more, past)
    by false both more = omega arith

-- none is before an ESC
pub escape-first : (xs : List ℕ) → slice_index xs 0 ≡ escape → before_escape xs ≡ 0
escape-first [] is = refl
escape-first (x ∷ xs) is = ap (λ b. if is_plain_byte b then 1 + before_escape xs else 0) is

-- what a reader gives of a run
pub run-gives : (t bytes : List ℕ) (offset printable len : ℕ) → bytes ≡ t → IsUtf8 t → IsCharBoundary t offset → offset ≢ length bytes → slice_index bytes offset ≢ escape
    → printable ≡ prefix_len is_printable_byte (take (length bytes - offset) (drop offset bytes)) → len ≡ before_escape (take (length bytes - offset) (drop offset bytes))
    → GivesStep (record { text = t; offset = offset }) (record { item = record { kind = TextKind; start = offset; end = offset + len }; printable = printable }) (record { text = t; offset = offset + len })
run-gives t bytes offset printable len same utf8 here more other printable_is len_is =
    let rest : take (length bytes - offset) (drop offset bytes) ≡ drop offset t = take_rest bytes offset ∙ ap (drop offset) same in
    let front : printable ≡ prefix_len is_printable_byte (drop offset t) = printable_is ∙ ap (prefix_len is_printable_byte) rest in
    let whole : len ≡ before_escape (drop offset t) = len_is ∙ ap before_escape rest in
    let inside : offset < length t = omega (arith, here.0, more, ap length same) in
    let plain : is_plain_byte (slice_index t offset) ≡ true = ap (λ b. is_plain_byte (slice_index b offset)) (sym same) ∙ plain-unless (slice_index bytes offset) other in
    let some : before_escape (drop offset t) ≡ 1 + before_escape (drop (offset + 1) t) = prefix_len-drop_yes is_plain_byte t offset 0 inside plain in
    let size : offset + len - offset ≡ len = omega arith in
    let gives = step_gives t offset (offset + len) (front_of TextKind (offset + len - offset)) here (text_step t offset (offset + len) utf8 here (omega (arith, whole)) (omega (arith, whole, some))) (omega arith) in
    record {
      gives = gives;
      is_step = record {
        ordered = omega arith;
        start = here;
        end = gives.end_boundary;
        printable = omega (arith, front, whole, escape-past (drop offset t), prefix_len-take is_printable_byte (offset + len - offset) (drop offset t));
      };
    }
  where
    plain-unless : (b : ℕ) → b ≢ escape → is_plain_byte b ≡ true
    plain-unless b other = grind (arith, nat_tests, other)

-- ---- the test of a run

one-more : (n m : ℕ) → nat_eq (1 + n) (suc m) ≡ nat_eq n m
one-more n m = grind (arith, nat_tests)

none-more : (m : ℕ) → nat_eq 0 (suc m) ≡ false
none-more m = grind (arith, nat_tests)

-- each byte is printable if as many are at the front as there are
pub printable-test : (w : List ℕ) → nat_eq (prefix_len is_printable_byte w) (length w) ≡ list_all is_printable_byte w
printable-test [] = refl
printable-test (b ∷ w) = by (is_printable_byte b) (printable-test w)
  where
    by : (p : Bool) → nat_eq (prefix_len is_printable_byte w) (length w) ≡ list_all is_printable_byte w
        → nat_eq (if p then 1 + prefix_len is_printable_byte w else 0) (suc (length w)) ≡ (p && list_all is_printable_byte w)
    by true same = one-more (prefix_len is_printable_byte w) (length w) ∙ same
    by false same = none-more (length w)

pub as-least : (n m : ℕ) → nat_le n m ≡ nat_eq (min m n) n
as-least n m = grind (arith, nat_tests)

-- as many are at most in the item
pub step-within : (t : List ℕ) (step : Step) → IsStepOf t step → step.item.start + step.printable ≤ step.item.end
step-within t step is =
    let w = slice_range t step.item.start step.item.end in
    omega (arith, is.ordered, is.printable, prefix_len-le-length is_printable_byte w, length-slice_range t step.item.start step.item.end is.ordered is.end.0)

-- the test of a step
pub step-printable : (t : List ℕ) (step : Step) → IsStepOf t step → nat_le (step.item.end - step.item.start) step.printable ≡ list_all is_printable_byte (slice_range t step.item.start step.item.end)
step-printable t step is =
    let w = slice_range t step.item.start step.item.end in
    let size : length w ≡ step.item.end - step.item.start = length-slice_range t step.item.start step.item.end is.ordered is.end.0 in
    let inside : prefix_len is_printable_byte w ≤ length w = prefix_len-le-length is_printable_byte w in
    let least : min step.printable (length w) ≡ prefix_len is_printable_byte w = omega (arith, is.printable, inside) in
    ap (λ n. nat_le n step.printable) (sym size) ∙ as-least (length w) step.printable ∙ ap (λ n. nat_eq n (length w)) least ∙ printable-test w
