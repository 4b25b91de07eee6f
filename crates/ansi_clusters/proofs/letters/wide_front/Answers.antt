use Rattle.std.proofs.Common.{◌≡◌, ◌+◌, ◌^◌, ◌<◌, [], length, drop, slice_index, refl, sym, ◌∙◌, ap, arith, rules}
use Rattle.std.proofs.lemmas.List.{get_or-drop, length-drop}
use Rattle.std.proofs.lemmas.Str.{IsUtf8-drop}
use Rattle.ansi_clusters.specs.Letters.{are_wide_bytes}
use Rattle.ansi_clusters.proofs.LetterLemmas.{front-bound, front-more, front-none, front-wide, wide-first, wide-front, wide-next}
use Rattle.ansi_clusters.proofs.letters.wide_front.Goals as goal

pub characters-init : goal.characters-init
characters-init c = record {
  plain = front-none c.args.text.now c.utf8.text;
  passed = ([], refl, refl);
  before = λ some. absurd (omega (arith, some));
  most = omega arith;
}

pub characters-preserved : goal.characters-preserved
characters-preserved c =
    let t = c.args.text.now in
    let at = c.characters.at in
    let inv = c.characters.invariant in
    let rest = drop at t in
    let place : at + 0 ≡ at = omega arith in
    let same : are_wide_bytes (slice_index rest 0) (slice_index rest 1) (slice_index rest 2) ≡ are_wide_bytes (slice_index t at) (slice_index t (at + 1)) (slice_index t (at + 2))
    = ap (λ b. are_wide_bytes b (slice_index rest 1) (slice_index rest 2)) (get_or-drop at t 0 0 ∙ ap (slice_index t) place)
    ∙ ap (λ b. are_wide_bytes (slice_index t at) b (slice_index rest 2)) (get_or-drop at t 1 0)
    ∙ ap (λ b. are_wide_bytes (slice_index t at) (slice_index t (at + 1)) b) (get_or-drop at t 2 0) in
    let bytes = ap (λ u. are_wide_bytes (slice_index u at) (slice_index u (at + 1)) (slice_index u (at + 2))) (sym c.as_bytes-bytes.ensures.value) in
    let rest_utf8 = IsUtf8-drop t at c.utf8.text inv.plain.boundary in
    let next = wide-first rest rest_utf8 (omega (arith, length-drop at t, c.characters-test.true, ap length c.as_bytes-bytes.ensures.value)) (same ∙ bytes ∙ sym c.is_wide.ensures ∙ c.if-is_wide.true) in
    record {
      plain = front-more t c.utf8.text inv.plain (front-wide rest rest_utf8 next.0 next.1 next.2 next.3 next.4);
      passed = wide-next t c.utf8.text at c.characters.columns inv.plain.boundary inv.passed.0 inv.passed.1 inv.passed.2 next.0 next.1 next.2 next.3 next.4;
      before = λ _. wide-front t c.utf8.text at c.characters.columns inv.plain.boundary inv.passed.0 inv.passed.1 inv.passed.2 next.0 next.1 next.2 next.3 next.4;
      most = omega (arith, inv.most, c.if-most-columns-ge2.true);
    }

pub overflow_add-columns : goal.overflow_add-columns
overflow_add-columns c =
    let t = c.args.text.now in
    let size : length t < 2 ^ 63 = search rules in
    let later = (characters-preserved c).plain in
    omega (arith, size, front-bound t c.utf8.text later, later.boundary.0)
