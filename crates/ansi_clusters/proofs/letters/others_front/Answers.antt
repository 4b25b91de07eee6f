use Rattle.std.proofs.Common.{◌≡◌, ◌+◌, ◌-◌, ◌^◌, ◌<◌, ◌++◌, length, drop, encode_utf8, length-append, sym, ◌∙◌, ap, subst, arith, rules}
use Rattle.std.proofs.lemmas.Str.{IsUtf8-drop}
use Rattle.ansi_clusters.specs.Letters.{IsPlainFront}
use Rattle.ansi_clusters.proofs.LetterLemmas.{front-bound, front-first, front-more, front-none, rest-past}
use Rattle.ansi_clusters.proofs.letters.others_front.Goals as goal

pub characters-init : goal.characters-init
characters-init c =
    let t = c.args.text.now in
    let none : 0 ≡ length t - length t = omega arith in
    record {
      front = subst (λ n. IsPlainFront t n 0) none (front-none t c.utf8.text);
      within = omega arith;
      same = c.chars-chars.ensures.rest;
      rest = ap (λ n. drop n t) none;
    }

pub characters-preserved : goal.characters-preserved
characters-preserved c =
    let t = c.args.text.now in
    let inv = c.characters.invariant in
    let at = length t - length c.characters.rest.now in
    let later = c.as_str-rest.result.now in
    let bytes : drop at t ≡ encode_utf8 c.in-Some.c ++ later = sym (inv.same ∙ inv.rest) ∙ c.in-Some.ensures.steps.0 ∙ ap (λ u. encode_utf8 c.in-Some.c ++ u) (sym c.as_str-rest.ensures) in
    let first = front-first (drop at t) (IsUtf8-drop t at c.utf8.text inv.front.boundary) c.in-Some.c c.in-Some-plain_columns.width later bytes c.in-Some-plain_columns.ensures in
    let size : length c.characters.rest.now ≡ length (encode_utf8 c.in-Some.c) + length later = ap length (inv.rest ∙ bytes) ∙ length-append (encode_utf8 c.in-Some.c) later in
    let place : at + length (encode_utf8 c.in-Some.c) ≡ length t - length later = omega (arith, size, inv.within) in
    record {
      front = subst (λ n. IsPlainFront t n (c.characters.columns + c.in-Some-plain_columns.width)) place (front-more t c.utf8.text inv.front first);
      within = omega (arith, size, inv.within);
      same = sym c.as_str-rest.ensures;
      rest = sym (ap (λ n. drop n t) (sym place) ∙ rest-past t at (encode_utf8 c.in-Some.c) later bytes);
    }

pub overflow_add-columns : goal.overflow_add-columns
overflow_add-columns c =
    let t = c.args.text.now in
    let size : length t < 2 ^ 63 = search rules in
    let later = (characters-preserved c).front in
    omega (arith, size, front-bound t c.utf8.text later, later.boundary.0)
