use Rattle.std.proofs.Common.{◌≡◌, ◌∙◌, ◌≤◌, ◌<◌, ◌+◌, ◌-◌, ◌∷◌, [], ◌++◌, List, ℕ, length, take, drop, refl, sym, ap, subst, arith, append_assoc, length-append, length-drop}
use Rattle.std.specs.Prelude.{slice_range}
use Rattle.std.proofs.lemmas.List.{take_all}
use Rattle.std.proofs.lemmas.List.Concat.{flat_map-append, flat_map-cons}
use Rattle.memchr.specs.Find.{is_byte, places}
use Rattle.ansi_str.specs.Parts.{all_parts}
use Rattle.ansi_text_calls.specs.Lists.{AreCopied, AreCopiedSoFar}
use Rattle.ansi_text_calls.proofs.GivenLemmas.{joined_texts}
use Rattle.ansi_text_calls.proofs.ListLemmas.{length-bare_parts, few-bare_parts}
use Rattle.ansi_text_calls.proofs.ByteLemmas.{between, first_place, all_parts-between}
use Rattle.ansi_text_calls.proofs.lists.copy_around_byte.Goals as goal

-- no text is copied at first
pub loop-place-init : goal.loop-place-init
loop-place-init c =
    let t = c.args.text.now in
    let b = c.args.byte in
    let all : c.into_iter-place-iterator.result ≡ places (is_byte b) t = c.into_iter-place-iterator.ensures.into_iter_gives ∙ c.memchr_iter-place-items.ensures.value ∙ ap (places (is_byte b)) c.as_bytes-bytes.ensures.value in
    record {
      can = tt;
      finite = tt;
      start = omega arith;
      left = all;
      copied = ([], ap (between t 0) all ∙ sym (all_parts-between b t c.requires.pattern (c.bare_texts_are_std.ensures.parts t (b ∷ []) c.requires.bare)), ((refl, refl, λ _. refl, λ _. refl), refl, refl));
    }

-- a text more fits, since the parts are few and short
fits-more : (t : List ℕ) (texts left all : List (List ℕ)) (x : List ℕ) (copied : ℕ × ℕ) (b b_now e e_now : List ℕ) → AreCopiedSoFar texts copied b b_now e e_now → texts ++ x ∷ left ≡ all
    → length (joined_texts all) ≤ length t → length all ≤ length t + 2 → (copied.0 + 1 ≤ length t + 2) × (copied.1 + length x ≤ length t)
fits-more t texts left all x copied b b_now e e_now so_far are short few =
    let joined = ap joined_texts (sym are) ∙ flat_map-append (λ t. t) texts (x ∷ left) in (
      omega (arith, so_far.0.0, ap length are, length-append texts (x ∷ left), few),
      omega (arith, so_far.0.1, ap length joined, length-append (joined_texts texts) (joined_texts (x ∷ left)), ap length (flat_map-cons (λ t. t) x left), length-append x (joined_texts left), short),
    )

-- the next place is in the text, at or past the start
pub slice_bounds-put_text-count : goal.slice_bounds-put_text-count
slice_bounds-put_text-count c =
    (first_place c.args.byte c.args.text.now c.loop-place.start c.in-Some.place c.loop-place.place-iterator c.next.new.self c.loop-place.invariant.start c.loop-place.invariant.left c.in-Some.ensures.steps).low

pub slice_bounds-put_text-start : goal.slice_bounds-put_text-start
slice_bounds-put_text-start c =
    (first_place c.args.byte c.args.text.now c.loop-place.start c.in-Some.place c.loop-place.place-iterator c.next.new.self c.loop-place.invariant.start c.loop-place.invariant.left c.in-Some.ensures.steps).low

pub slice_bounds-put_text-end : goal.slice_bounds-put_text-end
slice_bounds-put_text-end c =
    let first = first_place c.args.byte c.args.text.now c.loop-place.start c.in-Some.place c.loop-place.place-iterator c.next.new.self c.loop-place.invariant.start c.loop-place.invariant.left c.in-Some.ensures.steps in
    omega (arith, first.high, ap length c.as_bytes-bytes.ensures.value)

pub put_text-copied-requires : goal.put_text-copied-requires
put_text-copied-requires c =
    let t = c.args.text.now in
    let p = c.args.byte ∷ [] in
    let from = c.loop-place.start in
    let so_far = c.loop-place.invariant.copied in
    let are = c.bare_texts_are_std.ensures.parts t p c.requires.bare in
    let fits = fits-more t so_far.0 (between t (c.in-Some.place + 1) c.next.new.self) (all_parts t p) (slice_range t from c.in-Some.place) c.loop-place.copied c.args.buffer.now c.loop-place.buffer c.args.ends.now c.loop-place.ends so_far.2
    (ap (λ ms. so_far.0 ++ between t from ms) (sym c.in-Some.ensures.steps) ∙ so_far.1)
    (length-bare_parts t p are (c.parts_lie_between_matches.ensures.in_turn t p c.utf8.text c.requires.pattern)) (few-bare_parts t p are (c.parts_lie_between_matches.ensures.few t p)) in
    record {
      count = omega (arith, fits.0);
      len = omega (arith, fits.1, ap (λ u. length (slice_range u from c.in-Some.place)) c.as_bytes-bytes.ensures.value);
    }

-- one stretch more is copied
pub loop-place-preserved : goal.loop-place-preserved
loop-place-preserved c =
    let t = c.args.text.now in
    let from = c.loop-place.start in
    let place = c.in-Some.place in
    let first = first_place c.args.byte t from place c.loop-place.place-iterator c.next.new.self c.loop-place.invariant.start c.loop-place.invariant.left c.in-Some.ensures.steps in
    let so_far = c.loop-place.invariant.copied in
    let stretch = slice_range c.as_bytes-bytes.result.now from place in
    let high : place < length t = first.high in
    record {
      can = tt;
      finite = tt;
      start = omega (arith, high);
      left = first.later;
      copied = (
        so_far.0 ++ stretch ∷ [],
        append_assoc so_far.0 (stretch ∷ []) (between t (place + 1) c.next.new.self)
            ∙ ap (λ u. so_far.0 ++ slice_range u from place ∷ between t (place + 1) c.next.new.self) c.as_bytes-bytes.ensures.value
            ∙ ap (λ ms. so_far.0 ++ between t from ms) (sym c.in-Some.ensures.steps) ∙ so_far.1,
        c.put_text-copied.ensures so_far.0 c.args.buffer.now c.args.ends.now so_far.2,
      );
    }

-- the last stretch is what is left of the text
rest : (t bytes : List ℕ) (from : ℕ) → bytes ≡ t → take (length bytes - from) (drop from bytes) ≡ drop from t
rest t bytes from is = take_all (length bytes - from) (drop from bytes) (omega (arith, length-drop from bytes)) ∙ ap (drop from) is

pub put_text-requires : goal.put_text-requires
put_text-requires c =
    let t = c.args.text.now in
    let p = c.args.byte ∷ [] in
    let from = c.loop-place.start in
    let so_far = c.loop-place.invariant.copied in
    let are = c.bare_texts_are_std.ensures.parts t p c.requires.bare in
    let fits = fits-more t so_far.0 [] (all_parts t p) (drop from t) c.loop-place.copied c.args.buffer.now c.loop-place.buffer c.args.ends.now c.loop-place.ends so_far.2
    (ap (λ ms. so_far.0 ++ between t from ms) (sym c.in-None.ensures.steps.0) ∙ so_far.1)
    (length-bare_parts t p are (c.parts_lie_between_matches.ensures.in_turn t p c.utf8.text c.requires.pattern)) (few-bare_parts t p are (c.parts_lie_between_matches.ensures.few t p)) in
    record {
      count = omega (arith, fits.0);
      len = omega (arith, fits.1, ap length (rest t c.as_bytes-bytes.result.now from c.as_bytes-bytes.ensures.value));
    }

pub returns : goal.returns
returns c =
    let t = c.args.text.now in
    let from = c.loop-place.start in
    let so_far = c.loop-place.invariant.copied in
    subst (λ ts. AreCopied ts c.put_text.result c.args.buffer.now c.put_text.new.buffer c.args.ends.now c.put_text.new.ends)
    (ap (λ u. so_far.0 ++ u ∷ []) (rest t c.as_bytes-bytes.result.now from c.as_bytes-bytes.ensures.value) ∙ ap (λ ms. so_far.0 ++ between t from ms) (sym c.in-None.ensures.steps.0) ∙ so_far.1)
    (c.put_text.ensures so_far.0 c.args.buffer.now c.args.ends.now so_far.2).0
