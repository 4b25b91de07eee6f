use Rattle.std.proofs.Common.{◌≡◌, ◌∙◌, ℕ, List, Result, ◌++◌, length, map, IsOk, Some, [], ◌∷◌, refl, sym, ap, subst, arith, length-append}
use Rattle.std.specs.declared.borrow.CowStr.{CowStr}
use Rattle.std.proofs.lemmas.List.{length_push, length-map, map-append}
use Rattle.std.proofs.lemmas.List.Elements.{All-pop}
use Rattle.std.proofs.iter.Next.{Yields-more}
use Rattle.ansi_text_calls.specs.Lists.{given_bytes, AreCopiedSoFar}
use Rattle.ansi_text_calls.proofs.GivenLemmas.{joined_texts, joined-more}
use Rattle.ansi_text_calls.proofs.lists.copy_texts.Goals as goal

-- a text is given, and all so far have room in memory
pub unwrap-requires : goal.unwrap-requires
unwrap-requires g c =
    let xs = c.loop-text.yielded in
    let x = c.in-Some.text in
    let ran = rw c.into_iter-text-iterator.ensures.into_iter_gives at (Yields-more g.I.Iterator.next_gives _ xs _ x _ c.loop-text.yielded_by c.in-Some.ensures.steps) in
    (All-pop IsOk (xs ++ x ∷ []) xs (Some x) refl (c.requires.fits (xs ++ x ∷ []) _ ran).0).1

pub put_text-copied-requires : goal.put_text-copied-requires
put_text-copied-requires g c =
    let xs = c.loop-text.yielded in
    let x = c.in-Some.text in
    let ran = rw c.into_iter-text-iterator.ensures.into_iter_gives at (Yields-more g.I.Iterator.next_gives _ xs _ x _ c.loop-text.yielded_by c.in-Some.ensures.steps) in
    let text = c.as_bytes.ensures.value ∙ c.deref.ensures.value ∙ sym (ap given_bytes c.unwrap.ensures) in
    let so_far = c.loop-text.invariant.copied.0 in
    let fits = c.requires.fits (xs ++ x ∷ []) _ ran in
    record {
      count = omega (arith, fits.2, length_push xs x, so_far.0, length-map xs given_bytes);
      len = omega (arith, fits.1, ap length (joined-more given_bytes xs x), length-append (joined_texts (map given_bytes xs)) (given_bytes x), ap length text, so_far.1);
    }

-- one text more is written, with its end
copied-more : {A E : Type 0} (xs : List (Result (CowStr A) E)) (x : Result (CowStr A) E) (text : List ℕ) (copied : ℕ × ℕ) (b b_now e e_now : List ℕ)
    → text ≡ given_bytes x → AreCopiedSoFar (map given_bytes xs ++ text ∷ []) copied b b_now e e_now → AreCopiedSoFar (map given_bytes (xs ++ x ∷ [])) copied b b_now e e_now
copied-more xs x text copied b b_now e e_now is so_far =
    subst (λ ts. AreCopiedSoFar ts copied b b_now e e_now) (ap (λ u. map given_bytes xs ++ u ∷ []) is ∙ sym (map-append given_bytes xs (x ∷ []))) so_far

pub loop-text-preserved : goal.loop-text-preserved
loop-text-preserved g c = record {
  can = (c.in-Some.ensures.goes.on c.loop-text.invariant.finite).0;
  finite = (c.in-Some.ensures.goes.on c.loop-text.invariant.finite).1;
  copied = copied-more c.loop-text.yielded c.in-Some.text c.as_bytes.result.now c.put_text-copied.result c.args.buffer.now c.put_text-copied.new.buffer c.args.ends.now c.put_text-copied.new.ends
      (c.as_bytes.ensures.value ∙ c.deref.ensures.value ∙ sym (ap given_bytes c.unwrap.ensures))
      (c.put_text-copied.ensures (map given_bytes c.loop-text.yielded) c.args.buffer.now c.args.ends.now c.loop-text.invariant.copied);
}

-- the same where it was owned
pub loop-text-preserved-in-Some : goal.loop-text-preserved-in-Some
loop-text-preserved-in-Some g c = record {
  can = (c.in-Some.ensures.goes.on c.loop-text.invariant.finite).0;
  finite = (c.in-Some.ensures.goes.on c.loop-text.invariant.finite).1;
  copied = copied-more c.loop-text.yielded c.in-Some.text c.as_bytes.result.now c.put_text-copied.result c.args.buffer.now c.put_text-copied.new.buffer c.args.ends.now c.put_text-copied.new.ends
      (c.as_bytes.ensures.value ∙ c.deref.ensures.value ∙ sym (ap given_bytes c.unwrap.ensures))
      (c.put_text-copied.ensures (map given_bytes c.loop-text.yielded) c.args.buffer.now c.args.ends.now c.loop-text.invariant.copied);
}
