use Rattle.std.proofs.Common.{rules, ◌≡◌, ◌∙◌, ◌∷◌, [], List, ℕ, length, slice_index, refl, sym, ap, subst, arith, IsUtf8}
use Rattle.std.specs.declared.alloc.AllocError.{AllocError}
use Rattle.ansi_str.specs.Written.{longest_start_and_close}
use Rattle.ansi_str.specs.Parts.{all_parts}
use Rattle.ansi_text_calls.specs.Lists.{AreCopied}
use Rattle.ansi_text_calls.proofs.GivenLemmas.{joined_texts, given-fits, lent-drained}
use Rattle.ansi_text_calls.proofs.ListLemmas.{length-bare_parts}
use Rattle.ansi_text_calls.proofs.lists.copy_bare_parts.Goals as goal

-- a pattern of one byte
one : (p : List ℕ) → length p ≡ 1 → p ≡ slice_index p 0 ∷ []
one [] is = absurd (omega (arith, is))
one (b ∷ []) is = refl
one (a ∷ b ∷ p) is = absurd (omega (arith, is))

pub copy_around_byte-requires-clause-pattern : goal.copy_around_byte-requires-clause-pattern
copy_around_byte-requires-clause-pattern g c =
    let bytes = c.as_bytes.result.now in
    subst IsUtf8 (sym c.as_bytes.ensures.value ∙ one bytes (omega (arith, c.in-len1.len_at_least, c.in-len1.len_below))) c.utf8.pat

pub returns-in-len1 : goal.returns-in-len1
returns-in-len1 g c =
    let bytes = c.as_bytes.result.now in
    subst (λ p. AreCopied (all_parts c.args.text.now p) c.copy_around_byte.result c.args.buffer.now c.copy_around_byte.new.buffer c.args.ends.now c.copy_around_byte.new.ends)
    (sym (one bytes (omega (arith, c.in-len1.len_at_least, c.in-len1.len_below))) ∙ c.as_bytes.ensures.value) c.copy_around_byte.ensures

-- the parts are borrows, and have no more bytes than the text
pub copy_texts-requires : goal.copy_texts-requires
copy_texts-requires g c =
    let t = c.args.text.now in
    let p = c.args.pat.now in
    let short = length-bare_parts t p (c.bare_texts_are_std.ensures.parts t p c.requires) (c.parts_lie_between_matches.ensures.in_turn t p c.utf8.text c.utf8.pat) in
    let size = ap (λ ts. length (joined_texts ts)) c.split_in.ensures.bytes in
    let fits = given-fits {A = g.row.A.Denot} {E = AllocError} longest_start_and_close c.split_in.result (c.split_in.ensures.takes_no_memory c.requires) (omega (arith, size, short)) c.split_in.ensures.fits in
    search (rules, fits)

-- all of them are given
pub returns : goal.returns
returns g c =
    let given = c.copy_texts.ensures in
    let all = lent-drained longest_start_and_close c.split_in.result given.0 (c.split_in.ensures.takes_no_memory c.requires) given.1 in
    subst (λ ts. AreCopied ts c.copy_texts.result c.args.buffer.now c.copy_texts.new.buffer c.args.ends.now c.copy_texts.new.ends) (all ∙ c.split_in.ensures.bytes) given.2
