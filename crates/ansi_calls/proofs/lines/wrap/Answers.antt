use Rattle.std.proofs.Common.{rules, ◌≡◌, ◌∙◌, List, ℕ, Bool, true, false, not, ◌||◌, map, ap, inl, refl, sym, subst}
use Rattle.std.specs.Prelude.{bytes_eq}
use Rattle.std.proofs.lemmas.Slice.Eq.{bytes_eq-Decides}
use Rattle.ansi_str.specs.Plain.{has_escape}
use Rattle.ansi_safe.specs.Cells.{paragraph}
use Rattle.ansi_cells.specs.Wrapped.{CarriedPart}
use Rattle.ansi_text_calls.specs.Lists.{ends_from, GivesAll}
use Rattle.ansi_calls.specs.Columns.{GivesWrapped}
use Rattle.ansi_text_calls.proofs.GivenLemmas.{joined_texts}
use Rattle.ansi_calls.proofs.lines.wrap.Goals as goal

neither : (a b : Bool) → true ≡ not (a || not b) → (a ≡ false) × (b ≡ true)
neither true b is = absurd (cc is)
neither false true is = (refl, refl)
neither false false is = absurd (cc is)

one-of : (a : Bool) → false ≡ not a → a ≡ true
one-of true is = refl
one-of false is = absurd (cc is)

pub write_bare_lines-requires-clause-paragraph : goal.write_bare_lines-requires-clause-paragraph
write_bare_lines-requires-clause-paragraph g c =
    let t = c.in-Ok.text.now in
    (bytes_eq-Decides (paragraph t) t).0 (neither (has_escape t) (bytes_eq (paragraph t) t) (sym c.if-is_bare_paragraph.true ∙ c.is_bare_paragraph.ensures)).1

pub write_bare_lines-requires-clause-bare : goal.write_bare_lines-requires-clause-bare
write_bare_lines-requires-clause-bare g c =
    let t = c.in-Ok.text.now in
    (neither (has_escape t) (bytes_eq (paragraph t) t) (sym c.if-is_bare_paragraph.true ∙ c.is_bare_paragraph.ensures)).0

-- the lines of a paragraph without ESC are written to the buffer directly
pub returns-then-is_bare_paragraph : goal.returns-then-is_bare_paragraph
unfolding GivesWrapped
returns-then-is_bare_paragraph g c = search rules

-- the only line of another text is too

pub returns-in-Some : goal.returns-in-Some
unfolding GivesWrapped
returns-in-Some g c =
    let t = c.in-Ok.text.now in
    let takes = has_escape t || not (bytes_eq (paragraph t) t) in
    let gives = subst (λ (ts : List (List ℕ)). GivesAll takes (joined_texts ts) (ends_from 0 ts) c.in-Some.answer c.args.buffer.now c.write_only.new.buffer c.args.ends.now c.write_only.new.ends)
    (ap (map (λ (l : CarriedPart). l.bytes)) c.wrap-lines.ensures.lines)
    (inl c.in-Some.ensures.some) in
    inl (c.in-Ok.ensures.1, rw c.in-Ok.ensures.0 at gives)

-- and those of any other one, or the call runs out of memory
pub returns-in-None : goal.returns-in-None
unfolding GivesWrapped
returns-in-None g c =
    let t = c.in-Ok.text.now in
    let takes = has_escape t || not (bytes_eq (paragraph t) t) in
    let some : takes ≡ true = one-of takes (sym c.if-is_bare_paragraph.false ∙ c.is_bare_paragraph.ensures) in
    let gives = subst (λ (ts : List (List ℕ)). GivesAll takes (joined_texts ts) (ends_from 0 ts) c.write_texts.result c.args.buffer.now c.write_texts.new.buffer c.args.ends.now c.write_texts.new.ends)
    (ap (map (λ (l : CarriedPart). l.bytes)) c.wrap-lines.ensures.lines)
    (rw some (rw (c.in-None.ensures.none.0, c.in-None.ensures.none.1) at c.write_texts.ensures)) in
    inl (c.in-Ok.ensures.1, rw c.in-Ok.ensures.0 at gives)
