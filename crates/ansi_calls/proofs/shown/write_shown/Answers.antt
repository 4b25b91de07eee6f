use Rattle.std.proofs.Common.{◌≡◌, ◌==◌, ℕ, true, List, [], ◌++◌, length, inl, sym, ◌∙◌, ap, ap₂, subst, append-nil}
use Rattle.std.proofs.lemmas.Bool.{eqb-true}
use Rattle.std.proofs.lemmas.List.{nil_from_length}
use Rattle.ansi_style.specs.States.{rendition_of}
use Rattle.ansi_style.specs.Written.{close}
use Rattle.ansi_cells.specs.declared.shown.Alignment.{Alignment}
use Rattle.ansi_cells.specs.Shown.{between_blanks}
use Rattle.ansi_cells.proofs.ShownLemmas.{between-none}
use Rattle.ansi_text_calls.specs.Answers.{IsWritten}
use Rattle.ansi_calls.proofs.shown.write_shown.Goals as goal

-- nothing is written before and after the text
alone : (n : ℕ) (alignment : Alignment) (text closes tail : List ℕ) → n ≡ 0 → (length tail == 0) ≡ true → (length closes == 0) ≡ true → text ≡ between_blanks n alignment ((text ++ closes) ++ tail)
alone n alignment text closes tail none no_tail no_close = sym (
    ap (λ m. between_blanks m alignment ((text ++ closes) ++ tail)) none ∙ between-none alignment ((text ++ closes) ++ tail)
    ∙ ap₂ (λ u v. (text ++ u) ++ v) (nil_from_length closes (eqb-true (length closes) 0 no_close)) (nil_from_length tail (eqb-true (length tail) 0 no_tail))
    ∙ append-nil (text ++ []) ∙ append-nil text)

pub returns-then-is_empty-2 : goal.returns-then-is_empty-2
returns-then-is_empty-2 g c =
    let s = c.in-Ok.shown in
    let same = alone s.missing s.alignment _ (s.ending.link_end.now ++ close (rendition_of s.ending.style)) s.tail.now c.if-shown-eq0.true (sym c.is_empty.ensures ∙ c.if-is_empty.true) (sym c.is_empty-then-is_empty.ensures ∙ c.if-is_empty-2.true) in
    rw c.in-Ok.is (inl (subst (λ u. IsWritten u c.write.result c.args.buffer.now c.write.new.buffer) (c.as_bytes.ensures.value ∙ c.deref.ensures.value ∙ same) c.write.ensures))
