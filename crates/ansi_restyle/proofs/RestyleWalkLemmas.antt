-- How far a text that is changed has been written, and what a step is to it.
use Rattle.std.proofs.Common.{◌≡◌, ℕ, true, List, ◌∷◌, ◌++◌, refl, sym, ◌∙◌, ap, subst, append_assoc}
use Rattle.ansi_items.specs.Pieces.{Piece, Text, spelling}
use Rattle.ansi_items.specs.declared.ansitok.Kind.{Kind}
use Rattle.ansi_items.proofs.StepLemmas.{is_mark, BeginsWithMark}
use Rattle.ansi_style.specs.declared.state.rendition.Rendition.{Rendition}
use Rattle.ansi_style.specs.Sgr.{apply}
use Rattle.ansi_style.specs.Written.{start, close}
use Rattle.ansi_restyle.specs.Restyled.{changed_run, changed_pieces}

-- What is written, and what is made of the pieces that are left, are all.
pub record IsChangedSoFar (whole done w : List ℕ) (style : Rendition) (left : List Piece) : Type 0 where
  pub so_far : done ++ changed_pieces w style left ≡ whole

-- over a run
pub changed-text : {whole done new w v : List ℕ} {style : Rendition} {left ps : List Piece} → IsChangedSoFar whole done w style left → left ≡ Text v ∷ ps → new ≡ done ++ changed_run w style v
    → IsChangedSoFar whole new w style ps
changed-text {whole} {done} {new} {w} {v} {style} {left} {ps} before first more =
    let at = subst (IsChangedSoFar whole done w style) first before in
    record { so_far = ap (λ u. u ++ changed_pieces w style ps) more ∙ append_assoc done (changed_run w style v) (changed_pieces w style ps) ∙ at.so_far }

changed_pieces-mark : (p : Piece) (w : List ℕ) (s : Rendition) (ps : List Piece) → is_mark p ≡ true → changed_pieces w s (p ∷ ps) ≡ spelling p ++ changed_pieces w (apply s (spelling p)) ps
changed_pieces-mark (Text v) w s ps is = absurd (cc is)
changed_pieces-mark p w s ps is = refl

-- over a mark
pub changed-mark : {whole done new w v : List ℕ} {style next : Rendition} {kind : Kind} {left ps : List Piece} → IsChangedSoFar whole done w style left → BeginsWithMark kind v left ps → new ≡ done ++ v → next ≡ apply style v
    → IsChangedSoFar whole new w next ps
changed-mark {whole} {done} {new} {w} {v} {style} {next} {kind} {left} {ps} before begins more applied =
    let at = subst (IsChangedSoFar whole done w style) begins.pieces before in
    let step : spelling begins.mark ++ changed_pieces w (apply style (spelling begins.mark)) ps ≡ v ++ changed_pieces w next ps
    = ap (λ u. u ++ changed_pieces w (apply style u) ps) begins.bytes ∙ ap (λ r. v ++ changed_pieces w r ps) (sym applied) in
    record {
      so_far =
          ap (λ u. u ++ changed_pieces w next ps) more ∙ append_assoc done v (changed_pieces w next ps)
          ∙ ap (λ u. done ++ u) (sym step ∙ sym (changed_pieces-mark begins.mark w style ps begins.is_mark)) ∙ at.so_far;
    }

-- A run that is written in five steps.

regroup : (a b c d e : List ℕ) → (((a ++ b) ++ c) ++ d) ++ e ≡ a ++ (((b ++ c) ++ d) ++ e)
regroup a b c d e = ap (λ u. u ++ e) (ap (λ u. u ++ d) (append_assoc a b c) ∙ append_assoc a (b ++ c) d) ∙ append_assoc a ((b ++ c) ++ d) e

pub run-written : (old one two three new w v : List ℕ) (s c : Rendition) → one ≡ old ++ w → two ≡ one ++ v → three ≡ two ++ close c → new ≡ three ++ start s → c ≡ apply s w → new ≡ old ++ changed_run w s v
run-written old one two three new w v s c first second third last is =
    last ∙ ap (λ u. u ++ start s) (third ∙ ap (λ u. u ++ close c) (second ∙ ap (λ u. u ++ v) first))
    ∙ regroup old w v (close c) (start s) ∙ ap (λ r. old ++ (((w ++ v) ++ close r) ++ start s)) is
