use Rattle.ansi_style.proofs.Common.{◌≡◌, ℕ, List, [], ◌∷◌, refl, sym, ◌∙◌, flat_map, eqb-true}
use Rattle.ansi_style.proofs.WritingLemmas.{wrote_nothing}
use Rattle.ansi_style.proofs.state.written.write_rows.Goals as goal

flat_map-nil : {X : Type 0} (rows : List X) → flat_map {A = ℕ} (λ (row : X). []) rows ≡ []
flat_map-nil [] = refl
flat_map-nil (row ∷ rows) = flat_map-nil rows

pub returns-then-is_empty-clause-wrote : goal.returns-then-is_empty-clause-wrote
returns-then-is_empty-clause-wrote g c = λ ok.
    rw (eqb-true c.args.set.0 0 (sym (c.is_empty.ensures tt) ∙ c.if-is_empty.true), flat_map-nil c.args.rows.now) (wrote_nothing g.W.Sink.took c.args.out.now)
