use Rattle.ansi_search.proofs.Common.{subst, arith, inl, inr, cases_lt, eqb-true, eq-eqb, IsCharBoundary, plain, IsUtf8-plain}
use Rattle.ansi_search.proofs.PositionLemmas.{is_char_boundary-decided, boundary_is_good, good_before}
use Rattle.ansi_search.proofs.search.is_char_boundary.Goals as goal

-- the last boundary up to the index is the index, or that is none
pub returns-clause-boundary : goal.returns-clause-boundary
returns-clause-boundary c =
    let floor = c.floor_char_boundary in (
      λ yes. subst (IsCharBoundary (plain c.args.text.now)) (eqb-true floor.result c.args.index yes) floor.ensures.boundary,
      λ boundary. elim (cases_lt floor.result c.args.index) [
        | inl below ↦ absurd (floor.ensures.nearest c.args.index below (omega arith) boundary)
        | inr past ↦ eq-eqb _ _ (omega (arith, past, floor.ensures.bound))
      ],
    )

pub returns-clause-value : goal.returns-clause-value
returns-clause-value c = is_char_boundary-decided (plain c.args.text.now) c.args.index _ (returns-clause-boundary c)

-- all before a boundary is a good range, and all after it

pub returns-clause-good_before : goal.returns-clause-good_before
returns-clause-good_before c = λ yes. good_before _ c.args.index (IsUtf8-plain c.args.text.now c.utf8.text) ((returns-clause-boundary c).0 yes)

pub returns-clause-good_after : goal.returns-clause-good_after
returns-clause-good_after c = λ yes. boundary_is_good _ c.args.index ((returns-clause-boundary c).0 yes)
