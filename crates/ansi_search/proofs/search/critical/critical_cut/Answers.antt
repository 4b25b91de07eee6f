use Rattle.ansi_search.proofs.Common.{true, false, arith, IsCutPlace-of, Precedes}
use Rattle.ansi_search.proofs.TwoWayLemmas.{Precedes-trans, Precedes-irrefl, Precedes-opposed}
use Rattle.ansi_search.proofs.search.critical.critical_cut.Goals as goal

pub cut_at-requires : goal.cut_at-requires
cut_at-requires c =
    let rising = c.greatest_suffix-rising.ensures in
    let falling = c.greatest_suffix-falling.ensures in
    IsCutPlace-of (Precedes false) (Precedes true) (Precedes-trans false) (Precedes-irrefl false) (Precedes-irrefl true)
    (λ a b before after. Precedes-opposed a b after before) _ _ _ _ (omega (arith, falling.some, falling.fits)) falling.greatest rising.greatest (omega (arith, c.if-rising-falling.true)) _ falling

pub cut_at-requires-else-rising-falling : goal.cut_at-requires-else-rising-falling
cut_at-requires-else-rising-falling c =
    let rising = c.greatest_suffix-rising.ensures in
    let falling = c.greatest_suffix-falling.ensures in
    IsCutPlace-of (Precedes true) (Precedes false) (Precedes-trans true) (Precedes-irrefl true) (Precedes-irrefl false)
    Precedes-opposed _ _ _ _ (omega (arith, rising.some, rising.fits)) rising.greatest falling.greatest (omega (arith, c.if-rising-falling.false)) _ rising
