use Rattle.ansi_search.proofs.Common.{◌≡◌, ◌+◌, ◌-◌, drop, take, length, nat_eq, starts_with, false, sym, ◌∙◌, ap, ap₂, arith, length-drop, take_all, Nowhere-more, Nowhere-then}
use Rattle.ansi_search.proofs.MatchLemmas.{starts_with-occurs}
use Rattle.ansi_search.proofs.WindowLemmas.{apart-both, nowhere-without}
use Rattle.ansi_search.proofs.search.matches.find_from_first.Goals as goal

-- the pattern occurs there, and not before
pub returns-then-starts_with : goal.returns-then-starts_with
returns-then-starts_with c =
    let w = c.args.run.now in
    let p = c.args.pat.now in
    let at = c.places.at in
    let rest = take_all (length w - at) (drop at w) (omega (arith, length-drop at w)) in
    let place = at + c.in-Some.distance in
    let here = take_all (length w - place) (drop place w) (omega (arith, length-drop place w)) in
    let occurs = starts_with-occurs w p place c.requires.some (ap (λ v. starts_with nat_eq v p) (sym here) ∙ sym c.starts_with.ensures.value ∙ c.if-starts_with.true) in (
      record {
        low = omega arith;
        high = omega (arith, occurs.fits);
        before = Nowhere-then c.places.invariant.passed (nowhere-without w p _ _ at _ c.requires.some c.requires.first rest c.in-Some.ensures.0.before);
      },
      occurs,
    )

-- it doesn't occur there
pub places-preserved : goal.places-preserved
places-preserved c =
    let w = c.args.run.now in
    let p = c.args.pat.now in
    let at = c.places.at in
    let place = at + c.in-Some.distance in
    let rest = take_all (length w - at) (drop at w) (omega (arith, length-drop at w)) in
    let here = take_all (length w - place) (drop place w) (omega (arith, length-drop place w)) in
    let other : starts_with nat_eq (drop place w) (take (length p) p) ≡ false
    = ap₂ (starts_with nat_eq) (sym here) (take_all (length p) p (omega arith)) ∙ sym c.starts_with.ensures.value ∙ c.if-starts_with.false in
    record {
      within = omega (arith, c.in-Some.ensures.0.high, ap length rest, length-drop at w, c.places.invariant.within);
      passed = Nowhere-more (Nowhere-then c.places.invariant.passed (nowhere-without w p _ _ at _ c.requires.some c.requires.first rest c.in-Some.ensures.0.before)) (apart-both w p place (length p) (omega arith) other);
    }

-- its first byte doesn't occur any more
pub returns : goal.returns
returns c =
    let w = c.args.run.now in
    let at = c.places.at in
    let rest = take_all (length w - at) (drop at w) (omega (arith, length-drop at w)) in
    let none = Nowhere-then c.places.invariant.passed (nowhere-without w c.args.pat.now _ _ at _ c.requires.some c.requires.first rest c.in_default.ensures) in
    λ k low high occurs. none k low (omega (arith, occurs.fits, c.requires.some, ap length rest, length-drop at w, c.places.invariant.within)) occurs
