use Rattle.std.proofs.Common.{◌≡◌, ◌<◌, ◌≤◌, ◌⊎◌, inl, inr, length, sym, ◌∙◌, arith}
use Rattle.std.proofs.lemmas.Bool.{cases_lt}
use Rattle.ansi_cells.proofs.BareLemmas.{bare-front, bare-nothing, bare-sliced, whole-printable}
use Rattle.ansi_cells.proofs.slices.bare_stretch.Goals.{then-end-start-via-then-end-start, then-end-start-via-else-end-start+then-len-start}
use Rattle.ansi_cells.proofs.slices.bare_stretch.Goals as goal

-- it has no column

pub returns-then-end-start-clause-stays : goal.returns-then-end-start-clause-stays
returns-then-end-start-clause-stays c = (bare-front c.args.text.now (whole-printable c.args.text.now (sym c.is_printable.ensures ∙ c.if-not-is_printable.false))).stays

pub returns-then-end-start-clause-bytes : goal.returns-then-end-start-clause-bytes
returns-then-end-start-clause-bytes c =
    let t = c.args.text.now in
    let nothing : (c.args.end ≤ c.args.start) ⊎ (length t ≤ c.args.start) = elim c.then-end-start.branch [
      | then-end-start-via-then-end-start w ↦ inl w.if-end-start.true
      | then-end-start-via-else-end-start+then-len-start w ↦ inr w.if-len-start.true
    ] in
    sym (bare-nothing t (whole-printable t (sym c.is_printable.ensures ∙ c.if-not-is_printable.false)) c.args.start c.args.end nothing).0

pub returns-then-end-start-clause-lent : goal.returns-then-end-start-clause-lent
returns-then-end-start-clause-lent c =
    let t = c.args.text.now in
    let nothing : (c.args.end ≤ c.args.start) ⊎ (length t ≤ c.args.start) = elim c.then-end-start.branch [
      | then-end-start-via-then-end-start w ↦ inl w.if-end-start.true
      | then-end-start-via-else-end-start+then-len-start w ↦ inr w.if-len-start.true
    ] in
    (bare-nothing t (whole-printable t (sym c.is_printable.ensures ∙ c.if-not-is_printable.false)) c.args.start c.args.end nothing).1

-- it is a stretch

pub returns-clause-stays : goal.returns-clause-stays
returns-clause-stays c = (bare-front c.args.text.now (whole-printable c.args.text.now (sym c.is_printable.ensures ∙ c.if-not-is_printable.false))).stays

pub returns-clause-bytes : goal.returns-clause-bytes
returns-clause-bytes c =
    let t = c.args.text.now in
    let place : ((c.args.end < length t) × (c.min.result ≡ c.args.end)) ⊎ ((length t ≤ c.args.end) × (c.min.result ≡ length t)) = elim (cases_lt c.args.end (length t)) [
      | inl less ↦ inl (less, omega (arith, less, c.min.ensures))
      | inr past ↦ inr (past, omega (arith, past, c.min.ensures))
    ] in
    c.range.ensures.value ∙ sym (bare-sliced t (whole-printable t (sym c.is_printable.ensures ∙ c.if-not-is_printable.false)) c.args.start c.args.end c.min.result (omega (arith, c.if-end-start.false)) (omega (arith, c.if-len-start.false)) place).0

pub returns-clause-lent : goal.returns-clause-lent
returns-clause-lent c =
    let t = c.args.text.now in
    let place : ((c.args.end < length t) × (c.min.result ≡ c.args.end)) ⊎ ((length t ≤ c.args.end) × (c.min.result ≡ length t)) = elim (cases_lt c.args.end (length t)) [
      | inl less ↦ inl (less, omega (arith, less, c.min.ensures))
      | inr past ↦ inr (past, omega (arith, past, c.min.ensures))
    ] in
    (bare-sliced t (whole-printable t (sym c.is_printable.ensures ∙ c.if-not-is_printable.false)) c.args.start c.args.end c.min.result (omega (arith, c.if-end-start.false)) (omega (arith, c.if-len-start.false)) place).1

pub returns-clause-len : goal.returns-clause-len
returns-clause-len c = omega (arith, c.range.ensures.len, c.min.ensures)
