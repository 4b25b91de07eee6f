use Rattle.ansi_items.proofs.Common.{◌≡◌, ℕ, ◌+◌, ◌*◌, ◌≤◌, List, length, drop, refl, sym, ap, subst, arith, IsCharBoundary, IsUtf8, IsScanning, Front, front_at, before_escape}
use Rattle.std.specs.Prelude.{min}
use Rattle.ansi_items.proofs.EscapeLemmas.{scanning_text}
use Rattle.ansi_items.proofs.ScanLemmas.{IsStep, escape_at_place, front_step, step_gives, text_step}
use Rattle.ansi_items.proofs.ansitok.ScannerIterator.next.Goals as goal

pub invariant_of-self : goal.invariant_of-self
invariant_of-self c =
    let t = c.self.inside.text.now in
    let h = c.self.invariant in
    let step = text_step t c.self.inside.offset c.self.inside.escape (subst IsUtf8 c.as_bytes-bytes.ensures.value c.as_bytes-bytes.ensures.utf8) h.boundary h.next c.if-start-self.true in
    scanning_text t _ _ _ (subst (IsCharBoundary t) (omega arith) step.boundary) h

pub returns-then-start-self-clause-steps : goal.returns-then-start-self-clause-steps
returns-then-start-self-clause-steps c =
    let t = c.self.inside.text.now in
    let h = c.self.invariant in
    let step = text_step t c.self.inside.offset c.self.inside.escape (subst IsUtf8 c.as_bytes-bytes.ensures.value c.as_bytes-bytes.ensures.utf8) h.boundary h.next c.if-start-self.true in
    rw (← c.self.view_is) (step_gives t _ c.self.inside.escape _ h.boundary step (omega arith))

pub returns-then-start-self-clause-goes : goal.returns-then-start-self-clause-goes
returns-then-start-self-clause-goes c =
    let t = c.self.inside.text.now in
    let h = c.self.invariant in
    let step = text_step t c.self.inside.offset c.self.inside.escape (subst IsUtf8 c.as_bytes-bytes.ensures.value c.as_bytes-bytes.ensures.utf8) h.boundary h.next c.if-start-self.true in
    let gives = step_gives t _ c.self.inside.escape _ h.boundary step (omega arith) in
    let fewer = ap length gives.piece in
    rw (← c.self.view_is) (record { on = λ _. (tt, tt, omega arith); keeps = tt; rests = λ _. tt })

-- A mark, from an ESC at the offset.

pub mark-escape-requires-clause-escape : goal.mark-escape-requires-clause-escape
mark-escape-requires-clause-escape c =
    let bytes = c.as_bytes-bytes.ensures in
    let scanning = subst (λ v. IsScanning v c.self.inside.offset c.self.inside.escape c.self.inside.reads) (sym bytes.value) c.self.invariant in
    escape_at_place c.as_bytes-bytes.result.now c.self.inside.offset (omega (arith, scanning.boundary.0, c.if-start-bytes.false)) (omega (arith, scanning.next, c.if-start-self.false))

module _ (text bytes : List ℕ) (same : bytes ≡ text) (utf8 : IsUtf8 bytes) (offset place reads : ℕ) (scanning : IsScanning text offset place reads)
    (more : offset ≡ length bytes → ⊥) (f : Front) (front : f ≡ front_at (drop offset bytes)) where
  moved : IsScanning bytes offset place reads
  moved = subst (λ v. IsScanning v offset place reads) (sym same) scanning

  pub step : IsStep text offset f
  step = subst (λ v. IsStep v offset f) same (front_step bytes offset f utf8 moved.boundary (omega (arith, moved.boundary.0, more)) front)

  pub scans_on : (next looks : ℕ) → place ≤ offset → next ≡ offset + f.len + before_escape (drop (offset + f.len) bytes)
      → 0 + min (next + 1) (length bytes) ≤ looks + offset + 1 → looks + 3 * offset + 1 ≤ 0 + 2 * next + min (next + 1) (length bytes)
      → IsScanning text (offset + f.len) next (reads + looks)
  scans_on next looks at is each few = subst (λ v. IsScanning v (offset + f.len) next (reads + looks)) same (record {
    boundary = subst (λ v. IsCharBoundary v (offset + f.len)) (sym same) step.boundary;
    next = is;
    each = omega (arith, moved.each, moved.next, each, moved.boundary.0, more);
    few = omega (arith, moved.few, moved.next, few, moved.boundary.0, more);
  })

pub invariant_of-self-2 : goal.invariant_of-self-2
invariant_of-self-2 c =
    let bytes = c.as_bytes-bytes.ensures in
    let mark = c.mark-escape.ensures in
    scans_on c.self.inside.text.now c.as_bytes-bytes.result.now bytes.value bytes.utf8 c.self.inside.offset c.self.inside.escape c.self.inside.reads c.self.invariant c.if-start-bytes.false
    c.mark-escape.result.0 mark.front c.mark-escape.result.1 c.mark-escape.new.self.count (omega arith) mark.next mark.each mark.few

pub returns-clause-steps : goal.returns-clause-steps
returns-clause-steps c =
    let bytes = c.as_bytes-bytes.ensures in
    let step = step c.self.inside.text.now c.as_bytes-bytes.result.now bytes.value bytes.utf8 c.self.inside.offset c.self.inside.escape c.self.inside.reads c.self.invariant c.if-start-bytes.false
    c.mark-escape.result.0 c.mark-escape.ensures.front in
    rw (← c.self.view_is) (step_gives c.self.inside.text.now c.self.inside.offset (c.self.inside.offset + c.mark-escape.result.0.len) c.mark-escape.result.0 c.self.invariant.boundary step refl)

pub returns-clause-goes : goal.returns-clause-goes
returns-clause-goes c =
    let bytes = c.as_bytes-bytes.ensures in
    let step = step c.self.inside.text.now c.as_bytes-bytes.result.now bytes.value bytes.utf8 c.self.inside.offset c.self.inside.escape c.self.inside.reads c.self.invariant c.if-start-bytes.false
    c.mark-escape.result.0 c.mark-escape.ensures.front in
    let fewer = ap length step.piece in
    rw (← c.self.view_is) (record { on = λ _. (tt, tt, omega arith); keeps = tt; rests = λ _. tt })
