use Rattle.std.proofs.Common.{◌≡◌, ◌+◌, ◌^◌, ◌<◌, ◌≤◌, ◌⊎◌, inl, inr, length, refl, sym, ◌∙◌, arith, rules}
use Rattle.std.specs.Str.{IsUtf8}
use Rattle.std.proofs.lemmas.Bool.{eqb-false}
use Rattle.std.proofs.lemmas.Bool.Decides.{nat_tests}
use Rattle.ansi_items.proofs.PlainLemmas.{length-plain}
use Rattle.ansi_clusters.specs.Walks.{IsTightWalk}
use Rattle.ansi_clusters.proofs.LineReadLemmas.{read-printable, read-is_last, read-is_ended, read-blank, read-takes, read-is_broken, read-is_left, read-is_begun, read-letters, letters-further}
use Rattle.ansi_clusters.proofs.PrintableLemmas.{past-some}
use Rattle.ansi_clusters.proofs.lines.line_or_word.Goals.{then-is_gap, else-is_gap+then-columns-more, then-here-start, else-here-start}
use Rattle.ansi_clusters.proofs.lines.line_or_word.Goals as goal

pub overflow_add-columns : goal.overflow_add-columns
overflow_add-columns c =
    let t = c.args.text.now in
    let size : length t < 2 ^ 63 = search rules in
    omega (arith, size, length-plain t, c.clusters.invariant.bound, (c.past_ascii-len.ensures.past.walk c.args.view c.clusters.invariant.here_is.walk).within, c.past_ascii-len.ensures.past.position)

pub overflow_add-columns-else-here-start : goal.overflow_add-columns-else-here-start
overflow_add-columns-else-here-start c =
    let t = c.args.text.now in
    let size : length t < 2 ^ 63 = search rules in
    let utf8 : IsUtf8 c.args.text.now = search rules in
    let inv = read-printable utf8 c.clusters.invariant c.past_ascii-len.ensures.past (omega (arith, c.past_ascii-len.ensures.most)) (c.words_after.ensures.walks c.args.view c.clusters.invariant.here_is c.clusters.invariant.words_are) c.words_after.ensures.positions in
    let got = c.in-Some.ensures in
    omega (arith, size, length-plain t, inv.bound, got.0.within, got.1, got.4)

pub overflow_add-columns-in-clusters : goal.overflow_add-columns-in-clusters
overflow_add-columns-in-clusters c =
    let t = c.args.text.now in
    let size : length t < 2 ^ 63 = search rules in
    let utf8 : IsUtf8 c.args.text.now = search rules in
    let inv = read-printable utf8 c.clusters.invariant c.past_ascii-len.ensures.past (omega (arith, c.past_ascii-len.ensures.most)) (c.words_after.ensures.walks c.args.view c.clusters.invariant.here_is c.clusters.invariant.words_are) c.words_after.ensures.positions in
    let got = c.in-Some.ensures in
    omega (arith, size, length-plain t, inv.bound, got.0.within, got.1, got.4)

pub clusters-preserved : goal.clusters-preserved
clusters-preserved c =
    let utf8 : IsUtf8 c.args.text.now = search rules in
    let inv = read-printable utf8 c.clusters.invariant c.past_ascii-len.ensures.past (omega (arith, c.past_ascii-len.ensures.most)) (c.words_after.ensures.walks c.args.view c.clusters.invariant.here_is c.clusters.invariant.words_are) c.words_after.ensures.positions in
    elim c.if-is_gap.branch [
      | then-is_gap w ↦ rw (w.word-is, w.end_before-is, w.end-is) (read-blank utf8 inv c.in-Some.next c.in-Some.more c.in-Some.ensures (sym c.ends_or_parts-ends_line.ensures.line_end ∙ c.if-ends_line.false) (sym c.ends_or_parts-ends_line.ensures.blank ∙ w.if-is_gap.true))
      | else-is_gap+then-columns-more w ↦ (
          let fits : (c.past_ascii-len.result.0.position ≡ c.args.start.position) ⊎ (c.clusters.columns + c.past_ascii-len.result.1 + c.in-Some.more ≤ c.args.width) = elim w.if-here-start.branch [
            | then-here-start v ↦ inl v.if-here-start.true
            | else-here-start v ↦ inr (grind (arith, nat_tests, v.value-is, w.if-columns-more.true))
          ] in
          rw (w.word-is, w.end_before-is, w.end-is) (read-takes utf8 inv c.in-Some.next c.in-Some.more c.in-Some.ensures (record { inside = sym c.ends_or_parts-ends_line.ensures.line_end ∙ c.if-ends_line.false; solid = sym c.ends_or_parts-ends_line.ensures.blank ∙ w.if-is_gap.false }) fits))
    ]

pub next_cluster_before-requires-clause-walk : goal.next_cluster_before-requires-clause-walk
next_cluster_before-requires-clause-walk c =
    let utf8 : IsUtf8 c.args.text.now = search rules in
    let inv = read-printable utf8 c.clusters.invariant c.past_ascii-len.ensures.past (omega (arith, c.past_ascii-len.ensures.most)) (c.words_after.ensures.walks c.args.view c.clusters.invariant.here_is c.clusters.invariant.words_are) c.words_after.ensures.positions in
    inv.here_is.walk

pub ends_or_parts-ends_line-requires-clause-here : goal.ends_or_parts-ends_line-requires-clause-here
ends_or_parts-ends_line-requires-clause-here c =
    let utf8 : IsUtf8 c.args.text.now = search rules in
    let inv = read-printable utf8 c.clusters.invariant c.past_ascii-len.ensures.past (omega (arith, c.past_ascii-len.ensures.most)) (c.words_after.ensures.walks c.args.view c.clusters.invariant.here_is c.clusters.invariant.words_are) c.words_after.ensures.positions in
    inv.here_is.walk

pub ends_or_parts-ends_line-requires-clause-next : goal.ends_or_parts-ends_line-requires-clause-next
ends_or_parts-ends_line-requires-clause-next c =
    let got = c.in-Some.ensures in
    record { walk = got.0; tight = got.5 }

pub past_ascii-len-requires : goal.past_ascii-len-requires
past_ascii-len-requires c =
    (c.args.view, c.clusters.invariant.here_is.walk)

pub words_after-requires-clause-here : goal.words_after-requires-clause-here
words_after-requires-clause-here c =
    (c.args.view, c.clusters.invariant.here_is.walk)

pub next_cluster_before-requires-clause-next : goal.next_cluster_before-requires-clause-next
next_cluster_before-requires-clause-next c =
    c.past_ascii-len.ensures.next c.args.view c.clusters.invariant.here_is.walk

-- after printable ASCII, at another run

pub clusters-smaller-then-is_at_next_run : goal.clusters-smaller-then-is_at_next_run
clusters-smaller-then-is_at_next_run c =
    let step = c.past_ascii-len.ensures in
    let later = step.past.walk c.args.view c.clusters.invariant.here_is.walk in
    let some : 0 < c.past_ascii-len.result.1 = past-some step.none c.if-is_at_next_run.true in
    omega (arith, later.within, step.past.position, some)

pub clusters-preserved-then-is_at_next_run : goal.clusters-preserved-then-is_at_next_run
clusters-preserved-then-is_at_next_run c =
    let utf8 : IsUtf8 c.args.text.now = search rules in
    let inv = read-printable utf8 c.clusters.invariant c.past_ascii-len.ensures.past (omega (arith, c.past_ascii-len.ensures.most)) (c.words_after.ensures.walks c.args.view c.clusters.invariant.here_is c.clusters.invariant.words_are) c.words_after.ensures.positions in
    inv

-- after letters of a word

pub past_word-more-requires : goal.past_word-more-requires
past_word-more-requires c =
    let utf8 : IsUtf8 c.args.text.now = search rules in
    let inv = read-printable utf8 c.clusters.invariant c.past_ascii-len.ensures.past (omega (arith, c.past_ascii-len.ensures.most)) (c.words_after.ensures.walks c.args.view c.clusters.invariant.here_is c.clusters.invariant.words_are) c.words_after.ensures.positions in
    (c.args.view, inv.here_is.walk)

pub clusters-smaller-then-more-gt0 : goal.clusters-smaller-then-more-gt0
clusters-smaller-then-more-gt0 c =
    let utf8 : IsUtf8 c.args.text.now = search rules in
    let inv = read-printable utf8 c.clusters.invariant c.past_ascii-len.ensures.past (omega (arith, c.past_ascii-len.ensures.most)) (c.words_after.ensures.walks c.args.view c.clusters.invariant.here_is c.clusters.invariant.words_are) c.words_after.ensures.positions in
    let letters = c.past_word-more.ensures.past c.args.view inv.here_is.walk in
    let further = letters-further c.args.view c.args.text.now c.past_ascii-len.result.0 letters.0 c.past_word-more.result.0 c.past_word-more.result.1 letters.1 c.if-more-gt0.true in
    omega (arith, further.0, further.1, c.past_ascii-len.ensures.past.position)

pub clusters-preserved-then-more-gt0 : goal.clusters-preserved-then-more-gt0
clusters-preserved-then-more-gt0 c =
    let utf8 : IsUtf8 c.args.text.now = search rules in
    let inv = read-printable utf8 c.clusters.invariant c.past_ascii-len.ensures.past (omega (arith, c.past_ascii-len.ensures.most)) (c.words_after.ensures.walks c.args.view c.clusters.invariant.here_is c.clusters.invariant.words_are) c.words_after.ensures.positions in
    read-letters utf8 inv c.past_word-more.result.0 c.past_word-more.result.1 (c.past_word-more.ensures.past c.args.view inv.here_is.walk) (omega (arith, c.past_word-more.ensures.most)) c.if-more-gt0.true

-- nothing is read

pub clusters-init : goal.clusters-init
clusters-init c =
    let start : IsTightWalk c.args.view c.args.text.now c.args.start = search rules in
    record {
      start_is = start;
      words_are = (start, start, start);
      here_is = start;
      ordered = (omega arith, omega arith, omega arith, omega arith);
      bound = omega arith;
      line = inl (record { begins = refl; ends = refl; lines = refl });
    }

-- the line ends

pub returns-in_default : goal.returns-in_default
returns-in_default c =
    let utf8 : IsUtf8 c.args.text.now = search rules in
    let inv = read-printable utf8 c.clusters.invariant c.past_ascii-len.ensures.past (omega (arith, c.past_ascii-len.ensures.most)) (c.words_after.ensures.walks c.args.view c.clusters.invariant.here_is c.clusters.invariant.words_are) c.words_after.ensures.positions in
    record {
      end_is = inv.words_are.2.walk;
      next_is = tt;
      ordered = inv.ordered.2;
      next_ordered = tt;
      lines = read-is_last utf8 inv (rw c.in_default.is at c.next_cluster_before.ensures);
    }

pub returns-then-ends_line : goal.returns-then-ends_line
returns-then-ends_line c =
    let utf8 : IsUtf8 c.args.text.now = search rules in
    let inv = read-printable utf8 c.clusters.invariant c.past_ascii-len.ensures.past (omega (arith, c.past_ascii-len.ensures.most)) (c.words_after.ensures.walks c.args.view c.clusters.invariant.here_is c.clusters.invariant.words_are) c.words_after.ensures.positions in
    let got = c.in-Some.ensures in
    record {
      end_is = inv.words_are.2.walk;
      next_is = record { walk = got.0; tight = got.5 };
      ordered = inv.ordered.2;
      next_ordered = omega (arith, inv.ordered.3, got.1);
      lines = read-is_ended utf8 inv c.in-Some.next c.in-Some.more got (sym c.ends_or_parts-ends_line.ensures.line_end ∙ c.if-ends_line.true);
    }

pub returns-then-word-start : goal.returns-then-word-start
returns-then-word-start c =
    let utf8 : IsUtf8 c.args.text.now = search rules in
    let inv = read-printable utf8 c.clusters.invariant c.past_ascii-len.ensures.past (omega (arith, c.past_ascii-len.ensures.most)) (c.words_after.ensures.walks c.args.view c.clusters.invariant.here_is c.clusters.invariant.words_are) c.words_after.ensures.positions in
    let room : c.args.width < c.clusters.columns + c.past_ascii-len.result.1 + c.in-Some.more = elim c.if-here-start.branch [
      | then-here-start w ↦ absurd (eqb-false _ _ (sym w.value-is ∙ c.if-columns-more.false) w.if-here-start.true)
      | else-here-start w ↦ grind (arith, nat_tests, w.value-is, c.if-columns-more.false)
    ] in
    let further : c.args.start.position < c.past_ascii-len.result.0.position = elim c.if-here-start.branch [
      | then-here-start w ↦ absurd (eqb-false _ _ (sym w.value-is ∙ c.if-columns-more.false) w.if-here-start.true)
      | else-here-start w ↦ omega (arith, w.if-here-start.false, inv.ordered.2, inv.ordered.3)
    ] in
    record {
      end_is = inv.words_are.2.walk;
      next_is = inv.here_is;
      ordered = inv.ordered.2;
      next_ordered = inv.ordered.3;
      lines = read-is_broken utf8 inv c.in-Some.next c.in-Some.more c.in-Some.ensures (record { inside = sym c.ends_or_parts-ends_line.ensures.line_end ∙ c.if-ends_line.false; solid = sym c.ends_or_parts-ends_line.ensures.blank ∙ c.if-is_gap.false }) room c.if-word-start.true further;
    }

pub returns-else-end_before-start : goal.returns-else-end_before-start
returns-else-end_before-start c =
    let utf8 : IsUtf8 c.args.text.now = search rules in
    let inv = read-printable utf8 c.clusters.invariant c.past_ascii-len.ensures.past (omega (arith, c.past_ascii-len.ensures.most)) (c.words_after.ensures.walks c.args.view c.clusters.invariant.here_is c.clusters.invariant.words_are) c.words_after.ensures.positions in
    let room : c.args.width < c.clusters.columns + c.past_ascii-len.result.1 + c.in-Some.more = elim c.if-here-start.branch [
      | then-here-start w ↦ absurd (eqb-false _ _ (sym w.value-is ∙ c.if-columns-more.false) w.if-here-start.true)
      | else-here-start w ↦ grind (arith, nat_tests, w.value-is, c.if-columns-more.false)
    ] in
    record {
      end_is = inv.words_are.0.walk;
      next_is = inv.words_are.1;
      ordered = inv.ordered.0;
      next_ordered = inv.ordered.1;
      lines = read-is_left utf8 inv c.in-Some.next c.in-Some.more c.in-Some.ensures (record { inside = sym c.ends_or_parts-ends_line.ensures.line_end ∙ c.if-ends_line.false; solid = sym c.ends_or_parts-ends_line.ensures.blank ∙ c.if-is_gap.false }) room c.if-word-start.false (omega (arith, inv.ordered.0, c.if-end_before-start.false));
    }

-- an indent is left out

pub returns-then-end_before-start : goal.returns-then-end_before-start
returns-then-end_before-start c =
    let utf8 : IsUtf8 c.args.text.now = search rules in
    let inv = read-printable utf8 c.clusters.invariant c.past_ascii-len.ensures.past (omega (arith, c.past_ascii-len.ensures.most)) (c.words_after.ensures.walks c.args.view c.clusters.invariant.here_is c.clusters.invariant.words_are) c.words_after.ensures.positions in
    let room : c.args.width < c.clusters.columns + c.past_ascii-len.result.1 + c.in-Some.more = elim c.if-here-start.branch [
      | then-here-start w ↦ absurd (eqb-false _ _ (sym w.value-is ∙ c.if-columns-more.false) w.if-here-start.true)
      | else-here-start w ↦ grind (arith, nat_tests, w.value-is, c.if-columns-more.false)
    ] in
    let begun = read-is_begun utf8 inv c.in-Some.next c.in-Some.more c.in-Some.ensures (record { inside = sym c.ends_or_parts-ends_line.ensures.line_end ∙ c.if-ends_line.false; solid = sym c.ends_or_parts-ends_line.ensures.blank ∙ c.if-is_gap.false }) room c.if-word-start.false c.if-end_before-start.true in
    record { word_is = inv.words_are.1; further = begun.0; lines = begun.1 }
