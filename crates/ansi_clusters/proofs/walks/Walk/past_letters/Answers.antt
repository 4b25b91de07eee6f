use Rattle.std.proofs.Common.{◌≢◌, ◌+◌, ◌++◌, ◌^◌, ◌<◌, length, encode_utf8, slice_range, sym, ◌∙◌, ap, arith, rules}
use Rattle.std.proofs.lemmas.Bool.{false≢true}
use Rattle.ansi_items.proofs.PlainLemmas.{length-plain}
use Rattle.ansi_clusters.specs.Walks.{IsNext}
use Rattle.ansi_clusters.proofs.PrintableLemmas.{clusters-past}
use Rattle.ansi_clusters.proofs.SingleWalkLemmas.{clusters-append, clusters-one, clusters-single, letters-single, letters-push, letter-alone, seen-alone}
use Rattle.ansi_clusters.proofs.WalkLemmas.{position_within, rest_at}
use Rattle.ansi_clusters.proofs.walks.Walk.past_letters.Goals.{else-not-blanks-via-then-not-blanks+else-c-eq32, else-not-blanks-via-else-not-blanks}
use Rattle.ansi_clusters.proofs.walks.Walk.past_letters.Goals as goal

pub overflow_add-walk : goal.overflow_add-walk
overflow_add-walk c =
    let t = c.args.text.now in
    let w = c.characters.walk in
    let inv = c.characters.invariant in
    let next : IsNext t w c.characters.c = record { rest = c.characters.chars.rest.now; bytes = inv.rest } in
    let size : length t < 2 ^ 63 = search rules in
    omega (arith, size, position_within t c.utf8.text w (inv.past c.requires.0 c.requires.1).walk c.characters.c next, length-plain t, c.len_utf8-len.ensures.len)

-- after a character that a single one follows

pub printable_front-front-requires : goal.printable_front-front-requires
printable_front-front-requires c =
    let inv = c.characters.invariant in
    let passed = clusters-single c.len_utf8-len.result c.after_single.result c.next-in-characters.new.self.rest.now c.utf8.text (inv.past c.requires.0 c.requires.1) (inv.rest ∙ ap (λ u. encode_utf8 c.characters.c ++ u) c.in-Some-next.ensures.steps.0) inv.shown c.in-Some-single_columns-2.ensures c.len_utf8-len.ensures.len c.after_single.ensures in
    (c.requires.0, passed.walk)

pub past_front-more-requires-clause-walk : goal.past_front-more-requires-clause-walk
past_front-more-requires-clause-walk c =
    let inv = c.characters.invariant in
    let passed = clusters-single c.len_utf8-len.result c.after_single.result c.next-in-characters.new.self.rest.now c.utf8.text (inv.past c.requires.0 c.requires.1) (inv.rest ∙ ap (λ u. encode_utf8 c.characters.c ++ u) c.in-Some-next.ensures.steps.0) inv.shown c.in-Some-single_columns-2.ensures c.len_utf8-len.ensures.len c.after_single.ensures in
    (c.requires.0, passed.walk)

pub characters-smaller : goal.characters-smaller
characters-smaller c =
    let inv = c.characters.invariant in
    let passed = clusters-single c.len_utf8-len.result c.after_single.result c.next-in-characters.new.self.rest.now c.utf8.text (inv.past c.requires.0 c.requires.1) (inv.rest ∙ ap (λ u. encode_utf8 c.characters.c ++ u) c.in-Some-next.ensures.steps.0) inv.shown c.in-Some-single_columns-2.ensures c.len_utf8-len.ensures.len c.after_single.ensures in
    omega (arith, passed.walk.within, c.len_utf8-len.ensures.lower_bound)

pub characters-preserved : goal.characters-preserved
characters-preserved c =
    let t = c.args.text.now in
    let w = c.characters.walk in
    let inv = c.characters.invariant in
    let first : IsNext t w c.characters.c = record { rest = c.characters.chars.rest.now; bytes = inv.rest } in
    record {
      past = λ view walk. clusters-single c.len_utf8-len.result c.after_single.result c.next-in-characters.new.self.rest.now c.utf8.text (inv.past view walk) (inv.rest ∙ ap (λ u. encode_utf8 c.characters.c ++ u) c.in-Some-next.ensures.steps.0) inv.shown c.in-Some-single_columns-2.ensures c.len_utf8-len.ensures.len c.after_single.ensures;
      most = omega arith;
      word = λ none view walk.
          let solid : c.characters.c ≢ 0x20 = elim c.else-not-blanks.branch [
            | else-not-blanks-via-then-not-blanks+else-c-eq32 v ↦ v.if-c-eq32.false
            | else-not-blanks-via-else-not-blanks v ↦ absurd (false≢true (sym none ∙ v.if-not-blanks.false))
          ] in
          letters-single c.len_utf8-len.result c.after_single.result c.next-in-characters.new.self.rest.now c.utf8.text (inv.past view walk).walk (inv.word none view walk) (inv.rest ∙ ap (λ u. encode_utf8 c.characters.c ++ u) c.in-Some-next.ensures.steps.0) inv.shown c.in-Some-single_columns-2.ensures c.len_utf8-len.ensures.len c.after_single.ensures solid;
      rest = ap (λ n. slice_range t (w.offset + n) w.run_end) c.len_utf8-len.ensures.len ∙ rest_at t c.utf8.text w (inv.past c.requires.0 c.requires.1).walk c.characters.c first ∙ c.in-Some-next.ensures.steps.0;
      shown = c.in-Some-single_columns-2.ensures;
    }

-- after the printable ASCII that it begins

pub range-requires-then-matches-clause-start_le_end : goal.range-requires-then-matches-clause-start_le_end
range-requires-then-matches-clause-start_le_end c =
    let inv = c.characters.invariant in
    let passed = clusters-single c.len_utf8-len.result c.after_single.result c.next-in-characters.new.self.rest.now c.utf8.text (inv.past c.requires.0 c.requires.1) (inv.rest ∙ ap (λ u. encode_utf8 c.characters.c ++ u) c.in-Some-next.ensures.steps.0) inv.shown c.in-Some-single_columns-2.ensures c.len_utf8-len.ensures.len c.after_single.ensures in
    let later = c.past_front-more.ensures.past.walk c.requires.0 passed.walk in
    later.run.ordered

pub range-requires-then-matches-clause-start_boundary : goal.range-requires-then-matches-clause-start_boundary
range-requires-then-matches-clause-start_boundary c =
    let inv = c.characters.invariant in
    let passed = clusters-single c.len_utf8-len.result c.after_single.result c.next-in-characters.new.self.rest.now c.utf8.text (inv.past c.requires.0 c.requires.1) (inv.rest ∙ ap (λ u. encode_utf8 c.characters.c ++ u) c.in-Some-next.ensures.steps.0) inv.shown c.in-Some-single_columns-2.ensures c.len_utf8-len.ensures.len c.after_single.ensures in
    let later = c.past_front-more.ensures.past.walk c.requires.0 passed.walk in
    λ _. later.run.start_boundary

pub range-requires-then-matches-clause-end_boundary : goal.range-requires-then-matches-clause-end_boundary
range-requires-then-matches-clause-end_boundary c =
    let inv = c.characters.invariant in
    let passed = clusters-single c.len_utf8-len.result c.after_single.result c.next-in-characters.new.self.rest.now c.utf8.text (inv.past c.requires.0 c.requires.1) (inv.rest ∙ ap (λ u. encode_utf8 c.characters.c ++ u) c.in-Some-next.ensures.steps.0) inv.shown c.in-Some-single_columns-2.ensures c.len_utf8-len.ensures.len c.after_single.ensures in
    let later = c.past_front-more.ensures.past.walk c.requires.0 passed.walk in
    later.run.end_boundary

pub characters-smaller-then-matches : goal.characters-smaller-then-matches
characters-smaller-then-matches c =
    let inv = c.characters.invariant in
    let passed = clusters-single c.len_utf8-len.result c.after_single.result c.next-in-characters.new.self.rest.now c.utf8.text (inv.past c.requires.0 c.requires.1) (inv.rest ∙ ap (λ u. encode_utf8 c.characters.c ++ u) c.in-Some-next.ensures.steps.0) inv.shown c.in-Some-single_columns-2.ensures c.len_utf8-len.ensures.len c.after_single.ensures in
    let later = c.past_front-more.ensures.past.walk c.requires.0 passed.walk in
    omega (arith, later.within, c.past_front-more.ensures.past.position, c.len_utf8-len.ensures.lower_bound)

pub characters-preserved-then-matches : goal.characters-preserved-then-matches
characters-preserved-then-matches c =
    let inv = c.characters.invariant in
    record {
      past = λ view walk.
          let passed = clusters-single c.len_utf8-len.result c.after_single.result c.next-in-characters.new.self.rest.now c.utf8.text (inv.past view walk) (inv.rest ∙ ap (λ u. encode_utf8 c.characters.c ++ u) c.in-Some-next.ensures.steps.0) inv.shown c.in-Some-single_columns-2.ensures c.len_utf8-len.ensures.len c.after_single.ensures in
          clusters-append passed (clusters-past passed.walk c.past_front-more.ensures.past);
      most = omega (arith, c.past_front-more.ensures.most, c.printable_front-front.ensures.most, c.characters-test.true);
      word = λ none view walk. absurd (false≢true (sym none ∙ c.if-not-blanks-2.false));
      rest = sym (c.chars-chars-then-matches.ensures.rest ∙ c.range-then-matches.ensures.value) ∙ c.in-Some-next-2.ensures.steps.0;
      shown = c.in-Some-single_columns-3.ensures;
    }

pub returns-in_default-next-2-clause-past : goal.returns-in_default-next-2-clause-past
returns-in_default-next-2-clause-past c view walk =
    let inv = c.characters.invariant in
    let passed = clusters-single c.len_utf8-len.result c.after_single.result c.next-in-characters.new.self.rest.now c.utf8.text (inv.past view walk) (inv.rest ∙ ap (λ u. encode_utf8 c.characters.c ++ u) c.in-Some-next.ensures.steps.0) inv.shown c.in-Some-single_columns-2.ensures c.len_utf8-len.ensures.len c.after_single.ensures in
    clusters-append passed (clusters-past passed.walk c.past_front-more.ensures.past)

pub returns-in_default-single_columns-3-clause-past : goal.returns-in_default-single_columns-3-clause-past
returns-in_default-single_columns-3-clause-past c view walk =
    let inv = c.characters.invariant in
    let passed = clusters-single c.len_utf8-len.result c.after_single.result c.next-in-characters.new.self.rest.now c.utf8.text (inv.past view walk) (inv.rest ∙ ap (λ u. encode_utf8 c.characters.c ++ u) c.in-Some-next.ensures.steps.0) inv.shown c.in-Some-single_columns-2.ensures c.len_utf8-len.ensures.len c.after_single.ensures in
    clusters-append passed (clusters-past passed.walk c.past_front-more.ensures.past)

-- after the last character of the run

pub returns-in-Some-past_last-clause-past : goal.returns-in-Some-past_last-clause-past
returns-in-Some-past_last-clause-past c view walk =
    let inv = c.characters.invariant in
    let passed = inv.past view walk in
    clusters-append passed (clusters-one c.utf8.text passed.walk (c.in-Some-past_last.ensures.past view passed.walk) inv.shown.some)

pub returns-in-Some-past_last-clause-word : goal.returns-in-Some-past_last-clause-word
returns-in-Some-past_last-clause-word c none view walk =
    let t = c.args.text.now in
    let w = c.characters.walk in
    let inv = c.characters.invariant in
    let here = (inv.past view walk).walk in
    let last = c.in-Some-past_last.ensures in
    let next : IsNext t w c.characters.c = record { rest = c.characters.chars.rest.now; bytes = inv.rest } in
    let solid : c.characters.c ≢ 0x20 = elim c.else-not-blanks.branch [
      | else-not-blanks-via-then-not-blanks+else-c-eq32 v ↦ v.if-c-eq32.false
      | else-not-blanks-via-else-not-blanks v ↦ absurd (false≢true (sym none ∙ v.if-not-blanks.false))
    ] in
    letters-push (inv.word none view walk) (letter-alone (last.past view here) (seen-alone view t c.utf8.text w here c.characters.c next c.in-Some-past_last.later last.position inv.shown.printing) inv.shown.printing solid)

-- before printable ASCII that more of it follows

pub returns-then-not-blanks-2-clause-past : goal.returns-then-not-blanks-2-clause-past
returns-then-not-blanks-2-clause-past c view walk =
    let inv = c.characters.invariant in
    clusters-single c.len_utf8-len.result c.after_single.result c.next-in-characters.new.self.rest.now c.utf8.text (inv.past view walk) (inv.rest ∙ ap (λ u. encode_utf8 c.characters.c ++ u) c.in-Some-next.ensures.steps.0) inv.shown c.in-Some-single_columns-2.ensures c.len_utf8-len.ensures.len c.after_single.ensures

pub returns-then-not-blanks-2-clause-word : goal.returns-then-not-blanks-2-clause-word
returns-then-not-blanks-2-clause-word c none view walk =
    let inv = c.characters.invariant in
    let solid : c.characters.c ≢ 0x20 = elim c.else-not-blanks.branch [
      | else-not-blanks-via-then-not-blanks+else-c-eq32 v ↦ v.if-c-eq32.false
      | else-not-blanks-via-else-not-blanks v ↦ absurd (false≢true (sym none ∙ v.if-not-blanks.false))
    ] in
    letters-single c.len_utf8-len.result c.after_single.result c.next-in-characters.new.self.rest.now c.utf8.text (inv.past view walk).walk (inv.word none view walk) (inv.rest ∙ ap (λ u. encode_utf8 c.characters.c ++ u) c.in-Some-next.ensures.steps.0) inv.shown c.in-Some-single_columns-2.ensures c.len_utf8-len.ensures.len c.after_single.ensures solid
