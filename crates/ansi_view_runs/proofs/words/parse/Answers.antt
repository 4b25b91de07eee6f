use Rattle.std.proofs.Common.{◌≡◌, ◌∙◌, sym, ap, drop, ◌+◌, [], ◌∷◌, ◌++◌}
use Rattle.std.proofs.lemmas.List.{map-append}
use Rattle.ansi_lines_runs.specs.Runs.{words_of}
use Rattle.ansi_lines_runs.proofs.WordLemmas.{words_of-next}
use Rattle.ansi_view_runs.specs.Edits.{change_of, changes_of}
use Rattle.ansi_view_runs.specs.Views.{Work}
use Rattle.ansi_view_runs.specs.Words.{bad_word, with_word}
use Rattle.ansi_view_runs.proofs.WordLemmas.{bad_word-first, bad_word-change, with_word-change, Asked, Asked-next}
use Rattle.ansi_view_runs.proofs.words.parse.Goals.{in-show, in-links, in-plain, in_default+in-Some+in_ok-push-in-Some}
use Rattle.ansi_view_runs.proofs.words.parse.Goals as goal

-- the first word that isn't one of the program's
pub returns-in-None : goal.returns-in-None
returns-in-None g c =
    let words = c.args.words.now in
    let k = c.loop-word.word-index in
    let first = words_of-next words k c.word-item.result c.as_str.result.now c.loop-word-test.true c.word-item.is c.as_str.ensures.value in
    sym c.loop-word.invariant.none_bad ∙ ap bad_word first ∙ bad_word-first c.as_str.result.now (words_of (drop (k + 1) words)) c.in_default.not-show c.in_default.not-links c.in_default.not-plain c.in-None.ensures

-- one more word
pub loop-word-preserved : goal.loop-word-preserved
loop-word-preserved g c =
    let words = c.args.words.now in
    let all = words_of words in
    let k = c.loop-word.word-index in
    let word = c.as_str.result.now in
    let left = words_of (drop k words) in
    let more = words_of (drop (k + 1) words) in
    let edits = c.loop-word.edits.items in
    let work : Work = record { view = record { policy = c.loop-word.policy; plain = c.loop-word.plain }; changes = changes_of edits } in
    let so_far : Asked work left all = record { asked = c.loop-word.invariant.asked; none_bad = c.loop-word.invariant.none_bad } in
    let first = words_of-next words k c.word-item.result word c.loop-word-test.true c.word-item.is c.as_str.ensures.value in
    elim c.match-as_str.branch [
      | in-show w ↦ rw (w.policy-is, w.plain-is, w.edits-is) (
          let next = Asked-next work _ word left more all so_far first (ap (with_word work) w.in-show.is) (ap (λ x. bad_word (x ∷ more)) w.in-show.is) in
          record { asked = next.asked; none_bad = next.none_bad })
      | in-links w ↦ rw (w.policy-is, w.plain-is, w.edits-is) (
          let next = Asked-next work _ word left more all so_far first (ap (with_word work) w.in-links.is) (ap (λ x. bad_word (x ∷ more)) w.in-links.is) in
          record { asked = next.asked; none_bad = next.none_bad })
      | in-plain w ↦ rw (w.policy-is, w.plain-is, w.edits-is) (
          let next = Asked-next work _ word left more all so_far first (ap (with_word work) w.in-plain.is) (ap (λ x. bad_word (x ∷ more)) w.in-plain.is) in
          record { asked = next.asked; none_bad = next.none_bad })
      | in_default+in-Some+in_ok-push-in-Some w ↦ (
          let change = change_of w.in-Some.edit in
          let joined : changes_of c.match-as_str.edits.items ≡ changes_of edits ++ change ∷ [] =
          ap (λ v. changes_of v.items) w.edits-is ∙ ap changes_of w.in_ok-push-in-Some.ensures.items ∙ map-append change_of edits (w.in-Some.edit ∷ []) in
          let then = with_word-change work word change w.in_default.not-show w.in_default.not-links w.in_default.not-plain w.in-Some.ensures in
          let good = bad_word-change word more change w.in_default.not-show w.in_default.not-links w.in_default.not-plain w.in-Some.ensures in
          let next = Asked-next work _ word left more all so_far first then good in
          rw (w.policy-is, w.plain-is, joined) (record { asked = next.asked; none_bad = next.none_bad }))
    ]
