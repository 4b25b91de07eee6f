use Rattle.std.proofs.Common.{◌≡◌, ◌∙◌, ap, sym, drop, ◌+◌, ◌++◌, ◌∷◌, [], List, Some}
use Rattle.std.specs.Option.{option_map}
use Rattle.std.proofs.lemmas.List.{drop_all, append-nil, map-append}
use Rattle.ansi_str.specs.Changes.{Change}
use Rattle.ansi_str.specs.Edits.{change_of, changes_of}
use Rattle.ansi_lines_runs.specs.Runs.{words_of}
use Rattle.ansi_lines_runs.specs.Words.{Changed, changes_asked}
use Rattle.ansi_lines_runs.proofs.WordLemmas.{changes_asked-empty, changes_asked-none, changes_asked-some, words_of-next, changes-first, changes-next}
use Rattle.ansi_lines_runs.proofs.words.parse_edits.Goals as goal

-- no word is read yet
pub loop-word-init : goal.loop-word-init
loop-word-init g c = record {
  asked = rw c.new-edits.ensures.items (changes-first (changes_asked (words_of c.args.words.now)));
}

-- a word that asks for nothing
pub returns-in_default : goal.returns-in_default
returns-in_default g c =
    let words = c.args.words.now in
    let k = c.loop-word.word-index in
    let word = c.as_str.result.now in
    let first = words_of-next words k c.word-item.result word c.loop-word-test.true c.word-item.is c.as_str.ensures.value in
    let none = changes_asked-none word (words_of (drop (k + 1) words)) (c.in_default.ensures) in
    sym (ap (option_map Changed) (c.loop-word.invariant.asked ∙ ap (option_map (λ more. changes_of c.loop-word.edits.items ++ more)) (ap changes_asked first ∙ none)))

-- a word that asks for a change
pub loop-word-preserved : goal.loop-word-preserved
loop-word-preserved g c =
    let words = c.args.words.now in
    let k = c.loop-word.word-index in
    let word = c.as_str.result.now in
    let more = words_of (drop (k + 1) words) in
    let change = change_of c.in-Some.edit in
    let first = words_of-next words k c.word-item.result word c.loop-word-test.true c.word-item.is c.as_str.ensures.value in
    let joined : changes_of c.push.new.self.items ≡ changes_of c.loop-word.edits.items ++ change ∷ [] =
    ap changes_of c.in_ok-push.ensures.items ∙ map-append change_of c.loop-word.edits.items (c.in-Some.edit ∷ []) in
    let asks = changes_asked-some word more change c.in-Some.ensures in
    record {
      asked =
          c.loop-word.invariant.asked
          ∙ ap (option_map (λ changes. changes_of c.loop-word.edits.items ++ changes)) (ap changes_asked first ∙ asks)
          ∙ changes-next (changes_of c.loop-word.edits.items) change (changes_asked more)
          ∙ ap (λ front. option_map (λ changes. front ++ changes) (changes_asked more)) (sym joined);
    }

-- no words are left
pub returns : goal.returns
returns g c =
    let words = c.args.words.now in
    let front = λ (changes : List Change). changes_of c.loop-word.edits.items ++ changes in
    sym (ap (option_map Changed) (c.loop-word.invariant.asked
    ∙ ap (λ left. option_map front (changes_asked (words_of left))) (drop_all c.loop-word.word-index words c.loop-word-test.false)
    ∙ ap (option_map front) changes_asked-empty
    ∙ ap Some (append-nil (changes_of c.loop-word.edits.items))))
