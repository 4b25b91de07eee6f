use Rattle.std.proofs.Common.{◌≡◌, ◌∙◌, ◌++◌, Bool, true, false, Result, Ok, Err, ap, sym}
use Rattle.std.specs.Prelude.{OnOk, OnErr, codes}
use Rattle.std.specs.Io.KnownBytes.{append_known}
use Rattle.std.proofs.lemmas.Bool.{false≢true}
use Rattle.ansi_view_runs.specs.Words.{where_words_are}
use Rattle.ansi_view_runs.proofs.runs.tell_word.Goals as goal

-- what a call does if it succeeds it has done if nothing failed
done_unless_failed : {T E P : Type 0} {failed : Bool} (r : Result T E) → OnOk r P → OnErr r (failed ≡ true) → failed ≡ false → P
done_unless_failed (Ok done) told fails unfailed = told
done_unless_failed (Err fault) told fails unfailed = absurd (false≢true (sym unfailed ∙ fails))

-- the word is written between the two texts
pub returns-in-Ok-clause-told : goal.returns-in-Ok-clause-told
returns-in-Ok-clause-told g c =
    let told = c.write_message.ensures in
    λ unfailed.
    done_unless_failed c.write_message.result told.told told.failed unfailed
    ∙ ap (λ word. append_known (g.V.Sink.taken c.args.faults.now) (codes "bad word: " ++ word ++ where_words_are)) (c.as_str.ensures.value ∙ c.in-Ok.ensures.bytes)
