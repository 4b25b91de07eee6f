use Rattle.std.proofs.Common.{◌≡◌, ◌∙◌, ap, string_bytes}
use Rattle.std.specs.List.{join_by}
use Rattle.ansi_lines_runs.specs.Runs.{words_of}
use Rattle.ansi_view_runs.specs.Views.{line_break}
use Rattle.ansi_view_runs.proofs.JoinLemmas.{joined_bytes}
use Rattle.ansi_view_runs.proofs.ended.join_lines.Goals as goal

-- the texts are joined, and the end follows
pub returns : goal.returns
returns g c =
    let texts = c.args.texts.now in
    let joined : string_bytes c.in_ok-lines.lines ≡ join_by (λ t. t) (line_break c.args.end.now) (words_of texts) =
    c.in_ok-lines.ensures.ok ∙ joined_bytes c.line_break.result.now texts ∙ ap (λ s. join_by (λ t. t) s (words_of texts)) c.line_break.ensures in
    rw joined at c.with_end.ensures
