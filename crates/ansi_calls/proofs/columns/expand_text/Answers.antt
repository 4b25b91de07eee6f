use Rattle.ansi_cells.specs.Tabs.{has_tab}
use Rattle.ansi_text_calls.specs.Answers.{no}
use Rattle.ansi_calls.specs.Columns.{GivesExpanded}
use Rattle.ansi_text_calls.proofs.Utf8Lemmas.{Gives-made}
use Rattle.ansi_calls.proofs.columns.expand_text.Goals as goal

-- a text without a TAB is written without an allocation
pub returns : goal.returns
unfolding GivesExpanded
returns g c = Gives-made no (has_tab c.args.text.now) _ c.expand_tabs.result _ _ _ c.expand_tabs.ensures.bytes c.expand_tabs.ensures.takes_no_memory c.write_text.ensures
