use Rattle.std.proofs.Common.{◌≡◌, drop}
use Rattle.std.specs.List.{list_all}
use Rattle.std.specs.Str.{is_utf8}
use Rattle.ansi_text_calls.specs.Replacements.{new_texts}
use Rattle.ansi_text_calls.proofs.replacements.are_texts_utf8.Given as goal

-- the texts so far are UTF-8, so those that are left decide
abbrev pub invariant-loop-entry : goal.invariant-loop-entry
invariant-loop-entry l = list_all is_utf8 (new_texts l.entries) ≡ list_all is_utf8 (new_texts (drop l.entry-index l.entries))
