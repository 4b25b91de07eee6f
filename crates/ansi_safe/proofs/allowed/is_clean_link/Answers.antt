use Rattle.std.proofs.Common.{◌≡◌, ◌-◌, ◌&&◌, length, slice_range, sym, ◌∙◌, ap, rules, tests}
use Rattle.std.specs.List.{list_all}
use Rattle.std.proofs.lemmas.Iterator.{YieldsList-from_slice}
use Rattle.std.proofs.lemmas.Iterator.Search.{all_from_yields_List}
use Rattle.ansi_safe.specs.Safe.{is_printable_byte}
use Rattle.ansi_safe.specs.Links.{terminator_len}
use Rattle.ansi_safe.proofs.allowed.is_clean_link.Goals as goal

pub returns : goal.returns
returns c =
    let w = c.args.sequence.now in
    let inside = slice_range w 2 (length w - c.terminator_len.result) in
    let all : c.all.result ≡ list_all is_printable_byte inside
    = all_from_yields_List {all = inside} is_printable_byte _ _ c.all.result c.all.ensures.ran (YieldsList-from_slice _ c.iter.ensures.rest) (λ x b q k. search (rules, tests)) in
    all ∙ ap (λ n. list_all is_printable_byte (slice_range w 2 (length w - n))) c.terminator_len.ensures
    ∙ ap (λ b. b && list_all is_printable_byte (slice_range w 2 (length w - terminator_len w))) (sym (sym c.is_short_link.ensures ∙ c.if-not-is_short_link.false))
