use Rattle.std.proofs.Common.{length, sym, ◌∙◌, ap, arith}
use Rattle.ansi_cells.proofs.TabLemmas.{expanded-no_tab, expanded-most}
use Rattle.ansi_cells.proofs.tabs.expand_tabs.Goals as goal

pub returns-in_ok-write_expanded-clause-len : goal.returns-in_ok-write_expanded-clause-len
returns-in_ok-write_expanded-clause-len g c = omega (arith, ap length c.in_ok-write_expanded.ensures, expanded-most c.args.stop c.args.text.now)

pub returns-else-has_tab-clause-bytes : goal.returns-else-has_tab-clause-bytes
returns-else-has_tab-clause-bytes g c = sym (expanded-no_tab c.args.stop c.args.text.now (sym c.has_tab.ensures ∙ c.if-has_tab.false))
