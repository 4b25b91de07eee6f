use Rattle.std.proofs.Common.{sym, ◌∙◌, ap, arith}
use Rattle.ansi_clusters.specs.BreakStates.{break_state_of}
use Rattle.ansi_clusters.specs.declared.views.View.TheVariants.{Given, Lined}
use Rattle.ansi_clusters.proofs.TightLemmas.{tight-start}
use Rattle.ansi_clusters.proofs.ViewLemmas.{seen_before-start}
use Rattle.ansi_clusters.proofs.walks.Walk.start.Goals as goal

pub returns-clause-seen : goal.returns-clause-seen
returns-clause-seen c view =
    let first = c.first_run-offset.ensures in
    record {
      offset = first.start;
      run = first.run;
      end = first.none;
      break_state = c.start.ensures ∙ ap break_state_of (sym (seen_before-start view c.args.text.now));
      within = omega arith;
    }

pub returns-clause-walk : goal.returns-clause-walk
returns-clause-walk c =
    let first = c.first_run-offset.ensures in
    record {
      offset = first.start;
      run = first.run;
      end = first.none;
      break_state = c.start.ensures ∙ ap break_state_of (sym (seen_before-start Given c.args.text.now));
      within = omega arith;
    }

pub returns-clause-lined : goal.returns-clause-lined
returns-clause-lined c =
    let first = c.first_run-offset.ensures in
    record {
      walk = record {
        offset = first.start;
        run = first.run;
        end = first.none;
        break_state = c.start.ensures ∙ ap break_state_of (sym (seen_before-start Lined c.args.text.now));
        within = omega arith;
      };
      tight = tight-start Lined c.args.text.now;
    }
