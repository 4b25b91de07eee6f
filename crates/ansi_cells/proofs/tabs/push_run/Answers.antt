use Rattle.std.proofs.Common.{rules, ◌++◌, fold, string_bytes, sym, ◌∙◌, ap, ap₂}
use Rattle.ansi_cells.specs.Tabs.{since_stop, byte_expanded, run_expanded}
use Rattle.ansi_cells.proofs.TabLemmas.{stop_of, since-stop, expanded-stop, since-alone, expanded-alone}
use Rattle.ansi_cells.proofs.tabs.push_run.Goals as goal

-- over what is before a stop, and the stop
pub stops-preserved : goal.stops-preserved
stops-preserved g c =
    let stop = c.args.stop in
    let here = c.stops.invariant in
    let out = string_bytes c.stops.out in
    let since = string_bytes c.stops.since in
    let front = c.in-Some.front.now in
    let rest = c.in-Some.rest.now in
    let none = c.in-Some.ensures.0 in
    let is = c.in-Some.ensures.1 in
    let passed = c.as_str.ensures.value ∙ c.in_ok-push_str-2.ensures.bytes in
    let written = c.in_ok-push_stop.ensures ∙ ap₂ (λ o s. o ++ byte_expanded stop s (stop_of c.in-Some.is_tab)) c.in_ok-push_str.ensures.bytes passed in
    record {
      left_is_text = search rules;
      written = ap₂ (λ o s. o ++ run_expanded stop s rest) written c.clear.ensures.bytes ∙ expanded-stop stop out since front rest c.in-Some.is_tab none ∙ ap (λ u. out ++ run_expanded stop since u) (sym is) ∙ here.written;
      since = ap (λ s. fold since_stop s rest) c.clear.ensures.bytes ∙ since-stop since front rest c.in-Some.is_tab none ∙ ap (fold since_stop since) (sym is) ∙ here.since;
    }

-- no stop is left
pub returns-clause-out : goal.returns-clause-out
returns-clause-out g c = c.in_ok-push_str-3.ensures.bytes ∙ ap (λ u. string_bytes c.stops.out ++ u) (sym (expanded-alone c.args.stop (string_bytes c.stops.since) c.stops.left.now c.in_default.ensures)) ∙ c.stops.invariant.written

pub returns-clause-since : goal.returns-clause-since
returns-clause-since g c = c.in_ok-push_str-4.ensures.bytes ∙ sym (since-alone (string_bytes c.stops.since) c.stops.left.now c.in_default.ensures) ∙ c.stops.invariant.since
