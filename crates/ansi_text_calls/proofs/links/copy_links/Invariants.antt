use Rattle.std.proofs.Common.{◌≡◌, ◌≤◌, ◌++◌, List, length, drop}
use Rattle.ansi_restyle.specs.Links.{LinkedRange, links}
use Rattle.ansi_text_calls.specs.Links.{addresses, link_entries_from}
use Rattle.ansi_text_calls.proofs.links.copy_links.Given as goal

-- the links so far are counted, and written if there is room for them, and those that are left make up all links with them
abbrev pub invariant-loop-link : goal.invariant-loop-link
invariant-loop-link l = record {
  can : (goal.iterator-loop-link).can_next l.link-iterator;
  finite : (goal.iterator-loop-link).is_finite l.link-iterator;
  copied : (done : List LinkedRange) × (done ++ l.link-iterator ≡ links l.text) × (l.count ≡ length done) × (l.len ≡ length (addresses done))
      × (length (addresses done) ≤ length l.fn.buffer → l.buffer ≡ addresses done ++ drop (length (addresses done)) l.fn.buffer)
      × (length done ≤ length l.fn.entries → l.entries ≡ link_entries_from 0 done ++ drop (length (link_entries_from 0 done)) l.fn.entries);
}
