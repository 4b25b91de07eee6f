use Rattle.std.proofs.Common.{◌≡◌, ◌++◌, length, string_bytes}
use Rattle.ansi_items.specs.Plain.{plain}
use Rattle.ansi_style.specs.States.{rendition_of}
use Rattle.ansi_search.specs.Matches.{first_match_from}
use Rattle.ansi_restyle.specs.Matches.{matches}
use Rattle.ansi_restyle.specs.Restyled.{restyled_from}
use Rattle.ansi_restyle.proofs.MarkLemmas.{IsMarkedSoFar}
use Rattle.ansi_restyle.proofs.restyle.push_marked.Given as goal

-- what is written, and what is made of the text that is left, are what they were after the first match
abbrev pub invariant-matches : goal.invariant-matches
invariant-matches g l =
    let p = l.initial.first.rest.pat.now in
    let begun = l.initial.left.rest.text.now in
    record {
      pat : l.left.pat.now ≡ p;
      way : IsMarkedSoFar (string_bytes l.initial.out ++ restyled_from l.change (rendition_of l.initial.style) 0 begun (matches (plain begun) p)) (string_bytes l.out) l.change (rendition_of l.style) l.left.rest.text.now p (first_match_from (plain l.left.rest.text.now) p 0);
    }

abbrev pub decreases-matches : goal.decreases-matches
decreases-matches g l = length (plain l.left.rest.text.now)
