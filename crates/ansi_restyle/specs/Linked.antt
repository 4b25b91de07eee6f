-- The links of the plain bytes of a text.
use Rattle.std.specs.Prelude.{ℕ, List, map, length}
use Rattle.std.specs.List.{range_with_len}
use Rattle.ansi_items.specs.Plain.{plain, marks, marks_up_to}
use Rattle.ansi_safe.specs.Links.{link_at, link_after_all}

-- the links of the plain bytes of t, in order: for each the sequence that opened it, or nothing (OSC 8)
abbrev pub links_in : List ℕ → List (List ℕ)
links_in t = map (link_at t) (range_with_len 0 (length (plain t)))

-- the same, if `link` is open before t
abbrev pub links_from : List ℕ → List ℕ → List (List ℕ)
links_from link t = map (λ i. link_after_all link (marks_up_to i (marks t))) (range_with_len 0 (length (plain t)))
