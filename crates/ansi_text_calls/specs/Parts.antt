-- The parts of a short text that are copied to the stack.
use Rattle.std.specs.Prelude.{◌≡◌, List, ℕ, [], ◌∷◌, ◌++◌, length, flat_map}
use Rattle.ansi_split.specs.Spans.{dressed_stretch}
use Rattle.ansi_split.specs.Walks.{renditions_around}
use Rattle.ansi_split.specs.declared.walks.PartStretch.{PartStretch}
use Rattle.ansi_text_calls.specs.declared.parts.FewParts.{FewParts}
use Rattle.ansi_text_calls.specs.Lists.{ends_from}

-- a stretch as a part
abbrev pub stretch_bytes : PartStretch → List ℕ
stretch_bytes s = dressed_stretch (renditions_around s.around) s.text.now

-- one part more is copied, with its end
abbrev pub AddsPart : List ℕ → FewParts → FewParts → Type 0
AddsPart part old new = (new.texts.bytes ≡ old.texts.bytes ++ part) × (new.ends.items ≡ old.ends.items ++ length new.texts.bytes ∷ [])

-- with the parts that are left, as many are copied before and after
abbrev pub AreAllWith : FewParts → List (List ℕ) → FewParts → List (List ℕ) → Type 0
AreAllWith old left new later =
    (new.texts.bytes ++ flat_map (λ p. p) later ≡ old.texts.bytes ++ flat_map (λ p. p) left)
    × (new.ends.items ++ ends_from (length new.texts.bytes) later ≡ old.ends.items ++ ends_from (length old.texts.bytes) left)
