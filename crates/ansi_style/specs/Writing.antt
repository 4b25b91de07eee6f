-- What the code writes to a writer: the text of some calls of `write_str`, and the sequence of a color in its parts.
use Rattle.std.specs.Prelude.{◌≡◌, ℕ, List, [], ◌++◌, Option, Result, IsOk, codes, decimal, length, take}
use Rattle.std.specs.Fmt.{WritesInCalls}
use Rattle.std.specs.Option.{option_map_or}
use Rattle.std.specs.declared.fmt.Error.{Error}
use Rattle.ansi_items.specs.declared.ansitok.AnsiColor.{AnsiColor}
use Rattle.ansi_items.specs.declared.ansitok.AnsiColor.TheVariants.{Bit4, Bit8, Bit24}

-- if r is `Ok`, then some calls of `write_str` took the writer from w to v, and together wrote bs
abbrev pub WroteOnOk : {W : Type 0} → (W → List ℕ → W → Type 0) → W → Result (Unit {0}) Error → List ℕ → W → Type 0
WroteOnOk took w r bs v = IsOk r → WritesInCalls took w bs v

-- the text begins with `front`
abbrev pub BeginsWith : List ℕ → List ℕ → Type 0
BeginsWith text front = take (length front) text ≡ front

-- each text that the old one begins with, the new one begins with: nothing of it is taken away
abbrev pub KeepsText : List ℕ → List ℕ → Type 0
KeepsText old new = (front : List ℕ) → BeginsWith old front → BeginsWith new front

-- each text that w begins with, v begins with
abbrev pub Keeps : {W : Type 0} → (W → List ℕ → Type 0) → W → W → Type 0
Keeps begins w v = (front : List ℕ) → begins w front → begins v front

-- what begins the sequence of a color beyond the sixteen: `extended` is the code before it, and `kind` how it is given
abbrev pub color_front : List ℕ → List ℕ → List ℕ
color_front extended kind = codes "\u{1b}[" ++ (extended ++ (codes ";" ++ (kind ++ codes ";")))

-- the sequence of a color, in the order in which it is written
abbrev pub color_sequence : List ℕ → AnsiColor → List ℕ
color_sequence extended (Bit4 n) = codes "\u{1b}[" ++ (decimal n ++ codes "m")
color_sequence extended (Bit8 n) = color_front extended (codes "5") ++ (decimal n ++ codes "m")
color_sequence extended (Bit24 r g b) = color_front extended (codes "2") ++ ((decimal r ++ codes ";") ++ ((decimal g ++ codes ";") ++ (decimal b ++ codes "m")))

-- the sequence of a color, if one is set
abbrev pub color_sequence_if_set : List ℕ → Option AnsiColor → List ℕ
color_sequence_if_set extended color = option_map_or (color_sequence extended) color []
