-- What is made of a text so that it is safe.
use Rattle.std.specs.Prelude.{ℕ, Bool, ◌+◌, ◌/◌, ◌%◌, ◌==◌, List, [], ◌∷◌, ◌++◌, flat_map, length, replicate, slice_index, nat_lt, chars, codes, encode_utf8, encode_utf8_all, if◌then◌else◌}
use Rattle.std.specs.Str.{byte}
use Rattle.ansi_items.specs.Pieces.{Piece, Text, spelling, pieces_of}
use Rattle.ansi_items.specs.Plain.{plain_bytes}
use Rattle.ansi_safe.specs.declared.policy.Policy.{Policy}
use Rattle.ansi_safe.specs.declared.policy.Rest.{Rest}
use Rattle.ansi_safe.specs.declared.policy.Rest.TheVariants.{Drop, Show}
use Rattle.ansi_safe.specs.Links.{ending}
use Rattle.ansi_safe.specs.Safe.{is_printing, is_allowed, may_stay}

-- a hexadecimal digit
abbrev pub hexadecimal : ℕ → ℕ
hexadecimal n = slice_index (codes "0123456789ABCDEF") n

-- a character below U+10000 by its number, such as `<U+009B>` (Unicode, appendix A; the brackets, own)
abbrev pub numbered : ℕ → List ℕ
numbered c = codes "<U+" ++ hexadecimal (c / 0x1000) ∷ hexadecimal (c / 0x100 % 0x10) ∷ hexadecimal (c / 0x10 % 0x10) ∷ hexadecimal (c % 0x10) ∷ codes ">"

-- a character shown in printing characters: U+0000 to U+001F as `^@` to `^_` and U+007F as `^?` (caret notation), another one that isn't printing by its number
abbrev pub shown : ℕ → List ℕ
shown c =
    if nat_lt c 0x20 then byte "^" ∷ (c + 0x40) ∷ []
    else if c == 0x7F then codes "^?"
    else if is_printing c then c ∷ []
    else numbered c

-- what is put in the place of a character
abbrev pub instead : Rest → ℕ → List ℕ
instead Drop c = []
instead Show c = shown c

-- what is made of the characters of a run: those that are allowed where they are stay
abbrev pub made_of_run : Rest → List ℕ → List ℕ
made_of_run rest [] = []
made_of_run rest (c ∷ cs) = (if is_allowed c cs then c ∷ [] else instead rest c) ++ made_of_run rest cs

-- what is made of the characters of a piece that may not stay as it is
abbrev pub made_of : Rest → Piece → List ℕ
made_of rest (Text w) = made_of_run rest (chars w)
made_of rest p = flat_map (instead rest) (chars (spelling p))

-- the bytes that a piece becomes
abbrev pub becomes : Policy → Piece → List ℕ
becomes policy p = if may_stay policy.links p then spelling p else encode_utf8_all (made_of policy.rest p)

-- t with what each of its pieces becomes
abbrev pub cleaned : Policy → List ℕ → List ℕ
cleaned policy t = flat_map (becomes policy) (pieces_of t)

-- t made safe: what its pieces become, and then what ends what is open (own)
abbrev pub sanitized : Policy → List ℕ → List ℕ
sanitized policy t = cleaned policy t ++ ending (cleaned policy t)

-- how many bytes are made of one at most: the longest that is shown of a character of two bytes has eight
abbrev pub growth : Rest → ℕ
growth Drop = 1
growth Show = 4

-- Which plain bytes stay.

-- of each byte of these characters of a run, whether its character is allowed where it is
abbrev pub allowed_bytes : List ℕ → List Bool
allowed_bytes [] = []
allowed_bytes (c ∷ cs) = replicate (length (encode_utf8 c)) (is_allowed c cs) ++ allowed_bytes cs

-- of each plain byte of t, whether its character is allowed where it is in its run
abbrev pub allowed : List ℕ → List Bool
allowed t = flat_map (λ p. allowed_bytes (chars (plain_bytes p))) (pieces_of t)

-- the elements that are marked, if each has a mark
abbrev pub marked : {X : Type 0} → List Bool → List X → List X
marked [] xs = []
marked (b ∷ bs) [] = []
marked (b ∷ bs) (x ∷ xs) = if b then x ∷ marked bs xs else marked bs xs
