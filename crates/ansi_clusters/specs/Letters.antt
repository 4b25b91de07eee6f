-- Letters that are clusters of one column beside each other, and ideographs. No public contract cites it.
use Rattle.std.specs.Prelude.{◌≡◌, ◌≢◌, ℕ, ◌+◌, ◌-◌, ◌≤◌, ◌==◌, ◌&&◌, ◌||◌, Bool, false, List, [], ◌∷◌, ◌++◌, take, chars, nat_lt, nat_le, encode_utf8, encode_utf8_all, IsTrue}
use Rattle.std.specs.Int.{is_in_range}
use Rattle.std.specs.List.{list_all}
use Rattle.std.specs.Str.{byte, IsCharBoundary}
use Rattle.ansi_clusters.specs.BreakStates.{IsShownSingle}

-- a character of printable ASCII, or a letter or mark of U+00C0 to U+02FF or of U+0380 to U+047F
abbrev pub is_letter : ℕ → Bool
is_letter c = is_in_range 0x20 0x7E c || (is_in_range 0xC0 0x2FF c || is_in_range 0x380 0x47F c)

-- a byte of them: printable ASCII, a further byte of a character, or the first byte of a letter (UTF-8)
abbrev pub is_letter_byte : ℕ → Bool
is_letter_byte b = is_in_range 0x20 0x7E b || (is_in_range 0x80 0xBF b || (is_in_range 0xC3 0xCB b || is_in_range 0xCE 0xD1 b))

-- the byte is the first of a character (UTF-8)
abbrev pub is_first_byte : ℕ → Bool
is_first_byte b = nat_lt b 0x80 || nat_le 0xC0 b

-- a mark or a bracket of U+3001 to U+3029, a kana, or a character of U+3400 to U+9FFF, as ideographs are
abbrev pub is_wide : ℕ → Bool
is_wide c = is_in_range 0x3001 0x3029 c || (is_in_range 0x3041 0x3096 c || (is_in_range 0x30A0 0x30FF c || is_in_range 0x3400 0x9FFF c))

-- three bytes are such a character (UTF-8)
abbrev pub are_wide_bytes : ℕ → ℕ → ℕ → Bool
are_wide_bytes a b c =
    is_in_range 0xE4 0xE9 a
    || (a == 0xE3 && ((b == 0x83 || is_in_range 0x90 0xBF b) || ((b == 0x80 && is_in_range 0x81 0xA9 c) || ((b == 0x81 && nat_le 0x81 c) || (b == 0x82 && (nat_le c 0x96 || nat_le 0xA0 c))))))

-- the text begins with letters, which have these bytes, and with another one after them
pub record AreLettersBefore (t front : List ℕ) : Type 0 where
  pub letters : List ℕ
  pub last : ℕ
  pub more : List ℕ
  pub all : IsTrue (list_all is_letter letters)
  pub last_is : IsTrue (is_letter last)
  pub front_is : front ≡ encode_utf8_all letters
  pub bytes : t ≡ front ++ (encode_utf8 last ++ more)

-- a single character that is no Hangul syllable: the state after it is that after nothing
pub record IsPlainSingle (c columns : ℕ) : Type 0 where
  pub shown : IsShownSingle c columns
  pub elsewhere : is_in_range 0xAC00 0xD7A3 c ≡ false

-- such characters, with this number of columns together
abbrev pub ArePlain : List ℕ → ℕ → Type 0
ArePlain [] columns = columns ≡ 0
ArePlain (c ∷ cs) columns = (width : ℕ) × (more : ℕ) × IsPlainSingle c width × ArePlain cs more × (columns ≡ width + more)

-- the first n bytes of the text are such characters, which have this number of columns together
pub record IsPlainFront (t : List ℕ) (n columns : ℕ) : Type 0 where
  pub boundary : IsCharBoundary t n
  pub plain : ArePlain (chars (take n t)) columns

-- the text begins with such characters, which have these bytes and columns, and with another one after them
pub record ArePlainBefore (t front : List ℕ) (columns : ℕ) : Type 0 where
  pub singles : List ℕ
  pub last : ℕ
  pub width : ℕ
  pub more : List ℕ
  pub all : ArePlain singles columns
  pub last_is : IsPlainSingle last width
  pub front_is : front ≡ encode_utf8_all singles
  pub bytes : t ≡ front ++ (encode_utf8 last ++ more)

-- the same, if none of them is a blank
abbrev pub AreWide : List ℕ → ℕ → Type 0
AreWide [] columns = columns ≡ 0
AreWide (c ∷ cs) columns = (width : ℕ) × (more : ℕ) × IsPlainSingle c width × (c ≢ byte " ") × AreWide cs more × (columns ≡ width + more)

pub record AreWideBefore (t front : List ℕ) (columns : ℕ) : Type 0 where
  pub singles : List ℕ
  pub last : ℕ
  pub width : ℕ
  pub more : List ℕ
  pub all : AreWide singles columns
  pub last_is : IsPlainSingle last width
  pub front_is : front ≡ encode_utf8_all singles
  pub bytes : t ≡ front ++ (encode_utf8 last ++ more)

-- the first n bytes of the text are such characters, the last of which has three bytes and two columns
pub record IsWideFront (t : List ℕ) (n columns : ℕ) : Type 0 where
  pub size : 3 ≤ n
  pub wide : 2 ≤ columns
  pub before : AreWideBefore t (take (n - 3) t) (columns - 2)
