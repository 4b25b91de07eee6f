-- A text has at most two columns for each of its bytes.
use Rattle.std.proofs.Common.{◌≡◌, ℕ, ◌+◌, ◌*◌, ◌<◌, ◌≤◌, inl, inr, false, List, [], ◌∷◌, length, encode_utf8, encode_utf8_all, Option, Some, None, ap, subst, arith, length-append, unwrap_or, refl, sym, append-nil}
use Rattle.std.proofs.lemmas.Bool.{cases_lt}
use Rattle.std.proofs.lemmas.Bool.Decides.{nat_tests}
use Rattle.std.proofs.lemmas.Str.{length-encode, len_utf8_bounds, encodes-chars}
use Rattle.std.specs.Str.{chars, IsUtf8}
use Rattle.unicode_width.specs.declared.kind.Kind.{Kind}
use Rattle.unicode_width.specs.declared.kind.Kind.TheVariants as kinds
use Rattle.unicode_width.specs.declared.state.After.{After}
use Rattle.unicode_width.specs.declared.state.State.{State}
use Rattle.unicode_width.specs.declared.state.Change.{Change}
use Rattle.unicode_width.specs.declared.state.Change.TheVariants.{Less, Same, One, Three}
use Rattle.unicode_width.specs.Kind.{kind}
use Rattle.unicode_width.proofs.Computing.{unicode_width}
use Rattle.unicode_width.specs.Width.{char_width, plain, single, of_kind, alone, changed, joined_or, past_selectors, in_context, past_emoji, if_kept, joins, step, read_before, str_width}

single-bound : (c : ℕ) → (single false c).0 ≤ 3
single-bound c = grind arith

of_kind-bound : (c : ℕ) (k : Kind) → (of_kind false c k).0 ≤ 3
of_kind-bound c kinds.Zero = omega arith
of_kind-bound c kinds.Narrow = omega arith
of_kind-bound c kinds.Wide = omega arith
of_kind-bound c kinds.Ambiguous = omega arith
of_kind-bound c kinds.Alef = omega arith
of_kind-bound c kinds.KhmerLetter = omega arith
of_kind-bound c kinds.TifinaghConsonant = omega arith
of_kind-bound c kinds.LisuTone = omega arith
of_kind-bound c kinds.RegionalIndicator = omega arith
of_kind-bound c kinds.EmojiModifier = omega arith
of_kind-bound c kinds.Emoji = omega arith
of_kind-bound c kinds.Single = single-bound c

alone-bound : (c : ℕ) → (alone false c).0 ≤ 3
unfolding alone
alone-bound c = of_kind-bound c (kind c)

changed-bound : (total : ℕ) (how : Change) → changed total how ≤ total + 3
changed-bound total Less = omega arith
changed-bound total Same = omega arith
changed-bound total One = omega arith
changed-bound total Three = omega arith

joined_or-bound : (total : ℕ) (join : Option (Change × After)) (own : ℕ × State) → own.0 ≤ 3 → (joined_or total join own).0 ≤ total + 3
joined_or-bound total (Some join) own bound = changed-bound total join.0
joined_or-bound total None own bound = omega (arith, bound)

past_selectors-bound : (c total : ℕ) (after : After) → (past_selectors false c total after).0 ≤ total + 3
unfolding past_selectors
past_selectors-bound c total after = grind (arith, alone-bound c, joined_or-bound total (joins false after c) (alone false c) (alone-bound c))

in_context-bound : (c total : ℕ) (s : State) → (in_context false c total s).0 ≤ total + 3
unfolding in_context
in_context-bound c total s = grind (arith, past_selectors-bound c total s.after)

past_emoji-bound : (c total : ℕ) (s : State) → (past_emoji false c total s).0 ≤ total + 3
unfolding past_emoji
past_emoji-bound c total s = grind (arith, alone-bound c, in_context-bound c total s)

past_emoji-low : (c total : ℕ) (s : State) → c ≤ 0xA0 → (past_emoji false c total s).0 ≤ total + 2
unfolding past_emoji
past_emoji-low c total s low = grind (arith, nat_tests)

step-bound : (c total : ℕ) (s : State) → (step false c (total, s)).0 ≤ total + 3
unfolding step
step-bound c total s = grind (arith, past_emoji-bound c total s, past_emoji-bound c total (record (if_kept s) { emoji = false }))

step-low : (c total : ℕ) (s : State) → c ≤ 0xA0 → (step false c (total, s)).0 ≤ total + 2
unfolding step
step-low c total s low = grind (arith, past_emoji-low c total s low, past_emoji-low c total (record (if_kept s) { emoji = false }) low)

encode_utf8-two_bytes : (c : ℕ) → 0xA0 < c → 2 ≤ length (encode_utf8 c)
encode_utf8-two_bytes c h = grind (arith, nat_tests, length-encode c)

pub read-bound : (cs : List ℕ) → (read_before false cs (0, plain)).0 ≤ 2 * length (encode_utf8_all cs)
read-bound [] = omega arith
read-bound (c ∷ cs) =
    let read = read_before false cs (0, plain) in
    let size : length (encode_utf8_all (c ∷ cs)) ≡ length (encode_utf8 c) + length (encode_utf8_all cs) = length-append (encode_utf8 c) (encode_utf8_all cs) in
    elim (cases_lt 0xA0 c) [
      | inl high ↦ omega (arith, size, read-bound cs, step-bound c read.0 read.1, encode_utf8-two_bytes c high)
      | inr low ↦ omega (arith, size, read-bound cs, step-low c read.0 read.1 low, length-encode c, (len_utf8_bounds c).0)
    ]

pub width-bound : (cs : List ℕ) → str_width false cs ≤ 2 * length (encode_utf8_all cs)
unfolding str_width
width-bound cs = read-bound cs

pub str_width-bound : (x : List ℕ) → IsUtf8 x → str_width false (chars x) ≤ 2 * length x
unfolding str_width
str_width-bound x utf8 = subst (λ n. (read_before false (chars x) (0, plain)).0 ≤ 2 * n) (ap length (encodes-chars x utf8)) (read-bound (chars x))

-- ---- a cluster of one character

width-below : (c : ℕ) → c < 0xA0 → unwrap_or (char_width false c) 1 ≡ (step false c (0, plain)).0
unfolding step past_emoji char_width
width-below c low = grind (arith, nat_tests)

width-above : (c : ℕ) → 0xA0 < c → unwrap_or (char_width false c) 1 ≡ (step false c (0, plain)).0
unfolding step past_emoji char_width
width-above c high = grind (arith, nat_tests)

width-no_break_space : unwrap_or (char_width false 0xA0) 1 ≡ (step false 0xA0 (0, plain)).0
unfolding unicode_width
width-no_break_space = refl

pub width-alone : (c : ℕ) → unwrap_or (char_width false c) 1 ≡ str_width false (c ∷ [])
unfolding str_width
width-alone c = elim (cases_lt c 0xA0) [
  | inl low ↦ width-below c low
  | inr high ↦ elim (cases_lt 0xA0 c) [
    | inl above ↦ width-above c above
    | inr least ↦ (let is : c ≡ 0xA0 = omega (arith, high, least) in subst (λ d. unwrap_or (char_width false d) 1 ≡ (step false d (0, plain)).0) (sym is) width-no_break_space)
  ]
]

pub width-alone-bound : (c : ℕ) → str_width false (c ∷ []) ≤ 2 * length (encode_utf8 c)
unfolding str_width
width-alone-bound c = subst (λ x. (read_before false (c ∷ []) (0, plain)).0 ≤ 2 * length x) (append-nil (encode_utf8 c)) (read-bound (c ∷ []))
