-- Examples of link sequences, and of terminators.
use Rattle.std.specs.Prelude.{◌≡◌, ℕ, List, Some, None, [], ◌++◌, replicate, codes, true, false}
use Rattle.std.proofs.Common.{refl}
use Rattle.ansi_safe.specs.Links.{address_of, opens_link, is_short_link, link_at}

pub address-by-st : address_of (codes "\u{1b}]8;;http://x\u{1b}\\") ≡ Some (codes "http://x")
address-by-st = refl

pub address-by-bel : address_of (codes "\u{1b}]8;id=1;http://y\u{7}") ≡ Some (codes "http://y")
address-by-bel = refl

pub address-empty : opens_link (codes "\u{1b}]8;;\u{1b}\\") ≡ false
address-empty = refl

pub address-osc_80 : address_of (codes "\u{1b}]80;;http://x\u{1b}\\") ≡ None
address-osc_80 = refl

pub link_at-ended : link_at (codes "\u{1b}]8;;x\u{7}a\u{1b}]8;;\u{7}b") 1 ≡ []
link_at-ended = refl

-- links of long addresses and of long parameters

abbrev linked : ℕ → ℕ → List ℕ
linked parameters address = codes "\u{1b}]8;" ++ replicate parameters 0x61 ++ codes ";" ++ replicate address 0x61 ++ codes "\u{1b}\\"

pub short-longest : is_short_link (linked 253 2083) ≡ true
short-longest = refl

pub short-address : is_short_link (linked 0 2084) ≡ false
short-address = refl

pub short-parameters : is_short_link (linked 254 1) ≡ false
short-parameters = refl

pub short-end : is_short_link (linked 0 0) ≡ true
short-end = refl
