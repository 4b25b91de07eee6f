-- What is made of a text that is safe.
use Rattle.std.proofs.Common.{not, ◌≡◌, ℕ, true, List, [], ◌∷◌, ◌++◌, flat_map, encode_utf8_all, if◌then◌else◌, refl, ◌∙◌, ap, append-nil}
use Rattle.std.specs.List.{list_all}
use Rattle.std.proofs.lemmas.Bool.{and_from, and_parts}
use Rattle.ansi_items.specs.Pieces.{Piece, Text, Sequence, LoneEscape, spelling, pieces_of}
use Rattle.ansi_items.specs.Plain.{is_lone, are_whole, is_whole}
use Rattle.ansi_items.proofs.JoinLemmas.{spelled-pieces_of}
use Rattle.ansi_safe.specs.declared.policy.Links.{Links}
use Rattle.ansi_safe.specs.declared.policy.Policy.{Policy}
use Rattle.ansi_safe.specs.Links.{ending}
use Rattle.ansi_safe.specs.Safe.{may_stay, is_safe}
use Rattle.ansi_safe.specs.Sanitized.{made_of, becomes, cleaned, sanitized}

-- A safe text is what its pieces become.

becomes-safe : (policy : Policy) (ps : List Piece) → list_all (may_stay policy.links) ps ≡ true → flat_map (becomes policy) ps ≡ flat_map spelling ps
becomes-safe policy [] safe = refl
becomes-safe policy (p ∷ ps) safe =
    let both = and_parts (may_stay policy.links p) (list_all (may_stay policy.links) ps) safe in
    ap (λ b. (if b then spelling p else encode_utf8_all (made_of policy.rest p)) ++ flat_map (becomes policy) ps) both.0 ∙ ap (λ u. spelling p ++ u) (becomes-safe policy ps both.1)

pub cleaned-safe : (policy : Policy) (t : List ℕ) → is_safe policy.links t ≡ true → cleaned policy t ≡ t
cleaned-safe policy t safe = becomes-safe policy (pieces_of t) safe ∙ spelled-pieces_of t

-- so it comes back as it is, with what ends it
pub sanitized-safe : (policy : Policy) (t : List ℕ) → is_safe policy.links t ≡ true → sanitized policy t ≡ t ++ ending t
sanitized-safe policy t safe = ap (λ u. u ++ ending u) (cleaned-safe policy t safe)

pub sanitized-closed : (policy : Policy) (t : List ℕ) → is_safe policy.links t ≡ true → ending t ≡ [] → sanitized policy t ≡ t
sanitized-closed policy t safe closed = sanitized-safe policy t safe ∙ ap (λ e. t ++ e) closed ∙ append-nil t

-- a safe text has no lone escape
whole-stays : (links : Links) (ps : List Piece) → list_all (may_stay links) ps ≡ true → are_whole ps ≡ true
whole-stays links [] safe = refl
whole-stays links (p ∷ ps) safe =
    let both = and_parts (may_stay links p) (list_all (may_stay links) ps) safe in
    and_from _ _ (by p both.0) (whole-stays links ps both.1)
  where
    by : (p : Piece) → may_stay links p ≡ true → not (is_lone p) ≡ true
    by (Text w) stays = refl
    by (Sequence w) stays = refl
    by LoneEscape stays = absurd (cc stays)

pub whole-safe : (links : Links) (t : List ℕ) → is_safe links t ≡ true → is_whole t ≡ true
whole-safe links t safe = whole-stays links (pieces_of t) safe
