-- What is made of a text is safe, and leaves nothing open.
use Rattle.std.proofs.Common.{◌≡◌, ◌≢◌, ℕ, inl, inr, Bool, true, false, ◌&&◌, ◌||◌, List, [], ◌∷◌, ◌++◌, flat_map, length, codes, chars, encode_utf8, encode_utf8_all, nat_eq, arith, is_some, if◌then◌else◌, IsTrue, refl, sym, ◌∙◌, ap, ap₂, subst, append-nil}
use lib.Utf8.{scalars}
use Rattle.std.specs.List.{AllByRecursion, list_all}
use Rattle.std.specs.Str.{IsUtf8}
use Rattle.std.proofs.Math.Seq.{drop-append_seam, take-append_seam}
use Rattle.std.proofs.lemmas.Bool.{and_from, and_parts}
use Rattle.std.proofs.lemmas.Grind.{flat_map-append}
use Rattle.std.proofs.lemmas.Str.{IsUtf8-take, IsUtf8-drop, chars-append, chars-encodes, encodes-chars, scalars-chars}
use Rattle.ansi_items.specs.Bytes.{is_plain_byte}
use Rattle.ansi_items.specs.Sequences.{IsSequence, is_sgr}
use Rattle.ansi_items.specs.Pieces.{Piece, Text, Sequence, LoneEscape, spelling, StandsBefore, ArePieces, pieces_of, after_text, merged}
use Rattle.ansi_items.proofs.JoinLemmas.{spelled, AllStandAnywhere, pieces_of-spelled}
use Rattle.ansi_items.proofs.PieceLemmas.{pieces_are}
use Rattle.ansi_items.proofs.PlainLemmas.{one_text, pieces_of-bare, has_escape-bare}
use Rattle.ansi_items.proofs.ScanLemmas.{piece_ends}
use Rattle.ansi_style.specs.declared.state.rendition.Rendition.{Rendition}
use Rattle.ansi_style.specs.Rendition.{plain_style, known}
use Rattle.ansi_style.specs.Styled.{style_after, residue}
use Rattle.ansi_style.specs.Written.{close, close_codes, written}
use Rattle.ansi_style.proofs.CloseLemmas.{close_codes_clear}
use Rattle.ansi_style.proofs.ColorLemmas.{is_code_byte, sgr_parameters-written}
use Rattle.ansi_style.proofs.ReadBackLemmas.{apply_codes, close_codes_are, code_pieces, code_pieces_stand, spelled-code_pieces, style_through-codes}
use Rattle.ansi_style.proofs.SpelledLemmas.{style_after_from-spelled}
use Rattle.ansi_style.proofs.StyledLemmas.{style_through, style_through-append}
use Rattle.ansi_style.proofs.ThroughLemmas.{state_through-append, state_through-merged}
use Rattle.ansi_items.specs.Plain.{marks, has_escape}
use Rattle.ansi_safe.specs.declared.policy.Links.TheVariants.{Keep, Remove}
use Rattle.ansi_safe.specs.Links.{link_of, link_after, link_end, opens_link, ending, IsClosed}
use Rattle.ansi_safe.proofs.LinkLemmas.{link_through, link_through-codes, link_of-pieces, is_link-sgr}
use Rattle.ansi_safe.proofs.EndingLemmas.{link_end-open, close-closed}
use Rattle.ansi_safe.proofs.MadeLemmas.{sanitized-closed}
use Rattle.std.specs.Str.{byte}
use Rattle.std.proofs.lemmas.Bool.Decides.{nat_tests}
use Rattle.std.proofs.lemmas.List.Folds.{list_all-append}
use Rattle.ansi_safe.specs.declared.policy.Links.{Links}
use Rattle.ansi_safe.specs.declared.policy.Policy.{Policy}
use Rattle.ansi_safe.specs.declared.policy.Rest.{Rest}
use Rattle.ansi_safe.specs.Safe.{is_allowed, all_allowed, keeps_links, is_clean_link, may_stay, is_safe}
use Rattle.ansi_safe.specs.Sanitized.{made_of, becomes, cleaned, sanitized}
use Rattle.ansi_safe.proofs.AllowedLemmas.{AreAllowed, instead_of_all-stands, made_of_run-stands, all_allowed-append}

-- The pieces of a UTF-8 text are UTF-8.

pub piece_and_rest : (p : Piece) (rest : List ℕ) → StandsBefore p rest → IsUtf8 (spelling p ++ rest) → IsUtf8 (spelling p) × IsUtf8 rest
piece_and_rest p rest stands utf8 =
    let t = spelling p ++ rest in
    let n = length (spelling p) in
    let ends = piece_ends t p rest utf8 refl stands in (
      subst IsUtf8 (take-append_seam (spelling p) rest) (IsUtf8-take t n utf8 ends),
      subst IsUtf8 (drop-append_seam (spelling p) rest) (IsUtf8-drop t n utf8 ends),
    )

-- A piece is good if it may stay, and may come before anything.

abbrev pub IsGood : Links → Piece → Type 0
IsGood links (Text w) = (w ≢ []) × IsTrue (list_all is_plain_byte w) × IsUtf8 w × (all_allowed (chars w) ≡ true)
IsGood links (Sequence w) = IsSequence w × (may_stay links (Sequence w) ≡ true)
IsGood links LoneEscape = ⊥

abbrev pub AreGood : Links → List Piece → Type 0
AreGood links ps = AllByRecursion (IsGood links) ps

pub AreGood-append : (links : Links) (ps qs : List Piece) → AreGood links ps → AreGood links qs → AreGood links (ps ++ qs)
AreGood-append links [] qs first second = second
AreGood-append links (p ∷ ps) qs first second = (first.0, AreGood-append links ps qs first.1 second)

pub good_stand : (links : Links) (ps : List Piece) → AreGood links ps → AllStandAnywhere ps
good_stand links [] good = tt
good_stand links (Text w ∷ ps) good = ((good.0.0, good.0.1), good_stand links ps good.1)
good_stand links (Sequence w ∷ ps) good = (good.0.0, good_stand links ps good.1)
good_stand links (LoneEscape ∷ ps) good = absurd good.0

-- texts that touch may be joined
may_stay-after_text : (links : Links) (w : List ℕ) (ps : List Piece) → IsUtf8 w → all_allowed (chars w) ≡ true → list_all (may_stay links) ps ≡ true → list_all (may_stay links) (after_text w ps) ≡ true
may_stay-after_text links w (Text v ∷ ps) utf8 stands all =
    let both = and_parts (may_stay links (Text v)) (list_all (may_stay links) ps) all in
    and_from _ _ (ap all_allowed (chars-append w v utf8) ∙ all_allowed-append (chars w) (chars v) stands both.0) both.1
may_stay-after_text links w [] utf8 stands all = and_from _ _ stands all
may_stay-after_text links w (Sequence v ∷ ps) utf8 stands all = and_from _ _ stands all
may_stay-after_text links w (LoneEscape ∷ ps) utf8 stands all = and_from _ _ stands all

merged-may_stay : (links : Links) (ps : List Piece) → AreGood links ps → list_all (may_stay links) (merged ps) ≡ true
merged-may_stay links [] good = refl
merged-may_stay links (Text w ∷ ps) good = may_stay-after_text links w (merged ps) good.0.2 good.0.3 (merged-may_stay links ps good.1)
merged-may_stay links (Sequence w ∷ ps) good = and_from _ _ good.0.1 (merged-may_stay links ps good.1)
merged-may_stay links (LoneEscape ∷ ps) good = absurd good.0

-- so what good pieces spell is safe
pub good_are_safe : (links : Links) (ps : List Piece) → AreGood links ps → is_safe links (spelled ps) ≡ true
good_are_safe links ps good = ap (list_all (may_stay links)) (pieces_of-spelled ps (good_stand links ps good)) ∙ merged-may_stay links ps good

-- What a piece becomes, as good pieces.

no_escape : (c : ℕ) (cs : List ℕ) → is_allowed c cs ≡ true → c ≢ 0x1B
no_escape c cs here = λ is. (let never : is_allowed 0x1B cs ≡ true = subst (λ x. is_allowed x cs ≡ true) is here in cc never)

encode-plain : (c : ℕ) → c ≢ 0x1B → list_all is_plain_byte (encode_utf8 c) ≡ true
unfolding lib.Utf8.encode
encode-plain c other = grind (arith, nat_tests)

standing-plain : (cs : List ℕ) → all_allowed cs ≡ true → list_all is_plain_byte (encode_utf8_all cs) ≡ true
standing-plain [] stand = refl
standing-plain (c ∷ cs) stand =
    let both = and_parts (is_allowed c cs) (all_allowed cs) stand in
    list_all-append is_plain_byte (encode_utf8 c) (encode_utf8_all cs) ∙ and_from _ _ (encode-plain c (no_escape c cs both.0)) (standing-plain cs both.1)

-- so a text of such characters has no sequence, and is safe

pub allowed-bare : (t : List ℕ) → IsUtf8 t → all_allowed (chars t) ≡ true → has_escape t ≡ false
allowed-bare t utf8 all = has_escape-bare t (ap (list_all is_plain_byte) (sym (encodes-chars t utf8)) ∙ standing-plain (chars t) all)

pub allowed-is_safe : (links : Links) (t : List ℕ) → IsUtf8 t → all_allowed (chars t) ≡ true → is_safe links t ≡ true
allowed-is_safe links t utf8 all = ap (list_all (may_stay links)) (pieces_of-bare t (allowed-bare t utf8 all)) ∙ by t all
  where
    by : (t : List ℕ) → all_allowed (chars t) ≡ true → list_all (may_stay links) (one_text t) ≡ true
    by [] all = refl
    by (b ∷ bs) all = and_from _ _ all refl

-- characters that are allowed are one good text, or nothing
pub good_text : (links : Links) (cs : List ℕ) → AreAllowed cs → AreGood links (one_text (encode_utf8_all cs))
good_text links cs are = by (encode_utf8_all cs) refl
  where
    by : (w : List ℕ) → encode_utf8_all cs ≡ w → AreGood links (one_text w)
    by [] is = tt
    by (b ∷ bs) is =
        let filled : (b ∷ bs) ≢ [] = λ e. cc in
        let plain = subst (λ w. list_all is_plain_byte w ≡ true) is (standing-plain cs are.stand) in
        let stands = ap all_allowed (ap chars (sym is) ∙ chars-encodes cs are.scalar) ∙ are.stand in
        ((filled, plain, (cs, (are.scalar, is)), stands), tt)

pub spelled-one_text : (w : List ℕ) → spelled (one_text w) ≡ w
spelled-one_text [] = refl
spelled-one_text (b ∷ bs) = append-nil (b ∷ bs)

abbrev pub left : Policy → Piece → List Piece
left policy p = if may_stay policy.links p then p ∷ [] else one_text (encode_utf8_all (made_of policy.rest p))

spelled-left : (policy : Policy) (p : Piece) → spelled (left policy p) ≡ becomes policy p
spelled-left policy p = by (may_stay policy.links p)
  where
    by : (b : Bool) → spelled (if b then p ∷ [] else one_text (encode_utf8_all (made_of policy.rest p))) ≡ (if b then spelling p else encode_utf8_all (made_of policy.rest p))
    by true = append-nil (spelling p)
    by false = spelled-one_text (encode_utf8_all (made_of policy.rest p))

made_of-stands : (rest : Rest) (p : Piece) → IsUtf8 (spelling p) → AreAllowed (made_of rest p)
made_of-stands rest (Text w) utf8 = made_of_run-stands rest (chars w) (scalars-chars w utf8)
made_of-stands rest (Sequence w) utf8 = instead_of_all-stands rest (chars w) (scalars-chars w utf8)
made_of-stands rest LoneEscape utf8 = instead_of_all-stands rest (chars (spelling LoneEscape)) (scalars-chars (spelling LoneEscape) utf8)

pub stays-good : (links : Links) (p : Piece) (rest : List ℕ) → StandsBefore p rest → IsUtf8 (spelling p) → may_stay links p ≡ true → IsGood links p
stays-good links (Text w) rest stands utf8 stays = (stands.0, stands.1, utf8, stays)
stays-good links (Sequence w) rest stands utf8 stays = (stands, stays)
stays-good links LoneEscape rest stands utf8 stays = absurd (cc stays)

left-good : (policy : Policy) (p : Piece) (rest : List ℕ) → StandsBefore p rest → IsUtf8 (spelling p) → AreGood policy.links (left policy p)
left-good policy p rest stands utf8 = by (may_stay policy.links p) refl
  where
    by : (b : Bool) → may_stay policy.links p ≡ b → AreGood policy.links (if b then p ∷ [] else one_text (encode_utf8_all (made_of policy.rest p)))
    by true stays = (stays-good policy.links p rest stands utf8 stays, tt)
    by false goes = good_text policy.links (made_of policy.rest p) (made_of-stands policy.rest p utf8)

-- the pieces of what the pieces of t become, before texts that touch are joined
abbrev pub cleaned_pieces : Policy → List ℕ → List Piece
cleaned_pieces policy t = flat_map (left policy) (pieces_of t)

spelled-lefts : (policy : Policy) (ps : List Piece) → spelled (flat_map (left policy) ps) ≡ flat_map (becomes policy) ps
spelled-lefts policy [] = refl
spelled-lefts policy (p ∷ ps) = flat_map-append spelling (left policy p) (flat_map (left policy) ps) ∙ ap₂ ◌++◌ (spelled-left policy p) (spelled-lefts policy ps)

pub spelled-cleaned_pieces : (policy : Policy) (t : List ℕ) → spelled (cleaned_pieces policy t) ≡ cleaned policy t
spelled-cleaned_pieces policy t = spelled-lefts policy (pieces_of t)

lefts-good : (policy : Policy) (t : List ℕ) (ps : List Piece) → ArePieces t ps → IsUtf8 t → AreGood policy.links (flat_map (left policy) ps)
lefts-good policy t [] are utf8 = tt
lefts-good policy t (p ∷ ps) are utf8 =
    let both = piece_and_rest p are.0 are.2 (subst IsUtf8 are.1 utf8) in
    AreGood-append policy.links (left policy p) (flat_map (left policy) ps) (left-good policy p are.0 are.2 both.0) (lefts-good policy are.0 ps are.3 both.1)

pub cleaned-good : (policy : Policy) (t : List ℕ) → IsUtf8 t → AreGood policy.links (cleaned_pieces policy t)
cleaned-good policy t utf8 = lefts-good policy t (pieces_of t) (pieces_are t) utf8

-- What ends what is open, as good pieces.

abbrev pub link_end_pieces : List ℕ → List Piece
link_end_pieces [] = []
link_end_pieces (b ∷ link) = Sequence (codes "\u{1b}]8;;\u{1b}\\") ∷ []

abbrev pub ending_pieces : List ℕ → List Piece
ending_pieces t = link_end_pieces (link_of (marks t)) ++ code_pieces (close_codes (style_after t))

spelled-link_end_pieces : (link : List ℕ) → spelled (link_end_pieces link) ≡ link_end link
spelled-link_end_pieces [] = refl
spelled-link_end_pieces (b ∷ link) = (let some : nat_eq (length (b ∷ link)) 0 ≡ false = grind (arith, nat_tests) in sym (link_end-open (b ∷ link) some))

pub spelled-ending_pieces : (t : List ℕ) → spelled (ending_pieces t) ≡ ending t
spelled-ending_pieces t =
    flat_map-append spelling (link_end_pieces (link_of (marks t))) (code_pieces (close_codes (style_after t)))
    ∙ ap₂ ◌++◌ (spelled-link_end_pieces (link_of (marks t))) (spelled-code_pieces (close_codes (style_after t)))

codes-good : (links : Links) (xs : List (List ℕ)) → list_all (list_all is_code_byte) xs ≡ true → AllStandAnywhere (code_pieces xs) → AreGood links (code_pieces xs)
codes-good links [] each stand = tt
codes-good links (x ∷ xs) each stand =
    let both = and_parts (list_all is_code_byte x) (list_all (list_all is_code_byte) xs) each in
    let sgr : is_sgr (written x) ≡ true = ap is_some (sgr_parameters-written x both.0) in
    ((stand.0, ap (λ b. b || (keeps_links links && is_clean_link (written x))) sgr), codes-good links xs both.1 stand.1)

link_end_is_sequence : IsSequence (codes "\u{1b}]8;;\u{1b}\\")
link_end_is_sequence = inr (inl (record { opener = byte "]"; body = codes "8;;"; terminator = codes "\u{1b}\\"; spelled = refl; opens = refl; is_body = refl; ends = inl refl }))

-- a link is open only if links are kept
abbrev OpensIf : Links → List ℕ → Type 0
OpensIf links link = keeps_links links ≡ false → link ≡ []

link_end-good : (links : Links) (link : List ℕ) → OpensIf links link → AreGood links (link_end_pieces link)
link_end-good links [] opens = tt
link_end-good Keep (b ∷ link) opens = ((link_end_is_sequence, refl), tt)
link_end-good Remove (b ∷ link) opens = absurd (cc (opens refl))

link_through-good : (links : Links) (ps : List Piece) → keeps_links links ≡ false → AreGood links ps → link_through [] ps ≡ []
link_through-good links [] removes good = refl
link_through-good links (Text w ∷ ps) removes good = link_through-good links ps removes good.1
link_through-good links (Sequence w ∷ ps) removes good =
    let sgr : is_sgr w ≡ true = sym (or_false_right (is_sgr w) _ (ap (λ b. b && is_clean_link w) removes)) ∙ good.0.1 in
    ap (λ b. link_through (if b then (if opens_link w then w else []) else []) ps) (is_link-sgr w sgr) ∙ link_through-good links ps removes good.1
  where
    or_false_right : (x y : Bool) → y ≡ false → (x || y) ≡ x
    or_false_right true y none = refl
    or_false_right false y none = none
link_through-good links (LoneEscape ∷ ps) removes good = absurd good.0

link_of-spelled : (ps : List Piece) → AllStandAnywhere ps → link_of (marks (spelled ps)) ≡ link_through [] ps
link_of-spelled ps stand = link_of-pieces (pieces_of (spelled ps)) ∙ ap (link_through []) (pieces_of-spelled ps stand) ∙ state_through-merged link_after [] ps

-- ---- a text that good pieces spell, with what ends it

abbrev pub ended_pieces : List Piece → List Piece
ended_pieces ps = ps ++ ending_pieces (spelled ps)

pub spelled-ended_pieces : (ps : List Piece) → spelled (ended_pieces ps) ≡ spelled ps ++ ending (spelled ps)
spelled-ended_pieces ps = flat_map-append spelling ps (ending_pieces (spelled ps)) ∙ ap (λ v. spelled ps ++ v) (spelled-ending_pieces (spelled ps))

pub ended-good : (links : Links) (ps : List Piece) → AreGood links ps → AreGood links (ended_pieces ps)
ended-good links ps good =
    let link = link_of (marks (spelled ps)) in
    let style = style_after (spelled ps) in
    let are = close_codes_are style in
    let opens : OpensIf links link = λ removes. link_of-spelled ps (good_stand links ps good) ∙ link_through-good links ps removes good in
    AreGood-append links ps (ending_pieces (spelled ps)) good
    (AreGood-append links (link_end_pieces link) (code_pieces (close_codes style)) (link_end-good links link opens) (codes-good links (close_codes style) are.each (code_pieces_stand (close_codes style) are)))

module _ (links : Links) (ps : List Piece) (good : AreGood links ps) where
  abbrev u : List ℕ
  u = spelled ps

  abbrev all : List Piece
  all = ended_pieces ps

  spelled-all : spelled all ≡ u ++ ending u
  spelled-all = spelled-ended_pieces ps

  all-good : AreGood links all
  all-good = ended-good links ps good

  pub ended-safe : is_safe links (u ++ ending u) ≡ true
  ended-safe = ap (is_safe links) (sym spelled-all) ∙ good_are_safe links all all-good

  -- its style
  style_through-link_end : (s : Rendition) (link : List ℕ) → style_through s (link_end_pieces link) ≡ s
  style_through-link_end s [] = refl
  style_through-link_end s (b ∷ link) = refl

  pub style_after-ended : style_after (u ++ ending u) ≡ apply_codes (style_after u) (close_codes (style_after u))
  style_after-ended =
      let s = style_after u in
      let link = link_of (marks u) in
      ap style_after (sym spelled-all) ∙ style_after_from-spelled plain_style all (good_stand links all all-good) ∙ style_through-append plain_style ps (ending_pieces u)
      ∙ ap (λ q. style_through q (ending_pieces u)) (sym (style_after_from-spelled plain_style ps (good_stand links ps good)))
      ∙ style_through-append s (link_end_pieces link) (code_pieces (close_codes s)) ∙ ap (λ q. style_through q (code_pieces (close_codes s))) (style_through-link_end s link)
      ∙ style_through-codes s (close_codes s)

  -- its link
  link_through-link_end : (link : List ℕ) → link_through link (link_end_pieces link) ≡ []
  link_through-link_end [] = refl
  link_through-link_end (b ∷ link) = refl

  pub link_of-ended : link_of (marks (u ++ ending u)) ≡ []
  link_of-ended =
      let s = style_after u in
      let link = link_of (marks u) in
      ap (λ t. link_of (marks t)) (sym spelled-all) ∙ link_of-spelled all (good_stand links all all-good) ∙ state_through-append link_after [] ps (ending_pieces u)
      ∙ ap (λ l. link_through l (ending_pieces u)) (sym (link_of-spelled ps (good_stand links ps good)))
      ∙ state_through-append link_after link (link_end_pieces link) (code_pieces (close_codes s)) ∙ ap (λ l. link_through l (code_pieces (close_codes s))) (link_through-link_end link)
      ∙ link_through-codes [] (close_codes s)

  pub ending-ended : ending (u ++ ending u) ≡ []
  ending-ended = ap₂ (λ l s. link_end l ++ close s) link_of-ended style_after-ended ∙ close-closed (style_after u)

  pub residue-ended : residue (u ++ ending u) ≡ plain_style
  residue-ended = ap known style_after-ended ∙ close_codes_clear (style_after u) (style_after u) refl

-- ---- what is made of a text

pub sanitized-is_safe : (policy : Policy) (t : List ℕ) → IsUtf8 t → is_safe policy.links (sanitized policy t) ≡ true
sanitized-is_safe policy t utf8 = subst (λ v. is_safe policy.links (v ++ ending v) ≡ true) (spelled-cleaned_pieces policy t) (ended-safe policy.links (cleaned_pieces policy t) (cleaned-good policy t utf8))

pub ending-sanitized : (policy : Policy) (t : List ℕ) → IsUtf8 t → ending (sanitized policy t) ≡ []
ending-sanitized policy t utf8 = subst (λ v. ending (v ++ ending v) ≡ []) (spelled-cleaned_pieces policy t) (ending-ended policy.links (cleaned_pieces policy t) (cleaned-good policy t utf8))

pub sanitized-is_closed : (policy : Policy) (t : List ℕ) → IsUtf8 t → IsClosed (sanitized policy t)
sanitized-is_closed policy t utf8 = subst (λ v. IsClosed (v ++ ending v)) (spelled-cleaned_pieces policy t) (record {
  style = residue-ended policy.links (cleaned_pieces policy t) (cleaned-good policy t utf8);
  link = link_of-ended policy.links (cleaned_pieces policy t) (cleaned-good policy t utf8);
})

-- it comes back unchanged
pub sanitized-again : (policy : Policy) (t : List ℕ) → IsUtf8 t → sanitized policy (sanitized policy t) ≡ sanitized policy t
sanitized-again policy t utf8 = sanitized-closed policy (sanitized policy t) (sanitized-is_safe policy t utf8) (ending-sanitized policy t utf8)
