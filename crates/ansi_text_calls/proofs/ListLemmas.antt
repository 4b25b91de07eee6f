-- Texts that are concatenated in turn, and an entry for each; the parts and the block of a text without ESC.
use Rattle.std.proofs.Common.{◌≡◌, ◌∙◌, ℕ, ◌+◌, ◌≤◌, ◌==◌, List, [], ◌∷◌, ◌++◌, length, drop, Some, Result, Ok, Err, Bool, IsTrue, inl, inr, string_bytes, refl, sym, ap, subst, arith, append_assoc, append-nil, length-append, length-take, length-drop, ◌-◌, slice_range, false, if◌then◌else◌}
use Rattle.std.specs.Prelude.{flat_map, IsFalse, MatchResult, IfOk, String, Vec}
use Rattle.std.proofs.lemmas.Bool.{ne_eqb}
use Rattle.std.proofs.lemmas.List.{length-map}
use Rattle.ansi_items.proofs.PlainLemmas.{pieces_of-bare, one_text}
use Rattle.ansi_blocks.proofs.BlockLemmas.{blocks_from-walked, blocks_through}
use Rattle.ansi_str.specs.Plain.{has_escape}
use Rattle.ansi_str.specs.Rendition.{plain_style}
use Rattle.ansi_str.specs.StdSplit.{AreInTurn, slices_over}
use Rattle.std.proofs.lemmas.List.Concat.{flat_map-cons}
use Rattle.ansi_str.specs.Blocks.{Block, GivesBlock, blocks}
use Rattle.ansi_str.specs.Parts.{parts, all_parts}
use Rattle.ansi_text_calls.specs.declared.lists.ListAnswer.{ListAnswer}
use Rattle.ansi_text_calls.specs.Answers.{out_of_memory}
use Rattle.ansi_text_calls.specs.Lists.{ends_from, AreEntries, whole_block, AreWritten, HaveFailed, GivesAllWith}

-- a block was taken off those that were left
pub block-taken : {E : Type 0} {xs us : List Block} {r : Result Block E} {x : Block} → GivesBlock xs (Some r) us → r ≡ Ok x → xs ≡ x ∷ us
block-taken {E} {xs} {us} gives is = subst (λ r. GivesBlock {E = E} xs (Some r) us) is gives

-- one more text is joined
pub texts-more : {X : Type 0} (text : X → List ℕ) (so_far after added all : List ℕ) (x : X) (left next : List X)
    → left ≡ x ∷ next → after ≡ so_far ++ added → added ≡ text x → so_far ++ flat_map text left ≡ all → after ++ flat_map text next ≡ all
texts-more text so_far after added all x left next is more adds joined =
    let rest = flat_map text next in
    ap (λ u. u ++ rest) more ∙ append_assoc so_far added rest ∙ ap (λ u. so_far ++ (u ++ rest)) adds
    ∙ ap (λ u. so_far ++ u) (sym (flat_map-cons text x next)) ∙ ap (λ xs. so_far ++ flat_map text xs) (sym is) ∙ joined

-- and it ends after those before it
pub length-joined : (so_far added after : List ℕ) → after ≡ so_far ++ added → length after ≡ length so_far + length added
length-joined so_far added after more = ap length more ∙ length-append so_far added

-- and its entry
pub entries-more : {X T : Type 0} (text : X → List ℕ) (IsEntry : ℕ → ℕ → X → T → Type 0) (so_far after : List ℕ) (entries more : List T) (e : T) (x : X) (left next all : List X)
    → left ≡ x ∷ next → length after ≡ length so_far + length (text x) → more ≡ entries ++ e ∷ [] → IsEntry (length so_far) (length after) x e
    → ((es : List T) → AreEntries text IsEntry (length so_far) left es → AreEntries text IsEntry 0 all (entries ++ es))
    → (es : List T) → AreEntries text IsEntry (length after) next es → AreEntries text IsEntry 0 all (more ++ es)
entries-more text IsEntry so_far after entries more e x left next all is ends one_more right listed es are =
    let first : AreEntries text IsEntry (length so_far) (x ∷ next) (e ∷ es)
    = subst (λ n. IsEntry (length so_far) n x e × AreEntries text IsEntry n next es) ends (right, are) in
    subst (AreEntries text IsEntry 0 all) (sym (append_assoc entries (e ∷ []) es) ∙ ap (λ u. u ++ es) (sym one_more))
    (listed (e ∷ es) (subst (λ xs. AreEntries text IsEntry (length so_far) xs (e ∷ es)) (sym is) first))

-- if none is left, there is an entry for each
pub entries-all : {X T : Type 0} (text : X → List ℕ) (IsEntry : ℕ → ℕ → X → T → Type 0) (so_far : List ℕ) (entries : List T) (left all : List X)
    → left ≡ [] → ((es : List T) → AreEntries text IsEntry (length so_far) left es → AreEntries text IsEntry 0 all (entries ++ es))
    → AreEntries text IsEntry 0 all entries
entries-all text IsEntry so_far entries left all none listed =
    subst (AreEntries text IsEntry 0 all) (append-nil entries) (listed [] (subst (λ xs. AreEntries text IsEntry (length so_far) xs []) (sym none) tt))

-- a text is inserted between the text before it and the text after it
pub around-more : (so_far a b after before text end : List ℕ) → a ≡ so_far ++ before → b ≡ a ++ text → after ≡ b ++ end → after ≡ so_far ++ (before ++ text ++ end)
around-more so_far a b after before text end begun more ended =
    ended ∙ ap (λ u. u ++ end) (more ∙ ap (λ u. u ++ text) begun ∙ append_assoc so_far before text) ∙ append_assoc so_far (before ++ text) end

-- there is an end for each
pub length-ends_from : (n : ℕ) (ts : List (List ℕ)) → length (ends_from n ts) ≡ length ts
length-ends_from n [] = refl
length-ends_from n (t ∷ ts) = omega (arith, length-ends_from (n + length t) ts)

-- consecutive intervals after the place e have at most as many bytes as the text after e
pub length-slices_over : (x : List ℕ) (e : ℕ) (is : List (ℕ × ℕ)) → AreInTurn x e is → length (flat_map (λ u. u) (slices_over x is)) ≤ length x - e
length-slices_over x e [] turn = omega arith
length-slices_over x e (i ∷ is) turn =
    omega (
      arith,
      turn.0,
      turn.1,
      length-slices_over x i.1 is turn.4,
      length-append (slice_range x i.0 i.1) (flat_map (λ u. u) (slices_over x is)),
      length-take (i.1 - i.0) (drop i.0 x),
      length-drop i.0 x,
    )

-- what is joined is written, or the call runs out of memory
pub Gives-joined : {T A E : Type 0} (takes_memory : Bool) (bytes : List ℕ) (AreRight : List T → Type 0) (joined : Result (String A × Vec T A) E) (answer : ListAnswer) (old new : List ℕ) (old_entries new_entries : List T)
    → IsTrue takes_memory → IfOk joined (λ j. string_bytes j.0 ≡ bytes) → IfOk joined (λ j. AreRight j.1.items)
    → MatchResult joined (λ j. AreWritten (string_bytes j.0) j.1.items answer old new old_entries new_entries) (λ e. HaveFailed out_of_memory answer old new old_entries new_entries)
    → GivesAllWith takes_memory bytes AreRight answer old new old_entries new_entries
Gives-joined takes_memory bytes AreRight (Ok j) answer old new old_entries new_entries takes texts right written =
    inl (j.1.items, right, subst (λ u. AreWritten u j.1.items answer old new old_entries new_entries) texts written)
Gives-joined takes_memory bytes AreRight (Err e) answer old new old_entries new_entries takes texts right written = inr (takes, written)

-- A text without ESC is one block; an empty text has no block.
-- what is written of it is written of its blocks
pub one_block_written : {T : Type 0} (text : Block → List ℕ) (IsEntry : ℕ → ℕ → Block → T → Type 0) (only : T) (t : List ℕ) (answer : ListAnswer) (old new : List ℕ) (old_entries new_entries : List T)
    → IsFalse (has_escape t) → text (whole_block t) ≡ t → IsEntry 0 (length t) (whole_block t) only
    → AreWritten t (if length t == 0 then [] else only ∷ []) answer old new old_entries new_entries
    → GivesAllWith (has_escape t) (flat_map text (blocks t)) (AreEntries text IsEntry 0 (blocks t)) answer old new old_entries new_entries
one_block_written {T} text IsEntry only t answer old new old_entries new_entries none same is written =
    let one : blocks t ≡ blocks_through plain_style [] (one_text t) = blocks_from-walked plain_style t ∙ ap (blocks_through plain_style []) (pieces_of-bare t none) in
    inl (subst (λ (bs : List Block). (entries : List T) × AreEntries text IsEntry 0 bs entries × AreWritten (flat_map text bs) entries answer old new old_entries new_entries)
    (sym one) (by_text t same is written))
  where
    by_text : (t : List ℕ) → text (whole_block t) ≡ t → IsEntry 0 (length t) (whole_block t) only
        → AreWritten t (if length t == 0 then [] else only ∷ []) answer old new old_entries new_entries
        → (entries : List T) × AreEntries text IsEntry 0 (blocks_through plain_style [] (one_text t)) entries
        × AreWritten (flat_map text (blocks_through plain_style [] (one_text t))) entries answer old new old_entries new_entries
    by_text [] same is written = ([], tt, written)
    by_text (b ∷ w) same is written =
        let filled : (length (b ∷ w) == 0) ≡ false = ne_eqb (length (b ∷ w)) 0 (λ e. omega (arith, e)) in
        let bytes : text (whole_block (b ∷ w)) ++ [] ≡ b ∷ w = append-nil (text (whole_block (b ∷ w))) ∙ same in
        let end : length (b ∷ w) ≡ 0 + length (text (whole_block (b ∷ w))) = omega (arith, ap length same) in (
          only ∷ [],
          (subst (λ n. IsEntry 0 n (whole_block (b ∷ w)) only) end is, tt),
          subst (λ u. AreWritten u (only ∷ []) answer old new old_entries new_entries) (sym bytes)
              (subst (λ c. AreWritten (b ∷ w) (if c then [] else only ∷ []) answer old new old_entries new_entries) filled written),
        )

-- the parts of a text without ESC have no more bytes than it
pub length-bare_parts : (t p : List ℕ) → all_parts t p ≡ slices_over t (parts t p) → AreInTurn t 0 (parts t p) → length (flat_map (λ u. u) (all_parts t p)) ≤ length t
length-bare_parts t p are turn = omega (arith, ap (λ us. length (flat_map (λ u. u) us)) are, length-slices_over t 0 (parts t p) turn)

-- and there are at most two more than it has bytes
pub few-bare_parts : (t p : List ℕ) → all_parts t p ≡ slices_over t (parts t p) → length (parts t p) ≤ length t + 2 → length (all_parts t p) ≤ length t + 2
few-bare_parts t p are few = omega (arith, few, ap length are, length-map (parts t p) (λ (i : ℕ × ℕ). slice_range t i.0 i.1))
