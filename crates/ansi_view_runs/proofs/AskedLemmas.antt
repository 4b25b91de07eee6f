-- The tails that words ask for are UTF-8, as the words are.
use Rattle.std.proofs.Common.{◌≡◌, ℕ, ◌+◌, ◌<◌, List, [], ◌∷◌, ◌++◌, All, true, map, subst, take, drop, fold, codes, bytes_eq, Option, Some, None, unwrap_or, refl, eqb-true, arith, get_or}
use Rattle.std.specs.Prelude.{⊤}
use Rattle.std.specs.List.{AllByRecursion, position}
use Rattle.std.specs.Option.{option_map, option_and_then, option_map_or}
use Rattle.std.specs.Str.{IsUtf8}
use Rattle.std.proofs.lemmas.Bool.{cond_both}
use Rattle.std.proofs.lemmas.List.Elements.{All-from_recursion, recursion_from_All}
use Rattle.std.proofs.lemmas.List.Quantifiers.{position-Some}
use Rattle.std.proofs.lemmas.Str.{IsUtf8-nil, IsUtf8-take, IsUtf8-drop, IsCharBoundary-before_ascii, IsCharBoundary-after_ascii}
use Rattle.ansi_lines_runs.specs.Words.{is_colon, at_colon, field_number, end_of}
use Rattle.ansi_cells.specs.declared.sides.Side.TheVariants.{End}
use Rattle.ansi_columns.specs.Edits.{Expanded, Sliced, Truncated, Padded, Fitted}
use Rattle.ansi_cells.specs.Shown.{closed_cell}
use Rattle.ansi_cells.proofs.OneLineLemmas.{clean-safe}
use Rattle.ansi_cells.proofs.TailLemmas.{shown-cell}
use Rattle.ansi_items.specs.Pieces.{pieces_of}
use Rattle.ansi_safe.specs.declared.policy.Links.{Links}
use Rattle.ansi_safe.specs.declared.policy.Links.TheVariants.{Keep, Remove}
use Rattle.ansi_safe.specs.declared.policy.Policy.{Policy}
use Rattle.ansi_safe.specs.Safe.{is_safe}
use Rattle.ansi_safe.specs.Sanitized.{sanitized}
use Rattle.ansi_safe.proofs.SafeLemmas.{sanitized-is_safe}
use Rattle.ansi_view_runs.specs.Edits.{Change, OnColumns, Wrapped, HasUtf8Tail, HasTailBy, tail_of, with_tail}
use Rattle.ansi_view_runs.specs.Views.{Work}
use Rattle.ansi_view_runs.specs.Words.{padded_to, slice_of, truncate_of, change_named, change_asked, first_work, with_word, work_named, view_asked}
use Rattle.ansi_view_runs.proofs.NoLinkLemmas.{IsBare, no_link-closed_cell}
use Rattle.ansi_view_runs.proofs.PolicyLemmas.{no_link-safe, safe-no_link}
use Rattle.ansi_view_runs.proofs.SafeViewLemmas.{sanitized-utf8, kept-all}

-- both parts of a text at a colon

abbrev BothUtf8 : Option (List ℕ × List ℕ) → Type 0
BothUtf8 None = ⊤
BothUtf8 (Some f) = IsUtf8 f.0 × IsUtf8 f.1

utf8-at_colon : (x : List ℕ) → IsUtf8 x → BothUtf8 (at_colon x)
utf8-at_colon x utf8 = by (position is_colon x) refl
  where
    by : (o : Option ℕ) → position is_colon x ≡ o → BothUtf8 (option_map (λ i. (take i x, drop (i + 1) x)) o)
    by None none = tt
    by (Some i) some =
        let at = position-Some is_colon x i 0 some in
        let colon : get_or x i 0 ≡ 58 = eqb-true (get_or x i 0) 58 at.1 in
        let ascii : get_or x i 0 < 128 = omega (arith, colon) in
        (IsUtf8-take x i utf8 (IsCharBoundary-before_ascii x i at.0 ascii), IsUtf8-drop x (i + 1) utf8 (IsCharBoundary-after_ascii x i utf8 at.0 ascii))

-- what a name asks for

abbrev HasTail : Option Change → Type 0
HasTail None = ⊤
HasTail (Some change) = HasUtf8Tail change

mapped : (f : ℕ → Change) → ((n : ℕ) → HasUtf8Tail (f n)) → (o : Option ℕ) → HasTail (option_map f o)
mapped f each None = tt
mapped f each (Some n) = each n

tail-slice : (fields : List ℕ) → HasTail (slice_of fields)
tail-slice fields = by (at_colon fields)
  where
    ended : (start : ℕ) (o : Option (Option ℕ)) → HasTail (option_map (λ end. OnColumns (Sliced start end)) o)
    ended start None = tt
    ended start (Some end) = tt

    begun : (f : List ℕ × List ℕ) (o : Option ℕ) → HasTail (option_and_then (λ start. option_map (λ end. OnColumns (Sliced start end)) (end_of f.1)) o)
    begun f None = tt
    begun f (Some start) = ended start (end_of f.1)

    by : (o : Option (List ℕ × List ℕ)) → HasTail (option_and_then (λ (f : List ℕ × List ℕ). option_and_then (λ start. option_map (λ end. OnColumns (Sliced start end)) (end_of f.1)) (field_number f.0)) o)
    by None = tt
    by (Some f) = begun f (field_number f.0)

tail-truncate : (fields : List ℕ) → IsUtf8 fields → HasTail (truncate_of fields)
tail-truncate fields utf8 = by (at_colon fields) (utf8-at_colon fields utf8)
  where
    by : (o : Option (List ℕ × List ℕ)) → BothUtf8 o → HasTail (let f = unwrap_or o (fields, []) in option_map (λ width. OnColumns (Truncated End width f.1)) (field_number f.0))
    by None both = mapped (λ width. OnColumns (Truncated End width [])) (λ n. IsUtf8-nil) (field_number fields)
    by (Some f) both = mapped (λ width. OnColumns (Truncated End width f.1)) (λ n. both.1) (field_number f.0)

tail-named : (name field : List ℕ) → IsUtf8 field → HasTail (change_named name field)
tail-named name field utf8 =
    cond_both (bytes_eq name (codes "expand")) (option_map (λ stop. OnColumns (Expanded stop)) (field_number field)) _ HasTail (λ is. mapped (λ stop. OnColumns (Expanded stop)) (λ n. tt) (field_number field)) (λ other.
    cond_both (bytes_eq name (codes "slice")) (slice_of field) _ HasTail (λ is. tail-slice field) (λ other.
    cond_both (bytes_eq name (codes "truncate")) (truncate_of field) _ HasTail (λ is. tail-truncate field utf8) (λ other.
    cond_both (bytes_eq name (codes "pad")) (option_map padded_to (field_number field)) _ HasTail (λ is. mapped padded_to (λ n. tt) (field_number field)) (λ other.
    cond_both (bytes_eq name (codes "wrap")) (option_map Wrapped (field_number field)) None HasTail (λ is. mapped Wrapped (λ n. tt) (field_number field)) (λ other. tt)))))

tail-asked : (word : List ℕ) → IsUtf8 word → HasTail (change_asked word)
tail-asked word utf8 = by (at_colon word) (utf8-at_colon word utf8)
  where
    by : (o : Option (List ℕ × List ℕ)) → BothUtf8 o → HasTail (option_and_then (λ (f : List ℕ × List ℕ). change_named f.0 f.1) o)
    by None both = tt
    by (Some f) both = tail-named f.0 f.1 both.1

-- what words ask for

abbrev HasTails : Work → Type 0
HasTails work = AllByRecursion HasUtf8Tail work.changes

one_more : (changes : List Change) (change : Change) → AllByRecursion HasUtf8Tail changes → HasUtf8Tail change → AllByRecursion HasUtf8Tail (changes ++ change ∷ [])
one_more [] change all tail = (tail, tt)
one_more (first ∷ changes) change all tail = (all.0, one_more changes change all.1 tail)

tails-word : (work : Work) (word : List ℕ) → HasTails work → IsUtf8 word → HasTails (with_word work word)
tails-word work word tails utf8 =
    cond_both (bytes_eq word (codes "show")) _ _ HasTails (λ is. tails) (λ other.
    cond_both (bytes_eq word (codes "links")) _ _ HasTails (λ is. tails) (λ other.
    cond_both (bytes_eq word (codes "plain")) _ _ HasTails (λ is. tails) (λ other. by (change_asked word) (tail-asked word utf8))))
  where
    by : (o : Option Change) → HasTail o → HasTails (option_map_or (λ change. record work { changes = work.changes ++ change ∷ [] }) o work)
    by None tail = tails
    by (Some change) tail = one_more work.changes change tails tail

tails-words : (work : Work) (words : List (List ℕ)) → HasTails work → AllByRecursion IsUtf8 words → HasTails (fold with_word work words)
tails-words work [] tails are = tails
tails-words work (word ∷ words) tails are = tails-words (with_word work word) words (tails-word work word tails are.0) are.1

tails-named : (words : List (List ℕ)) → All IsUtf8 words → HasTails (work_named words)
tails-named words are = tails-words first_work words tt (recursion_from_All IsUtf8 words are)

-- ---- and are made safe

module _ (policy : Policy) where
  abbrev safe_change : Change → Change
  safe_change change = with_tail (sanitized policy (tail_of change)) change

  utf8-safe : (change : Change) → HasUtf8Tail change → HasUtf8Tail (safe_change change)
  utf8-safe (OnColumns (Expanded stop)) tail = tt
  utf8-safe (OnColumns (Sliced start end)) tail = tt
  utf8-safe (OnColumns (Truncated side width cut)) tail = sanitized-utf8 policy cut tail
  utf8-safe (OnColumns (Padded width alignment)) tail = tt
  utf8-safe (OnColumns (Fitted width alignment cut)) tail = sanitized-utf8 policy cut tail
  utf8-safe (Wrapped width) tail = tt

  cell-safe : (cut : List ℕ) → IsUtf8 cut → is_safe policy.links (closed_cell (sanitized policy cut)) ≡ true
  cell-safe cut utf8 = by policy.links refl
    where
      by : (links : Links) → policy.links ≡ links → is_safe links (closed_cell (sanitized policy cut)) ≡ true
      by Keep is = clean-safe (shown-cell (sanitized policy cut) (sanitized-utf8 policy cut utf8)).clean
      by Remove is =
          let t = sanitized policy cut in
          let safe = sanitized-is_safe policy cut utf8 in
          let t_utf8 = sanitized-utf8 policy cut utf8 in
          let bare : IsBare t = record { utf8 = t_utf8; safe = kept-all policy.links (pieces_of t) safe; none = safe-no_link t (subst (λ links. is_safe links t ≡ true) is safe) } in
          no_link-safe (closed_cell t) (clean-safe (shown-cell t t_utf8).clean) (no_link-closed_cell t bare)

  tail-safe : (change : Change) → HasUtf8Tail change → HasTailBy policy.links (safe_change change)
  tail-safe (OnColumns (Expanded stop)) tail = tt
  tail-safe (OnColumns (Sliced start end)) tail = tt
  tail-safe (OnColumns (Truncated side width cut)) tail = cell-safe cut tail
  tail-safe (OnColumns (Padded width alignment)) tail = tt
  tail-safe (OnColumns (Fitted width alignment cut)) tail = cell-safe cut tail
  tail-safe (Wrapped width) tail = tt

  utf8-safe_all : (changes : List Change) → AllByRecursion HasUtf8Tail changes → AllByRecursion HasUtf8Tail (map safe_change changes)
  utf8-safe_all [] are = tt
  utf8-safe_all (change ∷ changes) are = (utf8-safe change are.0, utf8-safe_all changes are.1)

  tails-safe_all : (changes : List Change) → AllByRecursion HasUtf8Tail changes → AllByRecursion (HasTailBy policy.links) (map safe_change changes)
  tails-safe_all [] are = tt
  tails-safe_all (change ∷ changes) are = (tail-safe change are.0, tails-safe_all changes are.1)

pub utf8_tails-asked : (words : List (List ℕ)) → All IsUtf8 words → All HasUtf8Tail (view_asked words).changes
utf8_tails-asked words are =
    (let work = work_named words in All-from_recursion HasUtf8Tail (view_asked words).changes (utf8-safe_all work.view.policy work.changes (tails-named words are)))

pub safe_tails-asked : (words : List (List ℕ)) → All IsUtf8 words → All (HasTailBy (view_asked words).view.policy.links) (view_asked words).changes
safe_tails-asked words are =
    let work = work_named words in
    All-from_recursion (HasTailBy work.view.policy.links) (view_asked words).changes (tails-safe_all work.view.policy work.changes (tails-named words are))
