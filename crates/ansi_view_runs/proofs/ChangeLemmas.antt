-- What changes make of a safe text is safe, and closed.
use Rattle.std.proofs.Common.{◌≡◌, ℕ, true, false, List, [], ◌∷◌, ◌++◌, All, map, flat_map, fold, IsTrue, refl, ◌∙◌, ap₂, subst}
use Rattle.std.specs.List.{AllByRecursion}
use Rattle.std.specs.Str.{IsUtf8}
use Rattle.std.proofs.lemmas.Grind.{flat_map-append}
use Rattle.std.proofs.lemmas.List.Elements.{All-from_recursion, recursion_from_All}
use Rattle.std.proofs.lemmas.Str.{IsUtf8-append}
use Rattle.ansi_items.specs.Pieces.{spelling, pieces_of}
use Rattle.ansi_items.proofs.JoinLemmas.{spelled, spelled-pieces_of}
use Rattle.ansi_safe.specs.declared.policy.Links.TheVariants.{Keep}
use Rattle.ansi_safe.specs.Links.{IsClosed}
use Rattle.ansi_safe.specs.Safe.{is_safe}
use Rattle.ansi_safe.proofs.MadeLemmas.{whole-safe}
use Rattle.ansi_safe.proofs.SafeLemmas.{AreGood-append, good_are_safe}
use Rattle.ansi_columns.specs.Edits as columns
use Rattle.ansi_cells.specs.OneLine.{is_one_line}
use Rattle.ansi_cells.specs.Wrapped.{CarriedPart, wrapped}
use Rattle.ansi_wraps.proofs.CleanLineLemmas.{CleanLine, clean-wrapped}
use Rattle.ansi_columns.proofs.EditLemmas.{shown-changed}
use Rattle.ansi_cells.proofs.IndentLawLemmas.{ShutLine, shut-append, wrapped_are_shut}
use Rattle.ansi_cells.proofs.OneLineLemmas.{IsClean, clean-safe, clean-one_line, safe_are_good, safe-paragraph}
use Rattle.ansi_columns.proofs.SequenceLemmas.{good-utf8}
use Rattle.ansi_view_runs.specs.Edits.{Change, OnColumns, Wrapped, HasUtf8Tail, is_expansion, changed, changed_in_turn}
use Rattle.ansi_view_runs.specs.SafeTexts.{IsSafeText}
use Rattle.ansi_view_runs.proofs.ExpandedLemmas.{safe-expanded}

abbrev AreSafeTexts : List (List ℕ) → Type 0
AreSafeTexts ts = AllByRecursion IsSafeText ts

abbrev pub HaveUtf8Tails : List Change → Type 0
HaveUtf8Tails changes = AllByRecursion HasUtf8Tail changes

-- ---- a change but an expansion makes texts that are clean, and closed

record IsMade (t : List ℕ) : Type 0 where
  clean : IsClean t
  closed : IsClosed t

made-safe : (t : List ℕ) → IsMade t → IsSafeText t
made-safe t is = record { utf8 = subst IsUtf8 is.clean.spell (good-utf8 is.clean.pieces is.clean.good); safe = clean-safe is.clean; closed = is.closed }

made-lines : (ls : List CarriedPart) → AllByRecursion CleanLine ls → AllByRecursion ShutLine ls → AllByRecursion IsMade (map (λ (l : CarriedPart). l.bytes) ls)
made-lines [] clean shut = tt
made-lines (l ∷ ls) clean shut = (record { clean = clean.0; closed = shut.0.closed }, made-lines ls clean.1 shut.1)

made-wrapped : (t : List ℕ) (width : ℕ) → IsUtf8 t → AllByRecursion IsMade (map (λ (l : CarriedPart). l.bytes) (wrapped t width))
made-wrapped t width utf8 =
    let ls = wrapped t width in
    made-lines ls (recursion_from_All CleanLine ls (clean-wrapped t width utf8)) (recursion_from_All ShutLine ls (wrapped_are_shut t width (safe-paragraph t utf8)))

made-changed : (change : Change) (t : List ℕ) → HasUtf8Tail change → IsUtf8 t → is_expansion change ≡ false → AllByRecursion IsMade (changed change t)
made-changed (OnColumns change) t tail utf8 other = (let shown = shown-changed t utf8 change tail other in (record { clean = shown.clean; closed = shown.shut.closed }, tt))
made-changed (Wrapped width) t tail utf8 other = made-wrapped t width utf8

-- ---- so what a change makes of a safe text is safe

all-weaker : {P Q : List ℕ → Type 0} → ((t : List ℕ) → P t → Q t) → (ts : List (List ℕ)) → AllByRecursion P ts → AllByRecursion Q ts
all-weaker weaker [] all = tt
all-weaker weaker (t ∷ ts) all = (weaker t all.0, all-weaker weaker ts all.1)

safe-made : (change : Change) (t : List ℕ) → HasUtf8Tail change → IsUtf8 t → is_expansion change ≡ false → AreSafeTexts (changed change t)
safe-made change t tail utf8 other = all-weaker made-safe (changed change t) (made-changed change t tail utf8 other)

pub safe-changed : (change : Change) (t : List ℕ) → HasUtf8Tail change → IsSafeText t → AreSafeTexts (changed change t)
safe-changed (OnColumns (columns.Expanded stop)) t tail is = (safe-expanded stop t is, tt)
safe-changed (OnColumns (columns.Sliced start end)) t tail is = safe-made (OnColumns (columns.Sliced start end)) t tail is.utf8 refl
safe-changed (OnColumns (columns.Truncated side width cut)) t tail is = safe-made (OnColumns (columns.Truncated side width cut)) t tail is.utf8 refl
safe-changed (OnColumns (columns.Padded width alignment)) t tail is = safe-made (OnColumns (columns.Padded width alignment)) t tail is.utf8 refl
safe-changed (OnColumns (columns.Fitted width alignment cut)) t tail is = safe-made (OnColumns (columns.Fitted width alignment cut)) t tail is.utf8 refl
safe-changed (Wrapped width) t tail is = safe-made (Wrapped width) t tail is.utf8 refl

all-append : (ts us : List (List ℕ)) → AreSafeTexts ts → AreSafeTexts us → AreSafeTexts (ts ++ us)
all-append [] us first second = second
all-append (t ∷ ts) us first second = (first.0, all-append ts us first.1 second)

safe-each : (change : Change) (ts : List (List ℕ)) → HasUtf8Tail change → AreSafeTexts ts → AreSafeTexts (flat_map (changed change) ts)
safe-each change [] tail are = tt
safe-each change (t ∷ ts) tail are = all-append (changed change t) (flat_map (changed change) ts) (safe-changed change t tail are.0) (safe-each change ts tail are.1)

safe-fold : (changes : List Change) (ts : List (List ℕ)) → HaveUtf8Tails changes → AreSafeTexts ts → AreSafeTexts (fold (λ ts change. flat_map (changed change) ts) ts changes)
safe-fold [] ts tails are = are
safe-fold (change ∷ changes) ts tails are = safe-fold changes (flat_map (changed change) ts) tails.1 (safe-each change ts tails.0 are)

pub safe-in_turn : (changes : List Change) (t : List ℕ) → HaveUtf8Tails changes → IsSafeText t → AllByRecursion IsSafeText (changed_in_turn changes t)
safe-in_turn changes t tails is = safe-fold changes (t ∷ []) tails (is, tt)

-- ---- as laws say it

pub each-safe : (change : Change) (t : List ℕ) → HasUtf8Tail change → IsSafeText t → All IsSafeText (changed change t)
each-safe change t tail is = All-from_recursion IsSafeText (changed change t) (safe-changed change t tail is)

pub each-one_line : (change : Change) (t : List ℕ) → HasUtf8Tail change → IsUtf8 t → is_expansion change ≡ false → All (λ u. IsTrue (is_one_line u)) (changed change t)
each-one_line change t tail utf8 other =
    All-from_recursion (λ u. IsTrue (is_one_line u)) (changed change t) (all-weaker (λ t is. clean-one_line is.clean) (changed change t) (made-changed change t tail utf8 other))

pub all-in_turn : (changes : List Change) (t : List ℕ) → All HasUtf8Tail changes → IsSafeText t → All IsSafeText (changed_in_turn changes t)
all-in_turn changes t tails is = All-from_recursion IsSafeText (changed_in_turn changes t) (safe-in_turn changes t (recursion_from_All HasUtf8Tail changes tails) is)

-- ---- one safe text after another

pub safe-append : (t u : List ℕ) → IsSafeText t → IsSafeText u → IsSafeText (t ++ u)
safe-append t u first second =
    let ps = pieces_of t in
    let qs = pieces_of u in
    let good = AreGood-append Keep ps qs (safe_are_good t first.utf8 first.safe) (safe_are_good u second.utf8 second.safe) in
    let spell : spelled (ps ++ qs) ≡ t ++ u = flat_map-append spelling ps qs ∙ ap₂ ◌++◌ (spelled-pieces_of t) (spelled-pieces_of u) in
    let shut = shut-append t u (record { whole = whole-safe Keep t first.safe; closed = first.closed }) (record { whole = whole-safe Keep u second.safe; closed = second.closed }) in
    record { utf8 = IsUtf8-append t u first.utf8 second.utf8; safe = subst (λ v. is_safe Keep v ≡ true) spell (good_are_safe Keep (ps ++ qs) good); closed = shut.closed }
