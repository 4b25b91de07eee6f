-- What an input becomes keeps the promise.
use Rattle.std.proofs.Common.{◌≡◌, inl, inr, ℕ, zero, suc, ◌==◌, Bool, true, false, not, ◌||◌, List, [], ◌∷◌, ◌++◌, All, map, flat_map, fold, length, chars, slice_index, encode_utf8, encode_utf8_all, IsTrue, refl, sym, ◌∙◌, ap, subst, eqb-true, arith, append-nil}
use Rattle.std.specs.List.{AllByRecursion, list_all}
use Rattle.std.specs.Str.{IsUtf8, byte}
use Rattle.std.proofs.lemmas.Bool.{cases_Bool, false≢true, and_from, and_parts}
use Rattle.std.proofs.lemmas.Bool.Decides.{nat_tests}
use Rattle.std.proofs.lemmas.List.Elements.{All-from_recursion, recursion_from_All}
use Rattle.std.proofs.lemmas.List.Folds.{list_all-append}
use Rattle.std.proofs.lemmas.Str.{IsUtf8-nil, encodes-chars}
use Rattle.ansi_items.specs.Pieces.{Piece, Text, Sequence, LoneEscape, pieces_of}
use Rattle.ansi_items.specs.Plain.{plain, plain_of}
use Rattle.ansi_safe.specs.declared.policy.Links.TheVariants.{Keep}
use Rattle.ansi_safe.specs.Cells.{paragraph}
use Rattle.ansi_safe.specs.Safe.{is_allowed, all_allowed}
use Rattle.ansi_safe.proofs.SafeLemmas.{AreGood}
use Rattle.ansi_columns.specs.Edits as columns
use Rattle.ansi_cells.specs.Rows.{Row, row, cell_row, row_screen}
use Rattle.ansi_cells.specs.Tabs.{expanded}
use Rattle.ansi_cells.proofs.OneLineLemmas.{clean-one_line, safe_are_good}
use Rattle.ansi_view_runs.specs.Edits.{Change, OnColumns, Wrapped, HasUtf8Tail, HasTailBy, changed, changed_in_turn}
use Rattle.ansi_view_runs.specs.Lines.{Line, first_line, first_lines, lines}
use Rattle.ansi_view_runs.specs.Promise.{changed_rows, rows_in_turn, shown_rows, has_no_line_end, IsViewedLine, AreViewedLines, IsViewed}
use Rattle.ansi_view_runs.specs.SafeTexts.{IsSafeText}
use Rattle.ansi_view_runs.specs.Views.{Work, opening_after, shown, viewed, viewed_all, view_of}
use Rattle.ansi_view_runs.proofs.ExpandedLemmas.{safe-expanded, all-expanded}
use Rattle.ansi_view_runs.proofs.LineFeedLemmas.{HasNoFeed, none-first_line, none-plain, none-chars, none-opening_after, none-shown}
use Rattle.ansi_view_runs.proofs.PolicyLemmas.{view_of-policy}
use Rattle.ansi_view_runs.proofs.RowLemmas.{AreShown, AreMade, made-columns, made-wrapped, made-fold, screens-rows}
use Rattle.ansi_view_runs.proofs.SafeViewLemmas.{opening_after-utf8, shown-text, edited-safe, view_of-safe}

-- ---- a safe text without a line feed has no carriage return

abbrev no_end : ℕ → Bool
no_end b = not (b == byte "\n" || b == byte "\r")

abbrev HasNoEnd : List ℕ → Type 0
HasNoEnd t = has_no_line_end t ≡ true

not_feed : (cs : List ℕ) → HasNoFeed cs → (slice_index cs 0 == 10) ≡ false
not_feed [] none = refl
not_feed (c ∷ cs) none = by (c == 10) (and_parts (not (c == 10)) (list_all (λ b. not (b == 10)) cs) none).0
  where
    by : (b : Bool) → not b ≡ true → b ≡ false
    by true is = absurd (cc is)
    by false is = refl

char-no_end : (c : ℕ) (cs : List ℕ) → not (c == 10) ≡ true → (slice_index cs 0 == 10) ≡ false → is_allowed c cs ≡ true → no_end c ≡ true
char-no_end c cs other none allowed = elim (cases_Bool (c == 13)) [
  | inl is ↦ absurd (let feed : (slice_index cs 0 == 10) ≡ true = subst (λ x. is_allowed x cs ≡ true) (eqb-true c 13 is) allowed in false≢true (sym none ∙ feed))
  | inr isnt ↦ by (c == 10) (c == 13) other isnt
]
  where
    by : (n r : Bool) → not n ≡ true → r ≡ false → not (n || r) ≡ true
    by true r other isnt = other
    by false true other isnt = absurd (cc isnt)
    by false false other isnt = refl

chars-no_end : (cs : List ℕ) → HasNoFeed cs → all_allowed cs ≡ true → list_all no_end cs ≡ true
chars-no_end [] none all = refl
chars-no_end (c ∷ cs) none all =
    let both = and_parts (not (c == 10)) (list_all (λ b. not (b == 10)) cs) none in
    let allowed = and_parts (is_allowed c cs) (all_allowed cs) all in
    and_from _ _ (char-no_end c cs both.0 (not_feed cs both.1) allowed.0) (chars-no_end cs both.1 allowed.1)

encode-no_end : (c : ℕ) → no_end c ≡ true → list_all no_end (encode_utf8 c) ≡ true
unfolding lib.Utf8.encode
encode-no_end c other = grind (arith, nat_tests)

encodes-no_end : (cs : List ℕ) → list_all no_end cs ≡ true → list_all no_end (encode_utf8_all cs) ≡ true
encodes-no_end [] all = refl
encodes-no_end (c ∷ cs) all =
    let both = and_parts (no_end c) (list_all no_end cs) all in
    list_all-append no_end (encode_utf8 c) (encode_utf8_all cs) ∙ and_from _ _ (encode-no_end c both.0) (encodes-no_end cs both.1)

text-no_end : (w : List ℕ) → IsUtf8 w → all_allowed (chars w) ≡ true → HasNoFeed w → list_all no_end w ≡ true
text-no_end w utf8 all none = subst (λ u. list_all no_end u ≡ true) (encodes-chars w utf8) (encodes-no_end (chars w) (chars-no_end (chars w) (none-chars w utf8 none) all))

pieces-no_end : (ps : List Piece) → AreGood Keep ps → HasNoFeed (plain_of ps) → list_all no_end (plain_of ps) ≡ true
pieces-no_end [] good none = refl
pieces-no_end (Text w ∷ ps) good none =
    let both = and_parts (list_all (λ b. not (b == 10)) w) (list_all (λ b. not (b == 10)) (plain_of ps)) (sym (list_all-append (λ b. not (b == 10)) w (plain_of ps)) ∙ none) in
    list_all-append no_end w (plain_of ps) ∙ and_from _ _ (text-no_end w good.0.2 good.0.3 both.0) (pieces-no_end ps good.1 both.1)
pieces-no_end (Sequence w ∷ ps) good none = pieces-no_end ps good.1 none
pieces-no_end (LoneEscape ∷ ps) good none = absurd good.0

safe-no_end : (t : List ℕ) → IsSafeText t → HasNoFeed t → HasNoEnd t
safe-no_end t is none = pieces-no_end (pieces_of t) (safe_are_good t is.utf8 is.safe) (none-plain t none)

-- ---- what changes make of it is on one line too

weaker-end : (b : ℕ) → not (b == byte "\t" || b == byte "\n" || b == byte "\r") ≡ true → no_end b ≡ true
weaker-end b is = grind (arith, nat_tests)

weaker-ends : (x : List ℕ) → list_all (λ b. not (b == byte "\t" || b == byte "\n" || b == byte "\r")) x ≡ true → list_all no_end x ≡ true
weaker-ends [] all = refl
weaker-ends (b ∷ x) all =
    let both = and_parts (not (b == byte "\t" || b == byte "\n" || b == byte "\r")) (list_all (λ b. not (b == byte "\t" || b == byte "\n" || b == byte "\r")) x) all in
    and_from _ _ (weaker-end b both.0) (weaker-ends x both.1)

abbrev AllOnLine : List (List ℕ) → Type 0
AllOnLine ts = AllByRecursion (λ t. IsTrue (has_no_line_end t)) ts

shown-on_line : (ts : List (List ℕ)) → AreShown ts → AllOnLine ts
shown-on_line [] are = tt
shown-on_line (t ∷ ts) are = (weaker-ends (plain t) (clean-one_line are.0.clean), shown-on_line ts are.1)

-- ---- what they make shows what they make of the row

record Promised (changes : List Change) (t : List ℕ) : Type 0 where
  on_line : AllOnLine (changed_in_turn changes t)
  rows : map row (changed_in_turn changes t) ≡ shown_rows changes t

made-promised : (change : Change) (changes : List Change) (t : List ℕ) (r : Row) → AllByRecursion HasUtf8Tail changes → AreMade (changed change t) (changed_rows change r)
    → AllOnLine (changed_in_turn (change ∷ changes) t) × (map row (changed_in_turn (change ∷ changes) t) ≡ fold (λ rs change. flat_map (changed_rows change) rs) (r ∷ []) (change ∷ changes))
made-promised change changes t r tails made =
    let first : AreMade (changed change t ++ []) (changed_rows change r ++ []) =
    subst (λ ts. AreMade ts (changed_rows change r ++ [])) (sym (append-nil (changed change t))) (subst (AreMade (changed change t)) (sym (append-nil (changed_rows change r))) made) in
    let all = made-fold changes (changed change t ++ []) (changed_rows change r ++ []) tails first in
    (shown-on_line _ all.shown, all.rows)

columns-promised : (change : columns.Change) (changes : List Change) (t : List ℕ) → columns.HasUtf8Tail change → AllByRecursion HasUtf8Tail changes → IsUtf8 t → columns.is_expansion change ≡ false
    → AllOnLine (changed_in_turn (OnColumns change ∷ changes) t) × (map row (changed_in_turn (OnColumns change ∷ changes) t) ≡ rows_in_turn (OnColumns change ∷ changes) (cell_row t))
columns-promised change changes t tail tails utf8 other = made-promised (OnColumns change) changes t (cell_row t) tails (made-columns change t tail utf8 other)

promised : (changes : List Change) (t : List ℕ) → AllByRecursion HasUtf8Tail changes → IsSafeText t → HasNoEnd t → Promised changes t
promised [] t tails is none = record { on_line = (none, tt); rows = refl }
promised (OnColumns (columns.Expanded stop) ∷ changes) t tails is none =
    let more = promised changes (expanded stop t) tails.1 (safe-expanded stop t is) (all-expanded no_end stop t refl is none) in
    record { on_line = more.on_line; rows = more.rows }
promised (OnColumns (columns.Sliced start end) ∷ changes) t tails is none =
    (let made = columns-promised (columns.Sliced start end) changes t tails.0 tails.1 is.utf8 refl in record { on_line = made.0; rows = made.1 })
promised (OnColumns (columns.Truncated side width cut) ∷ changes) t tails is none =
    (let made = columns-promised (columns.Truncated side width cut) changes t tails.0 tails.1 is.utf8 refl in record { on_line = made.0; rows = made.1 })
promised (OnColumns (columns.Padded width alignment) ∷ changes) t tails is none =
    (let made = columns-promised (columns.Padded width alignment) changes t tails.0 tails.1 is.utf8 refl in record { on_line = made.0; rows = made.1 })
promised (OnColumns (columns.Fitted width alignment cut) ∷ changes) t tails is none =
    (let made = columns-promised (columns.Fitted width alignment cut) changes t tails.0 tails.1 is.utf8 refl in record { on_line = made.0; rows = made.1 })
promised (Wrapped width ∷ changes) t tails is none =
    (let made = made-promised (Wrapped width) changes t (row (paragraph t)) tails.1 (made-wrapped width t is.utf8) in record { on_line = made.0; rows = made.1 })

-- ---- so each line keeps the promise, and all of them do

module _ (work : Work) (tails : All HasUtf8Tail work.changes) (by_policy : All (HasTailBy work.view.policy.links) work.changes) where
  line-viewed : (opening : List ℕ) (line : Line) → IsUtf8 opening → HasNoFeed opening → HasNoFeed line.text → IsViewedLine work opening line (viewed work opening line)
  line-viewed opening line utf8 before none =
      let t = shown work.view opening line in
      let ts = changed_in_turn work.changes t in
      let is = shown-text work.view opening line utf8 in
      let made = promised work.changes t (recursion_from_All HasUtf8Tail work.changes tails) is (safe-no_end t is (none-shown work.view opening line utf8 before none)) in
      record {
        texts = ts;
        bytes = refl;
        safe = edited-safe work opening line tails utf8;
        one_line = All-from_recursion (λ t. IsTrue (has_no_line_end t)) ts made.on_line;
        screens = screens-rows ts ∙ ap (map row_screen) made.rows;
      }

  lines-viewed : (k : ℕ) (t opening : List ℕ) → IsUtf8 opening → HasNoFeed opening → AreViewedLines work opening (first_lines k t) (viewed_all work opening (first_lines k t))
  unfolding viewed_all
  lines-viewed zero t opening utf8 before = refl
  lines-viewed (suc k) [] opening utf8 before = refl
  lines-viewed (suc k) (b ∷ bs) opening utf8 before =
      let first = first_line (b ∷ bs) in
      let none = none-first_line (b ∷ bs) in
      let after = opening_after work.view opening first.0 in (
        viewed work opening first.0,
        viewed_all work after (first_lines k first.1),
        refl,
        line-viewed opening first.0 utf8 before none,
        lines-viewed k first.1 after (opening_after-utf8 work.view opening first.0 utf8) (none-opening_after work.view opening first.0 utf8 before none),
      )

  pub view_of-viewed : (input : List ℕ) → IsViewed work input (view_of work input)
  unfolding lines
  view_of-viewed input =
      let is = view_of-safe work tails input in
      record { utf8 = is.utf8; safe = view_of-policy work tails by_policy input; lines = lines-viewed (length input) input [] IsUtf8-nil refl; closed = is.closed }
