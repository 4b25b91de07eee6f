-- Runs with TABs.
use Rattle.std.proofs.Common.{◌≡◌, ℕ, zero, suc, ◌+◌, ◌-◌, ◌*◌, ◌%◌, ◌<◌, ◌≤◌, Bool, true, false, ◌==◌, ◌||◌, List, [], ◌∷◌, ◌++◌, length, length-append, cond, count_by, fold, take, drop, slice_index, Option, None, Some, is_some, nat_eq, eqb-true, if◌then◌else◌, refl, sym, ◌∙◌, ap, ap₂, arith, append_assoc, append-nil, length-take-le}
use Rattle.std.specs.List.{list_any}
use Rattle.std.specs.Str.{byte}
use Rattle.std.proofs.lemmas.Bool.Decides.{nat_tests}
use Rattle.std.proofs.lemmas.List.{length-replicate}
use Rattle.std.proofs.lemmas.List.Folds.{list_any_at}
use Rattle.std.proofs.lemmas.List.Sums.{sum_by-cons, sum_by-append}
use Rattle.std.proofs.Math.Seq.{get_or-take}
use Rattle.memchr.specs.Find.{IsFirst, Nowhere, NoneBefore, Passes}
use Rattle.ansi_items.specs.Pieces.{Piece, Text, Sequence, LoneEscape, spelling, pieces_of}
use Rattle.ansi_items.specs.Plain.{plain, plain_of}
use Rattle.ansi_items.proofs.JoinLemmas.{spelled, spelled-pieces_of}
use Rattle.ansi_safe.specs.Cells.{cell}
use Rattle.ansi_clusters.specs.Columns.{columns}
use Rattle.ansi_clusters.specs.Lines.{blanks}
use Rattle.ansi_cells.specs.Tabs.{piece_has_tab, has_tab, tabs, is_stop, since_stop, to_next, byte_expanded, run_expanded, pieces_expanded, expanded}

-- Bytes that are no stops stay, and the columns are counted over them.

both_false : (p q : Bool) → (p || q) ≡ false → (p ≡ false) × (q ≡ false)
both_false true q is = absurd (cc is)
both_false false q is = (refl, is)

none_stops : (b : ℕ) (u : List ℕ) → list_any is_stop (b ∷ u) ≡ false → (is_stop b ≡ false) × (list_any is_stop u ≡ false)
none_stops b u none = both_false (is_stop b) (list_any is_stop u) none

no_tab : (b : ℕ) → is_stop b ≡ false → (b == byte "\t") ≡ false
no_tab b none = (both_false (b == byte "\t") (b == byte "\n") none).0

pub since-passed : (x u w : List ℕ) → list_any is_stop u ≡ false → fold since_stop x (u ++ w) ≡ fold since_stop (x ++ u) w
since-passed x [] w none = ap (λ y. fold since_stop y w) (sym (append-nil x))
since-passed x (b ∷ u) w none =
    let both = none_stops b u none in
    ap (λ c. fold since_stop (if c then [] else x ++ b ∷ []) (u ++ w)) both.0 ∙ since-passed (x ++ b ∷ []) u w both.1 ∙ ap (λ y. fold since_stop y w) (append_assoc x (b ∷ []) u)

pub expanded-passed : (stop : ℕ) (x u w : List ℕ) → list_any is_stop u ≡ false → run_expanded stop x (u ++ w) ≡ u ++ run_expanded stop (x ++ u) w
expanded-passed stop x [] w none = ap (λ y. run_expanded stop y w) (sym (append-nil x))
expanded-passed stop x (b ∷ u) w none =
    let both = none_stops b u none in
    ap (λ c. (if c then blanks (to_next stop (columns (plain (cell x)))) else b ∷ []) ++ run_expanded stop (since_stop x b) (u ++ w)) (no_tab b both.0)
    ∙ ap (λ c. b ∷ run_expanded stop (if c then [] else x ++ b ∷ []) (u ++ w)) both.0
    ∙ ap (λ v. b ∷ v) (expanded-passed stop (x ++ b ∷ []) u w both.1 ∙ ap (λ y. u ++ run_expanded stop y w) (append_assoc x (b ∷ []) u))

-- at the end of a run

pub since-alone : (x u : List ℕ) → list_any is_stop u ≡ false → fold since_stop x u ≡ x ++ u
since-alone x u none = ap (fold since_stop x) (sym (append-nil u)) ∙ since-passed x u [] none

pub expanded-alone : (stop : ℕ) (x u : List ℕ) → list_any is_stop u ≡ false → run_expanded stop x u ≡ u
expanded-alone stop x u none = ap (run_expanded stop x) (sym (append-nil u)) ∙ expanded-passed stop x u [] none ∙ append-nil u

-- at a stop, which is a TAB or a line feed

abbrev pub stop_of : Bool → ℕ
stop_of is_tab = if is_tab then 0x09 else 0x0A

stops : (is_tab : Bool) → is_stop (stop_of is_tab) ≡ true
stops true = refl
stops false = refl

pub since-stop : (x u w : List ℕ) (is_tab : Bool) → list_any is_stop u ≡ false → fold since_stop [] w ≡ fold since_stop x (u ++ stop_of is_tab ∷ w)
since-stop x u w is_tab none = sym (since-passed x u (stop_of is_tab ∷ w) none ∙ ap (λ c. fold since_stop (if c then [] else (x ++ u) ++ stop_of is_tab ∷ []) w) (stops is_tab))

pub expanded-stop : (stop : ℕ) (out x u w : List ℕ) (is_tab : Bool) → list_any is_stop u ≡ false → ((out ++ u) ++ byte_expanded stop (x ++ u) (stop_of is_tab)) ++ run_expanded stop [] w ≡ out ++ run_expanded stop x (u ++ stop_of is_tab ∷ w)
expanded-stop stop out x u w is_tab none =
    let after = byte_expanded stop (x ++ u) (stop_of is_tab) in
    append_assoc (out ++ u) after (run_expanded stop [] w) ∙ append_assoc out u (after ++ run_expanded stop [] w)
    ∙ ap (λ v. out ++ v) (sym (expanded-passed stop x u (stop_of is_tab ∷ w) none ∙ ap (λ c. u ++ (after ++ run_expanded stop (if c then [] else (x ++ u) ++ stop_of is_tab ∷ []) w)) (stops is_tab)))

-- A text without TAB stays.

run-no_tab : (stop : ℕ) (x w : List ℕ) → list_any (λ b. b == byte "\t") w ≡ false → run_expanded stop x w ≡ w
run-no_tab stop x [] none = refl
run-no_tab stop x (b ∷ w) none =
    let both = both_false (b == byte "\t") (list_any (λ b. b == byte "\t") w) none in
    ap (λ c. (if c then blanks (to_next stop (columns (plain (cell x)))) else b ∷ []) ++ run_expanded stop (since_stop x b) w) both.0 ∙ ap (λ v. b ∷ v) (run-no_tab stop (since_stop x b) w both.1)

pieces-no_tab : (stop : ℕ) (x : List ℕ) (ps : List Piece) → list_any piece_has_tab ps ≡ false → pieces_expanded stop x ps ≡ spelled ps
pieces-no_tab stop x [] none = refl
pieces-no_tab stop x (Text w ∷ ps) none =
    let both = both_false (piece_has_tab (Text w)) (list_any piece_has_tab ps) none in
    ap₂ (λ u v. u ++ v) (run-no_tab stop x w both.0) (pieces-no_tab stop (fold since_stop x w) ps both.1)
pieces-no_tab stop x (Sequence w ∷ ps) none = ap (λ v. w ++ v) (pieces-no_tab stop x ps none)
pieces-no_tab stop x (LoneEscape ∷ ps) none = ap (λ v. spelling LoneEscape ++ v) (pieces-no_tab stop x ps none)

pub expanded-no_tab : (stop : ℕ) (t : List ℕ) → has_tab t ≡ false → expanded stop t ≡ t
expanded-no_tab stop t none = pieces-no_tab stop [] (pieces_of t) none ∙ spelled-pieces_of t

-- Each TAB becomes at most `stop` blanks.

abbrev is_tab : ℕ → Bool
is_tab b = b == byte "\t"

module _ (stop : ℕ) where
  to_next-most : (n : ℕ) → to_next stop n ≤ stop
  to_next-most n = by (stop == 0)
    where
      by : (c : Bool) → (if c then 0 else stop - n % stop) ≤ stop
      by true = omega arith
      by false = omega arith

  byte-most : (x : List ℕ) (b : ℕ) → length (byte_expanded stop x b) ≤ 1 + stop * cond (is_tab b) 1 0
  byte-most x b = by (is_tab b)
    where
      by : (c : Bool) → length (if c then blanks (to_next stop (columns (plain (cell x)))) else b ∷ []) ≤ 1 + stop * cond c 1 0
      by true = omega (arith, length-replicate (to_next stop (columns (plain (cell x)))) (byte " "), to_next-most (columns (plain (cell x))))
      by false = omega arith

  run-most : (x w : List ℕ) → length (run_expanded stop x w) ≤ length w + stop * count_by is_tab w
  run-most x [] = omega arith
  run-most x (b ∷ w) =
      let after = run_expanded stop (since_stop x b) w in
      let all : stop * count_by is_tab (b ∷ w) ≡ stop * cond (is_tab b) 1 0 + stop * count_by is_tab w
      = ap (λ n. stop * n) (sum_by-cons (λ c. cond (is_tab c) 1 0) b w) ∙ omega arith in
      omega (arith, length-append (byte_expanded stop x b) after, byte-most x b, run-most (since_stop x b) w, all)

  pieces-most : (x : List ℕ) (ps : List Piece) → length (pieces_expanded stop x ps) ≤ length (spelled ps) + stop * count_by is_tab (plain_of ps)
  pieces-most x [] = omega arith
  pieces-most x (Text w ∷ ps) =
      let since = fold since_stop x w in
      let all : stop * count_by is_tab (w ++ plain_of ps) ≡ stop * count_by is_tab w + stop * count_by is_tab (plain_of ps)
      = ap (λ n. stop * n) (sum_by-append (λ c. cond (is_tab c) 1 0) w (plain_of ps)) ∙ omega arith in
      omega (arith, length-append (run_expanded stop x w) (pieces_expanded stop since ps), length-append w (spelled ps), run-most x w, pieces-most since ps, all)
  pieces-most x (Sequence w ∷ ps) = omega (arith, length-append w (pieces_expanded stop x ps), length-append w (spelled ps), pieces-most x ps)
  pieces-most x (LoneEscape ∷ ps) = omega (arith, length-append (spelling LoneEscape) (pieces_expanded stop x ps), length-append (spelling LoneEscape) (spelled ps), pieces-most x ps)

  pub expanded-most : (t : List ℕ) → length (expanded stop t) ≤ length t + stop * tabs t
  expanded-most t = omega (arith, pieces-most [] (pieces_of t), ap length (spelled-pieces_of t))

-- Where a byte that passes a test is found, and where none is.

module _ (test : ℕ → Bool) where
  pub none_at : (x : List ℕ) → Nowhere (Passes test x) 0 (length x) → list_any test x ≡ false
  none_at [] none = refl
  none_at (b ∷ x) none = by (test b) refl (none_at x (λ k low below. none (suc k) (omega arith) (omega (arith, below))))
    where
      by : (c : Bool) → test b ≡ c → list_any test x ≡ false → (c || list_any test x) ≡ false
      by true is rest = absurd (none 0 (omega arith) (omega arith) is)
      by false is rest = rest

  pub none_up_to : (x : List ℕ) (n : ℕ) → NoneBefore (Passes test x) 0 (length x) n → list_any test (take n x) ≡ false
  none_up_to x n none =
      let size : length (take n x) ≡ n = length-take-le n x (omega (arith, none.high)) in
      none_at (take n x) (λ k low below passes.
      let inside : k < n = omega (arith, below, size) in
      none.before k (omega arith) inside (ap test (sym (get_or-take n x k 0 inside)) ∙ passes))

  pub found_any : (x : List ℕ) (r : Option ℕ) → IsFirst (Passes test x) 0 (length x) r → is_some r ≡ list_any test x
  found_any x None none = sym (none_at x none)
  found_any x (Some n) found = sym (list_any_at test x n 0 found.0.high found.1)

-- a run in two around a byte
pub around : (x : List ℕ) (n : ℕ) → n < length x → x ≡ take n x ++ slice_index x n ∷ drop (suc n) x
around [] n within = absurd (omega arith)
around (b ∷ x) zero within = refl
around (b ∷ x) (suc n) within = ap (λ u. b ∷ u) (around x n (omega arith))

pub stop_small : (b : ℕ) → is_stop b ≡ true → b < 128
stop_small b is = grind (arith, nat_tests)

pub stop_byte : (b : ℕ) → is_stop b ≡ true → b ≡ stop_of (nat_eq b 0x09)
stop_byte b is = by (nat_eq b 0x09) (nat_eq b 0x0A) refl refl is
  where
    by : (p q : Bool) → nat_eq b 0x09 ≡ p → nat_eq b 0x0A ≡ q → (p || q) ≡ true → b ≡ stop_of p
    by true q e f i = eqb-true b 0x09 e
    by false true e f i = eqb-true b 0x0A f
    by false false e f i = absurd (cc i)
