-- What is seen of characters, and of a text between two of its positions.
use lib.Utf8.{scalar, scalars}
use Rattle.std.proofs.Common.{◌≡◌, ℕ, ◌+◌, ◌-◌, ◌<◌, ◌≤◌, Bool, true, false, ◌==◌, ◌&&◌, ◌||◌, List, [], ◌∷◌, ◌++◌, length, take, drop, reverse, flat_map, slice_index, slice_range, encode_utf8, encode_utf8_all, if◌then◌else◌, refl, sym, ◌∙◌, ap, ap₂, arith, append-nil, length-append, take-add}
use Rattle.std.specs.List.{list_all}
use Rattle.std.specs.Str.{chars, IsUtf8, IsCharBoundary}
use Rattle.std.proofs.lemmas.Bool.{and_parts}
use Rattle.std.proofs.lemmas.Bool.Decides.{nat_tests}
use Rattle.std.proofs.lemmas.Grind.{flat_map-append}
use Rattle.std.proofs.lemmas.List.{reverse-append}
use Rattle.std.proofs.lemmas.List.Folds.{drop_split}
use Rattle.std.proofs.lemmas.Str.{chars-nil, chars-append, chars-encodes, scalars-chars, encodes-append, encodes-chars, encode_ascii, length-encode, len_utf8_bounds, IsUtf8-take, IsUtf8-between}
use Rattle.unicode_segmentation.proofs.TextLemmas.{slice_range_split}
use Rattle.ansi_items.specs.Plain.{plain}
use Rattle.ansi_items.proofs.Utf8Lemmas.{IsUtf8-plain}
use Rattle.ansi_search.proofs.SliceLemmas.{length-slice_range}
use Rattle.ansi_safe.specs.Cells.{cell_char}
use Rattle.ansi_safe.specs.Safe.{is_printing, is_printable_byte}
use Rattle.ansi_safe.proofs.CellLemmas.{plain-cell, cell_chars-allowed}
use Rattle.ansi_clusters.specs.declared.views.View.{View}
use Rattle.ansi_clusters.specs.declared.views.View.TheVariants.{Given, Shown, Lined}
use Rattle.ansi_clusters.specs.Columns.{line_char}
use Rattle.ansi_clusters.specs.Views.{seen_char, seen, seen_text, seen_len}
use Rattle.ansi_clusters.specs.Walks.{cluster, seen_before, seen_after, seen_cluster, is_seen_ascii}
use Rattle.ansi_clusters.proofs.AsciiLemmas.{printable-prints}

pub seen-nil : (view : View) → seen view [] ≡ []
seen-nil Given = refl
seen-nil Shown = refl
seen-nil Lined = refl

pub seen-one : (view : View) (c : ℕ) → seen view (c ∷ []) ≡ seen_char view c
seen-one Given c = refl
seen-one Shown c = append-nil (cell_char c)
seen-one Lined c = append-nil (line_char c)

pub seen-append : (view : View) (xs ys : List ℕ) → seen view (xs ++ ys) ≡ seen view xs ++ seen view ys
seen-append Given xs ys = refl
seen-append Shown xs ys = flat_map-append cell_char xs ys
seen-append Lined xs ys = flat_map-append line_char xs ys

scalars-append : (cs ds : List ℕ) → scalars cs ≡ true → scalars ds ≡ true → scalars (cs ++ ds) ≡ true
scalars-append [] ds first second = second
scalars-append (c ∷ cs) ds first second = (let both = and_parts (scalar c) (scalars cs) first in ap₂ (λ a b. a && b) both.0 (scalars-append cs ds both.1 second))

-- what lines show of a character are characters
line_char-scalar : (c : ℕ) → scalar c ≡ true → scalars (line_char c) ≡ true
line_char-scalar c is = by (c == 10) (ap scalars (sym (append-nil (cell_char c))) ∙ (cell_chars-allowed (c ∷ []) (ap (λ b. b && true) is)).scalar)
  where
    by : (w : Bool) → scalars (cell_char c) ≡ true → scalars (if w then c ∷ [] else cell_char c) ≡ true
    by true other = ap (λ b. b && true) is
    by false other = other

pub line_chars-scalar : (cs : List ℕ) → scalars cs ≡ true → scalars (flat_map line_char cs) ≡ true
line_chars-scalar [] are = refl
line_chars-scalar (c ∷ cs) are = (let both = and_parts (scalar c) (scalars cs) are in scalars-append (line_char c) (flat_map line_char cs) (line_char-scalar c both.0) (line_chars-scalar cs both.1))

-- the characters of what is seen of a text
pub seen-chars : (view : View) (t : List ℕ) → IsUtf8 t → chars (seen_text view t) ≡ seen view (chars (plain t))
seen-chars Given t utf8 = refl
seen-chars Shown t utf8 =
    ap chars (plain-cell t utf8) ∙ chars-encodes (flat_map cell_char (chars (plain t))) (cell_chars-allowed (chars (plain t)) (scalars-chars (plain t) (IsUtf8-plain t utf8))).scalar
seen-chars Lined t utf8 = (let cs = chars (plain t) in chars-encodes (flat_map line_char cs) (line_chars-scalar cs (scalars-chars (plain t) (IsUtf8-plain t utf8))))

-- ---- the sizes

same_head : (c d : ℕ) → c ∷ [] ≡ d ∷ [] → c ≡ d
same_head c d e = ap (λ x. slice_index x 0) e

one-ascii : (c : ℕ) → c < 128 → length (encode_utf8 c) ≡ 1
one-ascii c ascii = ap length (encode_ascii c ascii)

cell-size : (c d : ℕ) → cell_char c ≡ d ∷ [] → length (encode_utf8 c) ≡ length (encode_utf8 d)
cell-size c d e = by (is_printing c) (c == 9 || c == 10) refl e
  where
    by : (p w : Bool) → (c == 9 || c == 10) ≡ w → (if p then c ∷ [] else if w then 32 ∷ [] else []) ≡ d ∷ [] → length (encode_utf8 c) ≡ length (encode_utf8 d)
    by true w white e = ap (λ x. length (encode_utf8 x)) (same_head c d e)
    by false true white e = one-ascii c (grind (arith, nat_tests, white)) ∙ sym (ap (λ x. length (encode_utf8 x)) (sym (same_head 32 d e)) ∙ one-ascii 32 (omega arith))
    by false false white e = absurd (cc e)

-- what is seen of a character has as many bytes as it
pub seen-size : (view : View) (c d : ℕ) → seen_char view c ≡ d ∷ [] → length (encode_utf8 c) ≡ length (encode_utf8 d)
seen-size Given c d e = ap (λ x. length (encode_utf8 x)) (same_head c d e)
seen-size Shown c d e = cell-size c d e
seen-size Lined c d e = by (c == 10) e (cell-size c d)
  where
    by : (w : Bool) → (if w then c ∷ [] else cell_char c) ≡ d ∷ [] → (cell_char c ≡ d ∷ [] → length (encode_utf8 c) ≡ length (encode_utf8 d)) → length (encode_utf8 c) ≡ length (encode_utf8 d)
    by true e other = ap (λ x. length (encode_utf8 x)) (same_head c d e)
    by false e other = other e

cell_char-size : (c : ℕ) → length (encode_utf8_all (cell_char c)) ≤ length (encode_utf8 c)
cell_char-size c = by (is_printing c) (c == 9 || c == 10)
  where
    by : (p w : Bool) → length (encode_utf8_all (if p then c ∷ [] else if w then 32 ∷ [] else [])) ≤ length (encode_utf8 c)
    by true w = omega (arith, ap length (append-nil (encode_utf8 c)))
    by false true = omega (arith, ap length (append-nil (encode_utf8 32)), one-ascii 32 (omega arith), length-encode c, (len_utf8_bounds c).0)
    by false false = omega arith

pub seen_char-size : (view : View) (c : ℕ) → length (encode_utf8_all (seen_char view c)) ≤ length (encode_utf8 c)
seen_char-size Given c = omega (arith, ap length (append-nil (encode_utf8 c)))
seen_char-size Shown c = cell_char-size c
seen_char-size Lined c = by (c == 10)
  where
    by : (w : Bool) → length (encode_utf8_all (if w then c ∷ [] else cell_char c)) ≤ length (encode_utf8 c)
    by true = omega (arith, ap length (append-nil (encode_utf8 c)))
    by false = cell_char-size c

-- what is seen of characters has no more
pub seen-bytes : (view : View) (cs : List ℕ) → length (encode_utf8_all (seen view cs)) ≤ length (encode_utf8_all cs)
seen-bytes Given cs = omega arith
seen-bytes Shown [] = omega arith
seen-bytes Shown (c ∷ cs) =
    omega (
      arith,
      ap length (encodes-append (cell_char c) (flat_map cell_char cs)),
      length-append (encode_utf8_all (cell_char c)) (encode_utf8_all (flat_map cell_char cs)),
      length-append (encode_utf8 c) (encode_utf8_all cs),
      cell_char-size c,
      seen-bytes Shown cs,
    )
seen-bytes Lined [] = omega arith
seen-bytes Lined (c ∷ cs) =
    omega (
      arith,
      ap length (encodes-append (line_char c) (flat_map line_char cs)),
      length-append (encode_utf8_all (line_char c)) (encode_utf8_all (flat_map line_char cs)),
      length-append (encode_utf8 c) (encode_utf8_all cs),
      seen_char-size Lined c,
      seen-bytes Lined cs,
    )

cell-printing : (c : ℕ) → is_printing c ≡ true → cell_char c ≡ c ∷ []
cell-printing c printing = ap (λ p. if p then c ∷ [] else if c == 9 || c == 10 then 32 ∷ [] else []) printing

-- a character that prints is seen as it is
pub seen-printing : (view : View) (c : ℕ) → is_printing c ≡ true → seen_char view c ≡ c ∷ []
seen-printing Given c printing = refl
seen-printing Shown c printing = cell-printing c printing
seen-printing Lined c printing = by (c == 10) (cell-printing c printing)
  where
    by : (w : Bool) → cell_char c ≡ c ∷ [] → (if w then c ∷ [] else cell_char c) ≡ c ∷ []
    by true other = refl
    by false other = other

-- ---- ASCII

-- printable ASCII is seen as it is
pub seen-printable : (view : View) (c : ℕ) → is_printable_byte c ≡ true → seen_char view c ≡ c ∷ []
seen-printable view c printable = seen-printing view c (printable-prints c printable)

pub seen-all_printable : (view : View) (cs : List ℕ) → list_all is_printable_byte cs ≡ true → seen view cs ≡ cs
seen-all_printable Given cs all = refl
seen-all_printable Shown [] all = refl
seen-all_printable Shown (c ∷ cs) all = (let both = and_parts _ _ all in ap₂ ◌++◌ (seen-printable Shown c both.0) (seen-all_printable Shown cs both.1))
seen-all_printable Lined [] all = refl
seen-all_printable Lined (c ∷ cs) all = (let both = and_parts _ _ all in ap₂ ◌++◌ (seen-printable Lined c both.0) (seen-all_printable Lined cs both.1))

cell-ascii : (c : ℕ) → is_seen_ascii c ≡ true → (d : ℕ) × (cell_char c ≡ d ∷ []) × (d < 128)
cell-ascii c is = by (is_printing c) (c == 9 || c == 10) refl refl
  where
    by : (p w : Bool) → is_printing c ≡ p → (c == 9 || c == 10) ≡ w → (d : ℕ) × ((if p then c ∷ [] else if w then 32 ∷ [] else []) ≡ d ∷ []) × (d < 128)
    by true w prints white = (c, refl, grind (arith, nat_tests, is))
    by false true prints white = (32, refl, omega arith)
    by false false prints white = absurd (grind (arith, nat_tests, is, prints, white))

-- a byte that is seen in any view is seen as a character of ASCII
pub seen-ascii : (view : View) (c : ℕ) → is_seen_ascii c ≡ true → (d : ℕ) × (seen_char view c ≡ d ∷ []) × (d < 128)
seen-ascii Given c is = (c, refl, grind (arith, nat_tests))
seen-ascii Shown c is = cell-ascii c is
seen-ascii Lined c is = by (c == 10) refl (cell-ascii c is)
  where
    by : (w : Bool) → (c == 10) ≡ w → (d : ℕ) × (cell_char c ≡ d ∷ []) × (d < 128) → (d : ℕ) × ((if w then c ∷ [] else cell_char c) ≡ d ∷ []) × (d < 128)
    by true feed other = (c, refl, grind (arith, nat_tests, feed))
    by false feed other = other

-- ---- what is seen between two positions

module _ (view : View) (t : List ℕ) (utf8 : IsUtf8 t) (n m : ℕ) (ordered : n ≤ m) (start : IsCharBoundary (plain t) n) (end : IsCharBoundary (plain t) m) where
  x_utf8 : IsUtf8 (plain t)
  x_utf8 = IsUtf8-plain t utf8

  part_utf8 : IsUtf8 (slice_range (plain t) n m)
  part_utf8 = IsUtf8-between (plain t) n m x_utf8 ordered start end

  front-split : seen view (chars (take m (plain t))) ≡ seen view (chars (take n (plain t))) ++ seen_cluster view t n m
  front-split =
      let all : n + (m - n) ≡ m = omega (arith, ordered) in
      ap (λ k. seen view (chars (take k (plain t)))) (sym all) ∙ ap (λ x. seen view (chars x)) (take-add n (m - n) (plain t))
      ∙ ap (seen view) (chars-append (take n (plain t)) (slice_range (plain t) n m) (IsUtf8-take (plain t) n x_utf8 start))
      ∙ seen-append view (chars (take n (plain t))) (cluster t n m)

  pub before-split : seen_before view t m ≡ reverse (seen_cluster view t n m) ++ seen_before view t n
  before-split = ap reverse front-split ∙ reverse-append (seen view (chars (take n (plain t)))) (seen_cluster view t n m)

  pub after-split : seen_after view t n ≡ seen_cluster view t n m ++ seen_after view t m
  after-split =
      ap (λ x. seen view (chars x)) (drop_split (plain t) n m ordered) ∙ ap (seen view) (chars-append (slice_range (plain t) n m) (drop m (plain t)) part_utf8)
      ∙ seen-append view (cluster t n m) (chars (drop m (plain t)))

  pub cluster-split : (i : ℕ) → i ≤ n → IsCharBoundary (plain t) i → seen_cluster view t i m ≡ seen_cluster view t i n ++ seen_cluster view t n m
  cluster-split i before first =
      ap (λ x. seen view (chars x)) (slice_range_split (plain t) i n m before ordered)
      ∙ ap (seen view) (chars-append (slice_range (plain t) i n) (slice_range (plain t) n m) (IsUtf8-between (plain t) i n x_utf8 before first start))
      ∙ seen-append view (cluster t i n) (cluster t n m)

  pub part-size : length (encode_utf8_all (cluster t n m)) ≡ m - n
  part-size = ap length (encodes-chars (slice_range (plain t) n m) part_utf8) ∙ length-slice_range (plain t) n m ordered end.0

  pub seen_len-split : seen_len view t m ≡ seen_len view t n + length (encode_utf8_all (seen_cluster view t n m))
  seen_len-split = by view front-split
    where
      by : (v : View) → seen v (chars (take m (plain t))) ≡ seen v (chars (take n (plain t))) ++ seen_cluster v t n m → seen_len v t m ≡ seen_len v t n + length (encode_utf8_all (seen_cluster v t n m))
      by Given split = omega (arith, part-size, ordered)
      by Shown split =
          ap (λ cs. length (encode_utf8_all cs)) split ∙ ap length (encodes-append (seen Shown (chars (take n (plain t)))) (seen_cluster Shown t n m))
          ∙ length-append (encode_utf8_all (seen Shown (chars (take n (plain t))))) (encode_utf8_all (seen_cluster Shown t n m))
      by Lined split =
          ap (λ cs. length (encode_utf8_all cs)) split ∙ ap length (encodes-append (seen Lined (chars (take n (plain t)))) (seen_cluster Lined t n m))
          ∙ length-append (encode_utf8_all (seen Lined (chars (take n (plain t))))) (encode_utf8_all (seen_cluster Lined t n m))

  pub seen-most : length (encode_utf8_all (seen_cluster view t n m)) ≤ m - n
  seen-most = omega (arith, seen-bytes view (cluster t n m), part-size)

  -- nothing is seen between them
  module _ (none : seen_cluster view t n m ≡ []) where
    pub before-none : seen_before view t m ≡ seen_before view t n
    before-none = before-split ∙ ap (λ cs. reverse cs ++ seen_before view t n) none

    pub after-none : seen_after view t n ≡ seen_after view t m
    after-none = after-split ∙ ap (λ cs. cs ++ seen_after view t m) none

    pub seen_len-none : seen_len view t m ≡ seen_len view t n
    seen_len-none = omega (arith, seen_len-split, ap (λ cs. length (encode_utf8_all cs)) none)

  -- a character is
  module _ (c : ℕ) (one : seen_cluster view t n m ≡ c ∷ []) where
    pub before-one : seen_before view t m ≡ c ∷ seen_before view t n
    before-one = before-split ∙ ap (λ cs. reverse cs ++ seen_before view t n) one

    pub after-one : seen_after view t n ≡ c ∷ seen_after view t m
    after-one = after-split ∙ ap (λ cs. cs ++ seen_after view t m) one

pub seen_before-start : (view : View) (t : List ℕ) → seen_before view t 0 ≡ []
seen_before-start view t = ap (λ cs. reverse (seen view cs)) chars-nil ∙ ap reverse (seen-nil view)

-- nothing is between a position and itself
pub cluster-none : (view : View) (t : List ℕ) (n : ℕ) → seen_cluster view t n n ≡ []
cluster-none view t n = (let none : n - n ≡ 0 = omega arith in ap (λ i. seen view (chars (take i (drop n (plain t))))) none ∙ ap (seen view) chars-nil ∙ seen-nil view)
