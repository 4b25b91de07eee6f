-- Positions just after a character that is seen: they are the least before which as much is seen.
use Rattle.std.proofs.Common.{◌≡◌, ◌≢◌, ℕ, ◌+◌, ◌-◌, ◌<◌, ◌≤◌, ⊎_elim, List, [], ◌∷◌, ◌++◌, length, take, drop, flat_map, encode_utf8, encode_utf8_all, if◌then◌else◌, refl, sym, ◌∙◌, ap, arith, append_assoc, length-append, append-nil, take-append-drop, length-take-le}
use Rattle.std.specs.Str.{chars, IsUtf8, IsCharBoundary}
use Rattle.std.proofs.lemmas.Bool.{ne_eqb, cases_lt}
use Rattle.std.proofs.lemmas.Grind.{flat_map-append}
use Rattle.std.proofs.lemmas.Str.{chars-append, encodes-append, encodes-chars, IsUtf8-take}
use Rattle.unicode_segmentation.proofs.TextLemmas.{encode_utf8_nonempty}
use Rattle.ansi_items.specs.Plain.{plain}
use Rattle.ansi_items.proofs.Utf8Lemmas.{IsUtf8-plain}
use Rattle.ansi_safe.specs.Cells.{cell_char}
use Rattle.ansi_clusters.specs.declared.views.View.{View}
use Rattle.ansi_clusters.specs.declared.views.View.TheVariants.{Given, Shown, Lined}
use Rattle.ansi_clusters.specs.Columns.{line_char, least_place}
use Rattle.ansi_clusters.specs.Views.{seen_char, seen_len, given_place, IsTight}
use Rattle.ansi_clusters.specs.Walks.{after, cluster, seen_cluster}
use Rattle.ansi_clusters.proofs.ViewLemmas.{seen_char-size, seen_len-split, part-size, after-split}
use Rattle.ansi_clusters.proofs.ColumnLemmas.{seen_len-start}

-- ---- the least place

pub least-zero : (see : ℕ → List ℕ) (cs : List ℕ) → least_place see 0 cs ≡ 0
least-zero see [] = refl
least-zero see (c ∷ cs) = refl

module _ (see : ℕ → List ℕ) (most : (c : ℕ) → length (encode_utf8_all (see c)) ≤ length (encode_utf8 c)) where
  -- the bytes that are seen of characters, and those that they have
  abbrev seen_bytes : List ℕ → ℕ
  seen_bytes cs = length (encode_utf8_all (flat_map see cs))

  abbrev bytes : List ℕ → ℕ
  bytes cs = length (encode_utf8_all cs)

  seen-cons : (c : ℕ) (cs : List ℕ) → seen_bytes (c ∷ cs) ≡ length (encode_utf8_all (see c)) + seen_bytes cs
  seen-cons c cs = ap length (encodes-append (see c) (flat_map see cs)) ∙ length-append (encode_utf8_all (see c)) (encode_utf8_all (flat_map see cs))

  bytes-cons : (c : ℕ) (cs : List ℕ) → bytes (c ∷ cs) ≡ length (encode_utf8 c) + bytes cs
  bytes-cons c cs = length-append (encode_utf8 c) (encode_utf8_all cs)

  seen-most : (cs : List ℕ) → seen_bytes cs ≤ bytes cs
  seen-most [] = omega arith
  seen-most (c ∷ cs) = omega (arith, seen-cons c cs, bytes-cons c cs, most c, seen-most cs)

  least-step : (n c : ℕ) (cs : List ℕ) → 0 < n → least_place see n (c ∷ cs) ≡ length (encode_utf8 c) + least_place see (n - length (encode_utf8_all (see c))) cs
  least-step n c cs some = ap (λ b. if b then 0 else length (encode_utf8 c) + least_place see (n - length (encode_utf8_all (see c))) cs) (ne_eqb n 0 (λ none. absurd (omega (arith, some, none))))

  -- characters of which all is seen
  least-full : (cs rest : List ℕ) (n : ℕ) → n ≡ bytes cs → seen_bytes cs ≡ bytes cs → least_place see n (cs ++ rest) ≡ bytes cs
  least-full [] rest n is all = ap (λ k. least_place see k rest) is ∙ least-zero see rest
  least-full (c ∷ cs) rest n is all =
      let whole : length (encode_utf8_all (see c)) ≡ length (encode_utf8 c) = omega (arith, all, seen-cons c cs, bytes-cons c cs, most c, seen-most cs) in
      let others : seen_bytes cs ≡ bytes cs = omega (arith, all, seen-cons c cs, bytes-cons c cs, most c, seen-most cs) in
      let some : 0 < n = omega (arith, is, bytes-cons c cs, encode_utf8_nonempty c) in
      least-step n c (cs ++ rest) some
      ∙ ap (λ k. length (encode_utf8 c) + k) (least-full cs rest (n - length (encode_utf8_all (see c))) (omega (arith, is, whole, bytes-cons c cs)) others)
      ∙ sym (bytes-cons c cs)

  -- the same after others
  pub least-after : (front cs rest : List ℕ) (n : ℕ) → 0 < bytes cs → n ≡ seen_bytes front + bytes cs → seen_bytes cs ≡ bytes cs → least_place see n (front ++ (cs ++ rest)) ≡ bytes front + bytes cs
  least-after [] cs rest n some is all = least-full cs rest n (omega (arith, is)) all ∙ omega arith
  least-after (c ∷ front) cs rest n some is all =
      let left : n - length (encode_utf8_all (see c)) ≡ seen_bytes front + bytes cs = omega (arith, is, seen-cons c front) in
      least-step n c (front ++ (cs ++ rest)) (omega (arith, is, some))
      ∙ ap (λ k. length (encode_utf8 c) + k) (least-after front cs rest (n - length (encode_utf8_all (see c))) some left all)
      ∙ omega (arith, bytes-cons c front)

module _ (see : ℕ → List ℕ) (most : (c : ℕ) → length (encode_utf8_all (see c)) ≤ length (encode_utf8 c)) where
  seen_bytes-append : (xs ys : List ℕ) → seen_bytes see most (xs ++ ys) ≡ seen_bytes see most xs + seen_bytes see most ys
  seen_bytes-append xs ys =
      ap (λ cs. length (encode_utf8_all cs)) (flat_map-append see xs ys) ∙ ap length (encodes-append (flat_map see xs) (flat_map see ys))
      ∙ length-append (encode_utf8_all (flat_map see xs)) (encode_utf8_all (flat_map see ys))

  -- as much is seen before a place that comes no later
  least-most : (front rest : List ℕ) → least_place see (seen_bytes see most front) (front ++ rest) ≤ bytes see most front
  least-most [] rest = omega (arith, least-zero see rest)
  least-most (c ∷ front) rest = ⊎_elim (some (least-most front rest)) none (cases_lt 0 (seen_bytes see most (c ∷ front)))
    where
      some : least_place see (seen_bytes see most front) (front ++ rest) ≤ bytes see most front → 0 < seen_bytes see most (c ∷ front) → least_place see (seen_bytes see most (c ∷ front)) (c ∷ (front ++ rest)) ≤ bytes see most (c ∷ front)
      some others more =
          let left : seen_bytes see most (c ∷ front) - length (encode_utf8_all (see c)) ≡ seen_bytes see most front = omega (arith, seen-cons see most c front) in
          omega (
            arith,
            least-step see most (seen_bytes see most (c ∷ front)) c (front ++ rest) more,
            ap (λ k. least_place see k (front ++ rest)) left,
            others,
            bytes-cons see most c front,
          )

      none : seen_bytes see most (c ∷ front) ≤ 0 → least_place see (seen_bytes see most (c ∷ front)) (c ∷ (front ++ rest)) ≤ bytes see most (c ∷ front)
      none few =
          let is : seen_bytes see most (c ∷ front) ≡ 0 = omega (arith, few) in
          omega (arith, ap (λ k. least_place see k (c ∷ (front ++ rest))) is, least-zero see (c ∷ (front ++ rest)))

  -- a character of which nothing is seen isn't just before the least place
  pub least-last : (front rest : List ℕ) (d : ℕ) → see d ≡ [] → least_place see (seen_bytes see most (front ++ d ∷ [])) (front ++ (d ∷ rest)) ≡ bytes see most front + length (encode_utf8 d) → ⊥
  least-last front rest d none is =
      let same : seen_bytes see most (front ++ d ∷ []) ≡ seen_bytes see most front
      = omega (arith, seen_bytes-append front (d ∷ []), seen-cons see most d [], ap (λ cs. length (encode_utf8_all cs)) none) in
      absurd (omega (arith, is, ap (λ k. least_place see k (front ++ (d ∷ rest))) same, least-most front (d ∷ rest), encode_utf8_nonempty d))

-- ---- tight positions

pub tight-start : (view : View) (t : List ℕ) → IsTight view t 0
tight-start Given t = refl
tight-start Shown t = ap (λ n. least_place cell_char n (chars (plain t))) (seen_len-start Shown t) ∙ least-zero cell_char (chars (plain t))
tight-start Lined t = ap (λ n. least_place line_char n (chars (plain t))) (seen_len-start Lined t) ∙ least-zero line_char (chars (plain t))

-- two tight positions before which as much is seen are the same
pub tight-same : (view : View) (t : List ℕ) (n m : ℕ) → IsTight view t n → IsTight view t m → seen_len view t n ≡ seen_len view t m → n ≡ m
tight-same view t n m first second same = sym first ∙ ap (given_place view t) same ∙ second

module _ (view : View) (t : List ℕ) (utf8 : IsUtf8 t) (n m : ℕ) (ordered : n ≤ m) (start : IsCharBoundary (plain t) n) (end : IsCharBoundary (plain t) m) where
  -- what is seen before a position grows
  pub seen_len-ordered : seen_len view t n ≤ seen_len view t m
  seen_len-ordered = omega (arith, seen_len-split view t utf8 n m ordered start end)

  pub tight-less : IsTight view t n → IsTight view t m → n < m → seen_len view t n < seen_len view t m
  tight-less first second less = lt_from (seen_len view t n) (seen_len view t m) seen_len-ordered (λ same. (let is = tight-same view t n m first second same in absurd (omega (arith, is, less))))
    where
      lt_from : (a b : ℕ) → a ≤ b → (a ≡ b → ⊥) → a < b
      lt_from a b most other = grind (arith, most, other)

  -- if all between is seen, the position after it is tight
  pub tight-full : n < m → seen_len view t m ≡ seen_len view t n + (m - n) → IsTight view t m
  tight-full less all = by view (seen_len-split view t utf8 n m ordered start end) all
    where
      x : List ℕ
      x = plain t

      front : List ℕ
      front = chars (take n x)

      part : List ℕ
      part = cluster t n m

      part_is : length (encode_utf8_all part) ≡ m - n
      part_is = part-size view t utf8 n m ordered start end

      front_is : length (encode_utf8_all front) ≡ n
      front_is = ap length (encodes-chars (take n x) (IsUtf8-take x n (IsUtf8-plain t utf8) start)) ∙ length-take-le n x start.0

      split : chars x ≡ front ++ (part ++ after t m)
      split =
          ap chars (sym (take-append-drop n x)) ∙ chars-append (take n x) (drop n x) (IsUtf8-take x n (IsUtf8-plain t utf8) start)
          ∙ ap (λ cs. front ++ cs) (after-split Given t utf8 n m ordered start end)

      by : (v : View) → seen_len v t m ≡ seen_len v t n + length (encode_utf8_all (seen_cluster v t n m)) → seen_len v t m ≡ seen_len v t n + (m - n) → IsTight v t m
      by Given is all = refl
      by Shown is all =
          ap (λ cs. least_place cell_char (seen_len Shown t m) cs) split
          ∙ least-after cell_char (seen_char-size Shown) front part (after t m) (seen_len Shown t m) (omega (arith, less, part_is)) (omega (arith, all, part_is)) (omega (arith, all, is, part_is))
          ∙ omega (arith, part_is, front_is, less)
      by Lined is all =
          ap (λ cs. least_place line_char (seen_len Lined t m) cs) split
          ∙ least-after line_char (seen_char-size Lined) front part (after t m) (seen_len Lined t m) (omega (arith, less, part_is)) (omega (arith, all, part_is)) (omega (arith, all, is, part_is))
          ∙ omega (arith, part_is, front_is, less)

  -- a character is all that is seen between, and has as many bytes
  pub tight-one : (c : ℕ) → seen_cluster view t n m ≡ c ∷ [] → m ≡ n + length (encode_utf8 c) → IsTight view t m
  tight-one c one size =
      tight-full (omega (arith, size, encode_utf8_nonempty c))
      (omega (arith, size, seen_len-split view t utf8 n m ordered start end, ap (λ cs. length (encode_utf8_all cs)) one, ap length (append-nil (encode_utf8 c))))

  -- something is seen of the last character before a tight position
  pub tight-last : IsTight view t m → (part : List ℕ) (d : ℕ) → cluster t n m ≡ part ++ d ∷ [] → seen_char view d ≢ []
  tight-last tight part d is none = by view tight none (seen_len-split view t utf8 n m ordered start end)
    where
      x : List ℕ
      x = plain t

      front : List ℕ
      front = chars (take n x)

      split : chars x ≡ (front ++ part) ++ (d ∷ after t m)
      split =
          ap chars (sym (take-append-drop n x)) ∙ chars-append (take n x) (drop n x) (IsUtf8-take x n (IsUtf8-plain t utf8) start)
          ∙ ap (λ cs. front ++ cs) (after-split Given t utf8 n m ordered start end ∙ ap (λ cs. cs ++ after t m) is ∙ append_assoc part (d ∷ []) (after t m))
          ∙ sym (append_assoc front part (d ∷ after t m))

      size : length (encode_utf8_all (front ++ part)) + length (encode_utf8 d) ≡ m
      size = omega (
        arith,
        ordered,
        ap length (encodes-chars (take n x) (IsUtf8-take x n (IsUtf8-plain t utf8) start)) ∙ length-take-le n x start.0,
        ap length (encodes-append front part) ∙ length-append (encode_utf8_all front) (encode_utf8_all part),
        ap (λ cs. length (encode_utf8_all cs)) is ∙ ap length (encodes-append part (d ∷ [])) ∙ length-append (encode_utf8_all part) (encode_utf8_all (d ∷ [])),
        ap length (append-nil (encode_utf8 d)),
        part-size view t utf8 n m ordered start end,
      )

      -- as much is seen as of these characters
      total : (see : ℕ → List ℕ) (most : (c : ℕ) → length (encode_utf8_all (see c)) ≤ length (encode_utf8 c)) (k : ℕ) → k ≡ seen_bytes see most front + seen_bytes see most (cluster t n m) → k ≡ seen_bytes see most ((front ++ part) ++ d ∷ [])
      total see most k sum =
          sum ∙ ap (λ cs. seen_bytes see most front + seen_bytes see most cs) is
          ∙ sym (seen_bytes-append see most front (part ++ d ∷ [])) ∙ ap (seen_bytes see most) (sym (append_assoc front part (d ∷ [])))

      by : (v : View) → IsTight v t m → seen_char v d ≡ [] → seen_len v t m ≡ seen_len v t n + length (encode_utf8_all (seen_cluster v t n m)) → ⊥
      by Given is_tight unseen sum = absurd (cc unseen)
      by Shown is_tight unseen sum = least-last cell_char (seen_char-size Shown) (front ++ part) (after t m) d unseen
          (ap (λ k. least_place cell_char k ((front ++ part) ++ (d ∷ after t m))) (sym (total cell_char (seen_char-size Shown) (seen_len Shown t m) sum))
          ∙ ap (least_place cell_char (seen_len Shown t m)) (sym split) ∙ is_tight ∙ sym size)
      by Lined is_tight unseen sum = least-last line_char (seen_char-size Lined) (front ++ part) (after t m) d unseen
          (ap (λ k. least_place line_char k ((front ++ part) ++ (d ∷ after t m))) (sym (total line_char (seen_char-size Lined) (seen_len Lined t m) sum))
          ∙ ap (least_place line_char (seen_len Lined t m)) (sym split) ∙ is_tight ∙ sym size)
