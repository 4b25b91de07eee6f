-- A character of ASCII that is all that is seen between two walks.
use Rattle.std.proofs.Common.{◌≡◌, ◌≢◌, ℕ, ◌+◌, ◌-◌, ◌<◌, ◌≤◌, ◌==◌, ◌||◌, ◌⊎◌, inl, inr, ⊎_elim, Bool, true, false, List, [], ◌∷◌, ◌++◌, length, take, drop, slice_range, slice_index, get_or, encode_utf8, encode_utf8_all, append-nil, if◌then◌else◌, refl, sym, ◌∙◌, ap, subst, arith}
use Rattle.std.specs.Str.{IsUtf8, IsCharBoundary, bytes_eq}
use Rattle.std.proofs.lemmas.Bool.{cases_eq, eq-eqb, ne_eqb, false_from_ne_true}
use Rattle.std.proofs.lemmas.Bool.Decides.{nat_tests}
use Rattle.std.proofs.lemmas.List.{length_push, same_from_push, get_or_push, get_or-take, get_or-drop}
use Rattle.std.proofs.lemmas.Str.{IsUtf8-between, encodes-append, encodes-chars, encode_ascii}
use Rattle.std.proofs.lemmas.Slice.Eq.{bytes_eq-Decides}
use Rattle.unicode_width.specs.Width.{str_width, step, past_emoji}
use Rattle.ansi_items.specs.Plain.{plain}
use Rattle.ansi_safe.specs.Cells.{cell_char}
use Rattle.ansi_safe.specs.Safe.{is_printing}
use Rattle.ansi_clusters.specs.declared.walks.Walk.{Walk}
use Rattle.ansi_clusters.specs.declared.views.View.{View}
use Rattle.ansi_clusters.specs.declared.views.View.TheVariants.{Given, Shown, Lined}
use Rattle.ansi_clusters.specs.Columns.{cluster_width}
use Rattle.ansi_clusters.specs.Lines.{is_line_end, is_blank}
use Rattle.ansi_clusters.specs.Views.{seen_char, seen, seen_len, IsTight}
use Rattle.ansi_clusters.specs.Walks.{after, cluster, seen_after, seen_cluster, IsWalkIn, IsTightWalk, IsSeenNext}
use Rattle.ansi_clusters.proofs.ClusterWalkLemmas.{seen_cluster-past}
use Rattle.ansi_clusters.proofs.KindLemmas.{cons-heads, cons-tails, encode_utf8-one_byte}
use Rattle.ansi_clusters.proofs.TightLemmas.{tight-same, tight-one, tight-last}
use Rattle.ansi_clusters.proofs.ViewLemmas.{seen-nil, seen-one, seen-append, after-split, after-none, after-one, seen_len-split}
use Rattle.ansi_clusters.proofs.WalkLemmas.{walk_boundary, run-between}
use Rattle.ansi_items.proofs.Utf8Lemmas.{IsUtf8-plain}
use Rattle.ansi_search.proofs.SliceLemmas.{length-slice_range}

-- `start` is the walk before the first character that is seen from `w` on, and `v` a later one.
module _ (view : View) (t : List ℕ) (utf8 : IsUtf8 t) (w v start : Walk) (from : IsWalkIn view t w) (to : IsTightWalk view t v) (ordered : w.position < v.position)
    (here : IsWalkIn view t start) (begins : w.position ≤ start.position) (left_out : seen_cluster view t w.position start.position ≡ []) (c : ℕ) (ascii : c < 128) where
  abbrev pub part : List ℕ
  part = seen_cluster view t w.position v.position

  begin : IsCharBoundary (plain t) w.position
  begin = walk_boundary t utf8 w from

  -- what is seen from the start on
  ahead : part ++ seen_after view t v.position ≡ seen_after view t start.position
  ahead = sym (after-split view t utf8 w.position v.position (omega (arith, ordered)) begin (walk_boundary t utf8 v to.walk)) ∙ after-none view t utf8 w.position start.position begins begin (walk_boundary t utf8 start here) left_out

  other : (part ≢ c ∷ []) → bytes_eq part (c ∷ []) ≡ false
  other differs = false_from_ne_true (bytes_eq part (c ∷ [])) (λ e. differs ((bytes_eq-Decides part (c ∷ [])).0 e))

  pub alone-none : after t start.position ≡ [] → bytes_eq part (c ∷ []) ≡ false
  alone-none none = other (λ is. (let e = sym (ap (λ cs. cs ++ seen_after view t v.position) is) ∙ ahead ∙ ap (seen view) none ∙ seen-nil view in cc))

  module _ (d : ℕ) (next : IsSeenNext view t start d) where
    abbrev m : ℕ
    m = start.position + length (encode_utf8 d)

    past : IsCharBoundary (plain t) m × (seen_cluster view t start.position m ≡ d ∷ []) × (seen_cluster view t w.position m ≡ d ∷ []) × (w.position < m)
    past = seen_cluster-past w.position m utf8 begin begins here left_out next refl

    -- another character is seen first
    alone-other : d ≢ c → bytes_eq part (c ∷ []) ≡ false
    alone-other differs = other (λ is. differs (sym (cons-heads (sym (ap (λ cs. cs ++ seen_after view t v.position) is) ∙ ahead
        ∙ after-one view t utf8 start.position m (omega arith) (walk_boundary t utf8 start here) past.0 d past.1))))

  module _ (next : IsSeenNext view t start c) where
    abbrev one : ℕ
    one = start.position + length (encode_utf8 c)

    one_is : one ≡ start.position + 1
    one_is = omega (arith, encode_utf8-one_byte c ascii)

    past_c : IsCharBoundary (plain t) one × (seen_cluster view t start.position one ≡ c ∷ []) × (seen_cluster view t w.position one ≡ c ∷ []) × (w.position < one)
    past_c = seen_cluster-past w.position one utf8 begin begins here left_out next refl

    -- it is all
    alone-is : start.position + 1 ≡ v.position → bytes_eq part (c ∷ []) ≡ true
    alone-is place = (bytes_eq-Decides part (c ∷ [])).1 (ap (seen_cluster view t w.position) (sym (one_is ∙ place)) ∙ past_c.2)

    -- more is seen
    alone-more : start.position + 1 ≢ v.position → bytes_eq part (c ∷ []) ≡ false
    alone-more differs = other (λ is. differs (sym one_is ∙ tight-same view t one v.position tight to.tight (same is)))
      where
        tight : IsTight view t one
        tight = tight-one view t utf8 start.position one (omega arith) (walk_boundary t utf8 start here) past_c.0 c past_c.1 refl

        same : part ≡ c ∷ [] → seen_len view t one ≡ seen_len view t v.position
        same is = omega (
          arith,
          seen_len-split view t utf8 w.position one (omega (arith, past_c.3)) begin past_c.0,
          ap (λ cs. length (encode_utf8_all cs)) past_c.2,
          seen_len-split view t utf8 w.position v.position (omega (arith, ordered)) begin (walk_boundary t utf8 v to.walk),
          ap (λ cs. length (encode_utf8_all cs)) is,
        )

  -- the first character that is seen tells, if no more is seen
  module _ (d : ℕ) (next : IsSeenNext view t start d) where
    pub alone-test : start.position + 1 ≡ v.position → (d == c) ≡ bytes_eq part (c ∷ [])
    alone-test place = ⊎_elim
        (λ same. eq-eqb d c same ∙ sym (alone-is (subst (IsSeenNext view t start) same next) place))
        (λ differs. ne_eqb d c differs ∙ sym (alone-other d next differs))
        (cases_eq d c)

    pub alone-longer : start.position + 1 ≢ v.position → bytes_eq part (c ∷ []) ≡ false
    alone-longer place = ⊎_elim
        (λ same. alone-more (subst (IsSeenNext view t start) same next) place)
        (λ differs. alone-other d next differs)
        (cases_eq d c)

-- ---- a last byte that is neither a control nor a blank

-- the last element of a list, if it has one
snoc : (cs : List ℕ) → (cs ≡ []) ⊎ ((front : List ℕ) × (d : ℕ) × (cs ≡ front ++ d ∷ []))
snoc [] = inl refl
snoc (c ∷ cs) = inr (⊎_elim (λ none. ([], c, ap (λ ds. c ∷ ds) none)) (λ some. (c ∷ some.0, some.1, ap (λ ds. c ∷ ds) some.2)) (snoc cs))

none-end : (xs ys : List ℕ) → xs ++ ys ≡ [] → ys ≡ []
none-end [] ys e = e
none-end (x ∷ xs) ys e = absurd (cc e)

single-end : (xs ys : List ℕ) (c : ℕ) → xs ++ ys ≡ c ∷ [] → ys ≢ [] → ys ≡ c ∷ []
single-end [] ys c e some = e
single-end (x ∷ xs) ys c e some = absurd (some (none-end xs ys (cons-tails e)))

-- only a control or a blank is seen as one
cell_small : (d c : ℕ) → c ≤ 32 → cell_char d ≡ c ∷ [] → d ≤ 32
cell_small d c small e = by (is_printing d) (d == 9 || d == 10) refl e
  where
    by : (p w : Bool) → (d == 9 || d == 10) ≡ w → (if p then d ∷ [] else if w then 32 ∷ [] else []) ≡ c ∷ [] → d ≤ 32
    by true w white e = (let is : d ≡ c = cons-heads e in omega (arith, is, small))
    by false true white e = grind (arith, nat_tests, white)
    by false false white e = absurd (cc e)

seen_small : (view : View) (d c : ℕ) → c ≤ 32 → seen_char view d ≡ c ∷ [] → d ≤ 32
seen_small Given d c small e = (let is : d ≡ c = cons-heads e in omega (arith, is, small))
seen_small Shown d c small e = cell_small d c small e
seen_small Lined d c small e = by (d == 10) e
  where
    by : (w : Bool) → (if w then d ∷ [] else cell_char d) ≡ c ∷ [] → d ≤ 32
    by true e = (let is : d ≡ c = cons-heads e in omega (arith, is, small))
    by false e = cell_small d c small e

module _ (view : View) (t : List ℕ) (utf8 : IsUtf8 t) (w v : Walk) (from : IsWalkIn view t w) (to : IsTightWalk view t v) (ordered : w.position < v.position) (c : ℕ) (small : c ≤ 32) where
  abbrev len : ℕ
  len = v.position - w.position

  abbrev bytes : List ℕ
  bytes = slice_range (plain t) w.position v.position

  from_boundary : IsCharBoundary (plain t) w.position
  from_boundary = walk_boundary t utf8 w from

  to_boundary : IsCharBoundary (plain t) v.position
  to_boundary = walk_boundary t utf8 v to.walk

  -- a control or a blank that is all that is seen has the last byte
  last_byte : seen_cluster view t w.position v.position ≡ c ∷ [] → (front : List ℕ) (b : ℕ) → bytes ≡ front ++ b ∷ [] → b ≤ 32
  last_byte is front b bytes_are = ⊎_elim none some (snoc (cluster t w.position v.position))
    where
      none : cluster t w.position v.position ≡ [] → b ≤ 32
      none empty = absurd (cc (sym is ∙ ap (seen view) empty ∙ seen-nil view))

      some : (part : List ℕ) × (d : ℕ) × (cluster t w.position v.position ≡ part ++ d ∷ []) → b ≤ 32
      some (part, d, are) =
          let seen_are : seen view part ++ seen_char view d ≡ c ∷ [] = sym (ap (seen view) are ∙ seen-append view part (d ∷ []) ∙ ap (λ ys. seen view part ++ ys) (seen-one view d)) ∙ is in
          let d_is : seen_char view d ≡ c ∷ [] = single-end (seen view part) (seen_char view d) c seen_are (tight-last view t utf8 w.position v.position (omega (arith, ordered)) from_boundary to_boundary to.tight part d are) in
          let least : d ≤ 32 = seen_small view d c small d_is in
          let spelled : encode_utf8_all part ++ d ∷ [] ≡ front ++ b ∷ []
          = ap (λ ys. encode_utf8_all part ++ ys) (sym (append-nil (encode_utf8 d) ∙ encode_ascii d (omega (arith, least)))) ∙ sym (encodes-append part (d ∷ [])) ∙ ap encode_utf8_all (sym are)
          ∙ encodes-chars bytes (IsUtf8-between (plain t) w.position v.position (IsUtf8-plain t utf8) (omega (arith, ordered)) from_boundary to_boundary) ∙ bytes_are in
          let same : d ≡ b = (same_from_push (encode_utf8_all part) front d b spelled).1 in
          omega (arith, least, same)

  -- so neither is all, if the last byte is greater
  pub alone-last : len ≤ w.run_end - w.offset → 32 < slice_index t (w.offset + len - 1) → bytes_eq (seen_cluster view t w.position v.position) (c ∷ []) ≡ false
  alone-last within other = false_from_ne_true (bytes_eq (seen_cluster view t w.position v.position) (c ∷ [])) (λ e. ⊎_elim none (some e) (snoc bytes))
    where
      run : slice_range t w.offset (w.offset + len) ≡ bytes
      run = run-between t utf8 w v from to.walk (omega (arith, ordered)) within

      size : length bytes ≡ len
      size = length-slice_range (plain t) w.position v.position (omega (arith, ordered)) to.walk.within

      none : bytes ≡ [] → ⊥
      none empty = absurd (omega (arith, ordered, size, ap length empty))

      some : bytes_eq (seen_cluster view t w.position v.position) (c ∷ []) ≡ true → (front : List ℕ) × (b : ℕ) × (bytes ≡ front ++ b ∷ []) → ⊥
      some e (front, b, are) =
          let less : b ≤ 32 = last_byte ((bytes_eq-Decides (seen_cluster view t w.position v.position) (c ∷ [])).0 e) front b are in
          let place : length front ≡ len - 1 = omega (arith, size, ap length are, length_push front b) in
          let count : w.offset + len - w.offset ≡ len = omega arith in
          let at : w.offset + (len - 1) ≡ w.offset + len - 1 = omega (arith, ordered) in
          let read : get_or bytes (len - 1) 0 ≡ slice_index t (w.offset + len - 1)
          = ap (λ xs. get_or xs (len - 1) 0) (sym run ∙ ap (λ k. take k (drop w.offset t)) count) ∙ get_or-take len (drop w.offset t) (len - 1) 0 (omega (arith, ordered)) ∙ get_or-drop w.offset t (len - 1) 0
          ∙ ap (λ k. get_or t k 0) at in
          let is : b ≡ get_or bytes (len - 1) 0 = sym (ap (λ xs. get_or xs (len - 1) 0) are ∙ get_or_push front b 0 (len - 1) place) in
          absurd (omega (arith, less, other, is ∙ read))

-- ---- a carriage return isn't seen, so a line feed is the only line end

no_return : (c : ℕ) (rest more : List ℕ) → (rest ≡ 13 ∷ more → ⊥) → cell_char c ++ rest ≡ 13 ∷ more → ⊥
no_return c rest more others e = by (is_printing c) (c == 9 || c == 10) refl e
  where
    by : (p w : Bool) → is_printing c ≡ p → (if p then c ∷ [] else if w then 32 ∷ [] else []) ++ rest ≡ 13 ∷ more → ⊥
    by true w printing e = (let bad : is_printing 13 ≡ true = subst (λ d. is_printing d ≡ true) (cons-heads e) printing in cc)
    by false true printing e = (let bad : 32 ≡ 13 = cons-heads e in absurd (omega (arith, bad)))
    by false false printing e = others e

no_return-shown : (cs more : List ℕ) → seen Shown cs ≡ 13 ∷ more → ⊥
no_return-shown [] more e = cc
no_return-shown (c ∷ cs) more e = no_return c (seen Shown cs) more (no_return-shown cs more) e

no_return-lined : (cs more : List ℕ) → seen Lined cs ≡ 13 ∷ more → ⊥
no_return-lined [] more e = cc
no_return-lined (c ∷ cs) more e = by (c == 10) refl (no_return-lined cs more) e
  where
    by : (w : Bool) → (c == 10) ≡ w → (seen Lined cs ≡ 13 ∷ more → ⊥) → (if w then c ∷ [] else cell_char c) ++ seen Lined cs ≡ 13 ∷ more → ⊥
    by true feed others e = (let is : c ≡ 13 = cons-heads e in let bad : (13 == 10) ≡ true = subst (λ d. (d == 10) ≡ true) is feed in cc)
    by false feed others e = no_return c (seen Lined cs) more others e

feed_alone : (x : List ℕ) → ((more : List ℕ) → x ≡ 13 ∷ more → ⊥) → bytes_eq x (10 ∷ []) ≡ is_line_end x
unfolding is_line_end
feed_alone x none = sym (ap (λ b. bytes_eq x (10 ∷ []) || b) (false_from_ne_true (bytes_eq x (13 ∷ 10 ∷ [])) (λ e. none (10 ∷ []) ((bytes_eq-Decides x (13 ∷ 10 ∷ [])).0 e))) ∙ or_false (bytes_eq x (10 ∷ [])))
  where
    or_false : (b : Bool) → (b || false) ≡ b
    or_false true = refl
    or_false false = refl

pub ends-shown : (t : List ℕ) (n m : ℕ) → bytes_eq (seen_cluster Shown t n m) (10 ∷ []) ≡ is_line_end (seen_cluster Shown t n m)
ends-shown t n m = feed_alone (seen_cluster Shown t n m) (no_return-shown (cluster t n m))

pub ends-lined : (t : List ℕ) (n m : ℕ) → bytes_eq (seen_cluster Lined t n m) (10 ∷ []) ≡ is_line_end (seen_cluster Lined t n m)
ends-lined t n m = feed_alone (seen_cluster Lined t n m) (no_return-lined (cluster t n m))

pub ends-seen : (view : View) (t : List ℕ) (n m : ℕ) → (view ≡ Shown) ⊎ (view ≡ Lined) → bytes_eq (seen_cluster view t n m) (10 ∷ []) ≡ is_line_end (seen_cluster view t n m)
ends-seen view t n m (inl is) = rw is (ends-shown t n m)
ends-seen view t n m (inr is) = rw is (ends-lined t n m)

pub blank-alone : (x : List ℕ) → bytes_eq x (32 ∷ []) ≡ is_blank x
unfolding is_blank
blank-alone x = refl

-- ---- a cluster of two columns is neither

feed-width : cluster_width (10 ∷ []) ≡ 1
unfolding str_width step past_emoji
feed-width = refl

return-width : cluster_width (13 ∷ 10 ∷ []) ≡ 1
unfolding str_width step past_emoji
return-width = refl

blank-width : cluster_width (32 ∷ []) ≡ 1
unfolding str_width step past_emoji
blank-width = refl

wide-other : (x y : List ℕ) → cluster_width y ≡ 1 → 1 < cluster_width x → bytes_eq x y ≡ false
wide-other x y one wide = false_from_ne_true (bytes_eq x y) (λ e. (let is : cluster_width x ≡ cluster_width y = ap cluster_width ((bytes_eq-Decides x y).0 e) in absurd (omega (arith, is, one, wide))))

pub wide-blank : (x : List ℕ) → 1 < cluster_width x → is_blank x ≡ false
unfolding is_blank
wide-blank x wide = wide-other x (32 ∷ []) blank-width wide

pub wide-line_end : (x : List ℕ) → 1 < cluster_width x → is_line_end x ≡ false
unfolding is_line_end
wide-line_end x wide = ap (λ b. b || bytes_eq x (13 ∷ 10 ∷ [])) (wide-other x (10 ∷ []) feed-width wide) ∙ wide-other x (13 ∷ 10 ∷ []) return-width wide
