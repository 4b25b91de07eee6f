-- The cluster between two walks, by the characters that are next.
use Rattle.std.proofs.Common.{◌≡◌, ◌≢◌, ℕ, ◌+◌, ◌-◌, ◌<◌, ◌==◌, ⊎_elim, true, false, List, [], ◌∷◌, ◌++◌, length, drop, slice_range, encode_utf8, encode_utf8_all, append-nil, length-append, sym, ◌∙◌, ap, arith}
use Rattle.std.specs.Str.{chars, IsUtf8, bytes_eq}
use Rattle.std.proofs.lemmas.Bool.{cases_eq, eq-eqb, ne_eqb, false_from_ne_true, or_left, or_right, or_from}
use Rattle.std.proofs.lemmas.List.Folds.{drop_split}
use Rattle.std.proofs.lemmas.Slice.Eq.{bytes_eq-Decides}
use Rattle.std.proofs.lemmas.Str.{chars-append, IsUtf8-between, length-encode, len_utf8_ascii}
use Rattle.ansi_items.specs.Plain.{plain}
use Rattle.ansi_items.proofs.Utf8Lemmas.{IsUtf8-plain}
use Rattle.ansi_clusters.specs.declared.walks.Walk.{Walk}
use Rattle.ansi_clusters.specs.Walks.{after, cluster, IsWalk, IsNext}
use Rattle.ansi_clusters.specs.Lines.{is_line_end, is_blank}
use Rattle.ansi_clusters.proofs.WalkLemmas.{walk_boundary, after-past, cluster-push}
use Rattle.ansi_clusters.specs.declared.views.View.TheVariants.{Given}
use Rattle.ansi_clusters.proofs.ViewLemmas.{cluster-none}
use Rattle.ansi_clusters.proofs.ColumnLemmas.{cluster-bytes}

pub is_blank-other : (cluster : List ℕ) → cluster ≢ 0x20 ∷ [] → is_blank cluster ≡ false
unfolding is_blank
is_blank-other cluster other = false_from_ne_true (bytes_eq cluster (0x20 ∷ [])) (λ e. other ((bytes_eq-Decides cluster (0x20 ∷ [])).0 e))

pub is_blank-space : (cluster : List ℕ) → cluster ≡ 0x20 ∷ [] → is_blank cluster ≡ true
unfolding is_blank
is_blank-space cluster is = (bytes_eq-Decides cluster (0x20 ∷ [])).1 is

pub not_line_end : (cluster : List ℕ) → cluster ≢ 0x0A ∷ [] → cluster ≢ 0x0D ∷ 0x0A ∷ [] → is_line_end cluster ≡ false
unfolding is_line_end
not_line_end cluster not_one not_two =
    or_from (bytes_eq cluster (0x0A ∷ [])) (bytes_eq cluster (0x0D ∷ 0x0A ∷ []))
    (false_from_ne_true _ (λ e. not_one ((bytes_eq-Decides cluster (0x0A ∷ [])).0 e)))
    (false_from_ne_true _ (λ e. not_two ((bytes_eq-Decides cluster (0x0D ∷ 0x0A ∷ [])).0 e)))

line_feed : (cluster : List ℕ) → cluster ≡ 0x0A ∷ [] → is_line_end cluster ≡ true
unfolding is_line_end
line_feed cluster is = or_left (bytes_eq cluster (0x0A ∷ [])) (bytes_eq cluster (0x0D ∷ 0x0A ∷ [])) ((bytes_eq-Decides cluster (0x0A ∷ [])).1 is)

is_line_end-crlf : (cluster : List ℕ) → cluster ≡ 0x0D ∷ 0x0A ∷ [] → is_line_end cluster ≡ true
unfolding is_line_end
is_line_end-crlf cluster is = or_right (bytes_eq cluster (0x0A ∷ [])) (bytes_eq cluster (0x0D ∷ 0x0A ∷ [])) ((bytes_eq-Decides cluster (0x0D ∷ 0x0A ∷ [])).1 is)

-- the equation of the first of two lists
pub cons-heads : {c d : ℕ} {cs ds : List ℕ} → c ∷ cs ≡ d ∷ ds → c ≡ d
cons-heads e = cc

pub cons-tails : {c d : ℕ} {cs ds : List ℕ} → c ∷ cs ≡ d ∷ ds → cs ≡ ds
cons-tails e = cc

-- an ASCII character has one byte
pub encode_utf8-one_byte : (c : ℕ) → c < 128 → length (encode_utf8 c) ≡ 1
encode_utf8-one_byte c ascii = length-encode c ∙ len_utf8_ascii c ascii

encode_utf8_all-one_byte : (c : ℕ) → c < 128 → length (encode_utf8_all (c ∷ [])) ≡ 1
encode_utf8_all-one_byte c ascii = ap length (append-nil (encode_utf8 c)) ∙ encode_utf8-one_byte c ascii

encode_utf8_all-two_bytes : (c d : ℕ) → c < 128 → d < 128 → length (encode_utf8_all (c ∷ d ∷ [])) ≡ 2
encode_utf8_all-two_bytes c d first second = omega (arith, length-append (encode_utf8 c) (encode_utf8_all (d ∷ [])), encode_utf8-one_byte c first, encode_utf8_all-one_byte d second)

module _ (t : List ℕ) (utf8 : IsUtf8 t) (w : Walk) (from : IsWalk t w) where
  -- the cluster of the next character alone
  alone : (c : ℕ) → IsNext t w c → (m : ℕ) → m ≡ w.position + length (encode_utf8 c) → cluster t w.position m ≡ c ∷ []
  alone c next m is =
      ap (cluster t w.position) is ∙ cluster-push t utf8 w from c next w.position (omega arith) (walk_boundary t utf8 w from) ∙ ap (λ u. u ++ c ∷ []) (cluster-none Given t w.position)

  module _ (v : Walk) (to : IsWalk t v) (ordered : w.position < v.position) where
    abbrev here : List ℕ
    here = cluster t w.position v.position

    after-is : after t w.position ≡ here ++ after t v.position
    after-is =
        ap chars (drop_split (plain t) w.position v.position (omega (arith, ordered)))
        ∙ chars-append (slice_range (plain t) w.position v.position) (drop v.position (plain t))
        (IsUtf8-between (plain t) w.position v.position (IsUtf8-plain t utf8) (omega (arith, ordered)) (walk_boundary t utf8 w from) (walk_boundary t utf8 v to))

    -- it has the bytes between them
    pub bytes_are : length (encode_utf8_all here) ≡ v.position - w.position
    bytes_are = cluster-bytes t w.position v.position utf8 (omega (arith, ordered)) (walk_boundary t utf8 w from) (walk_boundary t utf8 v to)

    found : {ds : List ℕ} → here ≡ ds → after t w.position ≡ ds ++ after t v.position
    found is = after-is ∙ ap (λ u. u ++ after t v.position) is

    -- it begins with the next character
    first_is : (c : ℕ) → IsNext t w c → {d : ℕ} {ds : List ℕ} → here ≡ d ∷ ds → c ≡ d
    first_is c next is = cons-heads (sym (after-past t utf8 w from c next) ∙ found is)

    none : after t w.position ≡ [] → {d : ℕ} {ds : List ℕ} → here ≡ d ∷ ds → ⊥
    none nothing is = (let e = sym nothing ∙ found is in cc)

    pub blank-none : after t w.position ≡ [] → is_blank here ≡ false
    blank-none nothing = is_blank-other here (λ e. none nothing e)

    pub blank-other : (c : ℕ) → IsNext t w c → c ≢ 0x20 → is_blank here ≡ false
    blank-other c next other = is_blank-other here (λ e. other (first_is c next e))

    pub blank-long : v.position - w.position ≢ 1 → is_blank here ≡ false
    blank-long more = is_blank-other here (λ e. more (sym bytes_are ∙ ap (λ u. length (encode_utf8_all u)) e ∙ encode_utf8_all-one_byte 0x20 (omega arith)))

    pub blank-len : IsNext t w 0x20 → is_blank here ≡ (v.position - w.position == 1)
    blank-len next = ⊎_elim
        (λ one. is_blank-space here (alone 0x20 next v.position (omega (arith, one, ordered, encode_utf8-one_byte 0x20 (omega arith)))) ∙ sym (eq-eqb (v.position - w.position) 1 one))
        (λ more. is_blank-other here (λ e. more (sym bytes_are ∙ ap (λ u. length (encode_utf8_all u)) e ∙ encode_utf8_all-one_byte 0x20 (omega arith))) ∙ sym (ne_eqb (v.position - w.position) 1 more))
        (cases_eq (v.position - w.position) 1)

    pub line_end-none : after t w.position ≡ [] → is_line_end here ≡ false
    line_end-none nothing = not_line_end here (λ e. none nothing e) (λ e. none nothing e)

    pub line_end-other : (c : ℕ) → IsNext t w c → c ≢ 0x0A → c ≢ 0x0D → is_line_end here ≡ false
    line_end-other c next not_feed not_return = not_line_end here (λ e. not_feed (first_is c next e)) (λ e. not_return (first_is c next e))

    pub line_end-long : v.position - w.position ≢ 1 → v.position - w.position ≢ 2 → is_line_end here ≡ false
    line_end-long not_one not_two =
        not_line_end here (λ e. not_one (sym bytes_are ∙ ap (λ u. length (encode_utf8_all u)) e ∙ encode_utf8_all-one_byte 0x0A (omega arith)))
        (λ e. not_two (sym bytes_are ∙ ap (λ u. length (encode_utf8_all u)) e ∙ encode_utf8_all-two_bytes 0x0D 0x0A (omega arith) (omega arith)))

    pub line_end-feed : IsNext t w 0x0A → is_line_end here ≡ (v.position - w.position == 1)
    line_end-feed next = ⊎_elim
        (λ one. line_feed here (alone 0x0A next v.position (omega (arith, one, ordered, encode_utf8-one_byte 0x0A (omega arith)))) ∙ sym (eq-eqb (v.position - w.position) 1 one))
        (λ more.
        not_line_end here (λ e. more (sym bytes_are ∙ ap (λ u. length (encode_utf8_all u)) e ∙ encode_utf8_all-one_byte 0x0A (omega arith))) (λ e. (let other = first_is 0x0A next e in absurd (omega (arith, other))))
        ∙ sym (ne_eqb (v.position - w.position) 1 more))
        (cases_eq (v.position - w.position) 1)

    -- a carriage return is next, and after it comes the walk u
    module _ (next : IsNext t w 0x0D) where
      not_feed : here ≢ 0x0A ∷ []
      not_feed e = (let other = first_is 0x0D next e in omega (arith, other))

      pub return-len : v.position - w.position ≢ 2 → is_line_end here ≡ false
      return-len other = not_line_end here not_feed (λ e. other (sym bytes_are ∙ ap (λ u. length (encode_utf8_all u)) e ∙ encode_utf8_all-two_bytes 0x0D 0x0A (omega arith) (omega arith)))

      module _ (u : Walk) (walk : IsWalk t u) (past : u.position ≡ w.position + length (encode_utf8 0x0D)) (rest : after t w.position ≡ 0x0D ∷ after t u.position) where
        pub return-none : after t u.position ≡ [] → is_line_end here ≡ false
        return-none nothing = not_line_end here not_feed (λ e. (let f = sym nothing ∙ cons-tails (sym rest ∙ found e) in cc))

        pub return-other : (d : ℕ) → IsNext t u d → d ≢ 0x0A → is_line_end here ≡ false
        return-other d then other = not_line_end here not_feed (λ e. other (cons-heads (sym (after-past t utf8 u walk d then) ∙ cons-tails (sym rest ∙ found e))))

        pub return-feed : IsNext t u 0x0A → v.position - w.position ≡ 2 → is_line_end here ≡ true
        return-feed then two =
            is_line_end-crlf here (ap (cluster t w.position) (omega (arith, two, past, ordered, encode_utf8-one_byte 0x0D (omega arith), encode_utf8-one_byte 0x0A (omega arith)))
            ∙ cluster-push t utf8 u walk 0x0A then w.position (omega (arith, past)) (walk_boundary t utf8 w from)
            ∙ ap (λ k. k ++ 0x0A ∷ []) (alone 0x0D next u.position past))
