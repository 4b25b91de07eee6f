-- How many bytes longer a text is with another text in place of each of many ranges.
use Rattle.std.proofs.Common.{◌≡◌, ℕ, ◌+◌, ◌-◌, ◌<◌, ◌≤◌, inl, inr, true, List, [], ◌∷◌, ◌++◌, length, take, drop, refl, sym, ◌∙◌, ap, ap₂, subst, arith, length-append}
use Rattle.std.specs.Prelude.{sum_by}
use Rattle.std.specs.Str.{IsUtf8}
use Rattle.std.proofs.lemmas.Bool.{cases_lt}
use Rattle.std.proofs.lemmas.List.{take-append-drop, length-drop}
use Rattle.std.proofs.lemmas.List.Sums.{sum_by-cons}
use Rattle.ansi_items.specs.Pieces.{Piece, Text, spelling, pieces_of}
use Rattle.ansi_items.specs.Plain.{plain, plain_of, marks}
use Rattle.ansi_items.proofs.JoinLemmas.{spelled-pieces_of}
use Rattle.ansi_items.proofs.Utf8Lemmas.{IsUtf8-plain}
use Rattle.ansi_style.specs.declared.state.rendition.Rendition.{Rendition}
use Rattle.ansi_style.specs.Rendition.{IsStyle}
use Rattle.ansi_style.specs.Reading.{style_after_from}
use Rattle.ansi_style.specs.Styled.{style_at}
use Rattle.ansi_style.proofs.MarkLemmas.{state_by_marks, state_by_marks-before, state_by_marks-text, state_by_marks-mark}
use Rattle.ansi_style.proofs.StyleLemmas.{IsStyle-style_at, IsStyle-style_after_from}
use Rattle.ansi_safe.specs.Links.{link_at, link_after, link_after_all}
use Rattle.ansi_safe.proofs.LinkLemmas.{link_through}
use Rattle.ansi_restyle.specs.Matches.{matches}
use Rattle.ansi_restyle.specs.Ranges.{are_in_turn}
use Rattle.ansi_restyle.specs.Removed.{sequences}
use Rattle.ansi_restyle.specs.Replaced.{place_of, place_after, put}
use Rattle.ansi_restyle.specs.ReplacedAll.{replaced_all}
use Rattle.ansi_restyle.specs.ReplacedEach.{Swap, swaps_with, ranges_of, without_front, replaced_from, replaced_each}
use Rattle.ansi_restyle.specs.Restyled.{front, rest}
use Rattle.ansi_restyle.proofs.FrontLemmas.{pieces_of-front, plain-rest}
use Rattle.ansi_restyle.proofs.LengthLemmas.{length-both}
use Rattle.ansi_restyle.proofs.LinkedLemmas.{after-pieces}
use Rattle.ansi_restyle.proofs.LinkRangeLemmas.{through-one_text, by-front, link_at-next}
use Rattle.ansi_restyle.proofs.MatchLemmas.{matches_in_turn}
use Rattle.ansi_restyle.proofs.PlaceLemmas.{plain-after_place}
use Rattle.ansi_restyle.proofs.RangeLemmas.{are_first, in_turn-within}
use Rattle.ansi_restyle.proofs.RemovedLemmas.{length-mark_pieces}
use Rattle.ansi_restyle.proofs.ReplacedAllLemmas.{with_in_turn}
use Rattle.ansi_restyle.proofs.ReplacedLemmas.{length-put}
use Rattle.ansi_restyle.proofs.RestyledLemmas.{drop-further}
use Rattle.ansi_restyle.proofs.SafeEachLemmas.{place_after-some}
use Rattle.ansi_restyle.proofs.SafePutLemmas.{up_to, up_to-later, up_to-last, from, from-later, from-inside, from-end, up_to_place, from_place}

-- The link at a position, if `link` is open before the pieces.

abbrev link_by : List ℕ → List Piece → ℕ → List ℕ
link_by link ps i = state_by_marks link_after link ps i

past_text : (link w : List ℕ) (ps : List Piece) (i n : ℕ) → i ≡ length w + n → link_by link (Text w ∷ ps) i ≡ link_by link ps n
past_text link w ps i n is = ap (link_by link (Text w ∷ ps)) is ∙ state_by_marks-text link_after link w ps n

-- the pieces up to a place leave open the link of the byte before it
link-up_to : (link : List ℕ) (a : ℕ) (ps : List Piece) → 0 < a → a ≤ length (plain_of ps) → link_through link (up_to a ps) ≡ link_by link ps (a - 1)
link-up_to link a [] some within = absurd (omega (arith, some, within))
link-up_to link a (Text w ∷ ps) some within = elim (cases_lt (length w) a) [
  | inl later ↦
      ap (link_through link) (up_to-later a w ps later)
      ∙ link-up_to link (a - length w) ps (omega (arith, later)) (omega (arith, within, length-append w (plain_of ps)))
      ∙ sym (past_text link w ps (a - 1) (a - length w - 1) (omega (arith, later)))
  | inr last ↦
      ap (link_through link) (up_to-last a w ps last) ∙ through-one_text link (take a w)
      ∙ sym (state_by_marks-before link_after link w ps (a - 1) (omega (arith, some, last)))
]
link-up_to link a (p ∷ ps) some within = link-up_to (link_after link (spelling p)) a ps some within ∙ sym (state_by_marks-mark link_after link p ps (a - 1) refl)

-- and the links of the pieces from there on are those further on
link-from : (link : List ℕ) (a i : ℕ) (ps : List Piece) → 0 < a → a ≤ length (plain_of ps) → link_by (link_through link (up_to a ps)) (from a ps) i ≡ link_by link ps (a + i)
link-from link a i [] some within = absurd (omega (arith, some, within))
link-from link a i (Text w ∷ ps) some within = elim (cases_lt (length w) a) [
  | inl later ↦
      ap₂ (λ qs rs. link_by (link_through link qs) rs i) (up_to-later a w ps later) (from-later a w ps later)
      ∙ link-from link (a - length w) i ps (omega (arith, later)) (omega (arith, within, length-append w (plain_of ps)))
      ∙ sym (past_text link w ps (a + i) (a - length w + i) (omega (arith, later)))
  | inr last ↦ (
      let same : link_through link (up_to a (Text w ∷ ps)) ≡ link = ap (link_through link) (up_to-last a w ps last) ∙ through-one_text link (take a w) in
      elim (cases_lt a (length w)) [
        | inl inside ↦ ap₂ (λ l qs. link_by l qs i) same (from-inside a w ps inside) ∙ in_text link a i w ps inside
        | inr past ↦ (
            let end : a ≡ length w = omega (arith, last, past) in
            ap₂ (λ l qs. link_by l qs i) same (from-end a w ps end) ∙ sym (past_text link w ps (a + i) i (omega (arith, end))))
      ])
]
  where
    in_text : (l : List ℕ) (b j : ℕ) (v : List ℕ) (qs : List Piece) → b < length v → link_by l (Text (drop b v) ∷ qs) j ≡ link_by l (Text v ∷ qs) (b + j)
    in_text l b j v qs inside = elim (cases_lt j (length (drop b v))) [
      | inl before ↦
          state_by_marks-before link_after l (drop b v) qs j before
          ∙ sym (state_by_marks-before link_after l v qs (b + j) (omega (arith, before, length-drop b v)))
      | inr after ↦ (
          let k = j - length (drop b v) in
          past_text l (drop b v) qs j k (omega (arith, after)) ∙ sym (past_text l v qs (b + j) k (omega (arith, after, inside, length-drop b v))))
    ]
link-from link a i (p ∷ ps) some within =
    link-from (link_after link (spelling p)) a i ps some within ∙ sym (state_by_marks-mark link_after link p ps (a + i) refl)

module _ (t : List ℕ) where
  -- y is what is left of t after its first n plain bytes, and l is open before it
  record IsOpenBefore (n : ℕ) (l y : List ℕ) : Type 0 where
    pub plain_left : plain y ≡ drop n (plain t)
    pub here : l ≡ link_at t (n - 1)
    pub later : (i : ℕ) → link_by l (pieces_of y) i ≡ link_at t (n + i)

  begin : IsOpenBefore 0 (link_at t 0) (rest 0 t)
  begin = record {
    plain_left = plain-rest t 0;
    here = refl;
    later = λ i. by-front (link_at t 0) (pieces_of (rest 0 t)) i ∙ sym (ap (link_through (link_at t 0)) (pieces_of-front (rest 0 t) i)) ∙ link_at-next t 0 i;
  }

  abbrev before : ℕ → List ℕ → List ℕ
  before d y = take (place_after d y) y

  abbrev after : ℕ → List ℕ → List ℕ
  after d y = drop (place_after d y) y

  next : (n a : ℕ) (l y : List ℕ) → IsOpenBefore n l y → n ≤ a → a ≤ length (plain t) → IsOpenBefore a (link_after_all l (marks (before (a - n) y))) (after (a - n) y)
  next n a l y opened from_n inside = elim (cases_lt 0 (a - n)) [
    | inl some ↦ (
        let d = a - n in
        let fits : d ≤ length (plain y) = omega (arith, ap length opened.plain_left, length-drop n (plain t), inside) in
        let ps = pieces_of y in
        let linked : link_after_all l (marks (take (place_of d y) y)) ≡ link_through l (up_to d ps)
        = after-pieces l (take (place_of d y) y) ∙ ap (link_through l) (up_to_place y d some fits) in
        let last : n + (d - 1) ≡ a - 1 = omega (arith, some) in
        let sum : (i : ℕ) → n + (d + i) ≡ a + i = λ i. omega (arith, from_n) in
        subst (λ k. IsOpenBefore a (link_after_all l (marks (take k y))) (drop k y)) (sym (place_after-some y d some)) (record {
          plain_left = plain-after_place y d fits ∙ ap (drop d) opened.plain_left ∙ drop-further (plain t) n a from_n;
          here = linked ∙ link-up_to l d ps some fits ∙ opened.later (d - 1) ∙ ap (link_at t) last;
          later = λ i. ap₂ (λ m qs. link_by m qs i) linked (from_place y d some fits) ∙ link-from l d i ps some fits ∙ opened.later (d + i) ∙ ap (link_at t) (sum i);
        }))
    | inr none ↦ (
        let zero_is : 0 ≡ a - n = omega (arith, none) in
        let same : n ≡ a = omega (arith, from_n, none) in
        subst (λ d. IsOpenBefore a (link_after_all l (marks (before d y))) (after d y)) zero_is (subst (λ b. IsOpenBefore b l y) same opened))
  ]

  -- What each range adds.

  abbrev most : Swap → ℕ
  most e = length e.text + length (link_at t (e.range.0 - 1)) + 258

  length-without_front : (m : ℕ) (y : List ℕ) → length (without_front m y) ≤ length y
  length-without_front m y =
      let f = front m y in
      omega (arith, length-append (sequences f) (rest m y), length-mark_pieces (pieces_of f), ap length (spelled-pieces_of f), length-both y m)

  length-from : (es : List Swap) (s : Rendition) (l y : List ℕ) (n m : ℕ) → IsStyle s → IsOpenBefore n l y → are_in_turn (plain t) (n + m) (ranges_of es) ≡ true → length (replaced_from s l n m y es) ≤ length y + sum_by most es
  length-from [] s l y n m is opened turn = omega (arith, length-without_front m y)
  length-from (e ∷ es) s l y n m is opened turn =
      let a = e.range.0 in
      let first = are_first (plain t) (n + m) e.range (ranges_of es) turn in
      let begins : n + m ≤ a = first.begins in
      let ends : a ≤ e.range.1 = first.ends in
      let inside : e.range.1 ≤ length (plain t) = in_turn-within (plain t) e.range.1 (ranges_of es) first.later in
      let sum : e.range.1 ≡ a + (e.range.1 - a) = omega (arith, ends) in
      let f = before (a - n) y in
      let g = after (a - n) y in
      let q = style_after_from s f in
      let k = link_after_all l (marks f) in
      let is_q = IsStyle-style_after_from s f is in
      let open_next = next n a l y opened (omega (arith, begins)) (omega (arith, ends, inside)) in
      let later = replaced_from q k a (e.range.1 - a) g es in
      omega (
        arith,
        length-append (without_front m f ++ put q k e.text) later,
        length-append (without_front m f) (put q k e.text),
        length-without_front m f,
        length-put q k e.text is_q,
        ap length open_next.here,
        length-from es q k g a (e.range.1 - a) is_q open_next (subst (λ i. are_in_turn (plain t) i (ranges_of es) ≡ true) sum first.later),
        length-append f g,
        ap length (take-append-drop (place_after (a - n) y) y),
        sum_by-cons most e es,
      )

  pub length-replaced_each : (es : List Swap) (u : List ℕ) → are_in_turn (plain t) 0 (ranges_of es) ≡ true → u ≡ replaced_each t es → length u ≤ length t + sum_by most es
  length-replaced_each es u turn is =
      let later = replaced_from (style_at t 0) (link_at t 0) 0 0 (rest 0 t) es in
      omega (
        arith,
        ap length is,
        length-append (front 0 t) later,
        length-from es (style_at t 0) (link_at t 0) (rest 0 t) 0 0 (IsStyle-style_at t 0) begin turn,
        length-both t 0,
      )

  sum-with : (w : List ℕ) (rs : List (ℕ × ℕ)) → sum_by most (swaps_with w rs) ≡ sum_by (λ (r : ℕ × ℕ). length w + length (link_at t (r.0 - 1)) + 258) rs
  sum-with w [] = refl
  sum-with w (r ∷ rs) =
      sum_by-cons most (record { range = r; text = w }) (swaps_with w rs) ∙ ap (λ n. length w + length (link_at t (r.0 - 1)) + 258 + n) (sum-with w rs)
      ∙ sym (sum_by-cons (λ (s : ℕ × ℕ). length w + length (link_at t (s.0 - 1)) + 258) r rs)

  pub length-replaced_all : (p w u : List ℕ) → IsUtf8 t → IsUtf8 p → u ≡ replaced_all t p w → length u ≤ length t + sum_by (λ (r : ℕ × ℕ). length w + length (link_at t (r.0 - 1)) + 258) (matches (plain t) p)
  length-replaced_all p w u utf8 utf8_p is =
      let rs = matches (plain t) p in
      let turn = with_in_turn (plain t) w 0 rs (matches_in_turn (plain t) p (IsUtf8-plain t utf8) utf8_p) in
      omega (arith, length-replaced_each (swaps_with w rs) u turn is, sum-with w rs)
