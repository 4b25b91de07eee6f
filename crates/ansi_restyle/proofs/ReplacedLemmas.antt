-- A text with another in place of a range of its plain text.
use Rattle.std.proofs.Common.{◌≡◌, ℕ, ◌+◌, ◌-◌, ◌≤◌, Bool, true, false, not, ◌&&◌, List, [], ◌∷◌, ◌++◌, length, flat_map, take, drop, refl, sym, ◌∙◌, ap, ap₂, subst, arith, IsTrue, append-nil, append_assoc, length-append, if◌then◌else◌, ◌==◌, nat_le, ◌↔◌, Option, Some, None, Result, Ok, Err, IfOk, IfSome}
use Rattle.std.proofs.lemmas.Bool.{cond_both, le-leb}
use Rattle.std.proofs.lemmas.Grind.{flat_map-append}
use Rattle.std.proofs.lemmas.List.{take-append-drop, map-append, drop-drop, length-drop}
use Rattle.std.specs.List.{take-map, drop-map}
use Rattle.std.specs.Str.{bytes_eq}
use Rattle.ansi_items.specs.Sequences.{is_sgr}
use Rattle.ansi_items.specs.Pieces.{Piece, Text, Sequence, ArePieces, spelling, pieces_of, after_text, merged}
use Rattle.ansi_items.specs.Plain.{plain, marks, joined, marks_of, copied, is_whole, has_escape}
use Rattle.ansi_items.proofs.PieceLemmas.{pieces_are}
use Rattle.ansi_items.proofs.PlainLemmas.{all_plain_bytes}
use Rattle.ansi_items.proofs.JoinLemmas.{spelled, AllStandAnywhere, stand-append, pieces_of-spelled, pieces_of-append, is_whole-spelled, is_whole-append, spelled-pieces_of}
use Rattle.ansi_style.specs.declared.state.rendition.Rendition.{Rendition}
use Rattle.ansi_style.specs.Rendition.{IsStyle, plain_style, known}
use Rattle.ansi_style.specs.Sgr.{apply}
use Rattle.ansi_style.specs.Reading.{style_within, styled_from, style_after_from}
use Rattle.ansi_style.specs.Styled.{StyledByte, styled, style_at, unstyled}
use Rattle.ansi_style.specs.Written.{written, start, start_codes, close, close_codes}
use Rattle.ansi_style.proofs.MarkLemmas.{marks-bare, marks_of-text, marks_of-mark, joined-further}
use Rattle.ansi_style.proofs.StyleLemmas.{IsStyle-style_at}
use Rattle.ansi_style.proofs.StyledLemmas.{styled_byte, styled_from-pieces, unstyled-styled}
use Rattle.ansi_style.proofs.ThroughLemmas.{bytes-seen_through}
use Rattle.ansi_style.proofs.SpelledLemmas.{styled_from-spelled, style_after_from-spelled}
use Rattle.ansi_style.proofs.ReadBackLemmas.{apply_codes, apply_codes-append, code_pieces, spelled-code_pieces, code_pieces_stand, start_codes_are, close_codes_are, style_through-codes, styled_through-codes}
use Rattle.ansi_style.proofs.StartLemmas.{start_codes_set}
use Rattle.ansi_style.proofs.CloseLemmas.{close_codes_clear}
use Rattle.ansi_search.specs.Offsets.{offset_of}
use Rattle.ansi_search.specs.Positions.{no_character_goes_on, is_char_boundary}
use Rattle.ansi_search.proofs.PositionLemmas.{no_character_goes_on-drop}
use Rattle.ansi_slice.specs.Stretches.{sequences_up_to}
use Rattle.ansi_slice.proofs.LengthLemmas.{length-close, length-start}
use Rattle.ansi_safe.specs.Links.{link_at, link_after_all, link_end}
use Rattle.ansi_safe.proofs.EndingLemmas.{length-link_end}
use Rattle.ansi_safe.proofs.LinkLemmas.{link_through, link_after_all-none}
use Rattle.ansi_restyle.specs.Ranges.{are_in_turn}
use Rattle.ansi_restyle.specs.Rests.{IsDivided}
use Rattle.ansi_restyle.specs.Restyled.{front, rest}
use Rattle.ansi_restyle.specs.Removed.{sequences}
use Rattle.ansi_restyle.specs.Linked.{links_in, links_from}
use Rattle.ansi_restyle.specs.Replaced.{place_of, link_back, put, replaced, IsReplaced}
use Rattle.ansi_restyle.proofs.OtherLemmas.{kept_of}
use Rattle.ansi_restyle.proofs.StayLemmas.{others, others-further}
use Rattle.ansi_restyle.proofs.ChangeLemmas.{Reads, reads-itself, reads-append, written_all-append}
use Rattle.ansi_restyle.proofs.FrontLemmas.{front_pieces, front_pieces-last, pieces_of-front, is_whole-front, is_whole-rest, style_after-front, style_after-parts}
use Rattle.ansi_restyle.proofs.LengthLemmas.{length-both}
use Rattle.ansi_restyle.proofs.RangeLemmas.{are_first, in_turn-within}
use Rattle.ansi_restyle.proofs.RemovedLemmas.{up_to-all, length-part, mark_pieces, stand, length-mark_pieces, is_whole-sequences, styled_from-sequences, style_after-sequences, styled_from-rest}
use Rattle.ansi_restyle.proofs.PlaceLemmas.{style_after-bare, is_place, plain-after_place}
use Rattle.ansi_restyle.proofs.LinkedLemmas.{SeesLinks, sees-itself, sees-append, sees-spelled, sees-sequences, sees-codes, sees-rest, is_link_place, links_in-from, GoodLink, good_link-place, is_back}

-- The sequences that aren't SGRs, by the pieces of a text.

abbrev other_bytes : Piece → List ℕ
other_bytes (Text w) = []
other_bytes p = copied p

abbrev others_of : List Piece → List ℕ
others_of ps = flat_map other_bytes ps

joined_others-mark : (p : Piece) (ps : List Piece) → joined (others (record { place = 0; bytes = spelling p } ∷ marks_of ps)) ≡ copied p ++ joined (others (marks_of ps))
joined_others-mark p ps = by_kind (is_sgr (spelling p))
  where
    by_kind : (b : Bool) → joined (if not b then record { place = 0; bytes = spelling p } ∷ others (marks_of ps) else others (marks_of ps)) ≡ (if b then [] else spelling p) ++ joined (others (marks_of ps))
    by_kind true = refl
    by_kind false = refl

joined_others : (ps : List Piece) → joined (others (marks_of ps)) ≡ others_of ps
joined_others [] = refl
joined_others (Text w ∷ ps) =
    ap (λ ms. joined (others ms)) (marks_of-text w ps) ∙ ap joined (others-further (length w) (marks_of ps)) ∙ joined-further (length w) (others (marks_of ps)) ∙ joined_others ps
joined_others (p ∷ ps) = ap (λ ms. joined (others ms)) (marks_of-mark p ps refl) ∙ joined_others-mark p ps ∙ ap (λ u. copied p ++ u) (joined_others ps)

others-after_text : (w : List ℕ) (ps : List Piece) → others_of (after_text w ps) ≡ others_of ps
others-after_text w (Text v ∷ ps) = refl
others-after_text w ps = refl

others-merged : (ps : List Piece) → others_of (merged ps) ≡ others_of ps
others-merged [] = refl
others-merged (Text w ∷ ps) = others-after_text w (merged ps) ∙ others-merged ps
others-merged (p ∷ ps) = ap (λ u. copied p ++ u) (others-merged ps)

-- in a whole text
abbrev others_in : List ℕ → List ℕ
others_in t = others_of (pieces_of t)

others-append : (u v : List ℕ) → IsTrue (is_whole u) → IsTrue (is_whole v) → others_in (u ++ v) ≡ others_in u ++ others_in v
others-append u v whole_u whole_v =
    ap others_of (pieces_of-append u v whole_u whole_v) ∙ others-merged (pieces_of u ++ pieces_of v) ∙ flat_map-append other_bytes (pieces_of u) (pieces_of v)

others-spelled : (ps : List Piece) → AllStandAnywhere ps → others_in (spelled ps) ≡ others_of ps
others-spelled ps all = ap others_of (pieces_of-spelled ps all) ∙ others-merged ps

others-marks : (ps : List Piece) → others_of (mark_pieces ps) ≡ others_of ps
others-marks [] = refl
others-marks (Text w ∷ ps) = others-marks ps
others-marks (p ∷ ps) = ap (λ u. copied p ++ u) (others-marks ps)

-- What is read of a text that is put: it, and then the style and the link before it are back.

pub record ReadsPut (s : Rendition) (link w u : List ℕ) : Type 0 where
  pub whole : IsTrue (is_whole u)
  pub given : (p : Rendition) → known p ≡ known s → styled_from p u ≡ styled_from s w
  pub left : (p : Rendition) → known p ≡ known s → known (style_after_from p u) ≡ known s
  pub sees : SeesLinks link link (links_from link w) u

module _ (s : Rendition) (is : IsStyle s) (link : List ℕ) (good : GoodLink link) (w : List ℕ) (whole : IsTrue (is_whole w)) where
  abbrev q : Rendition
  q = style_after_from s w

  abbrev xs : List (List ℕ)
  xs = close_codes q ++ start_codes s

  abbrev codes_back : List ℕ
  codes_back = close q ++ start s

  abbrev other : List ℕ
  other = link_after_all link (marks w)

  abbrev linked_back : List ℕ
  linked_back = link_back link other

  xs_stand : AllStandAnywhere (code_pieces xs)
  xs_stand =
      subst AllStandAnywhere (sym (map-append (λ code. Sequence (written code)) (close_codes q) (start_codes s)))
      (stand-append (code_pieces (close_codes q)) (code_pieces (start_codes s)) (code_pieces_stand (close_codes q) (close_codes_are q)) (code_pieces_stand (start_codes s) (start_codes_are s is)))

  spelled-codes_back : spelled (code_pieces xs) ≡ codes_back
  spelled-codes_back = spelled-code_pieces xs ∙ written_all-append (close_codes q) (start_codes s)

  reads-codes_back : Reads q s [] (kept_of (pieces_of codes_back)) codes_back
  reads-codes_back = subst (λ u. Reads q s [] (kept_of (pieces_of u)) u) spelled-codes_back (record {
    whole = is_whole-spelled (code_pieces xs) xs_stand;
    others = refl;
    given = λ p same. styled_from-spelled p (code_pieces xs) xs_stand ∙ styled_through-codes p xs;
    left = λ p same.
        ap known (style_after_from-spelled p (code_pieces xs) xs_stand ∙ style_through-codes p xs ∙ apply_codes-append p (close_codes q) (start_codes s))
        ∙ start_codes_set (apply_codes p (close_codes q)) s is (close_codes_clear p q same);
  })

  sees-codes_back : SeesLinks link link [] codes_back
  sees-codes_back = subst (SeesLinks link link []) spelled-codes_back (sees-codes link xs xs_stand)

  reads-linked_back : Reads q q [] (kept_of (pieces_of linked_back)) linked_back
  reads-linked_back =
      let back = is_back link other good in
      let ps = back.pieces in
      subst (λ u. Reads q q [] (kept_of (pieces_of u)) u) back.bytes (record {
        whole = is_whole-spelled ps back.stand;
        others = refl;
        given = λ p same. styled_from-spelled p ps back.stand ∙ back.no_bytes p;
        left = λ p same. ap known (style_after_from-spelled p ps back.stand ∙ back.no_style p) ∙ same;
      })

  sees-linked_back : SeesLinks other link [] linked_back
  sees-linked_back =
      let back = is_back link other good in
      let ps = back.pieces in
      subst (SeesLinks other link []) back.bytes
      (subst (λ m. SeesLinks other m [] (spelled ps)) back.link (subst (λ ls. SeesLinks other (link_through other ps) ls (spelled ps)) back.no_links (sees-spelled other ps back.stand)))

  put_with_back : ReadsPut s link w (w ++ (linked_back ++ codes_back))
  put_with_back =
      let reads = reads-append (reads-itself s w whole) (reads-append reads-linked_back reads-codes_back) in
      record {
        whole = reads.whole;
        given = λ p same. reads.given p same ∙ append-nil (styled_from s w);
        left = reads.left;
        sees = subst (λ ls. SeesLinks link link ls (w ++ (linked_back ++ codes_back))) (append-nil (links_from link w)) (sees-append (sees-itself link w whole) (sees-append sees-linked_back sees-codes_back));
      }

  put_alone : has_escape w ≡ false → ReadsPut s link w (w ++ [])
  put_alone none =
      let itself = reads-itself s w whole in
      let same_style : style_after_from s w ≡ s = style_after-bare s w (all_plain_bytes w none) in
      let same_link : link_after_all link (marks w) ≡ link = ap (link_after_all link) (marks-bare w none) in
      subst (ReadsPut s link w) (sym (append-nil w)) (record {
        whole = whole;
        given = itself.given;
        left = λ p same. itself.left p same ∙ ap known same_style;
        sees = subst (λ m. SeesLinks link m (links_from link w) w) same_link (sees-itself link w whole);
      })

  pub reads-put : ReadsPut s link w (put s link w)
  reads-put = cond_both (has_escape w) (linked_back ++ codes_back) [] (λ v. ReadsPut s link w (w ++ v)) (λ some. put_with_back) (λ none. put_alone none)

-- What a good range is to the text after its place.

pub record IsGoodRange (t : List ℕ) (r : ℕ × ℕ) : Type 0 where
  pub ordered : r.0 ≤ r.1
  pub within : r.0 ≤ length (plain t)
  pub end_within : r.1 ≤ length (plain t)
  pub good_end : no_character_goes_on (plain t) r.1 ≡ true

pub is_good_range : (t : List ℕ) (r : ℕ × ℕ) → are_in_turn (plain t) 0 (r ∷ []) ≡ true → IsGoodRange t r
is_good_range t r turn =
    let first = are_first (plain t) 0 r [] turn in
    let ends : r.0 ≤ r.1 = first.ends in
    record { ordered = ends; within = omega (arith, ends, in_turn-within (plain t) r.1 [] first.later); end_within = in_turn-within (plain t) r.1 [] first.later; good_end = first.good_end }

pub good_after_place : (t after : List ℕ) (r : ℕ × ℕ) → are_in_turn (plain t) 0 (r ∷ []) ≡ true → after ≡ drop (place_of r.0 t) t → IsTrue (no_character_goes_on (plain after) (r.1 - r.0))
good_after_place t after r turn is =
    let good = is_good_range t r turn in
    let ordered : r.0 ≤ r.1 = good.ordered in
    let sum : r.0 + (r.1 - r.0) ≡ r.1 = omega arith in
    ap (λ u. no_character_goes_on (plain u) (r.1 - r.0)) is ∙ ap (λ x. no_character_goes_on x (r.1 - r.0)) (plain-after_place t r.0 good.within)
    ∙ no_character_goes_on-drop (plain t) r.0 (r.1 - r.0) ∙ ap (no_character_goes_on (plain t)) sum ∙ good.good_end

-- an empty range is good at a character boundary
pub good_position : (x : List ℕ) (n : ℕ) → are_in_turn x 0 ((n, n) ∷ []) ≡ is_char_boundary x n
good_position x n =
    let good = no_character_goes_on x n in
    ap₂ (λ i k. i && (k && (good && (good && nat_le n (length x))))) (le-leb 0 n (omega arith)) (le-leb n n (omega arith)) ∙ either good (nat_le n (length x))
  where
    either : (g b : Bool) → (g && (g && b)) ≡ (b && g)
    either true true = refl
    either true false = refl
    either false true = refl
    either false false = refl

-- What is written is the text put, and the text replaced.

regroup : (a b c d e : List ℕ) → (((a ++ b) ++ c) ++ d) ++ e ≡ a ++ (b ++ (c ++ (d ++ e)))
regroup a b c d e = append_assoc ((a ++ b) ++ c) d e ∙ append_assoc (a ++ b) c (d ++ e) ∙ append_assoc a b (c ++ (d ++ e))

pub put-written : (old one two three new w l link : List ℕ) (s r : Rendition) → one ≡ old ++ w → two ≡ one ++ l → three ≡ two ++ close r → new ≡ three ++ start s → has_escape w ≡ true
    → l ≡ link_back link (link_after_all link (marks w)) → r ≡ style_after_from s w → new ≡ old ++ put s link w
put-written old one two three new w l link s r first second third last some is_link is_style =
    let m = link_back link (link_after_all link (marks w)) in
    let r_is = style_after_from s w in
    last ∙ ap (λ u. u ++ start s) (third ∙ ap₂ (λ u x. u ++ close x) (second ∙ ap₂ (λ u x. u ++ x) first is_link) is_style)
    ∙ regroup old w m (close r_is) (start s) ∙ ap (λ b. old ++ (w ++ (if b then m ++ (close r_is ++ start s) else []))) (sym some)

pub replaced-written : (t before after part last w : List ℕ) (s : Rendition) (link : List ℕ) (a b : ℕ) → before ≡ take (place_of a t) t → after ≡ drop (place_of a t) t → s ≡ style_at t (a - 1) → link ≡ link_at t (a - 1)
    → IsDivided after (b - a) part last → ((before ++ put s link w) ++ sequences_up_to (b - a) (pieces_of part)) ++ last ≡ replaced t a b w
replaced-written t before after part last w s link a b is_before is_after is_style is_link divided =
    let n = b - a in
    ap₂ (λ u v. u ++ v)
    (ap₂ (λ u v. u ++ v) (ap₂ (λ u v. u ++ v) is_before (ap₂ (λ r l. put r l w) is_style is_link)) (up_to-all (pieces_of part) n (length-part n divided) ∙ ap sequences (divided.front_is ∙ ap (front n) is_after)))
    (divided.rest_is ∙ ap (rest n) is_after)

-- So a range of a whole text is replaced.

pub unstyled-styled_from : (s : Rendition) (t : List ℕ) → unstyled (styled_from s t) ≡ plain t
unstyled-styled_from s t = ap unstyled (styled_from-pieces s t) ∙ bytes-seen_through apply styled_byte (λ (b : StyledByte). b.byte) (λ r b. refl) s (pieces_of t)

unstyled-three : (bs cs ds : List StyledByte) (a b : ℕ) → unstyled (take a bs ++ cs ++ drop b ds) ≡ take a (unstyled bs) ++ unstyled cs ++ drop b (unstyled ds)
unstyled-three bs cs ds a b =
    let byte = λ (c : StyledByte). c.byte in
    map-append byte (take a bs ++ cs) (drop b ds)
    ∙ ap₂ (λ u v. u ++ v) (map-append byte (take a bs) cs ∙ ap (λ u. u ++ unstyled cs) (sym (take-map byte a bs))) (sym (drop-map byte b ds))

pub is_replaced : (t : List ℕ) (a b : ℕ) (w : List ℕ) → a ≤ b → b ≤ length (plain t) → IsTrue (is_whole t) → IsTrue (is_whole w) → IsReplaced t a b w (replaced t a b w)
is_replaced t a b w ordered end_within whole_t whole_w =
    let n = b - a in
    let s = style_at t (a - 1) in
    let link = link_at t (a - 1) in
    let f = take (place_of a t) t in
    let after = drop (place_of a t) t in
    let p = put s link w in
    let part = front n after in
    let g = sequences part in
    let last = rest n after in
    let q = style_within s after n in
    let within : a ≤ length (plain t) = omega (arith, ordered, end_within) in
    let place = is_place t a within whole_t in
    let link_place = is_link_place t a within whole_t in
    let middle = reads-put s (IsStyle-style_at t (a - 1)) link (good_link-place t a within whole_t) w whole_w in
    let whole_f = place.whole_front in
    let whole_after = place.whole_after in
    let whole_part = is_whole-front after n whole_after in
    let whole_last = is_whole-rest after n whole_after in
    let whole_g = is_whole-sequences part whole_part in
    let whole_fp = is_whole-append f p whole_f middle.whole in
    let whole_fpg = is_whole-append (f ++ p) g whole_fp whole_g in
    let sum : a + n ≡ b = omega (arith, ordered) in
    let one : Reads plain_style s (take a (styled t)) (kept_of (pieces_of f)) f
    = subst (λ r. Reads plain_style r (take a (styled t)) (kept_of (pieces_of f)) f) place.style
    (subst (λ bs. Reads plain_style (style_after_from plain_style f) bs (kept_of (pieces_of f)) f) place.styled_front (reads-itself plain_style f whole_f)) in
    let two : Reads s s (styled_from s w) (kept_of (pieces_of p)) p = record { whole = middle.whole; others = refl; given = middle.given; left = middle.left } in
    let three : Reads s q [] (kept_of (pieces_of g)) g
    = subst (λ r. Reads s r [] (kept_of (pieces_of g)) g) (style_after-sequences part whole_part s ∙ style_after-front s after n)
    (subst (λ bs. Reads s (style_after_from s g) bs (kept_of (pieces_of g)) g) (styled_from-sequences part whole_part s) (reads-itself s g whole_g)) in
    let bytes_last : styled_from q last ≡ drop b (styled t)
    = styled_from-rest s after n whole_after ∙ ap (drop n) place.styled_after ∙ drop-drop n a (styled t) ∙ ap (λ k. drop k (styled t)) sum in
    let four = subst (λ bs. Reads q (style_after_from q last) bs (kept_of (pieces_of last)) last) bytes_last (reads-itself q last whole_last) in
    let all = reads-append (reads-append (reads-append one two) three) four in
    let size : n ≤ length (plain after) = omega (arith, ap length (plain-after_place t a within), length-drop a (plain t), end_within) in
    let links_last : drop n (links_from link after) ≡ drop b (links_in t)
    = ap (drop n) link_place.after.given ∙ drop-drop n a (links_in t) ∙ ap (λ k. drop k (links_in t)) sum in
    let sees_last = subst (λ ls. SeesLinks (link_after_all link (marks part)) (link_after_all link (marks after)) ls last) links_last (sees-rest link after n size whole_after) in
    let sees = sees-append (sees-append (sees-append link_place.before middle.sees) (sees-sequences link part whole_part)) sees_last in
    let u = replaced t a b w in
    let bytes : styled u ≡ take a (styled t) ++ styled_from s w ++ drop b (styled t)
    = all.given plain_style refl ∙ ap (λ v. v ++ drop b (styled t)) (append-nil (take a (styled t) ++ styled_from s w)) in
    let parts : others_in after ≡ others_in part ++ others_in last
    = ap others_in (sym (take-append-drop (offset_of after n) after)) ∙ others-append part last whole_part whole_last in
    let others_g : others_in g ≡ others_in part = others-spelled (mark_pieces (pieces_of part)) (stand part whole_part) ∙ others-marks (pieces_of part) in
    let other_bytes_all : others_in u ≡ others_in f ++ others_in p ++ others_in after
    = others-append ((f ++ p) ++ g) last whole_fpg whole_last
    ∙ ap (λ v. v ++ others_in last) (others-append (f ++ p) g whole_fp whole_g ∙ ap₂ (λ v x. v ++ x) (others-append f p whole_f middle.whole) others_g)
    ∙ append_assoc (others_in f ++ others_in p) (others_in part) (others_in last)
    ∙ ap (λ v. (others_in f ++ others_in p) ++ v) (sym parts) in
    record {
      styled_bytes = bytes;
      plain_text =
          sym (unstyled-styled u) ∙ ap unstyled bytes ∙ unstyled-three (styled t) (styled_from s w) (styled t) a b
          ∙ ap₂ (λ x y. take a x ++ y ++ drop b x) (unstyled-styled t) (unstyled-styled_from s w);
      links = links_in-from u ∙ sees.given ∙ ap (λ v. v ++ drop b (links_in t)) (append-nil (take a (links_in t) ++ links_from link w));
      others =
          joined_others (pieces_of u) ∙ other_bytes_all
          ∙ sym (ap₂ (λ x y. x ++ y) (ap₂ (λ x y. x ++ y) (joined_others (pieces_of f)) (joined_others (pieces_of p))) (joined_others (pieces_of after)));
      whole = all.whole;
      open_at_end = all.left plain_style refl ∙ sym (ap known (place.left ∙ style_after-parts s after n whole_after));
      link_at_end = sym (link_after_all-none (marks u)) ∙ sees.left ∙ link_place.after.left;
    }

-- Nothing in place of nothing changes nothing.

marks-front_0 : (t : List ℕ) (ps : List Piece) → ArePieces t ps → mark_pieces (front_pieces 0 ps) ≡ front_pieces 0 ps
marks-front_0 t [] are = refl
marks-front_0 t (Text [] ∷ ps) are = absurd (are.2.0 refl)
marks-front_0 t (Text (b ∷ w) ∷ ps) are = ap mark_pieces (front_pieces-last 0 (b ∷ w) ps (omega arith)) ∙ sym (front_pieces-last 0 (b ∷ w) ps (omega arith))
marks-front_0 t (p ∷ ps) are = ap (λ qs. p ∷ qs) (marks-front_0 are.0 ps are.3)

pub sequences-front_0 : (t : List ℕ) → sequences (front 0 t) ≡ front 0 t
sequences-front_0 t =
    let ps = pieces_of t in
    ap (λ qs. spelled (mark_pieces qs)) (pieces_of-front t 0) ∙ ap spelled (marks-front_0 t ps (pieces_are t) ∙ sym (pieces_of-front t 0)) ∙ spelled-pieces_of (front 0 t)

pub replaced-nothing : (t : List ℕ) (a b : ℕ) (w : List ℕ) → a ≡ b → w ≡ [] → replaced t a b w ≡ t
replaced-nothing t a b w same none =
    let after = drop (place_of a t) t in
    let f = take (place_of a t) t in
    let zero_long : b - a ≡ 0 = omega (arith, same) in
    ap₂ (λ v n. (f ++ put (style_at t (a - 1)) (link_at t (a - 1)) v) ++ sequences (front n after) ++ rest n after) none zero_long
    ∙ ap (λ v. (v ++ sequences (front 0 after)) ++ rest 0 after) (append-nil f)
    ∙ append_assoc f (sequences (front 0 after)) (rest 0 after)
    ∙ ap (λ v. f ++ v) (ap (λ v. v ++ rest 0 after) (sequences-front_0 after) ∙ take-append-drop (offset_of after 0) after)
    ∙ take-append-drop (place_of a t) t

-- How long it may be.

length-link_back : (link other : List ℕ) → length (link_back link other) ≤ length link + 7
length-link_back link other =
    cond_both (bytes_eq other link) [] (if length link == 0 then link_end other else link) (λ v. length v ≤ length link + 7)
    (λ same. omega arith)
    (λ differ. cond_both (length link == 0) (link_end other) link (λ v. length v ≤ length link + 7)
    (λ none. omega (arith, length-link_end other))
    (λ some. omega arith))

pub length-put : (s : Rendition) (link w : List ℕ) → IsStyle s → length (put s link w) ≤ length w + length link + 258
length-put s link w is =
    let q = style_after_from s w in
    let l = link_back link (link_after_all link (marks w)) in
    cond_both (has_escape w) (l ++ (close q ++ start s)) [] (λ v. length (w ++ v) ≤ length w + length link + 258)
    (λ some. omega (
      arith,
      length-append w (l ++ (close q ++ start s)),
      length-append l (close q ++ start s),
      length-append (close q) (start s),
      length-link_back link (link_after_all link (marks w)),
      length-close q,
      length-start s is,
    ))
    (λ none. omega (arith, ap length (append-nil w)))

pub length-replaced : (t : List ℕ) (a b : ℕ) (w u : List ℕ) → u ≡ replaced t a b w → length u ≤ length t + length w + length (link_at t (a - 1)) + 258
length-replaced t a b w u is =
    let s = style_at t (a - 1) in
    let link = link_at t (a - 1) in
    let f = take (place_of a t) t in
    let after = drop (place_of a t) t in
    let p = put s link w in
    let part = front (b - a) after in
    omega (
      arith,
      ap length is,
      length-append ((f ++ p) ++ sequences part) (rest (b - a) after),
      length-append (f ++ p) (sequences part),
      length-append f p,
      length-put s link w (IsStyle-style_at t (a - 1)),
      length-mark_pieces (pieces_of part),
      ap length (spelled-pieces_of part),
      length-both after (b - a),
      length-append f after,
      ap length (take-append-drop (place_of a t) t),
    )

-- what is so if two facts are, is so if the second is, where the first always is
pub by_both : {A E : Type 0} (P : A → Type 0) (B Q : Type 0) (r : Result (Option A) E) → B → IfOk r (λ o. IfSome o (λ a. P a ↔ (B × Q))) → IfOk r (λ o. IfSome o (λ a. P a ↔ Q))
by_both P B Q (Ok (Some a)) first is = (λ p. (is.0 p).1, λ second. is.1 (first, second))
by_both P B Q (Ok None) first is = is
by_both P B Q (Err e) first is = is
