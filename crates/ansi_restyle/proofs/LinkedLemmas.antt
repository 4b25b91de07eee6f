-- The links of the plain bytes of a text, and what brings a link back.
use Rattle.std.proofs.Common.{◌≡◌, ◌⊎◌, ℕ, ◌-◌, ◌<◌, ◌≤◌, ◌==◌, inl, inr, Bool, true, false, List, [], ◌∷◌, ◌++◌, length, map, take, drop, codes, if◌then◌else◌, refl, sym, ◌∙◌, ap, ap₂, subst, arith, IsTrue, append-nil}
use Rattle.std.proofs.lemmas.Bool.{cases_lt, eqb-true}
use Rattle.std.proofs.lemmas.List.{take-append-drop, nil_from_length, length-map, length-take-le}
use Rattle.std.proofs.lemmas.List.FromFn.{length-range_with_len}
use Rattle.std.proofs.lemmas.Slice.Eq.{bytes_eq-Decides}
use Rattle.std.specs.List.{range_with_len}
use Rattle.std.specs.Str.{byte, bytes_eq}
use Rattle.ansi_items.specs.Sequences.{IsSequence, is_sgr}
use Rattle.ansi_items.specs.Pieces.{Piece, Text, Sequence, LoneEscape, spelling, pieces_of}
use Rattle.ansi_items.specs.Plain.{plain, marks, marks_up_to, is_whole}
use Rattle.ansi_items.proofs.PlainLemmas.{has_escape-bare}
use Rattle.ansi_items.proofs.JoinLemmas.{spelled, AllStandAnywhere, pieces_of-spelled, pieces_of-append, is_whole-spelled, is_whole-append, pieces_stand}
use Rattle.ansi_style.specs.declared.state.rendition.Rendition.{Rendition}
use Rattle.ansi_style.specs.Rendition.{plain_style}
use Rattle.ansi_style.specs.Styled.{styled}
use Rattle.ansi_style.specs.Written.{written}
use Rattle.ansi_style.proofs.SgrLemmas.{apply-no_sgr}
use Rattle.ansi_style.proofs.MarkLemmas.{marks-bare}
use Rattle.ansi_style.proofs.ReadBackLemmas.{code_pieces}
use Rattle.ansi_style.proofs.StyledLemmas.{style_through, styled_through}
use Rattle.ansi_style.proofs.ThroughLemmas.{state_through-append, state_through-merged, state_after-marks_of, seen_through, seen_through-append, seen_through-merged, seen_by-pieces}
use Rattle.ansi_search.specs.Offsets.{offset_of}
use Rattle.ansi_split.proofs.AfterLemmas.{is_cut_after}
use Rattle.ansi_safe.specs.Links.{is_link, opens_link, link_of, link_at, link_after, link_after_all, link_end}
use Rattle.ansi_safe.proofs.LinkLemmas.{link_through, link_through-codes, link_after_all-none, link_of-fold, is_link-sgr}
use Rattle.ansi_restyle.specs.Restyled.{front, rest}
use Rattle.ansi_restyle.specs.Removed.{sequences}
use Rattle.ansi_restyle.specs.Linked.{links_in, links_from}
use Rattle.ansi_restyle.specs.Replaced.{place_of, link_back}
use Rattle.ansi_restyle.proofs.FrontLemmas.{is_whole-front, is_whole-rest, length-styled_from}
use Rattle.ansi_restyle.proofs.RemovedLemmas.{mark_pieces, stand}
use Rattle.ansi_restyle.proofs.PlaceLemmas.{is_place, place_of-front, place_of-later, begins, one, up_to_byte, whole-bare, take_seam, drop_seam}

-- By pieces.

abbrev here : List ℕ → ℕ → List ℕ
here link b = link

abbrev pub links_through : List ℕ → List Piece → List (List ℕ)
links_through link ps = seen_through link_after here link ps

links_from-pieces : (link t : List ℕ) → links_from link t ≡ links_through link (pieces_of t)
links_from-pieces link t = seen_by-pieces link_after here link (pieces_of t)

pub after-pieces : (link t : List ℕ) → link_after_all link (marks t) ≡ link_through link (pieces_of t)
after-pieces link t = state_after-marks_of link_after link (pieces_of t)

pub links_in-from : (t : List ℕ) → links_in t ≡ links_from [] t
links_in-from t = each (range_with_len 0 (length (plain t)))
  where
    each : (is : List ℕ) → map (link_at t) is ≡ map (λ i. link_after_all [] (marks_up_to i (marks t))) is
    each [] = refl
    each (i ∷ is) = ap₂ (λ l ls. l ∷ ls) (link_of-fold (marks_up_to i (marks t))) (each is)

pub length-links_from : (link t : List ℕ) → length (links_from link t) ≡ length (plain t)
length-links_from link t = length-map (range_with_len 0 (length (plain t))) _ ∙ length-range_with_len 0 (length (plain t))

-- The text u is whole. Read with the link l open, its plain bytes have these links, and it leaves m open.
pub record SeesLinks (l m : List ℕ) (ls : List (List ℕ)) (u : List ℕ) : Type 0 where
  pub whole : IsTrue (is_whole u)
  pub given : links_from l u ≡ ls
  pub left : link_after_all l (marks u) ≡ m

pub sees-itself : (l t : List ℕ) → IsTrue (is_whole t) → SeesLinks l (link_after_all l (marks t)) (links_from l t) t
sees-itself l t whole = record { whole = whole; given = refl; left = refl }

pub links_from-append : (l u v : List ℕ) → IsTrue (is_whole u) → IsTrue (is_whole v) → links_from l (u ++ v) ≡ links_from l u ++ links_from (link_after_all l (marks u)) v
links_from-append l u v whole_u whole_v =
    let ps = pieces_of u in
    let qs = pieces_of v in
    links_from-pieces l (u ++ v) ∙ ap (links_through l) (pieces_of-append u v whole_u whole_v)
    ∙ seen_through-merged link_after here l (ps ++ qs) ∙ seen_through-append link_after here l ps qs
    ∙ ap₂ (λ x y. x ++ y) (sym (links_from-pieces l u)) (ap (λ m. links_through m qs) (sym (after-pieces l u)) ∙ sym (links_from-pieces (link_after_all l (marks u)) v))

pub link_after-append : (l u v : List ℕ) → IsTrue (is_whole u) → IsTrue (is_whole v) → link_after_all l (marks (u ++ v)) ≡ link_after_all (link_after_all l (marks u)) (marks v)
link_after-append l u v whole_u whole_v =
    let ps = pieces_of u in
    let qs = pieces_of v in
    after-pieces l (u ++ v) ∙ ap (link_through l) (pieces_of-append u v whole_u whole_v)
    ∙ state_through-merged link_after l (ps ++ qs) ∙ state_through-append link_after l ps qs
    ∙ ap (λ m. link_through m qs) (sym (after-pieces l u)) ∙ sym (after-pieces (link_after_all l (marks u)) v)

pub sees-append : {l m k : List ℕ} {ls ks : List (List ℕ)} {u v : List ℕ} → SeesLinks l m ls u → SeesLinks m k ks v → SeesLinks l k (ls ++ ks) (u ++ v)
sees-append {l} {m} {k} {ls} {ks} {u} {v} first second = record {
  whole = is_whole-append u v first.whole second.whole;
  given = links_from-append l u v first.whole second.whole ∙ ap₂ (λ x y. x ++ y) first.given (ap (λ x. links_from x v) first.left ∙ second.given);
  left = link_after-append l u v first.whole second.whole ∙ ap (λ x. link_after_all x (marks v)) first.left ∙ second.left;
}

pub sees-spelled : (l : List ℕ) (ps : List Piece) → AllStandAnywhere ps → SeesLinks l (link_through l ps) (links_through l ps) (spelled ps)
sees-spelled l ps all = record {
  whole = is_whole-spelled ps all;
  given = links_from-pieces l (spelled ps) ∙ ap (links_through l) (pieces_of-spelled ps all) ∙ seen_through-merged link_after here l ps;
  left = after-pieces l (spelled ps) ∙ ap (link_through l) (pieces_of-spelled ps all) ∙ state_through-merged link_after l ps;
}

-- Sequences alone.

links-marks : (l : List ℕ) (ps : List Piece) → links_through l (mark_pieces ps) ≡ []
links-marks l [] = refl
links-marks l (Text w ∷ ps) = links-marks l ps
links-marks l (p ∷ ps) = links-marks (link_after l (spelling p)) ps

pub link-marks : (l : List ℕ) (ps : List Piece) → link_through l (mark_pieces ps) ≡ link_through l ps
link-marks l [] = refl
link-marks l (Text w ∷ ps) = link-marks l ps
link-marks l (p ∷ ps) = link-marks (link_after l (spelling p)) ps

pub sees-sequences : (l t : List ℕ) → IsTrue (is_whole t) → SeesLinks l (link_after_all l (marks t)) [] (sequences t)
sees-sequences l t whole =
    let ps = pieces_of t in
    subst (λ m. SeesLinks l m [] (sequences t)) (link-marks l ps ∙ sym (after-pieces l t))
    (subst (λ ls. SeesLinks l (link_through l (mark_pieces ps)) ls (sequences t)) (links-marks l ps) (sees-spelled l (mark_pieces ps) (stand t whole)))

links-codes : (l : List ℕ) (xs : List (List ℕ)) → links_through l (code_pieces xs) ≡ []
links-codes l [] = refl
links-codes l (x ∷ xs) = links-codes (link_after l (spelling (Sequence (written x)))) xs

pub sees-codes : (l : List ℕ) (xs : List (List ℕ)) → AllStandAnywhere (code_pieces xs) → SeesLinks l l [] (spelled (code_pieces xs))
sees-codes l xs all =
    subst (λ m. SeesLinks l m [] (spelled (code_pieces xs))) (link_through-codes l xs)
    (subst (λ ls. SeesLinks l (link_through l (code_pieces xs)) ls (spelled (code_pieces xs))) (links-codes l xs) (sees-spelled l (code_pieces xs) all))

-- A text in two after its first n plain bytes.

pub sees-front : (l t : List ℕ) (n : ℕ) → n ≤ length (plain t) → IsTrue (is_whole t) → SeesLinks l (link_after_all l (marks (front n t))) (take n (links_from l t)) (front n t)
sees-front l t n within whole =
    let f = front n t in
    let g = rest n t in
    let m = link_after_all l (marks f) in
    let whole_f = is_whole-front t n whole in
    let is : f ++ g ≡ t = take-append-drop (offset_of t n) t in
    let size : length (links_from l f) ≡ n = length-links_from l f ∙ ap length (is_cut_after t n (offset_of t n) refl).plain_front ∙ length-take-le n (plain t) within in
    record {
      whole = whole_f;
      given = sym (ap (λ u. take n (links_from l u)) (sym is) ∙ ap (take n) (links_from-append l f g whole_f (is_whole-rest t n whole)) ∙ take_seam n (links_from l f) (links_from m g) size);
      left = refl;
    }

pub sees-rest : (l t : List ℕ) (n : ℕ) → n ≤ length (plain t) → IsTrue (is_whole t)
    → SeesLinks (link_after_all l (marks (front n t))) (link_after_all l (marks t)) (drop n (links_from l t)) (rest n t)
sees-rest l t n within whole =
    let f = front n t in
    let g = rest n t in
    let m = link_after_all l (marks f) in
    let whole_f = is_whole-front t n whole in
    let whole_g = is_whole-rest t n whole in
    let is : f ++ g ≡ t = take-append-drop (offset_of t n) t in
    let size : length (links_from l f) ≡ n = length-links_from l f ∙ ap length (is_cut_after t n (offset_of t n) refl).plain_front ∙ length-take-le n (plain t) within in
    record {
      whole = whole_g;
      given = sym (ap (λ u. drop n (links_from l u)) (sym is) ∙ ap (drop n) (links_from-append l f g whole_f whole_g) ∙ drop_seam n (links_from l f) (links_from m g) size);
      left = sym (ap (λ u. link_after_all l (marks u)) (sym is) ∙ link_after-append l f g whole_f whole_g);
    }

-- A text in two at a place.

link-front : (t : List ℕ) (n : ℕ) → link_after_all [] (marks (front n t)) ≡ link_at t n
link-front t n = ap (link_after_all []) (is_cut_after t n (offset_of t n) refl).marks_front ∙ link_after_all-none (marks_up_to n (marks t))

link-byte : (t : List ℕ) (n : ℕ) → (within : n < length (plain t)) → IsTrue (is_whole t) → link_after_all [] (marks (front n t ++ one t n within)) ≡ link_at t n
link-byte t n within whole =
    let v = one t n within in
    let bare = (begins t n within).bare in
    let m = link_after_all [] (marks (front n t)) in
    link_after-append [] (front n t) v (is_whole-front t n whole) (whole-bare v bare)
    ∙ ap (link_after_all m) (marks-bare v (has_escape-bare v bare)) ∙ link-front t n

link-place : (t : List ℕ) (a : ℕ) → a ≤ length (plain t) → IsTrue (is_whole t) → link_after_all [] (marks (take (place_of a t) t)) ≡ link_at t (a - 1)
link-place t a within whole = elim (cases_lt 0 a) [
  | inl some ↦ (
      let inside : a - 1 < length (plain t) = omega arith in
      ap (λ k. link_after_all [] (marks (take k t))) (place_of-later t a some) ∙ ap (λ u. link_after_all [] (marks u)) (up_to_byte t (a - 1) inside)
      ∙ link-byte t (a - 1) inside whole)
  | inr none ↦ (
      let zero_is : a ≡ 0 = omega arith in
      let first : 0 ≡ a - 1 = omega arith in
      ap (λ k. link_after_all [] (marks (take k t))) (place_of-front t a zero_is) ∙ link-front t 0 ∙ ap (link_at t) first)
]

pub record IsLinkPlace (t : List ℕ) (a : ℕ) (f g : List ℕ) : Type 0 where
  pub before : SeesLinks [] (link_at t (a - 1)) (take a (links_in t)) f
  pub after : SeesLinks (link_at t (a - 1)) (link_of (marks t)) (drop a (links_in t)) g

pub is_link_place : (t : List ℕ) (a : ℕ) → a ≤ length (plain t) → IsTrue (is_whole t) → IsLinkPlace t a (take (place_of a t) t) (drop (place_of a t) t)
is_link_place t a within whole =
    let k = place_of a t in
    let f = take k t in
    let g = drop k t in
    let l = link_at t (a - 1) in
    let place = is_place t a within whole in
    let whole_f = place.whole_front in
    let whole_g = place.whole_after in
    let is : f ++ g ≡ t = take-append-drop k t in
    let opened : link_after_all [] (marks f) ≡ l = link-place t a within whole in
    let all : links_in t ≡ links_from [] f ++ links_from l g
    = links_in-from t ∙ ap (links_from []) (sym is) ∙ links_from-append [] f g whole_f whole_g ∙ ap (λ m. links_from [] f ++ links_from m g) opened in
    let plain_size : length (plain f) ≡ a
    = sym (length-styled_from plain_style f) ∙ ap length place.styled_front ∙ length-take-le a (styled t) (omega (arith, length-styled_from plain_style t, within)) in
    let size : length (links_from [] f) ≡ a = length-links_from [] f ∙ plain_size in
    record {
      before = record { whole = whole_f; given = sym (ap (take a) all ∙ take_seam a (links_from [] f) (links_from l g) size); left = opened };
      after = record {
        whole = whole_g;
        given = sym (ap (drop a) all ∙ drop_seam a (links_from [] f) (links_from l g) size);
        left =
            sym (
            sym (link_after_all-none (marks t)) ∙ ap (λ u. link_after_all [] (marks u)) (sym is) ∙ link_after-append [] f g whole_f whole_g
            ∙ ap (λ m. link_after_all m (marks g)) opened);
      };
    }

-- The link that is open after pieces is one that a sequence among them opens.

abbrev pub GoodLink : List ℕ → Type 0
GoodLink l = (l ≡ []) ⊎ (IsSequence l × ((is_link l ≡ true) × (opens_link l ≡ true)))

good_link-after : (l w : List ℕ) → GoodLink l → IsSequence w → GoodLink (link_after l w)
good_link-after l w good is = by_tests (is_link w) (opens_link w) refl refl
  where
    by_tests : (x y : Bool) → is_link w ≡ x → opens_link w ≡ y → GoodLink (if x then (if y then w else []) else l)
    by_tests true true a b = inr (is, (a, b))
    by_tests true false a b = inl refl
    by_tests false y a b = good

pub good_link-through : (l : List ℕ) (ps : List Piece) → GoodLink l → AllStandAnywhere ps → GoodLink (link_through l ps)
good_link-through l [] good all = good
good_link-through l (Text w ∷ ps) good all = good_link-through l ps good all.1
good_link-through l (Sequence w ∷ ps) good all = good_link-through (link_after l w) ps (good_link-after l w good all.0) all.1
good_link-through l (LoneEscape ∷ ps) good all = absurd all.0

pub good_link-place : (t : List ℕ) (a : ℕ) → a ≤ length (plain t) → IsTrue (is_whole t) → GoodLink (link_at t (a - 1))
good_link-place t a within whole =
    let f = take (place_of a t) t in
    let place = is_place t a within whole in
    subst GoodLink (sym (after-pieces [] f) ∙ link-place t a within whole) (good_link-through [] (pieces_of f) (inl refl) (pieces_stand f place.whole_front))

-- What brings the link l back where m is open changes nothing else.

pub record IsBack (l m v : List ℕ) : Type 0 where
  pub pieces : List Piece
  pub bytes : spelled pieces ≡ v
  pub stand : AllStandAnywhere pieces
  pub no_bytes : (p : Rendition) → styled_through p pieces ≡ []
  pub no_style : (p : Rendition) → style_through p pieces ≡ p
  pub no_links : links_through m pieces ≡ []
  pub link : link_through m pieces ≡ l

nothing_back : (l m : List ℕ) → m ≡ l → IsBack l m []
nothing_back l m same = record { pieces = []; bytes = refl; stand = tt; no_bytes = λ p. refl; no_style = λ p. refl; no_links = refl; link = same }

sequence_back : (l m w : List ℕ) → IsSequence w → is_sgr w ≡ false → link_after m w ≡ l → IsBack l m w
sequence_back l m w is other opens =
    record { pieces = Sequence w ∷ []; bytes = append-nil w; stand = (is, tt); no_bytes = λ p. refl; no_style = λ p. apply-no_sgr p w other; no_links = refl; link = opens }

no_sgr : (w : List ℕ) → is_link w ≡ true → is_sgr w ≡ false
no_sgr w link = by_test (is_sgr w) refl
  where
    by_test : (x : Bool) → is_sgr w ≡ x → is_sgr w ≡ false
    by_test true e = absurd (cc (is_link-sgr w e, link))
    by_test false e = e

pub end_is_sequence : IsSequence (codes "\u{1b}]8;;\u{1b}\\")
end_is_sequence = inr (inl (record { opener = byte "]"; body = codes "8;;"; terminator = codes "\u{1b}\\"; spelled = refl; opens = refl; is_body = refl; ends = inl refl }))

end_back : (l m : List ℕ) → l ≡ [] → IsBack l m (link_end m)
end_back l m none = by_test (length m == 0) refl
  where
    by_test : (x : Bool) → (length m == 0) ≡ x → IsBack l m (if x then [] else codes "\u{1b}]8;;\u{1b}\\")
    by_test true e = nothing_back l m (nil_from_length m (eqb-true (length m) 0 e) ∙ sym none)
    by_test false e = sequence_back l m (codes "\u{1b}]8;;\u{1b}\\") end_is_sequence refl (sym none)

opened_back : (l m : List ℕ) → GoodLink l → (length l == 0) ≡ false → IsBack l m l
opened_back l m (inl none) some = absurd (cc (ap (λ (v : List ℕ). length v == 0) none, some))
opened_back l m (inr good) some = sequence_back l m l good.0 (no_sgr l good.1.0) (ap₂ (λ x y. if x then (if y then l else []) else m) good.1.0 good.1.1)

pub is_back : (l m : List ℕ) → GoodLink l → IsBack l m (link_back l m)
is_back l m good = by_tests (bytes_eq m l) (length l == 0) refl refl
  where
    by_tests : (x y : Bool) → bytes_eq m l ≡ x → (length l == 0) ≡ y → IsBack l m (if x then [] else (if y then link_end m else l))
    by_tests true y same b = nothing_back l m ((bytes_eq-Decides m l).0 same)
    by_tests false true other b = end_back l m (nil_from_length l (eqb-true (length l) 0 b))
    by_tests false false other b = opened_back l m good b
