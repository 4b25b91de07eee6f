-- How many bytes longer a text is that is changed in ranges.
use Rattle.std.proofs.Common.{◌≡◌, ℕ, ◌+◌, ◌-◌, ◌*◌, ◌≤◌, inl, inr, List, [], ◌∷◌, ◌++◌, length, filter, take, sym, ◌∙◌, ap, subst, arith, length-append, nat_lt}
use Rattle.std.proofs.Math.Nat.{mul-le-mul_left}
use Rattle.std.proofs.lemmas.Bool.{cases_lt, cond_both}
use Rattle.std.proofs.lemmas.List.{take-append-drop}
use Rattle.ansi_items.specs.Pieces.{Piece, Text, spelling, pieces_of}
use Rattle.ansi_items.specs.Plain.{is_text}
use Rattle.ansi_items.proofs.PlainLemmas.{one_text}
use Rattle.ansi_items.proofs.JoinLemmas.{spelled, spelled-pieces_of}
use Rattle.ansi_style.specs.declared.state.rendition.Rendition.{Rendition}
use Rattle.ansi_style.specs.Rendition.{IsStyle, plain_style}
use Rattle.ansi_style.specs.Sgr.{apply}
use Rattle.ansi_style.specs.Reading.{style_within}
use Rattle.ansi_style.specs.Written.{written, start, close}
use Rattle.ansi_style.proofs.StyleLemmas.{IsStyle-plain_style, IsStyle-apply, IsStyle-style_after_from}
use Rattle.ansi_search.specs.Offsets.{offset_of}
use Rattle.ansi_search.proofs.OffsetLemmas.{after_of, after_of-last, after_of-text, pieces_of-after}
use Rattle.ansi_slice.proofs.LengthLemmas.{length-close, length-start}
use Rattle.ansi_restyle.specs.Restyled.{changed_run, changed_pieces, front, rest, restyled_from, restyled}
use Rattle.ansi_restyle.proofs.FrontLemmas.{front_pieces, front_pieces-last, front_pieces-text, pieces_of-front, style_after-front}

abbrev run_count : List Piece → ℕ
run_count ps = length (filter is_text ps)

-- At most one run of a text is divided: so its front and the rest have at most one run more, and neither has more alone.

runs-one_text : (w : List ℕ) → run_count (one_text w) ≤ 1
runs-one_text [] = omega arith
runs-one_text (b ∷ w) = omega arith

runs-front : (n : ℕ) (ps : List Piece) → run_count (front_pieces n ps) ≤ run_count ps
runs-front n [] = omega arith
runs-front n (Text w ∷ ps) =
    cond_both (nat_lt n (length w)) (one_text (take n w)) (Text w ∷ front_pieces (n - length w) ps) (λ qs. run_count qs ≤ run_count (Text w ∷ ps))
    (λ last. omega (arith, runs-one_text (take n w)))
    (λ within. omega (arith, runs-front (n - length w) ps))
runs-front n (p ∷ ps) = runs-front n ps

runs-after : (n : ℕ) (ps : List Piece) → run_count (after_of n ps) ≤ run_count ps
runs-after n [] = omega arith
runs-after n (Text w ∷ ps) = elim (cases_lt n (length w)) [
  | inl last ↦ omega (arith, ap run_count (after_of-last n w ps last))
  | inr within ↦ omega (arith, ap run_count (after_of-text n w ps within), runs-after (n - length w) ps)
]
runs-after n (p ∷ ps) = runs-after n ps

runs-parts : (n : ℕ) (ps : List Piece) → run_count (front_pieces n ps) + run_count (after_of n ps) ≤ run_count ps + 1
runs-parts n [] = omega arith
runs-parts n (Text w ∷ ps) = elim (cases_lt n (length w)) [
  | inl last ↦ omega (arith, ap run_count (front_pieces-last n w ps last), runs-one_text (take n w), ap run_count (after_of-last n w ps last))
  | inr within ↦ omega (arith, ap run_count (front_pieces-text n w ps within), ap run_count (after_of-text n w ps within), runs-parts (n - length w) ps)
]
runs-parts n (p ∷ ps) = runs-parts n ps

runs-in_front : (t : List ℕ) (n : ℕ) → run_count (pieces_of (front n t)) ≤ run_count (pieces_of t)
runs-in_front t n = omega (arith, ap run_count (pieces_of-front t n), runs-front n (pieces_of t))

runs-in_rest : (t : List ℕ) (n : ℕ) → run_count (pieces_of (rest n t)) ≤ run_count (pieces_of t)
runs-in_rest t n = omega (arith, ap run_count (pieces_of-after t n), runs-after n (pieces_of t))

runs-in_both : (t : List ℕ) (n : ℕ) → run_count (pieces_of (front n t)) + run_count (pieces_of (rest n t)) ≤ run_count (pieces_of t) + 1
runs-in_both t n = omega (arith, ap run_count (pieces_of-front t n), ap run_count (pieces_of-after t n), runs-parts n (pieces_of t))

-- How many runs are changed.

abbrev changed_runs : ℕ → List ℕ → List (ℕ × ℕ) → ℕ
changed_runs n t [] = 0
changed_runs n t (r ∷ rs) =
    let here = rest (r.0 - n) t in
    run_count (pieces_of (front (r.1 - r.0) here)) + changed_runs r.1 (rest (r.1 - r.0) here) rs

changed_runs-few : (n : ℕ) (t : List ℕ) (rs : List (ℕ × ℕ)) → changed_runs n t rs ≤ length rs + run_count (pieces_of t) - 1
changed_runs-few n t [] = omega arith
changed_runs-few n t (r ∷ rs) =
    let within = r.1 - r.0 in
    let here = rest (r.0 - n) t in
    omega (arith, runs-in_front here within, runs-in_both here within, runs-in_rest t (r.0 - n), changed_runs-few r.1 (rest within here) rs)

-- For each there are the change, a close and a start.

length-written : (codes : List ℕ) → length (written codes) ≡ length codes + 3
length-written codes = grind (arith, length-append)

length-changed_run : (codes : List ℕ) (s : Rendition) (v : List ℕ) → IsStyle s → length (changed_run (written codes) s v) ≤ length v + (length codes + 254)
length-changed_run codes s v is =
    let w = written codes in
    let c = apply s w in
    omega (arith, length-append ((w ++ v) ++ close c) (start s), length-append (w ++ v) (close c), length-append w v, length-start s is, length-close c, length-written codes)

length-changed_pieces : (codes : List ℕ) (s : Rendition) (ps : List Piece) → IsStyle s → length (changed_pieces (written codes) s ps) ≤ length (spelled ps) + (length codes + 254) * run_count ps
length-changed_pieces codes s [] is = omega arith
length-changed_pieces codes s (Text v ∷ ps) is =
    let w = written codes in
    omega (arith, length-append (changed_run w s v) (changed_pieces w s ps), length-append v (spelled ps), length-changed_run codes s v is, length-changed_pieces codes s ps is)
length-changed_pieces codes s (p ∷ ps) is =
    let later = apply s (spelling p) in
    omega (arith, length-append (spelling p) (changed_pieces (written codes) later ps), length-append (spelling p) (spelled ps), length-changed_pieces codes later ps (IsStyle-apply s (spelling p) is))

-- So all of the text.

pub length-both : (t : List ℕ) (n : ℕ) → length (front n t) + length (rest n t) ≡ length t
length-both t n = sym (length-append (front n t) (rest n t)) ∙ ap length (take-append-drop (offset_of t n) t)

length-restyled_from : (codes : List ℕ) (s : Rendition) (n : ℕ) (t : List ℕ) (rs : List (ℕ × ℕ)) → IsStyle s → length (restyled_from (written codes) s n t rs) ≤ length t + (length codes + 254) * changed_runs n t rs
length-restyled_from codes s n t [] is = omega arith
length-restyled_from codes s n t (r ∷ rs) is =
    let w = written codes in
    let before = r.0 - n in
    let within = r.1 - r.0 in
    let style = style_within s t before in
    let here = rest before t in
    let part = front within here in
    let last = style_within style here within in
    let is_there : IsStyle style = subst IsStyle (style_after-front s t before) (IsStyle-style_after_from s (front before t) is) in
    let is_last : IsStyle last = subst IsStyle (style_after-front style here within) (IsStyle-style_after_from style part is_there) in
    let changed = changed_pieces w style (pieces_of part) in
    let later = restyled_from w last r.1 (rest within here) rs in
    omega (
      arith,
      length-append (front before t ++ changed) later,
      length-append (front before t) changed,
      length-changed_pieces codes style (pieces_of part) is_there,
      ap length (spelled-pieces_of part),
      length-restyled_from codes last r.1 (rest within here) rs is_last,
      length-both t before,
      length-both here within,
    )

more_runs : (k n m a b : ℕ) → a ≤ b + k * n → n ≤ m → a ≤ b + k * m
more_runs k n m a b all few = omega (arith, all, mul-le-mul_left k few)

length-restyled_all : (t codes : List ℕ) (rs : List (ℕ × ℕ)) → length (restyled t (written codes) rs) ≤ length t + (length codes + 254) * (length rs + length (filter is_text (pieces_of t)) - 1)
length-restyled_all t codes rs =
    more_runs (length codes + 254) (changed_runs 0 t rs) (length rs + length (filter is_text (pieces_of t)) - 1) (length (restyled t (written codes) rs)) (length t)
    (length-restyled_from codes plain_style 0 t rs IsStyle-plain_style) (changed_runs-few 0 t rs)

pub length-restyled : (t codes : List ℕ) (rs : List (ℕ × ℕ)) (u : List ℕ) → u ≡ restyled t (written codes) rs → length u ≤ length t + (length codes + 254) * (length rs + length (filter is_text (pieces_of t)) - 1)
length-restyled t codes rs u is = subst (λ (v : List ℕ). length v ≤ length t + (length codes + 254) * (length rs + length (filter is_text (pieces_of t)) - 1)) (sym is) (length-restyled_all t codes rs)
