-- A whole text with each run changed: it is whole, and read in the style before it has its styled bytes changed, and leaves open what it did.
use Rattle.std.proofs.Common.{◌≡◌, ℕ, true, List, [], ◌∷◌, ◌++◌, length, map, refl, sym, ◌∙◌, ap, ap₂, subst, arith, IsTrue, append_assoc, append-nil}
use Rattle.std.proofs.lemmas.Grind.{flat_map-append}
use Rattle.std.proofs.lemmas.List.{map-append}
use Rattle.std.proofs.lemmas.Bool.{and_from}
use Rattle.std.proofs.lemmas.List.Folds.{list_all-append}
use Rattle.ansi_items.specs.Pieces.{Piece, Text, Sequence, LoneEscape, spelling, pieces_of}
use Rattle.ansi_items.specs.Plain.{is_whole}
use Rattle.ansi_items.proofs.JoinLemmas.{spelled, AllStandAnywhere, stand-append, is_whole-spelled, is_whole-append, pieces_stand}
use Rattle.ansi_style.specs.declared.state.rendition.Rendition.{Rendition}
use Rattle.ansi_style.specs.Rendition.{IsStyle, known}
use Rattle.ansi_style.specs.Sgr.{apply}
use Rattle.ansi_style.specs.Reading.{styled_from, style_after_from}
use Rattle.ansi_style.specs.Styled.{StyledByte}
use Rattle.ansi_style.specs.Written.{written, written_all, start, start_codes, close, close_codes}
use Rattle.ansi_style.proofs.SgrLemmas.{apply-known, apply-alike}
use Rattle.ansi_style.proofs.StyleLemmas.{IsStyle-apply}
use Rattle.ansi_style.proofs.StyledLemmas.{style_through, styled_through, in_style, style_through-append, styled_through-append, styled_from-pieces, style_after_from-pieces}
use Rattle.ansi_style.proofs.SpelledLemmas.{styled_from-spelled, style_after_from-spelled, styled_from-append, style_after_from-append, styled_from-alike, style_after_from-alike}
use Rattle.ansi_style.proofs.ReadBackLemmas.{AreCodes, style_after_from-codes, apply_codes, apply_codes-append, code_pieces, spelled-code_pieces, code_pieces_stand, start_codes_are, close_codes_are, style_through-codes, styled_through-codes}
use Rattle.ansi_style.proofs.StartLemmas.{start_codes_set}
use Rattle.ansi_style.proofs.CloseLemmas.{close_codes_clear}
use Rattle.ansi_restyle.specs.Restyled.{is_change, changed_byte, changed_run, changed_pieces}
use Rattle.ansi_restyle.proofs.OtherLemmas.{kept, kept_of, kept-append, kept-spelled, kept-codes, copied-sgr, change_is_sgr}

-- The text u is whole, and is the text ks without its SGRs. Read in a style that is known like s, it has these styled bytes, and leaves what is known of q.
pub record Reads (s q : Rendition) (bs : List StyledByte) (ks u : List ℕ) : Type 0 where
  pub whole : IsTrue (is_whole u)
  pub others : kept_of (pieces_of u) ≡ ks
  pub given : (p : Rendition) → known p ≡ known s → styled_from p u ≡ bs
  pub left : (p : Rendition) → known p ≡ known s → known (style_after_from p u) ≡ known q

pub reads-itself : (s : Rendition) (t : List ℕ) → IsTrue (is_whole t) → Reads s (style_after_from s t) (styled_from s t) (kept_of (pieces_of t)) t
reads-itself s t whole = record {
  whole = whole;
  others = refl;
  given = λ p same. styled_from-alike p s t same;
  left = λ p same. style_after_from-alike p s t same;
}

pub reads-append : {s q r : Rendition} {bs cs : List StyledByte} {ks ls u v : List ℕ} → Reads s q bs ks u → Reads q r cs ls v → Reads s r (bs ++ cs) (ks ++ ls) (u ++ v)
reads-append {s} {q} {r} {bs} {cs} {ks} {ls} {u} {v} first second = record {
  whole = is_whole-append u v first.whole second.whole;
  others = kept-append u v first.whole second.whole ∙ ap₂ (λ a b. a ++ b) first.others second.others;
  given = λ p same. styled_from-append p u v first.whole second.whole ∙ ap₂ (λ a b. a ++ b) (first.given p same) (second.given (style_after_from p u) (first.left p same));
  left = λ p same. ap known (style_after_from-append p u v first.whole second.whole) ∙ second.left (style_after_from p u) (first.left p same);
}

-- The pieces of a run that is changed.

-- the codes after it: the close of the style with the change, and the start of the style before
abbrev pub codes_after : List ℕ → Rendition → List (List ℕ)
codes_after codes s = close_codes (apply s (written codes)) ++ start_codes s

abbrev pub run_pieces : List ℕ → Rendition → List ℕ → List Piece
run_pieces codes s v = Sequence (written codes) ∷ Text v ∷ code_pieces (codes_after codes s)

-- pieces, each run among them changed
abbrev pub pieces_changed : List ℕ → Rendition → List Piece → List Piece
pieces_changed codes s [] = []
pieces_changed codes s (Text v ∷ ps) = run_pieces codes s v ++ pieces_changed codes s ps
pieces_changed codes s (p ∷ ps) = p ∷ pieces_changed codes (apply s (spelling p)) ps

pub written_all-append : (xs ys : List (List ℕ)) → written_all (xs ++ ys) ≡ written_all xs ++ written_all ys
written_all-append xs ys = flat_map-append written xs ys

regroup : (a b c d : List ℕ) → a ++ (b ++ (c ++ d)) ≡ ((a ++ b) ++ c) ++ d
regroup a b c d = sym (append_assoc (a ++ b) c d ∙ append_assoc a b (c ++ d))

spelled-run_pieces : (codes : List ℕ) (s : Rendition) (v : List ℕ) → spelled (run_pieces codes s v) ≡ changed_run (written codes) s v
spelled-run_pieces codes s v =
    let w = written codes in
    let c = apply s w in
    ap (λ u. w ++ (v ++ u)) (spelled-code_pieces (codes_after codes s) ∙ written_all-append (close_codes c) (start_codes s))
    ∙ regroup w v (close c) (start s)

pub spelled-pieces_changed : (codes : List ℕ) (s : Rendition) (ps : List Piece) → spelled (pieces_changed codes s ps) ≡ changed_pieces (written codes) s ps
spelled-pieces_changed codes s [] = refl
spelled-pieces_changed codes s (Text v ∷ ps) =
    flat_map-append spelling (run_pieces codes s v) (pieces_changed codes s ps)
    ∙ ap₂ (λ a b. a ++ b) (spelled-run_pieces codes s v) (spelled-pieces_changed codes s ps)
spelled-pieces_changed codes s (p ∷ ps) = ap (λ u. spelling p ++ u) (spelled-pieces_changed codes (apply s (spelling p)) ps)

-- They may come before anything.

pub change_stands : (codes : List ℕ) → is_change codes ≡ true → AllStandAnywhere (Sequence (written codes) ∷ [])
change_stands codes is =
    let n = length (written_all (codes ∷ [])) in
    code_pieces_stand {n = n} (codes ∷ []) (record { each = and_from _ _ is refl; short = omega arith })

pub codes_after_stand : (codes : List ℕ) (s : Rendition) → IsStyle s → AllStandAnywhere (code_pieces (codes_after codes s))
codes_after_stand codes s is =
    let c = apply s (written codes) in
    subst AllStandAnywhere (sym (map-append (λ code. Sequence (written code)) (close_codes c) (start_codes s)))
    (stand-append (code_pieces (close_codes c)) (code_pieces (start_codes s)) (code_pieces_stand (close_codes c) (close_codes_are c)) (code_pieces_stand (start_codes s) (start_codes_are s is)))

pieces_changed_stand : (codes : List ℕ) (s : Rendition) (ps : List Piece) → is_change codes ≡ true → IsStyle s → AllStandAnywhere ps → AllStandAnywhere (pieces_changed codes s ps)
pieces_changed_stand codes s [] change is all = tt
pieces_changed_stand codes s (Text v ∷ ps) change is all =
    ((change_stands codes change).0, (all.0, stand-append (code_pieces (codes_after codes s)) (pieces_changed codes s ps) (codes_after_stand codes s is) (pieces_changed_stand codes s ps change is all.1)))
pieces_changed_stand codes s (Sequence w ∷ ps) change is all = (all.0, pieces_changed_stand codes (apply s w) ps change (IsStyle-apply s w is) all.1)
pieces_changed_stand codes s (LoneEscape ∷ ps) change is all = absurd all.0

-- Without SGRs they are the pieces.

kept-codes_after : (codes : List ℕ) (s : Rendition) → IsStyle s → kept_of (code_pieces (codes_after codes s)) ≡ []
kept-codes_after codes s is =
    let c = apply s (written codes) in
    kept-codes (codes_after codes s) (list_all-append is_change (close_codes c) (start_codes s) ∙ and_from _ _ (close_codes_are c).each (start_codes_are s is).each)

kept-changed : (codes : List ℕ) (s : Rendition) (ps : List Piece) → is_change codes ≡ true → IsStyle s → kept_of (pieces_changed codes s ps) ≡ kept_of ps
kept-changed codes s [] change is = refl
kept-changed codes s (Text v ∷ ps) change is =
    let more = pieces_changed codes s ps in
    ap (λ u. u ++ (v ++ kept_of (code_pieces (codes_after codes s) ++ more))) (copied-sgr (written codes) (change_is_sgr codes change))
    ∙ ap (λ u. v ++ u) (flat_map-append kept (code_pieces (codes_after codes s)) more ∙ ap₂ (λ a b. a ++ b) (kept-codes_after codes s is) (kept-changed codes s ps change is))
kept-changed codes s (p ∷ ps) change is = ap (λ u. kept p ++ u) (kept-changed codes (apply s (spelling p)) ps change (IsStyle-apply s (spelling p) is))

-- What is read of them.

in_style-changed : (w : List ℕ) (p s : Rendition) (v : List ℕ) → known p ≡ known (apply s w) → in_style p v ≡ map (changed_byte w) (in_style s v)
in_style-changed w p s [] same = refl
in_style-changed w p s (b ∷ v) same = ap₂ (λ k u. record { byte = b; style = k } ∷ u) (same ∙ apply-known s w) (in_style-changed w p s v same)

-- the codes after a run lead back to the style before
codes_after_lead : (codes : List ℕ) (p s : Rendition) → IsStyle s → known p ≡ known (apply s (written codes)) → known (apply_codes p (codes_after codes s)) ≡ known s
codes_after_lead codes p s is same =
    let c = apply s (written codes) in
    ap known (apply_codes-append p (close_codes c) (start_codes s))
    ∙ start_codes_set (apply_codes p (close_codes c)) s is (close_codes_clear p c same)

record ReadsPieces (codes : List ℕ) (s : Rendition) (ps : List Piece) (p : Rendition) : Type 0 where
  given : styled_through p (pieces_changed codes s ps) ≡ map (changed_byte (written codes)) (styled_through s ps)
  left : known (style_through p (pieces_changed codes s ps)) ≡ known (style_through s ps)

reads_pieces : (codes : List ℕ) (s : Rendition) (ps : List Piece) (p : Rendition) → IsStyle s → known p ≡ known s → ReadsPieces codes s ps p
reads_pieces codes s [] p is same = record { given = refl; left = same }
reads_pieces codes s (Text v ∷ ps) p is same =
    let w = written codes in
    let q = apply p w in
    let xs = codes_after codes s in
    let more = pieces_changed codes s ps in
    let through : known q ≡ known (apply s w) = apply-alike p s w same in
    let later = reads_pieces codes s ps (apply_codes q xs) is (codes_after_lead codes q s is through) in
    record {
      given =
          ap₂ (λ a b. a ++ b) (in_style-changed w q s v through)
          (styled_through-append q (code_pieces xs) more
          ∙ ap₂ (λ a r. a ++ styled_through r more) (styled_through-codes q xs) (style_through-codes q xs) ∙ later.given)
          ∙ sym (map-append (changed_byte w) (in_style s v) (styled_through s ps));
      left = ap known (style_through-append q (code_pieces xs) more ∙ ap (λ r. style_through r more) (style_through-codes q xs)) ∙ later.left;
    }
reads_pieces codes s (o ∷ ps) p is same =
    let later = reads_pieces codes (apply s (spelling o)) ps (apply p (spelling o)) (IsStyle-apply s (spelling o) is) (apply-alike p s (spelling o) same) in
    record { given = later.given; left = later.left }

-- So a whole text is read that is changed.
pub reads-changed : (codes : List ℕ) (s : Rendition) (t : List ℕ) → is_change codes ≡ true → IsStyle s → IsTrue (is_whole t)
    → Reads s (style_after_from s t) (map (changed_byte (written codes)) (styled_from s t)) (kept_of (pieces_of t)) (changed_pieces (written codes) s (pieces_of t))
reads-changed codes s t change is whole =
    let ps = pieces_of t in
    let qs = pieces_changed codes s ps in
    let stand = pieces_changed_stand codes s ps change is (pieces_stand t whole) in
    subst (Reads s (style_after_from s t) (map (changed_byte (written codes)) (styled_from s t)) (kept_of ps)) (spelled-pieces_changed codes s ps)
    (record {
      whole = is_whole-spelled qs stand;
      others = kept-spelled qs stand ∙ kept-changed codes s ps change is;
      given = λ p same. styled_from-spelled p qs stand ∙ (reads_pieces codes s ps p is same).given ∙ ap (map (changed_byte (written codes))) (sym (styled_from-pieces s t));
      left = λ p same. ap known (style_after_from-spelled p qs stand) ∙ (reads_pieces codes s ps p is same).left ∙ ap known (sym (style_after_from-pieces s t));
    })

-- Two changes of a byte are both SGRs in a row.
pub changed_byte-twice : (first second : List ℕ) (b : StyledByte) → is_change first ≡ true → is_change second ≡ true
    → changed_byte (written second) (changed_byte (written first) b) ≡ record b { style = known (style_after_from b.style (written first ++ written second)) }
changed_byte-twice first second b is_first is_second =
    let xs = first ∷ second ∷ [] in
    let s = b.style in
    let n = length (written_all xs) in
    let are : AreCodes xs n = record { each = and_from _ _ is_first (and_from _ _ is_second refl); short = omega arith } in
    let both : style_after_from s (written first ++ written second) ≡ apply (apply s (written first)) (written second)
    = ap (λ u. style_after_from s (written first ++ u)) (sym (append-nil (written second))) ∙ style_after_from-codes s xs are in
    ap (λ k. record b { style = k }) (sym (apply-known (apply s (written first)) (written second)) ∙ ap known (sym both))
