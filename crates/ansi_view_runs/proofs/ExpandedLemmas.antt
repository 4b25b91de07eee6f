-- A safe text with its TABs expanded is safe, and leaves open what it left open.
use Rattle.std.proofs.Common.{◌≡◌, ℕ, zero, suc, inl, inr, ◌==◌, Bool, true, false, not, ◌&&◌, ◌||◌, List, [], ◌∷◌, ◌++◌, slice_index, fold, chars, encode_utf8, encode_utf8_all, if◌then◌else◌, refl, sym, ◌∙◌, ap, ap₂, subst, eqb-true, arith}
use lib.Utf8.{scalars}
use Rattle.std.specs.List.{list_all}
use Rattle.std.specs.Str.{IsUtf8}
use Rattle.std.proofs.lemmas.Bool.{cases_Bool, cond_both, and_parts, and_from}
use Rattle.std.proofs.lemmas.Bool.Decides.{nat_tests}
use Rattle.std.proofs.lemmas.Grind.{flat_map-append}
use Rattle.std.proofs.lemmas.List.Folds.{list_all-append}
use Rattle.std.proofs.lemmas.Str.{encodes-append, encodes-chars, encodes-IsAscii, scalars-chars}
use Rattle.std.proofs.lemmas.Str.Ascii.{IsAscii-from_all}
use Rattle.ansi_items.specs.Pieces.{Piece, Text, Sequence, LoneEscape, spelling, pieces_of}
use Rattle.ansi_items.specs.Plain.{plain, plain_of, plain_bytes}
use Rattle.ansi_items.proofs.JoinLemmas.{spelled, pieces_of-spelled}
use Rattle.ansi_items.proofs.PlainLemmas.{one_text, plain_of-one_text}
use Rattle.ansi_style.specs.Rendition.{plain_style, known}
use Rattle.ansi_style.specs.Sgr.{apply}
use Rattle.ansi_style.proofs.SpelledLemmas.{residue-spelled}
use Rattle.ansi_style.proofs.StyledLemmas.{style_after_from-pieces}
use Rattle.ansi_style.proofs.ThroughLemmas.{state_through, state_through-merged}
use Rattle.ansi_safe.specs.declared.policy.Links.TheVariants.{Keep}
use Rattle.ansi_safe.specs.Cells.{cell}
use Rattle.ansi_safe.specs.Links.{link_after}
use Rattle.ansi_safe.specs.Safe.{is_printing, is_allowed, all_allowed}
use Rattle.ansi_safe.proofs.AllowedLemmas.{all_allowed-append}
use Rattle.ansi_safe.proofs.CellLemmas.{plain_of-merged}
use Rattle.ansi_safe.proofs.LinkLemmas.{link_through, link_of-pieces}
use Rattle.ansi_safe.proofs.SafeLemmas.{AreGood, AreGood-append, good_stand, good_are_safe, good_text, spelled-one_text}
use Rattle.ansi_clusters.specs.Columns.{columns}
use Rattle.ansi_clusters.specs.Lines.{blanks}
use Rattle.ansi_cells.specs.Tabs.{since_stop, to_next, run_expanded, pieces_expanded, expanded}
use Rattle.ansi_clusters.proofs.AsciiLemmas.{All-printable_is_ascii}
use Rattle.ansi_cells.proofs.OneLineLemmas.{safe_are_good}
use Rattle.ansi_columns.proofs.SequenceLemmas.{good-utf8}
use Rattle.ansi_cells.proofs.ShownLawLemmas.{blanks_are_printable}
use Rattle.ansi_view_runs.specs.SafeTexts.{IsSafeText}

-- ---- the characters of a run: a TAB becomes blanks, and any other stays

abbrev chars_expanded : ℕ → List ℕ → List ℕ → List ℕ
chars_expanded stop x [] = []
chars_expanded stop x (c ∷ cs) = (if c == 9 then blanks (to_next stop (columns (plain (cell x)))) else c ∷ []) ++ chars_expanded stop (fold since_stop x (encode_utf8 c)) cs

abbrev is_no_tab : ℕ → Bool
is_no_tab b = not (b == 9)

not_true : (b : Bool) → not b ≡ true → b ≡ false
not_true true is = absurd (cc is)
not_true false is = refl

-- bytes that are no TAB stay
run-over : (stop : ℕ) (x u w : List ℕ) → list_all is_no_tab u ≡ true → run_expanded stop x (u ++ w) ≡ u ++ run_expanded stop (fold since_stop x u) w
run-over stop x [] w none = refl
run-over stop x (b ∷ u) w none =
    let both = and_parts (is_no_tab b) (list_all is_no_tab u) none in
    ap (λ c. (if c then blanks (to_next stop (columns (plain (cell x)))) else b ∷ []) ++ run_expanded stop (since_stop x b) (u ++ w)) (not_true (b == 9) both.0)
    ∙ ap (λ v. b ∷ v) (run-over stop (since_stop x b) u w both.1)

encode-no_tab : (c : ℕ) → (c == 9) ≡ false → list_all is_no_tab (encode_utf8 c) ≡ true
unfolding lib.Utf8.encode
encode-no_tab c other = grind (arith, nat_tests)

encode-tab : encode_utf8 9 ≡ 9 ∷ []
unfolding lib.Utf8.encode
encode-tab = refl

encode-blanks : (n : ℕ) → encode_utf8_all (blanks n) ≡ blanks n
encode-blanks n = encodes-IsAscii (blanks n) (IsAscii-from_all (blanks n) (All-printable_is_ascii (blanks n) (blanks_are_printable n)))

run-chars : (stop : ℕ) (x cs : List ℕ) → run_expanded stop x (encode_utf8_all cs) ≡ encode_utf8_all (chars_expanded stop x cs)
run-chars stop x [] = refl
run-chars stop x (c ∷ cs) = elim (cases_Bool (c == 9)) [
  | inl tab ↦ (
      let n = to_next stop (columns (plain (cell x))) in
      let bytes : encode_utf8 c ≡ 9 ∷ [] = ap encode_utf8 (eqb-true c 9 tab) ∙ encode-tab in
      let more = chars_expanded stop [] cs in
      ap (λ u. run_expanded stop x (u ++ encode_utf8_all cs)) bytes
      ∙ ap (λ v. blanks n ++ v) (run-chars stop [] cs)
      ∙ ap (λ v. v ++ encode_utf8_all more) (sym (encode-blanks n))
      ∙ sym (encodes-append (blanks n) more)
      ∙ ap₂ (λ b u. encode_utf8_all ((if b then blanks n else c ∷ []) ++ chars_expanded stop (fold since_stop x u) cs)) (sym tab) (sym bytes))
  | inr other ↦ (
      let u = encode_utf8 c in
      run-over stop x u (encode_utf8_all cs) (encode-no_tab c other)
      ∙ ap (λ v. u ++ v) (run-chars stop (fold since_stop x u) cs)
      ∙ ap (λ b. encode_utf8_all ((if b then blanks (to_next stop (columns (plain (cell x)))) else c ∷ []) ++ chars_expanded stop (fold since_stop x u) cs)) (sym other))
]

-- they are allowed where they are: a line feed after a carriage return stays there

line_feed-stays : (stop : ℕ) (x cs : List ℕ) → (slice_index cs 0 == 10) ≡ true → (slice_index (chars_expanded stop x cs) 0 == 10) ≡ true
line_feed-stays stop x [] is = is
line_feed-stays stop x (c ∷ cs) is = subst (λ d. (slice_index (chars_expanded stop x (d ∷ cs)) 0 == 10) ≡ true) (sym (eqb-true c 10 is)) refl

allowed-before : (c : ℕ) (cs ds : List ℕ) → ((slice_index cs 0 == 10) ≡ true → (slice_index ds 0 == 10) ≡ true) → is_allowed c cs ≡ true → is_allowed c ds ≡ true
allowed-before c cs ds stays = by (is_printing c) (c == 9) (c == 10) (c == 13) (slice_index cs 0 == 10) (slice_index ds 0 == 10) stays
  where
    by : (p t n r f g : Bool) → (f ≡ true → g ≡ true) → (p || (t || (n || (r && f)))) ≡ true → (p || (t || (n || (r && g)))) ≡ true
    by true t n r f g stays is = refl
    by false true n r f g stays is = refl
    by false false true r f g stays is = refl
    by false false false true f g stays is = stays is
    by false false false false f g stays is = is

blanks-allowed : (n : ℕ) → all_allowed (blanks n) ≡ true
blanks-allowed zero = refl
blanks-allowed (suc n) = blanks-allowed n

expanded-allowed : (stop : ℕ) (x cs : List ℕ) → all_allowed cs ≡ true → all_allowed (chars_expanded stop x cs) ≡ true
expanded-allowed stop x [] all = refl
expanded-allowed stop x (c ∷ cs) all =
    let both = and_parts (is_allowed c cs) (all_allowed cs) all in
    let y = fold since_stop x (encode_utf8 c) in
    by (c == 9) (allowed-before c cs (chars_expanded stop y cs) (line_feed-stays stop y cs) both.0) (expanded-allowed stop y cs both.1)
  where
    by : (b : Bool) → is_allowed c (chars_expanded stop (fold since_stop x (encode_utf8 c)) cs) ≡ true → all_allowed (chars_expanded stop (fold since_stop x (encode_utf8 c)) cs) ≡ true
        → all_allowed ((if b then blanks (to_next stop (columns (plain (cell x)))) else c ∷ []) ++ chars_expanded stop (fold since_stop x (encode_utf8 c)) cs) ≡ true
    by true here more = all_allowed-append (blanks (to_next stop (columns (plain (cell x))))) _ (blanks-allowed (to_next stop (columns (plain (cell x))))) more
    by false here more = and_from _ _ here more

blanks-scalar : (n : ℕ) (ds : List ℕ) → scalars ds ≡ true → scalars (blanks n ++ ds) ≡ true
blanks-scalar zero ds are = are
blanks-scalar (suc n) ds are = blanks-scalar n ds are

expanded-scalar : (stop : ℕ) (x cs : List ℕ) → scalars cs ≡ true → scalars (chars_expanded stop x cs) ≡ true
expanded-scalar stop x [] are = refl
expanded-scalar stop x (c ∷ cs) are =
    let both = and_parts _ (scalars cs) are in
    let y = fold since_stop x (encode_utf8 c) in
    let n = to_next stop (columns (plain (cell x))) in
    let more = chars_expanded stop y cs in
    let rest = expanded-scalar stop y cs both.1 in
    cond_both (c == 9) (blanks n) (c ∷ []) (λ v. scalars (v ++ more) ≡ true) (λ tab. blanks-scalar n more rest) (λ other. and_from _ _ both.0 rest)

-- ---- the pieces of the text: a run becomes these characters, and a sequence stays

abbrev pub expanded_pieces : ℕ → List ℕ → List Piece → List Piece
expanded_pieces stop x [] = []
expanded_pieces stop x (Text w ∷ ps) = one_text (run_expanded stop x w) ++ expanded_pieces stop (fold since_stop x w) ps
expanded_pieces stop x (p ∷ ps) = p ∷ expanded_pieces stop x ps

run-good : (stop : ℕ) (x w : List ℕ) → IsUtf8 w → all_allowed (chars w) ≡ true → AreGood Keep (one_text (run_expanded stop x w))
run-good stop x w utf8 allowed =
    let ds = chars_expanded stop x (chars w) in
    let is : run_expanded stop x w ≡ encode_utf8_all ds = ap (run_expanded stop x) (sym (encodes-chars w utf8)) ∙ run-chars stop x (chars w) in
    subst (λ u. AreGood Keep (one_text u)) (sym is) (good_text Keep ds (record { stand = expanded-allowed stop x (chars w) allowed; scalar = expanded-scalar stop x (chars w) (scalars-chars w utf8) }))

pub expanded-good : (stop : ℕ) (x : List ℕ) (ps : List Piece) → AreGood Keep ps → AreGood Keep (expanded_pieces stop x ps)
expanded-good stop x [] good = tt
expanded-good stop x (Text w ∷ ps) good =
    AreGood-append Keep (one_text (run_expanded stop x w)) (expanded_pieces stop (fold since_stop x w) ps) (run-good stop x w good.0.2 good.0.3) (expanded-good stop (fold since_stop x w) ps good.1)
expanded-good stop x (Sequence w ∷ ps) good = (good.0, expanded-good stop x ps good.1)
expanded-good stop x (LoneEscape ∷ ps) good = absurd good.0

pub spelled-expanded : (stop : ℕ) (x : List ℕ) (ps : List Piece) → spelled (expanded_pieces stop x ps) ≡ pieces_expanded stop x ps
spelled-expanded stop x [] = refl
spelled-expanded stop x (Text w ∷ ps) =
    flat_map-append spelling (one_text (run_expanded stop x w)) (expanded_pieces stop (fold since_stop x w) ps)
    ∙ ap₂ ◌++◌ (spelled-one_text (run_expanded stop x w)) (spelled-expanded stop (fold since_stop x w) ps)
spelled-expanded stop x (Sequence w ∷ ps) = ap (λ v. w ++ v) (spelled-expanded stop x ps)
spelled-expanded stop x (LoneEscape ∷ ps) = ap (λ v. spelling LoneEscape ++ v) (spelled-expanded stop x ps)

through-expanded : {S : Type 0} (step : S → List ℕ → S) (s : S) (stop : ℕ) (x : List ℕ) (ps : List Piece) → state_through step s (expanded_pieces stop x ps) ≡ state_through step s ps
through-expanded step s stop x [] = refl
through-expanded step s stop x (Text w ∷ ps) =
    let y = fold since_stop x w in
    past_text (run_expanded stop x w) (expanded_pieces stop y ps) ∙ through-expanded step s stop y ps
  where
    past_text : (v : List ℕ) (qs : List Piece) → state_through step s (one_text v ++ qs) ≡ state_through step s qs
    past_text [] qs = refl
    past_text (b ∷ v) qs = refl
through-expanded step s stop x (Sequence w ∷ ps) = through-expanded step (step s w) stop x ps
through-expanded step s stop x (LoneEscape ∷ ps) = through-expanded step (step s (spelling LoneEscape)) stop x ps

-- so the text is safe, and ends as it did

pub safe-expanded : (stop : ℕ) (t : List ℕ) → IsSafeText t → IsSafeText (expanded stop t)
safe-expanded stop t is =
    let ps = pieces_of t in
    let qs = expanded_pieces stop [] ps in
    let good = expanded-good stop [] ps (safe_are_good t is.utf8 is.safe) in
    let stand = good_stand Keep qs good in
    subst IsSafeText (spelled-expanded stop [] ps) (record {
      utf8 = good-utf8 qs good;
      safe = good_are_safe Keep qs good;
      closed = record {
        style = residue-spelled qs stand ∙ ap known (through-expanded apply plain_style stop [] ps ∙ sym (style_after_from-pieces plain_style t)) ∙ is.closed.style;
        link = link_of-pieces (pieces_of (spelled qs)) ∙ ap (link_through []) (pieces_of-spelled qs stand) ∙ state_through-merged link_after [] qs
            ∙ through-expanded link_after [] stop [] ps ∙ sym (link_of-pieces ps) ∙ is.closed.link;
      };
    })

-- and its plain bytes pass what the plain bytes did, if a blank does

module _ (test : ℕ → Bool) (stop : ℕ) (blank : test 32 ≡ true) where
  blanks-pass : (n : ℕ) → list_all test (blanks n) ≡ true
  blanks-pass zero = refl
  blanks-pass (suc n) = and_from _ _ blank (blanks-pass n)

  run-pass : (x w : List ℕ) → list_all test w ≡ true → list_all test (run_expanded stop x w) ≡ true
  run-pass x [] all = refl
  run-pass x (b ∷ w) all =
      let both = and_parts (test b) (list_all test w) all in
      let more = run_expanded stop (since_stop x b) w in
      let n = to_next stop (columns (plain (cell x))) in
      let rest = run-pass (since_stop x b) w both.1 in
      cond_both (b == 9) (blanks n) (b ∷ []) (λ v. list_all test (v ++ more) ≡ true) (λ tab. list_all-append test (blanks n) more ∙ and_from _ _ (blanks-pass n) rest) (λ other. and_from _ _ both.0 rest)

  pieces-pass : (x : List ℕ) (ps : List Piece) → list_all test (plain_of ps) ≡ true → list_all test (plain_of (expanded_pieces stop x ps)) ≡ true
  pieces-pass x [] all = refl
  pieces-pass x (Text w ∷ ps) all =
      let both = and_parts (list_all test w) (list_all test (plain_of ps)) (sym (list_all-append test w (plain_of ps)) ∙ all) in
      let v = run_expanded stop x w in
      let qs = expanded_pieces stop (fold since_stop x w) ps in
      ap (list_all test) (flat_map-append plain_bytes (one_text v) qs ∙ ap (λ u. u ++ plain_of qs) (plain_of-one_text v))
      ∙ list_all-append test v (plain_of qs) ∙ and_from _ _ (run-pass x w both.0) (pieces-pass (fold since_stop x w) ps both.1)
  pieces-pass x (Sequence w ∷ ps) all = pieces-pass x ps all
  pieces-pass x (LoneEscape ∷ ps) all = pieces-pass x ps all

pub all-expanded : (test : ℕ → Bool) (stop : ℕ) (t : List ℕ) → test 32 ≡ true → IsSafeText t → list_all test (plain t) ≡ true → list_all test (plain (expanded stop t)) ≡ true
all-expanded test stop t blank is all =
    let qs = expanded_pieces stop [] (pieces_of t) in
    let stand = good_stand Keep qs (expanded-good stop [] (pieces_of t) (safe_are_good t is.utf8 is.safe)) in
    let text : plain (spelled qs) ≡ plain_of qs = ap plain_of (pieces_of-spelled qs stand) ∙ plain_of-merged qs in
    subst (λ u. list_all test (plain u) ≡ true) (spelled-expanded stop [] (pieces_of t)) (ap (list_all test) text ∙ pieces-pass test stop blank [] (pieces_of t) all)
