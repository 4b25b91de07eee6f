-- What is made of a whole text is the headline.
use Rattle.std.proofs.Common.{◌≡◌, ℕ, ◌+◌, ◌-◌, ◌≤◌, Bool, true, false, List, [], ◌∷◌, ◌++◌, length, map, drop, refl, sym, ◌∙◌, ap, ap₂, subst, arith, IsTrue, append_assoc, if◌then◌else◌}
use Rattle.std.proofs.lemmas.List.{drop-drop, length-drop}
use Rattle.ansi_items.specs.Pieces.{pieces_of}
use Rattle.ansi_items.specs.Plain.{plain, is_whole}
use Rattle.ansi_style.specs.declared.state.rendition.Rendition.{Rendition}
use Rattle.ansi_style.specs.Rendition.{IsStyle, plain_style}
use Rattle.ansi_style.specs.Reading.{styled_from, style_after_from, style_within}
use Rattle.ansi_style.specs.Styled.{StyledByte, styled, unstyled}
use Rattle.ansi_style.specs.Written.{written}
use Rattle.ansi_style.proofs.StyleLemmas.{IsStyle-plain_style, IsStyle-style_after_from}
use Rattle.ansi_style.proofs.StyledLemmas.{unstyled-styled}
use Rattle.ansi_restyle.specs.Ranges.{are_in_turn, is_in_any}
use Rattle.ansi_restyle.specs.Restyled.{is_change, changed_byte, changed_within, changed_pieces, front, rest, restyled_from, restyled, IsRestyled}
use Rattle.ansi_restyle.proofs.RangeLemmas.{are_first, in_turn-within, within-outside, within-parts}
use Rattle.ansi_restyle.proofs.ChangeLemmas.{Reads, reads-itself, reads-append, reads-changed}
use Rattle.ansi_restyle.proofs.FrontLemmas.{is_whole-front, is_whole-rest, style_after-front, styled_from-parts, style_after-parts, length-front, plain-rest, kept-parts}
use Rattle.ansi_restyle.proofs.OtherLemmas.{kept_of, without_sgrs-kept}

pub drop-further : (x : List ℕ) (n m : ℕ) → n ≤ m → drop (m - n) (drop n x) ≡ drop m x
drop-further x n m before = (let sum : n + (m - n) ≡ m = omega arith in drop-drop (m - n) n x ∙ ap (λ k. drop k x) sum)

pub reads_restyled : (x codes : List ℕ) → is_change codes ≡ true → (rs : List (ℕ × ℕ)) (n : ℕ) (t : List ℕ) (s : Rendition) → IsStyle s → IsTrue (is_whole t) → plain t ≡ drop n x → are_in_turn x n rs ≡ true
    → Reads s (style_after_from s t) (changed_within (written codes) rs n (styled_from s t)) (kept_of (pieces_of t)) (restyled_from (written codes) s n t rs)
reads_restyled x codes change [] n t s is whole there turn =
    subst (λ bs. Reads s (style_after_from s t) bs (kept_of (pieces_of t)) t) (sym (within-outside (written codes) [] n (styled_from s t) (λ i from before. refl))) (reads-itself s t whole)
reads_restyled x codes change (r ∷ rs) n t s is whole there turn =
    let w = written codes in
    let first = are_first x n r rs turn in
    let begins : n ≤ r.0 = first.begins in
    let ends : r.0 ≤ r.1 = first.ends in
    let inside : r.1 ≤ length x = in_turn-within x r.1 rs first.later in
    let before = r.0 - n in
    let within = r.1 - r.0 in
    let style = style_within s t before in
    let here = rest before t in
    let part = front within here in
    let last = style_within style here within in
    let after = rest within here in
    let whole_here = is_whole-rest t before whole in
    let plain_here : plain here ≡ drop r.0 x = plain-rest t before ∙ ap (drop before) there ∙ drop-further x n r.0 begins in
    let plain_after : plain after ≡ drop r.1 x = plain-rest here within ∙ ap (drop within) plain_here ∙ drop-further x r.0 r.1 ends in
    let is_there : IsStyle style = subst IsStyle (style_after-front s t before) (IsStyle-style_after_from s (front before t) is) in
    let is_last : IsStyle last = subst IsStyle (style_after-front style here within) (IsStyle-style_after_from style part is_there) in
    let xs = styled_from s (front before t) in
    let bs = styled_from style part in
    let cs = styled_from last after in
    let size_xs : length xs ≡ before = length-front s t before (omega (arith, ap length there, length-drop n x, inside, ends, begins)) in
    let size_bs : length bs ≡ within = length-front style here within (omega (arith, ap length plain_here, length-drop r.0 x, inside, ends)) in
    let one = subst (λ q. Reads s q xs (kept_of (pieces_of (front before t))) (front before t)) (style_after-front s t before) (reads-itself s (front before t) (is_whole-front t before whole)) in
    let two = subst (λ q. Reads style q (map (changed_byte w) bs) (kept_of (pieces_of part)) (changed_pieces w style (pieces_of part))) (style_after-front style here within)
    (reads-changed codes style part change is_there (is_whole-front here within whole_here)) in
    let three = reads_restyled x codes change rs r.1 after last is_last (is_whole-rest here within whole_here) plain_after first.later in
    let all : styled_from s t ≡ xs ++ (bs ++ cs) = styled_from-parts s t before whole ∙ ap (λ v. xs ++ v) (styled_from-parts style here within whole_here) in
    let end : style_after_from s t ≡ style_after_from last after = style_after-parts s t before whole ∙ style_after-parts style here within whole_here in
    let bytes : (xs ++ map (changed_byte w) bs) ++ changed_within w rs r.1 cs ≡ changed_within w (r ∷ rs) n (styled_from s t)
    = append_assoc xs (map (changed_byte w) bs) (changed_within w rs r.1 cs)
    ∙ sym (ap (changed_within w (r ∷ rs) n) all ∙ within-parts x w n r rs xs bs cs first (omega (arith, size_xs, begins)) (omega (arith, size_bs, ends))) in
    let others : (kept_of (pieces_of (front before t)) ++ kept_of (pieces_of part)) ++ kept_of (pieces_of after) ≡ kept_of (pieces_of t)
    = append_assoc (kept_of (pieces_of (front before t))) (kept_of (pieces_of part)) (kept_of (pieces_of after))
    ∙ sym (kept-parts t before whole ∙ ap (λ v. kept_of (pieces_of (front before t)) ++ v) (kept-parts here within whole_here)) in
    subst (λ q. Reads s q (changed_within w (r ∷ rs) n (styled_from s t)) (kept_of (pieces_of t)) (restyled_from w s n t (r ∷ rs))) (sym end)
    (subst (λ v. Reads s (style_after_from last after) v (kept_of (pieces_of t)) (restyled_from w s n t (r ∷ rs))) bytes
    (subst (λ ks. Reads s (style_after_from last after) ((xs ++ map (changed_byte w) bs) ++ changed_within w rs r.1 cs) ks (restyled_from w s n t (r ∷ rs))) others
    (reads-append (reads-append one two) three)))

-- The bytes of styled bytes stay.

unstyled-within : (w : List ℕ) (rs : List (ℕ × ℕ)) (n : ℕ) (bs : List StyledByte) → unstyled (changed_within w rs n bs) ≡ unstyled bs
unstyled-within w rs n [] = refl
unstyled-within w rs n (b ∷ bs) = ap₂ (λ c v. c ∷ v) (either (is_in_any rs n)) (unstyled-within w rs (n + 1) bs)
  where
    either : (t : Bool) → (if t then changed_byte w b else b).byte ≡ b.byte
    either true = refl
    either false = refl

pub is_restyled : (t codes : List ℕ) (rs : List (ℕ × ℕ)) → is_change codes ≡ true → are_in_turn (plain t) 0 rs ≡ true → IsTrue (is_whole t) → IsRestyled t (written codes) rs (restyled t (written codes) rs)
is_restyled t codes rs change turn whole =
    let w = written codes in
    let u = restyled t w rs in
    let reads = reads_restyled (plain t) codes change rs 0 t plain_style IsStyle-plain_style whole refl turn in
    let bytes : styled u ≡ changed_within w rs 0 (styled t) = reads.given plain_style refl in
    record {
      styled_bytes = bytes;
      plain_text = sym (unstyled-styled u) ∙ ap unstyled bytes ∙ unstyled-within w rs 0 (styled t) ∙ unstyled-styled t;
      others = without_sgrs-kept u ∙ reads.others ∙ sym (without_sgrs-kept t);
      whole = reads.whole;
      open_at_end = reads.left plain_style refl;
    }
