-- A text without a range of its plain text is the headline.
use Rattle.std.proofs.Common.{◌≡◌, ℕ, ◌+◌, ◌-◌, ◌≤◌, List, [], ◌++◌, length, take, drop, sym, ◌∙◌, ap, ap₂, arith, IsTrue, append-nil, append_assoc}
use Rattle.std.proofs.lemmas.List.{map-append, drop-drop, length-drop}
use Rattle.std.specs.List.{take-map, drop-map}
use Rattle.ansi_items.specs.Plain.{plain, marks, is_whole}
use Rattle.ansi_items.proofs.JoinLemmas.{is_whole-append}
use Rattle.ansi_style.specs.Rendition.{plain_style, known}
use Rattle.ansi_style.specs.Reading.{style_within, styled_from, style_after_from}
use Rattle.ansi_style.specs.Styled.{StyledByte, styled, unstyled}
use Rattle.ansi_style.proofs.StyledLemmas.{unstyled-styled}
use Rattle.ansi_style.proofs.SpelledLemmas.{styled_from-append, style_after_from-append}
use Rattle.ansi_safe.specs.Links.{link_after_all}
use Rattle.ansi_safe.proofs.LinkLemmas.{link_after_all-none}
use Rattle.ansi_restyle.specs.Linked.{links_from}
use Rattle.ansi_restyle.specs.Restyled.{front, rest}
use Rattle.ansi_restyle.specs.Removed.{sequences, removed, IsRemoved}
use Rattle.ansi_restyle.proofs.FrontLemmas.{is_whole-front, is_whole-rest, style_after-front, style_after-parts, plain-rest}
use Rattle.ansi_restyle.proofs.LinkedLemmas.{sees-append, sees-front, sees-rest, sees-sequences, links_in-from}
use Rattle.ansi_restyle.proofs.RemovedLemmas.{is_whole-sequences, styled_from-sequences, style_after-sequences, sequences-append, sequences-twice, sequences-parts, styled_from-front, styled_from-rest}

unstyled-parts : (bs cs : List StyledByte) (a b : ℕ) → bs ≡ take a cs ++ drop b cs → unstyled bs ≡ take a (unstyled cs) ++ drop b (unstyled cs)
unstyled-parts bs cs a b is =
    let byte = λ (c : StyledByte). c.byte in
    ap unstyled is ∙ map-append byte (take a cs) (drop b cs) ∙ ap₂ (λ u v. u ++ v) (sym (take-map byte a cs)) (sym (drop-map byte b cs))

pub is_removed : (t : List ℕ) (a b : ℕ) → a ≤ b → b ≤ length (plain t) → IsTrue (is_whole t) → IsRemoved t a b (removed t a b)
is_removed t a b ordered end_within whole =
    let n = b - a in
    let here = rest a t in
    let part = front n here in
    let last = rest n here in
    let s = style_within plain_style t a in
    let q = style_within s here n in
    let f = front a t in
    let g = sequences part in
    let whole_f = is_whole-front t a whole in
    let whole_here = is_whole-rest t a whole in
    let whole_part = is_whole-front here n whole_here in
    let whole_last = is_whole-rest here n whole_here in
    let whole_g = is_whole-sequences part whole_part in
    let whole_fg = is_whole-append f g whole_f whole_g in
    let after_f : style_after_from plain_style f ≡ s = style_after-front plain_style t a in
    let after_g : style_after_from s g ≡ q = style_after-sequences part whole_part s ∙ style_after-front s here n in
    let after_fg : style_after_from plain_style (f ++ g) ≡ q = style_after_from-append plain_style f g whole_f whole_g ∙ ap (λ r. style_after_from r g) after_f ∙ after_g in
    let bytes_fg : styled_from plain_style (f ++ g) ≡ take a (styled t)
    = styled_from-append plain_style f g whole_f whole_g
    ∙ ap (λ v. styled_from plain_style f ++ v) (styled_from-sequences part whole_part (style_after_from plain_style f))
    ∙ append-nil (styled_from plain_style f) ∙ styled_from-front plain_style t a whole in
    let sum : a + n ≡ b = omega (arith, ordered) in
    let bytes_last : styled_from q last ≡ drop b (styled t)
    = styled_from-rest s here n whole_here ∙ ap (drop n) (styled_from-rest plain_style t a whole) ∙ drop-drop n a (styled t) ∙ ap (λ k. drop k (styled t)) sum in
    let bytes : styled (removed t a b) ≡ take a (styled t) ++ drop b (styled t)
    = styled_from-append plain_style (f ++ g) last whole_fg whole_last ∙ ap₂ (λ u v. u ++ v) bytes_fg (ap (λ r. styled_from r last) after_fg ∙ bytes_last) in
    let within : a ≤ length (plain t) = omega (arith, ordered, end_within) in
    let size : n ≤ length (plain here) = omega (arith, ap length (plain-rest t a), length-drop a (plain t), end_within) in
    let ls = links_from [] t in
    let link = link_after_all [] (marks f) in
    let sees_here = sees-rest [] t a within whole in
    let sees = sees-append (sees-append (sees-front [] t a within whole) (sees-sequences link part whole_part)) (sees-rest link here n size whole_here) in
    record {
      styled_bytes = bytes;
      plain_text = sym (unstyled-styled (removed t a b)) ∙ unstyled-parts (styled (removed t a b)) (styled t) a b bytes ∙ ap (λ x. take a x ++ drop b x) (unstyled-styled t);
      links =
          links_in-from (removed t a b) ∙ sees.given
          ∙ ap₂ (λ x y. x ++ y) (append-nil (take a ls) ∙ ap (take a) (sym (links_in-from t)))
          (ap (drop n) sees_here.given ∙ drop-drop n a ls ∙ ap (λ k. drop k ls) sum ∙ ap (drop b) (sym (links_in-from t)));
      link_at_end = sym (link_after_all-none (marks (removed t a b))) ∙ sees.left ∙ sees_here.left ∙ link_after_all-none (marks t);
      all_sequences = sequences-append (f ++ g) last whole_fg whole_last
          ∙ ap (λ u. u ++ sequences last) (sequences-append f g whole_f whole_g ∙ ap (λ u. sequences f ++ u) (sequences-twice part whole_part))
          ∙ append_assoc (sequences f) g (sequences last)
          ∙ sym (sequences-parts t a whole ∙ ap (λ u. sequences f ++ u) (sequences-parts here n whole_here));
      whole = is_whole-append (f ++ g) last whole_fg whole_last;
      open_at_end =
          ap known (
          style_after_from-append plain_style (f ++ g) last whole_fg whole_last ∙ ap (λ r. style_after_from r last) after_fg
          ∙ sym (style_after-parts plain_style t a whole ∙ style_after-parts s here n whole_here));
    }
