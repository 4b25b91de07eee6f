-- The mark that an ESC in a text begins, by the byte after it.
use Rattle.ansi_items.proofs.Common.{◌≡◌, ℕ, ◌+◌, ◌-◌, ◌<◌, ◌⊎◌, true, false, ◌==◌, List, ◌++◌, length, take, drop, slice_index, Option, None, sym, ◌∙◌, ap, arith, cond-true, get_or-drop, take_rest, take-append-drop, drop-drop, unwrap_or, prefix_len, escape, is_body_byte, opens_control_sequence, opens_control_string, before_escape, Lone, Front, front_of, control_at, string_at, escape_at, sequence_at, front_at}
use Rattle.ansi_items.proofs.BetweenLemmas.{sequence_none, sequence_control, sequence_string, sequence_escape}

module _ (t : List ℕ) (start b : ℕ) (here : slice_index t start ≡ escape) (second : b ≡ slice_index t (start + 1)) where
  at_second : b ≡ slice_index (drop start t) 1
  at_second = second ∙ sym (get_or-drop start t 1 0)

  front : (o : Option Front) → o ≡ sequence_at (drop start t) → unwrap_or o (front_of Lone 1) ≡ front_at (drop start t)
  unfolding front_at
  front o is =
      let first : (slice_index (drop start t) 0 == escape) ≡ true = ap (λ x. x == escape) (get_or-drop start t 0 0 ∙ ap (slice_index t) (omega arith) ∙ here) in
      ap (λ q. unwrap_or q (front_of Lone 1)) is ∙ sym (cond-true _ _ _ first)

  pub mark_lone : (b < 0x20) ⊎ (0x7E < b) → front_of Lone 1 ≡ front_at (drop start t)
  mark_lone is = front None (sequence_none (drop start t) b at_second is)

  pub mark_control : (o : Option Front) → b ≡ 91 → o ≡ control_at (take (length t - (start + 2)) (drop (start + 2) t)) → unwrap_or o (front_of Lone 1) ≡ front_at (drop start t)
  mark_control o is e = front o (e ∙ ap control_at (take_rest t (start + 2) ∙ sym (drop-drop 2 start t)) ∙ sequence_control (drop start t) b at_second is)

  pub mark_escape : (o : Option Front) → opens_control_sequence b ≡ false → opens_control_string b ≡ false → o ≡ escape_at (take (length t - (start + 1)) (drop (start + 1) t)) → unwrap_or o (front_of Lone 1) ≡ front_at (drop start t)
  mark_escape o no_control no_string e = front o (e ∙ ap escape_at (take_rest t (start + 1) ∙ sym (drop-drop 1 start t)) ∙ sequence_escape (drop start t) b at_second no_control no_string)

  -- A control string: its body goes up to the next ESC at the place.
  module _ (place : ℕ) (is : place ≡ start + 2 + before_escape (drop (start + 2) t)) (opens : opens_control_string b ≡ true) where
    abbrev body : List ℕ
    body = take (place - (start + 2)) (drop (start + 2) t)

    abbrev after : List ℕ
    after = take (length t - place) (drop place t)

    spelled : body ++ after ≡ drop 2 (drop start t)
    spelled =
        ap (λ v. body ++ v) (take_rest t place ∙ ap (λ k. drop k t) (omega arith) ∙ sym (drop-drop (place - (start + 2)) (start + 2) t))
        ∙ take-append-drop (place - (start + 2)) (drop (start + 2) t) ∙ sym (drop-drop 2 start t)

    pub mark_string : (o : Option Front) → o ≡ string_at (body ++ after) (prefix_len (is_body_byte b) (body ++ after)) → unwrap_or o (front_of Lone 1) ≡ front_at (drop start t)
    mark_string o e = front o (e ∙ ap (λ v. string_at v (prefix_len (is_body_byte b) v)) spelled ∙ sequence_string (drop start t) b at_second opens)
