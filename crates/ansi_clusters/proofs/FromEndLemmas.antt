-- Characters that are read from the end.
use Rattle.std.proofs.Common.{◌≡◌, ℕ, ◌*◌, ◌≤◌, List, [], ◌∷◌, ◌++◌, length, reverse, encode_utf8, encode_utf8_all, refl, sym, ◌∙◌, ap, arith, append-nil, append_assoc, length-append}
use Rattle.std.specs.Str.{chars, IsUtf8}
use Rattle.std.specs.Iterator.{Yields, Drains, YieldsLast}
use Rattle.std.proofs.lemmas.List.{reverse-append}
use Rattle.std.proofs.lemmas.Str.{chars-nil, chars-append, encodes-chars, encodes-append, IsUtf8-append}
use Rattle.unicode_segmentation.proofs.TextLemmas.{IsUtf8-after, chars-encode_utf8}
use Rattle.ansi_items.specs.Plain.{plain}
use Rattle.ansi_clusters.specs.declared.views.View.{View}
use Rattle.ansi_clusters.specs.Columns.{cluster_width}
use Rattle.ansi_clusters.specs.Views.{seen}
use Rattle.ansi_clusters.proofs.ViewLemmas.{seen-bytes}
use Rattle.ansi_clusters.proofs.WidthLemmas.{width-bound}
use Rattle.ansi_items.proofs.Utf8Lemmas.{IsUtf8-plain}

module _ {S : Type 0} (left : S → List ℕ) where
  yielded : (s t : S) (xs : List ℕ) → Yields (YieldsLast left) s xs t → left s ≡ left t ++ reverse xs
  yielded s t [] same = ap left same ∙ sym (append-nil (left t))
  yielded s t (x ∷ xs) ran =
      ran.1 ∙ ap (λ u. u ++ x ∷ []) (yielded ran.0 t xs ran.2) ∙ append_assoc (left t) (reverse xs) (x ∷ []) ∙ ap (λ u. left t ++ u) (sym (reverse-append (x ∷ []) xs))

  -- what was read are the characters, the last first
  pub drained : (s : S) (xs : List ℕ) → Drains (YieldsLast left) s xs → left s ≡ reverse xs
  drained s xs ran = yielded s ran.1.0 xs ran.1.1 ∙ ap (λ u. u ++ reverse xs) ran.1.2.0

-- what is left if both texts are empty
pub nothing_left : (x r : List ℕ) → length x ≡ 0 → length r ≡ 0 → chars (plain x ++ r) ≡ []
nothing_left [] [] rest run = chars-nil
nothing_left [] (b ∷ r) rest run = absurd (omega arith)
nothing_left (a ∷ x) r rest run = absurd (omega arith)

-- the last character of the run after a text
pub last_char : (x r w : List ℕ) (c : ℕ) → IsUtf8 x → IsUtf8 r → IsUtf8 w → r ≡ w ++ encode_utf8 c → chars (plain x ++ r) ≡ chars (plain x ++ w) ++ c ∷ []
last_char x r w c utf8 run_utf8 front_utf8 e =
    ap chars (ap (λ u. plain x ++ u) e ∙ sym (append_assoc (plain x) w (encode_utf8 c)))
    ∙ chars-append (plain x ++ w) (encode_utf8 c) (IsUtf8-append (plain x) w (IsUtf8-plain x utf8) front_utf8)
    ∙ ap (λ u. chars (plain x ++ w) ++ u) (chars-encode_utf8 c (IsUtf8-after r w (encode_utf8 c) run_utf8 front_utf8 e))

length-reverse : (cs : List ℕ) → length (encode_utf8_all (reverse cs)) ≡ length (encode_utf8_all cs)
length-reverse [] = refl
length-reverse (c ∷ cs) =
    omega (
      arith,
      ap (λ ds. length (encode_utf8_all ds)) (reverse-append (c ∷ []) cs),
      ap length (encodes-append (reverse cs) (c ∷ [])),
      length-append (encode_utf8_all (reverse cs)) (encode_utf8_all (c ∷ [])),
      ap length (append-nil (encode_utf8 c)),
      length-append (encode_utf8 c) (encode_utf8_all cs),
      length-reverse cs,
    )

-- what is seen of a text has no more bytes than it
seen-most : (view : View) (x : List ℕ) → IsUtf8 x → length (encode_utf8_all (seen view (chars x))) ≤ length x
seen-most view x utf8 = omega (arith, seen-bytes view (chars x), ap length (encodes-chars x utf8))

-- nor have the characters that were read
pub bytes-reverse : (view : View) (x cs : List ℕ) → IsUtf8 x → seen view (chars x) ≡ reverse cs → length (encode_utf8_all cs) ≤ length x
bytes-reverse view x cs utf8 e = omega (arith, length-reverse cs, ap (λ ds. length (encode_utf8_all ds)) e, seen-most view x utf8)

pub seen-width-bound : (view : View) (x : List ℕ) → IsUtf8 x → cluster_width (seen view (chars x)) ≤ 2 * length x
seen-width-bound view x utf8 = omega (arith, width-bound (seen view (chars x)), seen-most view x utf8)
