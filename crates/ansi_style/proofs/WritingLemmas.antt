-- Writes in turn are one write; and the sequence of a color in its parts is that of its code.
use Rattle.std.specs.Fmt.{WritesInCalls}
use Rattle.std.specs.List.{FoldsTo, concat}
use Rattle.std.specs.Prelude.{Result, Ok, Err, IsOk, OnOk}
use Rattle.std.specs.Result.{result_or}
use Rattle.std.specs.declared.fmt.Error.{Error}
use Rattle.std.specs.declared.fmt.Formatter.{Formatter}
use Rattle.ansi_style.specs.declared.styles.ByteCount.{ByteCount}
use Rattle.std.proofs.lemmas.Grind.{put_two}
use Rattle.ansi_style.specs.Writing.{WroteOnOk, color_sequence, color_sequence_if_set}
use Rattle.ansi_style.proofs.Common.{◌≡◌, ◌∙◌, ℕ, List, ◌++◌, Option, Some, None, codes, refl, sym, ap, ap₂, subst, [], ◌∷◌, HasWritten, IsPlainFormatter, arith, length, length-append, ◌+◌, append_assoc, append-nil, flat_map-append, AnsiColor, Bit4, Bit8, Bit24, color_code, color_codes, written, written_all, true≢false}

module _ {W : Type 0} (took : W → List ℕ → W → Type 0) where
  pub wrote_nothing : (w : W) → WritesInCalls took w [] w
  wrote_nothing w = record { parts = []; calls = refl; whole = refl }

  pub wrote_once : (w : W) (bs : List ℕ) (v : W) → took w bs v → WritesInCalls took w bs v
  wrote_once w bs v call = record { parts = bs ∷ []; calls = (v, call, refl); whole = append-nil bs }

  -- one write
  pub wrote_if_took : (w : W) (bs : List ℕ) (v : W) (r : Result (Unit {0}) Error) → OnOk r (took w bs v) → WroteOnOk took w r bs v
  wrote_if_took w bs v (Ok x) took = λ ok. wrote_once w bs v took
  wrote_if_took w bs v (Err e) took = λ ok. absurd (true≢false (sym ok))

  calls_in_turn : (w : W) (xs : List (List ℕ)) (v : W) (ys : List (List ℕ)) (u : W) → FoldsTo took w xs v → FoldsTo took v ys u → FoldsTo took w (xs ++ ys) u
  calls_in_turn w [] v ys u first second = subst (λ x. FoldsTo took x ys u) (sym first) second
  calls_in_turn w (x ∷ xs) v ys u first second = (first.0, first.1, calls_in_turn first.0 xs v ys u first.2 second)

  pub wrote_two : (w v u : W) (a b all : List ℕ) → WritesInCalls took w a v → WritesInCalls took v b u → a ++ b ≡ all → WritesInCalls took w all u
  wrote_two w v u a b all first second is = record {
    parts = first.parts ++ second.parts;
    calls = calls_in_turn w first.parts v second.parts u first.calls second.calls;
    whole = flat_map-append (λ x. x) first.parts second.parts ∙ ap₂ (λ x y. x ++ y) first.whole second.whole ∙ is;
  }

  -- what a formatter over the writer takes
  abbrev FormatterTook : Formatter W → List ℕ → Formatter W → Type 0
  FormatterTook f bs g = IsPlainFormatter f → HasWritten took f bs g

  all_calls : (f : Formatter W) (xs : List (List ℕ)) (g : Formatter W) → FoldsTo FormatterTook f xs g → IsPlainFormatter f → HasWritten took f (concat xs) g
  all_calls f [] g calls plain = record { wrote = subst (λ x. WritesInCalls took f.writer [] x.writer) calls (wrote_nothing f.writer); plain = subst IsPlainFormatter calls plain }
  all_calls f (x ∷ xs) g calls plain =
      let first = calls.1 plain in
      put_two took f calls.0 g x (concat xs) (x ++ concat xs) first (all_calls calls.0 xs g calls.2 first.plain) refl

  -- what was written to a plain formatter
  pub wrote_through : (f : Formatter W) (bs : List ℕ) (g : Formatter W) → WritesInCalls FormatterTook f bs g → IsPlainFormatter f → HasWritten took f bs g
  wrote_through f bs g writes plain = subst (λ x. HasWritten took f x g) writes.whole (all_calls f writes.parts g writes.calls plain)

-- what holds if a write was `Ok`, with any error made to be another
pub holds_if_written : {E : Type 0} (r : Result (Unit {0}) Error) (e : E) (q : Result (Unit {0}) E) (P : Type 0) → q ≡ result_or r (Err e) → (IsOk r → P) → OnOk q P
holds_if_written (Ok x) e q P is then_it_holds = subst (λ q. OnOk q P) (sym is) (then_it_holds refl)
holds_if_written (Err x) e q P is then_it_holds = subst (λ q. OnOk q P) (sym is) tt

-- a count after writes
all_counted : (n : ByteCount) (xs : List (List ℕ)) (m : ByteCount) → FoldsTo (λ n bs m. m.0 ≡ n.0 + length bs) n xs m → m.0 ≡ n.0 + length (concat xs)
all_counted n [] m calls = omega (arith, ap (λ (c : ByteCount). c.0) calls)
all_counted n (x ∷ xs) m calls = omega (arith, all_counted calls.0 xs m calls.2, calls.1, length-append x (concat xs))

pub counted : (n : ByteCount) (bs : List ℕ) (m : ByteCount) → WritesInCalls (λ (n : ByteCount) (bs : List ℕ) (m : ByteCount). m.0 ≡ n.0 + length bs) n bs m → m.0 ≡ n.0 + length bs
counted n bs m writes = all_counted n writes.parts m writes.calls ∙ ap (λ w. n.0 + length w) writes.whole

color_sequence-is : (extended : List ℕ) (c : AnsiColor) → color_sequence extended c ≡ written (color_code extended c)
color_sequence-is extended (Bit4 n) = refl
color_sequence-is extended (Bit8 n) = simp append_assoc
color_sequence-is extended (Bit24 r g b) = simp append_assoc

color_sequence_if_set-is : (extended : List ℕ) (o : Option AnsiColor) → color_sequence_if_set extended o ≡ written_all (color_codes extended o)
color_sequence_if_set-is extended None = refl
color_sequence_if_set-is extended (Some c) = color_sequence-is extended c ∙ sym (append-nil (written (color_code extended c)))

-- the sequences of the three colors
pub color_sequences : (f b u : Option AnsiColor) →
    color_sequence_if_set (codes "38") f ++ (color_sequence_if_set (codes "48") b ++ color_sequence_if_set (codes "58") u)
    ≡ written_all (color_codes (codes "38") f ++ color_codes (codes "48") b ++ color_codes (codes "58") u)
color_sequences f b u =
    let first = color_codes (codes "38") f in
    let second = color_codes (codes "48") b in
    let third = color_codes (codes "58") u in
    ap₂ (λ x y. x ++ y) (color_sequence_if_set-is (codes "38") f)
    (ap₂ (λ x y. x ++ y) (color_sequence_if_set-is (codes "48") b) (color_sequence_if_set-is (codes "58") u))
    ∙ sym (append_assoc (written_all first) (written_all second) (written_all third))
    ∙ sym (flat_map-append written (first ++ second) third ∙ ap (λ x. x ++ written_all third) (flat_map-append written first second))
