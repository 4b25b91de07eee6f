-- The white space at the end of a plain text, and where it begins in the text.
use Rattle.std.proofs.Common.{cond, encode_utf8_all}
use Rattle.std.proofs.Math.Seq.{take-append_seam}
use Rattle.std.proofs.lemmas.Bool.Decides.{nat_tests}
use Rattle.std.proofs.lemmas.Str.{IsUtf8-append, IsUtf8-take, chars-append, chars-nil, encodes-append, encodes-chars, length-le-encodes}
use Rattle.std.specs.Char.{is_whitespace}
use Rattle.std.specs.Str.{drop_trailing_whitespace}
unfoldable use Rattle.std.specs.Str.{chars, trim_end}
use Rattle.ansi_search.proofs.Common.{◌≡◌, ℕ, ◌+◌, ◌<◌, ◌≤◌, Bool, true, false, ◌&&◌, ◌==◌, List, [], ◌∷◌, ◌++◌, length, take, drop, take-add, refl, sym, ◌∙◌, ap, subst, arith, cond_both, length-append, length-take, length-drop, take-append-le, take-append-drop, drop-drop, drop_all, list_all, IsUtf8, IsUtf8-drop, IsUtf8-plain, IsCharBoundary, IsCharBoundary-start, IsCharBoundary-from_take, IsCharBoundary-from_drop, IsCharBoundary-from_rest, is_plain_byte, Kind, Piece, Text, ArePieces, pieces_of, pieces_are, plain_of, plain, BeginsWithMark, plain_of-mark, offset_of}
use Rattle.ansi_search.proofs.SliceLemmas.{list_all-parts}
use Rattle.ansi_search.proofs.OffsetLemmas.{IsOverText, IsOverMark, IsPassed, passed-begin, passed-text, passed-mark, passed-after}
use Rattle.ansi_search.proofs.SplitLemmas.{end_of, passed-run}
use Rattle.ansi_search.specs.Offsets.{IsEnd}

pub drop_trailing_whitespace-splits : (cs : List ℕ) → (back : List ℕ) × (cs ≡ drop_trailing_whitespace cs ++ back)
drop_trailing_whitespace-splits [] = ([], refl)
drop_trailing_whitespace-splits (c ∷ cs) =
    let later = drop_trailing_whitespace-splits cs in
    cond_both (is_whitespace c && length (drop_trailing_whitespace cs) == 0) [] (c ∷ drop_trailing_whitespace cs) (λ rest. (back : List ℕ) × (c ∷ cs ≡ rest ++ back))
    (λ white. (c ∷ cs, refl))
    (λ other. (later.0, ap (λ v. c ∷ v) later.1))

-- an empty text has no characters
pub chars-none_if_no_bytes : (cs : List ℕ) → length (encode_utf8_all cs) ≡ 0 → cs ≡ []
chars-none_if_no_bytes [] none = refl
chars-none_if_no_bytes (c ∷ cs) none = absurd (omega (arith, length-le-encodes (c ∷ cs), none))

pub chars-some_if_bytes : (cs : List ℕ) → 0 < length (encode_utf8_all cs) → 0 < length cs
chars-some_if_bytes [] some = absurd (omega (arith, some))
chars-some_if_bytes (c ∷ cs) some = omega arith

drop-white : (cs ds : List ℕ) → drop_trailing_whitespace ds ≡ [] → drop_trailing_whitespace (cs ++ ds) ≡ drop_trailing_whitespace cs
drop-white [] ds none = none
drop-white (c ∷ cs) ds none = ap (λ rest. cond (is_whitespace c && length rest == 0) [] (c ∷ rest)) (drop-white cs ds none)

drop-other : (cs ds : List ℕ) → 0 < length (drop_trailing_whitespace ds) → drop_trailing_whitespace (cs ++ ds) ≡ cs ++ drop_trailing_whitespace ds
drop-other [] ds some = refl
drop-other (c ∷ cs) ds some =
    let rest = cs ++ drop_trailing_whitespace ds in
    let filled : (length rest == 0) ≡ false = grind (arith, nat_tests, length-append cs (drop_trailing_whitespace ds)) in
    ap (λ v. cond (is_whitespace c && length v == 0) [] (c ∷ v)) (drop-other cs ds some)
    ∙ ap (λ b. cond (is_whitespace c && b) [] (c ∷ rest)) filled ∙ either (is_whitespace c)
  where
    either : (b : Bool) → cond (b && false) [] (c ∷ cs ++ drop_trailing_whitespace ds) ≡ c ∷ cs ++ drop_trailing_whitespace ds
    either true = refl
    either false = refl

-- before white space alone
pub trim_end-white : (w y : List ℕ) → IsUtf8 w → length (trim_end y) ≡ 0 → trim_end (w ++ y) ≡ trim_end w
unfolding trim_end
trim_end-white w y utf8 none = grind (arith, chars-append, drop-white, chars-none_if_no_bytes)

-- before anything else
pub trim_end-other : (w y : List ℕ) → IsUtf8 w → 0 < length (trim_end y) → trim_end (w ++ y) ≡ w ++ trim_end y
unfolding trim_end
trim_end-other w y utf8 some =
    let left = drop_trailing_whitespace (chars y) in
    ap (λ cs. encode_utf8_all (drop_trailing_whitespace cs)) (chars-append w y utf8)
    ∙ ap encode_utf8_all (drop-other (chars w) (chars y) (chars-some_if_bytes left some))
    ∙ encodes-append (chars w) left ∙ ap (λ v. v ++ encode_utf8_all left) (encodes-chars w utf8)

-- what is left of a text without the white space at its end is how it begins
trim_end-front : (x : List ℕ) → IsUtf8 x → take (length (trim_end x)) x ≡ trim_end x
unfolding trim_end
trim_end-front x utf8 =
    let split = drop_trailing_whitespace-splits (chars x) in
    let kept = encode_utf8_all (drop_trailing_whitespace (chars x)) in
    let all : x ≡ kept ++ encode_utf8_all split.0 = sym (encodes-chars x utf8) ∙ ap encode_utf8_all split.1 ∙ encodes-append (drop_trailing_whitespace (chars x)) split.0 in
    ap (take (length kept)) all ∙ take-append_seam kept (encode_utf8_all split.0)

-- How far the walk for the end of what isn't white space has come: that end is ahead or, if only white space is left, it is `end`.
pub record IsEndSoFar (whole place end : ℕ) (left : List Piece) : Type 0 where
  pub white : length (trim_end (plain_of left)) ≡ 0 → end ≡ whole
  pub other : 0 < length (trim_end (plain_of left)) → place + length (trim_end (plain_of left)) ≡ whole

-- what the texts after this one make of the end
end-ahead : {whole place : ℕ} {end next : ℕ} (w : List ℕ) (ps : List Piece) → IsEndSoFar whole place end (Text w ∷ ps) → IsUtf8 w
    → (length (trim_end (plain_of ps)) ≡ 0 → next ≡ whole) → IsEndSoFar whole (place + length w) next ps
end-ahead {whole} {place} w ps so_far utf8 white = record {
  white = white;
  other = λ some.
      let ahead = ap length (trim_end-other w (plain_of ps) utf8 some) in
      let size = length-append w (trim_end (plain_of ps)) in
      let found : place + length (trim_end (w ++ plain_of ps)) ≡ whole = so_far.other (omega (arith, ahead, size, some)) in
      omega (arith, ahead, size, found);
}

-- over a text of white space alone
end-white : {whole place end : ℕ} {w front : List ℕ} {left ps : List Piece} → IsEndSoFar whole place end left → left ≡ Text w ∷ ps → front ≡ trim_end w → IsUtf8 w
    → length front ≡ 0 → IsEndSoFar whole (place + length w) end ps
end-white so_far is front_is utf8 none = grind (arith, end-ahead, trim_end-white)

-- over any other
end-other : {whole place end : ℕ} {w front : List ℕ} {left ps : List Piece} → IsEndSoFar whole place end left → left ≡ Text w ∷ ps → front ≡ trim_end w → IsUtf8 w
    → 0 < length front → IsEndSoFar whole (place + length w) (place + length front) ps
end-other so_far is front_is utf8 some = grind (arith, end-ahead, trim_end-white)

end-none : {whole place end : ℕ} {left : List Piece} → IsEndSoFar whole place end left → left ≡ [] → end ≡ whole
unfolding trim_end
end-none {whole} {place} {end} so_far none =
    (subst (IsEndSoFar whole place end) none so_far).white (ap (λ cs. length (encode_utf8_all (drop_trailing_whitespace cs))) chars-nil)

-- over a mark
end-mark : {whole place end : ℕ} {kind : Kind} {w : List ℕ} {left ps : List Piece} → IsEndSoFar whole place end left → BeginsWithMark kind w left ps → IsEndSoFar whole place end ps
end-mark so_far begins = grind (arith, plain_of-mark)

-- The same, with how far it is in the text, and how far that end is.
pub record IsSolidSoFar (t : List ℕ) (passed end : ℕ) (left : List Piece) : Type 0 where
  pub place : ℕ
  pub found : ℕ
  pub ends : IsEndSoFar (length (trim_end (plain t))) place found left
  pub way : IsPassed t place passed left
  pub boundary : IsCharBoundary t end
  pub there : IsPassed t found end (pieces_of (drop end t))
  pub some : 0 < end → 0 < found

-- at the front
pub solid-begin : (t : List ℕ) → IsUtf8 t → IsSolidSoFar t 0 0 (pieces_of t)
solid-begin t utf8 = record {
  place = 0;
  found = 0;
  ends = record { white = λ none. sym none; other = λ some. omega arith };
  way = passed-begin t;
  boundary = IsCharBoundary-start t utf8;
  there = passed-begin t;
  some = λ before. absurd (omega (arith, before));
}

pub solid-white : {t : List ℕ} {passed at end : ℕ} {w front : List ℕ} {left ps : List Piece} → IsSolidSoFar t passed end left → IsOverText t w passed at left ps
    → front ≡ trim_end w → IsUtf8 w → length front ≡ 0 → IsSolidSoFar t at end ps
solid-white {w = w} so_far over front_is utf8 none = record {
  place = so_far.place + length w;
  found = so_far.found;
  ends = end-white so_far.ends over.first front_is utf8 none;
  way = passed-text so_far.way over;
  boundary = so_far.boundary;
  there = so_far.there;
  some = so_far.some;
}

pub solid-other : {t : List ℕ} {passed at end : ℕ} {w front : List ℕ} {left ps : List Piece} → IsSolidSoFar t passed end left → IsOverText t w passed at left ps
    → IsUtf8 t → front ≡ trim_end w → IsUtf8 w → IsUtf8 front → 0 < length front → IsSolidSoFar t at (passed + length front) ps
solid-other {t} {passed} {w = w} {front = front} so_far over utf8 front_is run_utf8 front_utf8 some =
    let n = length front in
    let rest = drop passed t in
    let are = subst (ArePieces rest) (over.there ∙ over.first) (pieces_are rest) in
    let short : n ≤ length w = omega (arith, ap length (trim_end-front w run_utf8), length-take (length (trim_end w)) w, ap length front_is) in
    let inside : take n rest ≡ take n w = ap (take n) are.1 ∙ take-append-le n w are.0 short in
    let all : take n w ≡ front = ap (λ u. take (length u) w) front_is ∙ trim_end-front w run_utf8 ∙ sym front_is in
    let begins : take (passed + n) t ≡ take passed t ++ front = take-add passed n t ∙ ap (λ v. take passed t ++ v) (inside ∙ all) in
    let fits : passed + n ≤ length t = omega (arith, short, over.count, over.within) in
    let run : IsPassed rest n n (pieces_of (drop n rest))
    = passed-run rest n (omega (arith, fits, length-drop passed t)) (ap (list_all is_plain_byte) inside ∙ (list_all-parts is_plain_byte n w are.2.1).0) in
    record {
      place = so_far.place + length w;
      found = so_far.place + n;
      ends = end-other so_far.ends over.first front_is run_utf8 some;
      way = passed-text so_far.way over;
      boundary = IsCharBoundary-from_take t (passed + n) utf8 fits (subst IsUtf8 (sym begins) (IsUtf8-append (take passed t) front (IsUtf8-take t passed utf8 over.begins) front_utf8));
      there = subst (λ u. IsPassed t (so_far.place + n) (passed + n) (pieces_of u)) (drop-drop n passed t)
          (passed-after (subst (IsPassed t so_far.place passed) (sym over.there) so_far.way) run);
      some = λ _. omega (arith, some);
    }

pub solid-mark : {t : List ℕ} {passed at end : ℕ} {kind : Kind} {w : List ℕ} {left ps : List Piece} → IsSolidSoFar t passed end left → IsOverMark kind t w passed at left ps → IsSolidSoFar t at end ps
solid-mark so_far over = record {
  place = so_far.place;
  found = so_far.found;
  ends = end-mark so_far.ends over.first;
  way = passed-mark so_far.way over;
  boundary = so_far.boundary;
  there = so_far.there;
  some = so_far.some;
}

-- the plain text of t has only white space from the offset i on, and none before it
pub record IsSolidEnd (t : List ℕ) (i : ℕ) : Type 0 where
  pub end : IsEnd t i
  pub white : length (trim_end (plain t)) + length (plain (drop i t)) ≡ length (plain t)
  pub some : 0 < i → 0 < length (trim_end (plain t))

pub solid-end : {t : List ℕ} {passed end : ℕ} {left : List Piece} → IsSolidSoFar t passed end left → left ≡ [] → IsSolidEnd t end
solid-end {t} {end = end} so_far none =
    let whole : so_far.found ≡ length (trim_end (plain t)) = end-none so_far.ends none in
    record {
      end = end_of t end so_far.boundary so_far.found so_far.there;
      white = omega (arith, whole, so_far.there.count);
      some = λ before. omega (arith, whole, so_far.some before);
    }

-- From an item on that begins before the white space at the end.

-- a text without bytes
pub white-none : (t : List ℕ) → length (trim_end (plain (drop (length t) t))) ≡ 0
unfolding trim_end
white-none t = grind (arith, drop_all, chars-nil)

-- before that end
pub solid-after : (t rest : List ℕ) (start i : ℕ) → IsUtf8 t → IsCharBoundary t start → IsEnd t start → rest ≡ drop start t → IsSolidEnd rest i → 0 < i → IsSolidEnd t (start + i)
solid-after t rest start i utf8 boundary end is solid some =
    let x = plain t in
    let y = plain rest in
    let b = end.before in
    let tail : drop b x ≡ y = end.rest ∙ ap plain (sym is) in
    let count : b + length y ≡ length x = ap (λ u. b + length (plain u)) is ∙ end.count in
    let place : IsCharBoundary x b = IsCharBoundary-from_drop x b (omega (arith, count)) (subst IsUtf8 (sym tail) (IsUtf8-plain rest (subst IsUtf8 (sym is) (IsUtf8-drop t start utf8 boundary)))) in
    let both : x ≡ take b x ++ y = sym (take-append-drop b x) ∙ ap (λ v. take b x ++ v) tail in
    let ends : trim_end x ≡ take b x ++ trim_end y = ap trim_end both ∙ trim_end-other (take b x) y (IsUtf8-take x b (IsUtf8-plain t utf8) place) (solid.some some) in
    let far : length (trim_end x) ≡ b + length (trim_end y) = omega (arith, ap length ends, length-append (take b x) (trim_end y), length-take b x, count) in
    let after : drop i rest ≡ drop (start + i) t = ap (drop i) is ∙ drop-drop i start t in
    let way : IsPassed t (b + solid.end.before) (start + i) (pieces_of (drop (start + i) t))
    = subst (λ u. IsPassed t (b + solid.end.before) (start + i) (pieces_of u)) after
    (passed-after {rest = rest} (record { count = count; rest = tail; offset = λ n. end.offset n ∙ ap (λ u. start + offset_of u n) (sym is) }) (record { count = solid.end.count; rest = solid.end.rest; offset = solid.end.offset })) in
    record {
      end = end_of t (start + i) (IsCharBoundary-from_rest t start i boundary.0 (subst (λ u. IsCharBoundary u i) is solid.end.boundary)) (b + solid.end.before) way;
      white = omega (arith, far, solid.white, count, ap (λ u. length (plain u)) after);
      some = λ _. omega (arith, far, solid.some some);
    }
