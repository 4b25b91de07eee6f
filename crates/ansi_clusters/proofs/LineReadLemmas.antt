-- A line that is read up to a walk, by what is seen of the text.
use Rattle.std.proofs.Common.{◌≡◌, ◌≢◌, ℕ, suc, zero, ◌+◌, ◌-◌, ◌*◌, ◌<◌, ◌≤◌, ◌⊎◌, inl, inr, ⊎_elim, Bool, true, false, not, ◌||◌, ◌==◌, List, [], ◌∷◌, length, map, slice_range, encode_utf8_all, Option, Some, None, if◌then◌else◌, refl, sym, ◌∙◌, ap, ap₂, subst, arith}
use Rattle.std.specs.Str.{IsUtf8, IsCharBoundary}
use Rattle.std.proofs.lemmas.Bool.{cases_lt}
use Rattle.ansi_clusters.specs.BreakStates.{break_state_of}
use Rattle.ansi_items.specs.Plain.{plain}
use Rattle.ansi_clusters.specs.declared.walks.Walk.{Walk}
use Rattle.ansi_clusters.specs.declared.views.View.{View}
use Rattle.ansi_clusters.specs.declared.views.View.TheVariants.{Given, Shown, Lined}
use Rattle.ansi_clusters.specs.Views.{seen_len, given_place, IsTight}
use Rattle.ansi_clusters.specs.Walks.{seen_after, seen_cluster, seen_clusters, IsWalkIn, IsTightWalk, AreTightWalks, IsPastCluster, IsPastAscii, IsPrintable, AreClustersIn}
use Rattle.ansi_clusters.specs.Lines.{is_line_end, is_blank, lines_from, given_line, seen_lines_left}
use Rattle.ansi_clusters.specs.FirstFit.{is_of_word}
use Rattle.ansi_clusters.specs.Words.{words_after, IsPastLetter, AreLetters, ArePastLetters}
use Rattle.ansi_clusters.proofs.ColumnLemmas.{seen_clusters-end}
use Rattle.ansi_clusters.proofs.LineLemmas.{IsOfWord}
use Rattle.ansi_clusters.proofs.LineWalkLemmas.{IsLineTo, lines_at, line-is_last, line-is_ended, line-goes_on, line-takes, line-is_broken, line-is_left, line-is_begun}
use Rattle.ansi_clusters.proofs.PrintableLemmas.{front-size, front-fewer, walk-past, seen_len-printable, IsPrintable-front}
use Rattle.ansi_clusters.proofs.TightLemmas.{tight-same, tight-less, tight-full, seen_len-ordered}
use Rattle.ansi_clusters.proofs.ViewLemmas.{seen_len-split}
use Rattle.ansi_clusters.proofs.WalkLemmas.{walk_boundary}
use Rattle.ansi_clusters.proofs.WordLemmas.{AreOrdered, AreAhead, IsLineAt, line-printable, words_after-ordered}

-- the clusters of what is seen that come next where p bytes are seen
abbrev pub clusters_at : View → List ℕ → ℕ → List (List ℕ)
clusters_at view t p = seen_clusters view t (given_place view t p)

clusters_at-tight : (view : View) (t : List ℕ) (n : ℕ) → IsTight view t n → clusters_at view t (seen_len view t n) ≡ seen_clusters view t n
clusters_at-tight view t n tight = ap (seen_clusters view t) tight

-- A line is read up to the walk `here`, with `columns` columns.
pub record IsLineRead (view : View) (t : List ℕ) (width : ℕ) (start end_before word end here : Walk) (columns : ℕ) : Type 0 where
  pub start_is : IsTightWalk view t start
  pub words_are : AreTightWalks view t end_before word end
  pub here_is : IsTightWalk view t here
  pub ordered : AreOrdered start.position (end_before.position, word.position, end.position) here.position
  pub bound : columns ≤ 2 * here.position
  pub line : IsLineTo (clusters_at view t) width (seen_len view t start.position) (seen_len view t end_before.position) (seen_len view t word.position) (seen_len view t end.position) (seen_len view t here.position) columns

-- ---- printable ASCII

-- a walk some bytes on, all of which are seen
pub tight-past : {view : View} {t : List ℕ} {w v : Walk} (n : ℕ) → IsUtf8 t → IsTightWalk view t w → IsWalkIn view t v → v.position ≡ w.position + n → seen_len view t v.position ≡ seen_len view t w.position + n → IsTightWalk view t v
tight-past {view} {t} {w} {v} zero utf8 from to place seen = (let same : w.position ≡ v.position = omega (arith, place) in record { walk = to; tight = subst (IsTight view t) same from.tight })
tight-past {view} {t} {w} {v} (suc n) utf8 from to place seen =
    record {
      walk = to;
      tight = tight-full view t utf8 w.position v.position (omega (arith, place)) (walk_boundary t utf8 w from.walk) (walk_boundary t utf8 v to) (omega (arith, place)) (omega (arith, place, seen));
    }

-- the walk after some of the bytes
module _ {view : View} {t : List ℕ} {w v : Walk} {len : ℕ} (utf8 : IsUtf8 t) (from : IsTightWalk view t w) (past : IsPastAscii t w len v) where
  -- what is seen before a position in them, which is tight
  pub record IsPlaceIn (k : ℕ) : Type 0 where
    pub seen : seen_len view t (w.position + k) ≡ seen_len view t w.position + k
    pub tight : IsTight view t (w.position + k)

  pub tight-after : IsTightWalk view t v
  tight-after = tight-past len utf8 from (past.walk view from.walk) past.position (past.seen view)

  pub place_in : (k : ℕ) → k ≤ len → IsPlaceIn k
  place_in zero within = (let same : w.position ≡ w.position + 0 = omega arith in record { seen = omega (arith, ap (seen_len view t) same); tight = subst (IsTight view t) same from.tight })
  place_in (suc k) within = ⊎_elim less (λ most. all (omega (arith, most, within))) (cases_lt (suc k) len)
    where
      there : Walk
      there = record { position = w.position + suc k; offset = w.offset + suc k; run_end = w.run_end; break_state = break_state_of [] }

      less : suc k < len → IsPlaceIn (suc k)
      less more =
          let printable : IsPrintable t w (suc k) = front-fewer len (suc k) from.walk past.front more in
          let to : IsWalkIn view t there = walk-past view t w (suc k) utf8 from.walk (omega arith) (λ _. printable) in
          let seen = seen_len-printable view t w there (suc k) utf8 from.walk to refl (IsPrintable-front (suc k) from.walk (λ _. printable)) in
          record { seen = seen; tight = (tight-past (suc k) utf8 from to refl seen).tight }

      all : suc k ≡ len → IsPlaceIn (suc k)
      all is =
          let place : v.position ≡ w.position + suc k = omega (arith, past.position, is) in
          record { seen = omega (arith, past.seen view, is, ap (seen_len view t) place); tight = subst (IsTight view t) place tight-after.tight }

-- bytes that are clusters, and are seen one after another, are ahead
ahead-bytes : (view : View) (t : List ℕ) (n : ℕ) (bytes : List ℕ) → AreClustersIn view t n bytes → ((k : ℕ) → k ≤ length bytes → (seen_len view t (n + k) ≡ seen_len view t n + k) × IsTight view t (n + k))
    → AreAhead (clusters_at view t) (seen_len view t n) bytes
ahead-bytes view t n [] are places = tt
ahead-bytes view t n (b ∷ bs) are places =
    let here : n + 0 ≡ n = omega arith in
    let next = places 1 (omega arith) in
    let tight : IsTight view t n = subst (IsTight view t) here (places 0 (omega arith)).1 in
    let others = ahead-bytes view t (n + 1) bs are.1 (λ k within. (
    let place : n + suc k ≡ n + 1 + k = omega arith in
    let there = places (suc k) (omega (arith, within)) in
    (omega (arith, there.0, next.0, ap (seen_len view t) place), subst (IsTight view t) place there.1))) in (
      clusters_at-tight view t n tight ∙ are.0 ∙ ap (λ cs. (b ∷ []) ∷ cs) (sym (clusters_at-tight view t (n + 1) next.1) ∙ ap (clusters_at view t) next.0),
      subst (λ m. AreAhead (clusters_at view t) m bs) next.0 others,
    )

-- the places of words in bytes all of which are seen
words-seen : (f : ℕ → ℕ) (bytes : List ℕ) (here before word end : ℕ) → ((k : ℕ) → k ≤ length bytes → f (here + k) ≡ f here + k)
    → words_after bytes (f here) (f before) (f word) (f end) ≡ (let w = words_after bytes here before word end in (f w.0, f w.1, f w.2))
words-seen f [] here before word end places = refl
words-seen f (b ∷ bs) here before word end places =
    by (b == 0x20) (places 1 (omega arith)) (λ before word end. words-seen f bs (here + 1) before word end (λ k within. (
    let place : here + suc k ≡ here + 1 + k = omega arith in
    omega (arith, places (suc k) (omega (arith, within)), places 1 (omega arith), ap f place))))
  where
    seen : ℕ × ℕ × ℕ → ℕ × ℕ × ℕ
    seen w = (f w.0, f w.1, f w.2)

    by : (c : Bool) → f (here + 1) ≡ f here + 1 → ((before word end : ℕ) → words_after bs (f (here + 1)) (f before) (f word) (f end) ≡ seen (words_after bs (here + 1) before word end))
        → (if c then words_after bs (f here + 1) (f end) (f here + 1) (f end) else words_after bs (f here + 1) (f before) (f word) (f here + 1))
        ≡ seen (if c then words_after bs (here + 1) end (here + 1) end else words_after bs (here + 1) before word (here + 1))
    by true step others = ap (λ n. words_after bs n (f end) n (f end)) (sym step) ∙ others end (here + 1) end
    by false step others = ap (λ n. words_after bs n (f before) (f word) n) (sym step) ∙ others before word (here + 1)

-- printable ASCII is read
pub read-printable : {view : View} {t : List ℕ} {width : ℕ} {start end_before word end here end_before' word' end' here' : Walk} {columns len : ℕ} → IsUtf8 t → IsLineRead view t width start end_before word end here columns
    → IsPastAscii t here len here' → len ≤ width - columns → AreTightWalks view t end_before' word' end'
    → (end_before'.position, word'.position, end'.position) ≡ words_after (slice_range t here.offset (here.offset + len)) here.position end_before.position word.position end.position
    → IsLineRead view t width start end_before' word' end' here' (columns + len)
read-printable {view} {t} {width} {start} {end_before} {word} {end} {here} {end_before'} {word'} {end'} {here'} {columns} {len} utf8 read past room walks positions =
    let bytes = slice_range t here.offset (here.offset + len) in
    let f = seen_len view t in
    let cl = clusters_at view t in
    let words = words_after bytes here.position end_before.position word.position end.position in
    let size : length bytes ≡ len = front-size read.here_is.walk past.front in
    let place = λ (k : ℕ) (within : k ≤ length bytes). place_in utf8 read.here_is past k (omega (arith, within, size)) in
    let same_place : here.position + length bytes ≡ here'.position = omega (arith, size, past.position) in
    let same_seen : f here.position + length bytes ≡ f here'.position = omega (arith, size, past.seen view) in
    let same_total : columns + length bytes ≡ columns + len = omega (arith, size) in
    let seen : words_after bytes (f here.position) (f end_before.position) (f word.position) (f end.position) ≡ (f end_before'.position, f word'.position, f end'.position)
    = words-seen f bytes here.position end_before.position word.position end.position (λ k within. (place k within).seen) ∙ ap (λ (w : ℕ × ℕ × ℕ). (f w.0, f w.1, f w.2)) (sym positions) in
    let ahead = ahead-bytes view t here.position bytes (past.clusters view) (λ k within. ((place k within).seen, (place k within).tight)) in
    let begun : start.position ≤ here.position = omega (arith, read.ordered.2, read.ordered.3) in
    let begun_seen : f start.position ≤ f here.position = seen_len-ordered view t utf8 start.position here.position begun (walk_boundary t utf8 start read.start_is.walk) (walk_boundary t utf8 here read.here_is.walk) in
    record {
      start_is = read.start_is;
      words_are = walks;
      here_is = tight-after utf8 read.here_is past;
      ordered = subst (λ w. AreOrdered start.position w here'.position) (sym positions)
          (subst (AreOrdered start.position words) same_place (words_after-ordered bytes start.position here.position end_before.position word.position end.position read.ordered));
      bound = omega (arith, read.bound, past.position);
      line = subst (λ w. IsLineAt cl width (f start.position) w (f here'.position) (columns + len)) seen
          (subst (λ m. IsLineAt cl width (f start.position) (words_after bytes (f here.position) (f end_before.position) (f word.position) (f end.position)) m (columns + len)) same_seen
          (subst (IsLineAt cl width (f start.position) (words_after bytes (f here.position) (f end_before.position) (f word.position) (f end.position)) (f here.position + length bytes)) same_total
          (line-printable bytes (f here.position) (f end_before.position) (f word.position) (f end.position) columns read.line begun_seen ahead past.front.bytes (λ some. omega (arith, some, size, room)))));
    }

-- ---- the lines that are left

-- those from a walk on, in bytes of what is seen
abbrev pub seen_lines_at : View → List ℕ → ℕ → Option Walk → List (ℕ × ℕ)
seen_lines_at view t width None = []
seen_lines_at view t width (Some walk) = lines_at (clusters_at view t) width (seen_len view t walk.position)

-- the walk is tight, if there is one
abbrev pub IsTightNext : View → List ℕ → Option Walk → Type 0
IsTightNext view t None = Unit
IsTightNext view t (Some walk) = IsTight view t walk.position

module _ (view : View) (t : List ℕ) (width : ℕ) (walk : Walk) (tight : IsTight view t walk.position) where
  lines_at-tight : (let n = seen_len view t walk.position in lines_from width n n n 0 (seen_clusters view t walk.position)) ≡ seen_lines_at view t width (Some walk)
  lines_at-tight = (let n = seen_len view t walk.position in ap (lines_from width n n n 0) (sym (clusters_at-tight view t walk.position tight)))

-- the same lines, as positions of the plain text
module _ (t : List ℕ) (width : ℕ) (start : Walk) where
  pub lines-given : (view : View) (first last : Walk) (next : Option Walk) → IsTight view t start.position → IsTight view t first.position → IsTight view t last.position → IsTightNext view t next
      → seen_lines_at view t width (Some start) ≡ (seen_len view t first.position, seen_len view t last.position) ∷ seen_lines_at view t width next
      → seen_lines_left view t width (Some start) ≡ (first.position, last.position) ∷ seen_lines_left view t width next
  lines-given Given first last None start_tight first_tight last_tight next_tight seen = seen
  lines-given Given first last (Some next) start_tight first_tight last_tight next_tight seen = seen
  lines-given Shown first last None start_tight first_tight last_tight next_tight seen =
      ap (map (given_line Shown t)) (lines_at-tight Shown t width start start_tight ∙ seen) ∙ ap₂ (λ a b. (a, b) ∷ []) first_tight last_tight
  lines-given Shown first last (Some next) start_tight first_tight last_tight next_tight seen =
      ap (map (given_line Shown t)) (lines_at-tight Shown t width start start_tight ∙ seen)
      ∙ ap₂ (λ a b. (a, b) ∷ map (given_line Shown t) (seen_lines_at Shown t width (Some next))) first_tight last_tight
      ∙ ap (λ ls. (first.position, last.position) ∷ map (given_line Shown t) ls) (sym (lines_at-tight Shown t width next next_tight))
  lines-given Lined first last None start_tight first_tight last_tight next_tight seen =
      ap (map (given_line Lined t)) (lines_at-tight Lined t width start start_tight ∙ seen) ∙ ap₂ (λ a b. (a, b) ∷ []) first_tight last_tight
  lines-given Lined first last (Some next) start_tight first_tight last_tight next_tight seen =
      ap (map (given_line Lined t)) (lines_at-tight Lined t width start start_tight ∙ seen)
      ∙ ap₂ (λ a b. (a, b) ∷ map (given_line Lined t) (seen_lines_at Lined t width (Some next))) first_tight last_tight
      ∙ ap (λ ls. (first.position, last.position) ∷ map (given_line Lined t) ls) (sym (lines_at-tight Lined t width next next_tight))

  pub lines-same : (view : View) (word : Walk) → IsTight view t start.position → IsTight view t word.position → seen_lines_at view t width (Some start) ≡ seen_lines_at view t width (Some word)
      → seen_lines_left view t width (Some start) ≡ seen_lines_left view t width (Some word)
  lines-same Given word start_tight word_tight same = same
  lines-same Shown word start_tight word_tight same = ap (map (given_line Shown t)) (lines_at-tight Shown t width start start_tight ∙ same ∙ sym (lines_at-tight Shown t width word word_tight))
  lines-same Lined word start_tight word_tight same = ap (map (given_line Lined t)) (lines_at-tight Lined t width start start_tight ∙ same ∙ sym (lines_at-tight Lined t width word word_tight))

-- ---- a line is read up to a walk

module _ {view : View} {t : List ℕ} {width : ℕ} {start before word end here : Walk} {columns : ℕ} (utf8 : IsUtf8 t) (read : IsLineRead view t width start before word end here columns) where
  abbrev cl : ℕ → List (List ℕ)
  cl = clusters_at view t

  abbrev at : Walk → ℕ
  at w = seen_len view t w.position

  boundary : {w : Walk} → IsTightWalk view t w → IsCharBoundary (plain t) w.position
  boundary {w} is = walk_boundary t utf8 w is.walk

  at-ordered : {w v : Walk} → IsTightWalk view t w → IsTightWalk view t v → w.position ≤ v.position → at w ≤ at v
  at-ordered {w} {v} first second ordered = seen_len-ordered view t utf8 w.position v.position ordered (boundary first) (boundary second)

  at-less : {w v : Walk} → IsTightWalk view t w → IsTightWalk view t v → w.position < v.position → at w < at v
  at-less {w} {v} first second less = tight-less view t utf8 w.position v.position (omega (arith, less)) (boundary first) (boundary second) first.tight second.tight less

  at-other : {w v : Walk} → IsTightWalk view t w → IsTightWalk view t v → w.position ≢ v.position → at w ≢ at v
  at-other {w} {v} first second other same = other (tight-same view t w.position v.position first.tight second.tight same)

  begun : start.position ≤ here.position
  begun = omega (arith, read.ordered.2, read.ordered.3)

  pub before_is : IsTightWalk view t before
  before_is = read.words_are.0

  pub word_is : IsTightWalk view t word
  word_is = read.words_are.1

  pub end_is : IsTightWalk view t end
  end_is = read.words_are.2

  -- nothing is left
  pub read-is_last : seen_after view t here.position ≡ [] → seen_lines_left view t width (Some start) ≡ (start.position, end.position) ∷ seen_lines_left view t width None
  read-is_last none =
      let nothing : cl (at here) ≡ [] = clusters_at-tight view t here.position read.here_is.tight ∙ seen_clusters-end view t here.position none in
      lines-given t width start view start end None read.start_is.tight read.start_is.tight end_is.tight tt
      (line-is_last cl width (at start) (at before) (at word) (at end) (at here) columns read.line nothing)

  -- the next cluster ends at `next`
  module _ (next : Walk) (more : ℕ) (past : IsPastCluster view t here next more) where
    abbrev c : List ℕ
    c = seen_cluster view t here.position next.position

    pub next_is : IsTightWalk view t next
    next_is = record { walk = past.0; tight = past.5 }

    first : cl (at here) ≡ c ∷ cl (at next)
    first = clusters_at-tight view t here.position read.here_is.tight ∙ past.2 ∙ ap (λ cs. c ∷ cs) (sym (clusters_at-tight view t next.position past.5))

    some : at here < at next
    some = at-less read.here_is next_is past.1

    size : length (encode_utf8_all c) ≡ at next - at here
    size = omega (arith, seen_len-split view t utf8 here.position next.position (omega (arith, past.1)) (boundary read.here_is) (boundary next_is))

    -- it ends the line
    pub read-is_ended : is_line_end c ≡ true → seen_lines_left view t width (Some start) ≡ (start.position, end.position) ∷ seen_lines_left view t width (Some next)
    read-is_ended ends =
        lines-given t width start view start end (Some next) read.start_is.tight read.start_is.tight end_is.tight past.5
        (line-is_ended cl width (at start) (at before) (at word) (at end) (at here) columns read.line (at-ordered read.start_is read.here_is begun) c (at next) more first size some past.3 ends)

    -- it is a blank
    pub read-blank : is_line_end c ≡ false → is_blank c ≡ true → IsLineRead view t width start end next end next (columns + more)
    read-blank inside blank = record {
      start_is = read.start_is;
      words_are = (end_is, next_is, end_is);
      here_is = next_is;
      ordered = (read.ordered.2, omega (arith, read.ordered.3, past.1), read.ordered.2, omega (arith, read.ordered.3, past.1));
      bound = omega (arith, read.bound, past.1, past.4);
      line = line-goes_on cl width (at start) (at before) (at word) (at end) (at here) columns read.line (at-ordered read.start_is read.here_is begun) c (at next) more first size some past.3 inside blank;
    }

    module _ (of_word : IsOfWord c) where
      -- it is one of a word, and has room
      pub read-takes : (here.position ≡ start.position) ⊎ (columns + more ≤ width) → IsLineRead view t width start before word next next (columns + more)
      read-takes fits = record {
        start_is = read.start_is;
        words_are = (before_is, word_is, next_is);
        here_is = next_is;
        ordered = (read.ordered.0, read.ordered.1, omega (arith, read.ordered.2, read.ordered.3, past.1), omega arith);
        bound = omega (arith, read.bound, past.1, past.4);
        line = line-takes cl width (at start) (at before) (at word) (at end) (at here) columns read.line (at-ordered read.start_is read.here_is begun) c (at next) more first size some past.3 of_word
            (⊎_elim (λ same. inl (ap (seen_len view t) same)) inr fits);
      }

      -- it has no room ..
      module _ (wide : width < columns + more) where
        -- .. and the word at the beginning of the line is broken
        pub read-is_broken : word.position ≡ start.position → start.position < here.position → seen_lines_left view t width (Some start) ≡ (start.position, end.position) ∷ seen_lines_left view t width (Some here)
        read-is_broken begins further =
            lines-given t width start view start end (Some here) read.start_is.tight read.start_is.tight end_is.tight read.here_is.tight
            (line-is_broken cl width (at start) (at before) (at word) (at end) (at here) columns read.line (at-ordered read.start_is read.here_is begun) c (at next) more first size some past.3 of_word
            (ap (seen_len view t) begins) (at-less read.start_is read.here_is further) wide)

        -- .. and another word begins the next line
        pub read-is_left : word.position ≢ start.position → start.position < before.position → seen_lines_left view t width (Some start) ≡ (start.position, before.position) ∷ seen_lines_left view t width (Some word)
        read-is_left later further =
            lines-given t width start view start before (Some word) read.start_is.tight read.start_is.tight before_is.tight word_is.tight
            (line-is_left cl width (at start) (at before) (at word) (at end) (at here) columns read.line (at-ordered read.start_is read.here_is begun) c (at next) more first size some past.3 of_word
            (at-other word_is read.start_is later) (at-less read.start_is before_is further) wide)

        -- .. and another word begins this line
        pub read-is_begun : word.position ≢ start.position → before.position ≡ start.position → (start.position < word.position) × (seen_lines_left view t width (Some start) ≡ seen_lines_left view t width (Some word))
        read-is_begun later none = (
          omega (arith, read.ordered.0, read.ordered.1, later),
          lines-same t width start view word read.start_is.tight word_is.tight
              (line-is_begun cl width (at start) (at before) (at word) (at end) (at here) columns read.line (at-ordered read.start_is read.here_is begun) c (at next) more first size some past.3 of_word
              (at-other word_is read.start_is later) (ap (seen_len view t) none) wide).1,
        )

-- ---- letters of a word

of_word-parts : (blank ends : Bool) → not (blank || ends) ≡ true → (blank ≡ false) × (ends ≡ false)
of_word-parts true ends is = cc
of_word-parts false true is = cc
of_word-parts false false is = (refl, refl)

of_word : (c : List ℕ) → is_of_word c ≡ true → IsOfWord c
of_word c is = (let parts = of_word-parts (is_blank c) (is_line_end c) is in record { inside = parts.1; solid = parts.0 })

module _ {view : View} {t : List ℕ} {width : ℕ} {start before word end here : Walk} {columns : ℕ} (utf8 : IsUtf8 t) (read : IsLineRead view t width start before word end here columns) where
  letters-step : (w later : Walk) (m k n : ℕ) → (last : Walk) × IsLineRead view t width start before word last w (columns + m) → n ≡ m + k → IsPastLetter view t w later k → columns + n ≤ width → IsLineRead view t width start before word later later (columns + n)
  letters-step w later m k n so_far sum letter room =
      let total : columns + m + k ≡ columns + n = omega (arith, sum) in
      subst (IsLineRead view t width start before word later later) total
      (read-takes utf8 so_far.1 later k letter.past (of_word (seen_cluster view t w.position later.position) letter.of_word) (inr (omega (arith, total, room))))

  letters-up_to : (walks : List (Walk × ℕ)) (later : Walk) (n : ℕ) → AreLetters view t here walks later n → columns + n ≤ width → (last : Walk) × IsLineRead view t width start before word last later (columns + n)
  letters-up_to [] later n are room =
      let total : columns ≡ columns + n = omega (arith, are.1) in
      (end, subst (λ w. IsLineRead view t width start before word end w (columns + n)) (sym are.0) (subst (IsLineRead view t width start before word end here) total read))
  letters-up_to ((w, m) ∷ earlier) later n are room = (later, letters-step w later m are.1 n (letters-up_to earlier w m are.0 (omega (arith, are.2, room))) are.2 are.3 room)

  -- they are read
  pub read-letters : (later : Walk) (n : ℕ) → ArePastLetters view t here later n → n ≤ width - columns → 0 < n → IsLineRead view t width start before word later later (columns + n)
  read-letters later n are room some = by are.0 are.1
    where
      by : (walks : List (Walk × ℕ)) → AreLetters view t here walks later n → IsLineRead view t width start before word later later (columns + n)
      by [] none = absurd (omega (arith, some, none.1))
      by ((w, m) ∷ earlier) letters =
          let fits : columns + n ≤ width = omega (arith, room, some) in
          letters-step w later m letters.1 n (letters-up_to earlier w m letters.0 (omega (arith, letters.2, fits))) letters.2 letters.3 fits

-- the walk after them is further on
pub letters-further : (view : View) (t : List ℕ) (here : Walk) (walks : List (Walk × ℕ)) (later : Walk) (n : ℕ) → AreLetters view t here walks later n → 0 < n → (here.position < later.position) × (later.position ≤ length (plain t))
letters-further view t here [] later n are more = absurd (omega (arith, more, are.1))
letters-further view t here ((w, m) ∷ earlier) later n are more =
    let past = are.3.past in
    (omega (arith, past.1, before earlier w m are.0), past.0.within)
  where
    before : (walks : List (Walk × ℕ)) (w : Walk) (m : ℕ) → AreLetters view t here walks w m → here.position ≤ w.position
    before [] w m are = (let same : w.position ≡ here.position = ap (λ (u : Walk). u.position) are.0 in omega (arith, same))
    before ((v, k) ∷ earlier) w m are = omega (arith, before earlier v k are.0, are.3.past.1)
