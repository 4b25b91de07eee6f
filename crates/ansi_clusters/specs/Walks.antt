-- The state of a walk over the characters of a plain text. No public contract cites it.
use Rattle.std.specs.Prelude.{◌≡◌, ◌≢◌, ℕ, ◌+◌, ◌*◌, ◌-◌, ◌<◌, ◌≤◌, ◌==◌, ◌||◌, Bool, true, List, [], ◌∷◌, ◌++◌, length, take, drop, reverse, slice_index, slice_range, encode_utf8, chars, nat_lt, IsTrue}
use Rattle.std.specs.List.{list_all}
use Rattle.std.specs.Str.{byte, IsCharBoundary}
use Rattle.ansi_items.specs.Bytes.{is_plain_byte}
use Rattle.ansi_items.specs.Plain.{plain}
use Rattle.ansi_search.specs.Offsets.{offset_of}
use Rattle.ansi_safe.specs.Safe.{is_printable_byte}
use Rattle.unicode_segmentation.specs.Grapheme.{is_grapheme_break}
use Rattle.unicode_segmentation.specs.Segments.{cut}
use Rattle.ansi_clusters.specs.declared.walks.Run.{Run}
use Rattle.ansi_clusters.specs.declared.walks.Walk.{Walk}
use Rattle.ansi_clusters.specs.declared.fits.Fitted.{Fitted}
use Rattle.ansi_clusters.specs.declared.views.View.{View}
use Rattle.ansi_clusters.specs.declared.views.View.TheVariants.{Given, Shown}
use Rattle.ansi_clusters.specs.BreakStates.{break_state_of}
use Rattle.ansi_clusters.specs.Columns.{clusters, cluster_width, columns, columns_of, bytes_of, FitsUpTo}
use Rattle.ansi_clusters.specs.Views.{seen_char, seen, seen_text, seen_len, IsTight}

-- the characters of the plain text of t before the position n, the last one first
abbrev pub before : List ℕ → ℕ → List ℕ
before t n = reverse (chars (take n (plain t)))

-- the characters of the plain text of t from the position n on
abbrev pub after : List ℕ → ℕ → List ℕ
after t n = chars (drop n (plain t))

-- the characters between two positions, taken as one cluster
abbrev pub cluster : List ℕ → ℕ → ℕ → List ℕ
cluster t i j = chars (slice_range (plain t) i j)

-- the clusters of the characters cs, which follow others, the last of those first
abbrev pub clusters_after : List ℕ → List ℕ → List (List ℕ)
clusters_after before cs = cut (is_grapheme_break true) before cs []

-- the clusters of the plain text of t from a position on
abbrev pub clusters_from : List ℕ → ℕ → List (List ℕ)
clusters_from t n = clusters_after (before t n) (after t n)

-- The same of what is seen of the characters.

abbrev pub seen_before : View → List ℕ → ℕ → List ℕ
seen_before view t n = reverse (seen view (chars (take n (plain t))))

abbrev pub seen_after : View → List ℕ → ℕ → List ℕ
seen_after view t n = seen view (after t n)

abbrev pub seen_cluster : View → List ℕ → ℕ → ℕ → List ℕ
seen_cluster view t i j = seen view (cluster t i j)

abbrev pub seen_clusters : View → List ℕ → ℕ → List (List ℕ)
seen_clusters view t n = clusters_after (seen_before view t n) (seen_after view t n)

-- only plain bytes are between two offsets of t
pub record IsRun (t : List ℕ) (start end : ℕ) : Type 0 where
  pub ordered : start ≤ end
  pub start_boundary : IsCharBoundary t start
  pub end_boundary : IsCharBoundary t end
  pub bytes : IsTrue (list_all is_plain_byte (slice_range t start end))

-- A walk over t is at a position of its plain text. A run begins there, which is empty only at the end of t. Its break state is that of what was seen before.
pub record IsWalkIn (view : View) (t : List ℕ) (walk : Walk) : Type 0 where
  pub offset : walk.offset ≡ offset_of t walk.position
  pub run : IsRun t walk.offset walk.run_end
  pub end : walk.offset ≡ walk.run_end → walk.offset ≡ length t
  pub break_state : walk.break_state ≡ break_state_of (seen_before view t walk.position)
  pub within : walk.position ≤ length (plain t)

-- a walk that sees the characters as they are
abbrev pub IsWalk : List ℕ → Walk → Type 0
IsWalk t walk = IsWalkIn Given t walk

-- a walk just behind a character that it sees, or at the start
pub record IsTightWalk (view : View) (t : List ℕ) (w : Walk) : Type 0 where
  pub walk : IsWalkIn view t w
  pub tight : IsTight view t w.position

abbrev pub AreTightWalks : View → List ℕ → Walk → Walk → Walk → Type 0
AreTightWalks view t a b c = IsTightWalk view t a × IsTightWalk view t b × IsTightWalk view t c

-- a walk, whatever it sees
abbrev pub IsAnyWalk : List ℕ → Walk → Type 0
IsAnyWalk t walk = (view : View) × IsWalkIn view t walk

-- the character c is next
pub record IsNext (t : List ℕ) (walk : Walk) (c : ℕ) : Type 0 where
  pub rest : List ℕ
  pub bytes : slice_range t walk.offset walk.run_end ≡ encode_utf8 c ++ rest

-- the character that is next is seen as c, which has as many bytes
pub record IsSeenNext (view : View) (t : List ℕ) (walk : Walk) (c : ℕ) : Type 0 where
  pub given : ℕ
  pub next : IsNext t walk given
  pub seen : seen_char view given ≡ c ∷ []
  pub size : length (encode_utf8 given) ≡ length (encode_utf8 c)

-- `later` is the walk after the next cluster that is seen, which has `width` columns
abbrev pub IsPastCluster : View → List ℕ → Walk → Walk → ℕ → Type 0
IsPastCluster view t from later width =
    IsWalkIn view t later
    × (from.position < later.position)
    × (seen_clusters view t from.position ≡ seen_cluster view t from.position later.position ∷ seen_clusters view t later.position)
    × (width ≡ cluster_width (seen_cluster view t from.position later.position))
    × (width ≤ 2 * (later.position - from.position))
    × IsTight view t later.position

-- `later` is the walk after the first character that is seen, which is c
pub record IsPastFirst (view : View) (t : List ℕ) (from : Walk) (c : ℕ) (later : Walk) : Type 0 where
  pub walk : IsWalkIn view t later
  pub one : seen_cluster view t from.position later.position ≡ c ∷ []
  pub size : from.position + length (encode_utf8 c) ≤ later.position

-- `later` is the walk after the next byte, which is a character of ASCII and the first that is seen
pub record IsPastByte (view : View) (t : List ℕ) (from later : Walk) : Type 0 where
  pub within : from.offset < length t
  pub first : IsPastFirst view t from (slice_index t from.offset) later

-- `later` is such a walk for each walk at the last byte of the run
abbrev pub IsPastLast : View → List ℕ → Walk → Walk → Type 0
IsPastLast view t run later = (from : Walk) → from.position + 1 ≡ run.position + (run.run_end - run.offset) → from.offset + 1 ≡ run.run_end → IsPastByte view t from later

-- the walk at a run, in the state after printable ASCII
abbrev pub walk_at_run : ℕ → ℕ → ℕ → Walk
walk_at_run position start end = record { position = position; offset = start; run_end = end; break_state = break_state_of [] }

-- the walk after a byte of printable ASCII, at the next run
abbrev pub walk_at : Walk → Run → Walk
walk_at walk next = record { position = walk.position + 1; offset = next.start; run_end = next.end; break_state = break_state_of [] }

-- the walk n bytes on in its run, in the state after printable ASCII
abbrev pub walk_on : Walk → ℕ → Walk
walk_on walk n = record { position = walk.position + n; offset = walk.offset + n; run_end = walk.run_end; break_state = break_state_of [] }

-- the run is the next one after the byte at the walk, if it is one
abbrev pub IsNextRun : View → List ℕ → Walk → Run → Type 0
IsNextRun view t walk next = 0 < next.end → IsPastByte view t walk (walk_at walk next)

-- a cluster that ends in printable ASCII ends at the walk, whatever is before it
abbrev pub EndsAscii : List ℕ → Walk → Type 0
EndsAscii t walk = (view : View) → IsWalkIn view t walk → (before : List ℕ) (b : ℕ) → IsTrue (is_printable_byte b) → is_grapheme_break true (b ∷ before) (seen_after view t walk.position) ≡ true

-- the cluster has columns
abbrev pub has_width : List ℕ → Bool
has_width cluster = nat_lt 0 (cluster_width cluster)

-- `later` is the walk after the next clusters that are seen, each of which has columns, and which have this number of columns together
pub record IsPastClusters (view : View) (t : List ℕ) (from later : Walk) (columns : ℕ) : Type 0 where
  pub clusters : List (List ℕ)
  pub walk : IsWalkIn view t later
  pub ordered : from.position ≤ later.position
  pub all : seen_clusters view t from.position ≡ clusters ++ seen_clusters view t later.position
  pub seen : seen_len view t later.position ≡ seen_len view t from.position + bytes_of clusters
  pub each : IsTrue (list_all has_width clusters)
  pub columns_are : columns ≡ columns_of clusters
  pub bound : columns ≤ 2 * (later.position - from.position)

-- a byte of ASCII of which something is seen in any view: a printable one, TAB or LF
abbrev pub is_seen_ascii : ℕ → Bool
is_seen_ascii b = is_printable_byte b || (b == byte "\t" || b == byte "\n")

-- the next n bytes of the walk's run are printable ASCII, and another byte of ASCII that is seen follows them there
pub record IsPrintable (t : List ℕ) (walk : Walk) (n : ℕ) : Type 0 where
  pub within : walk.offset + n < walk.run_end
  pub bytes : IsTrue (list_all is_printable_byte (slice_range t walk.offset (walk.offset + n)))
  pub next : IsTrue (is_seen_ascii (slice_index t (walk.offset + n)))

-- the next n bytes of the walk's run are printable ASCII
pub record IsPrintableFront (t : List ℕ) (walk : Walk) (n : ℕ) : Type 0 where
  pub within : walk.offset + n ≤ walk.run_end
  pub bytes : IsTrue (list_all is_printable_byte (slice_range t walk.offset (walk.offset + n)))

-- the bytes are what is seen from the position n on, and each is a cluster by itself
abbrev pub AreClustersIn : View → List ℕ → ℕ → List ℕ → Type 0
AreClustersIn view t n [] = Unit
AreClustersIn view t n (b ∷ bs) = (seen_clusters view t n ≡ (b ∷ []) ∷ seen_clusters view t (n + 1)) × AreClustersIn view t (n + 1) bs

abbrev pub AreClusters : List ℕ → ℕ → List ℕ → Type 0
AreClusters t n bs = AreClustersIn Given t n bs

-- The next n bytes of the walk's run are printable ASCII, each of them is a cluster by itself, and `later` is the walk after them.
pub record IsPastAscii (t : List ℕ) (from : Walk) (n : ℕ) (later : Walk) : Type 0 where
  pub front : IsPrintableFront t from n
  pub walk : (view : View) → IsWalkIn view t from → IsWalkIn view t later
  pub position : later.position ≡ from.position + n
  pub clusters : (view : View) → AreClustersIn view t from.position (slice_range t from.offset (from.offset + n))
  pub seen : (view : View) → seen_len view t later.position ≡ seen_len view t from.position + n

-- the character is seen as it is, and a cluster ends before it if it follows printable ASCII
pub record BreaksAfterAscii (c : ℕ) : Type 0 where
  pub seen : seen_char Shown c ≡ c ∷ []
  pub breaks : (before rest : List ℕ) → before ≢ [] → break_state_of [] ≡ break_state_of before → is_grapheme_break true before (c ∷ rest) ≡ true

-- This number of columns is before a position.
pub record IsCountedTo (view : View) (t : List ℕ) (n total : ℕ) : Type 0 where
  pub all : total + columns_of (seen_clusters view t n) ≡ columns (seen_text view t)
  pub bound : total ≤ 2 * n

-- A walk before which there is this number of columns, whatever is seen.
pub record IsCounted (t : List ℕ) (columns : ℕ) (walk : Walk) : Type 0 where
  pub is_walk : (view : View) → IsWalkIn view t walk
  pub counted : (view : View) → IsCountedTo view t walk.position columns

-- The clusters up to a position fit, and leave this number of columns.
pub record IsFittingTo (view : View) (t : List ℕ) (width n left : ℕ) : Type 0 where
  pub front : List (List ℕ)
  pub all : clusters (seen_text view t) ≡ front ++ seen_clusters view t n
  pub boundary : seen_len view t n ≡ bytes_of front
  pub columns : columns_of front + left ≡ width

-- The text up to a walk fits, and leaves this number of columns.
pub record IsFitted (view : View) (t : List ℕ) (width : ℕ) (to : Fitted) : Type 0 where
  pub walk : IsWalkIn view t to.walk
  pub fitting : IsFittingTo view t width to.walk.position to.left

-- What is seen before the byte `end` is the clusters that fit. Before a later character boundary more is seen.
pub record SeesUpTo (view : View) (t : List ℕ) (width end : ℕ) : Type 0 where
  pub fits : FitsUpTo (seen_text view t) width (seen_len view t end)
  pub greatest : (later : ℕ) → IsCharBoundary (plain t) later → end < later → seen_len view t end < seen_len view t later
