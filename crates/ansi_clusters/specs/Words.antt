-- Where the words of a line end, if printable ASCII or other characters of a word follow. No public contract cites it.
use Rattle.std.specs.Prelude.{◌≡◌, ℕ, ◌+◌, ◌==◌, List, [], ◌∷◌, IsTrue, if◌then◌else◌}
use Rattle.std.specs.Str.{byte}
use Rattle.ansi_clusters.specs.declared.views.View.{View}
use Rattle.ansi_clusters.specs.declared.walks.Walk.{Walk}
use Rattle.ansi_clusters.specs.FirstFit.{is_of_word}
use Rattle.ansi_clusters.specs.Walks.{seen_cluster, IsPastCluster}

-- the end of the words of the bytes from the position `here` on, or `end` if they are all blanks
abbrev pub end_after : List ℕ → ℕ → ℕ → ℕ
end_after [] here end = end
end_after (b ∷ bs) here end = end_after bs (here + 1) (if b == byte " " then end else here + 1)

-- three positions after the bytes from `here` on: the end of the words before the last word, the beginning of that word, and the end of all words
abbrev pub words_after : List ℕ → ℕ → ℕ → ℕ → ℕ → ℕ × ℕ × ℕ
words_after [] here before word end = (before, word, end)
words_after (b ∷ bs) here before word end =
    if b == byte " " then words_after bs (here + 1) end (here + 1) end else words_after bs (here + 1) before word (here + 1)

-- the next cluster of the walk is of a word, `later` is the walk after it, and it has this number of columns
pub record IsPastLetter (view : View) (t : List ℕ) (walk later : Walk) (columns : ℕ) : Type 0 where
  pub past : IsPastCluster view t walk later columns
  pub of_word : IsTrue (is_of_word (seen_cluster view t walk.position later.position))

-- `later` is the walk after clusters of a word, which have this number of columns together: the walks before each of them, the last one first, with the columns before it
abbrev pub AreLetters : View → List ℕ → Walk → List (Walk × ℕ) → Walk → ℕ → Type 0
AreLetters view t from [] later columns = (later ≡ from) × (columns ≡ 0)
AreLetters view t from ((walk, before) ∷ earlier) later columns = AreLetters view t from earlier walk before × (width : ℕ) × (columns ≡ before + width) × IsPastLetter view t walk later width

abbrev pub ArePastLetters : View → List ℕ → Walk → Walk → ℕ → Type 0
ArePastLetters view t from later columns = (walks : List (Walk × ℕ)) × AreLetters view t from walks later columns
