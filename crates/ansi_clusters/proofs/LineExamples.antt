-- Worked examples of lines, each by computation.
use Rattle.std.proofs.Common.{◌≡◌, ℕ, ◌∷◌, [], List, map, refl, codes}
use Rattle.unicode_width.specs.Width.{str_width, step, past_emoji}
use Rattle.ansi_clusters.specs.Lines.{lines_from, is_line_end, is_blank, word_columns}

-- clusters of one ASCII character each
abbrev ascii_clusters : List ℕ → List (List ℕ)
ascii_clusters x = map (λ c. c ∷ []) x

-- the lines of a text of such clusters
abbrev lines_of_clusters : ℕ → List (List ℕ) → List (ℕ × ℕ)
lines_of_clusters width clusters = lines_from width 0 0 0 0 clusters

words : lines_of_clusters 5 (ascii_clusters (codes "ab cd  efg")) ≡ (0, 5) ∷ (7, 10) ∷ []
unfolding lines_from is_line_end is_blank word_columns str_width step past_emoji lib.Utf8.encode
words = refl

blanks_before_a_word : lines_of_clusters 4 (ascii_clusters (codes "  ab")) ≡ (0, 4) ∷ []
unfolding lines_from is_line_end is_blank word_columns str_width step past_emoji lib.Utf8.encode
blanks_before_a_word = refl

indent_without_room : lines_of_clusters 3 (ascii_clusters (codes "  ab")) ≡ (2, 4) ∷ []
unfolding lines_from is_line_end is_blank word_columns str_width step past_emoji lib.Utf8.encode
indent_without_room = refl

indent_after_a_line_end : lines_of_clusters 3 (ascii_clusters (codes "foo bar\n  baz")) ≡ (0, 3) ∷ (4, 7) ∷ (10, 13) ∷ []
unfolding lines_from is_line_end is_blank word_columns str_width step past_emoji lib.Utf8.encode
indent_after_a_line_end = refl

no_clusters : lines_of_clusters 4 (ascii_clusters (codes "")) ≡ (0, 0) ∷ []
unfolding lines_from is_line_end is_blank word_columns str_width step past_emoji lib.Utf8.encode
no_clusters = refl

end_of_line_last : lines_of_clusters 4 (ascii_clusters (codes "a\n")) ≡ (0, 1) ∷ (2, 2) ∷ []
unfolding lines_from is_line_end is_blank word_columns str_width step past_emoji lib.Utf8.encode
end_of_line_last = refl

ends_of_lines : lines_of_clusters 4 (ascii_clusters (codes "\n\n")) ≡ (0, 0) ∷ (1, 1) ∷ (2, 2) ∷ []
unfolding lines_from is_line_end is_blank word_columns str_width step past_emoji lib.Utf8.encode
ends_of_lines = refl

blanks_before_an_end : lines_of_clusters 4 (ascii_clusters (codes "a  \nb")) ≡ (0, 1) ∷ (4, 5) ∷ []
unfolding lines_from is_line_end is_blank word_columns str_width step past_emoji lib.Utf8.encode
blanks_before_an_end = refl

blanks : lines_of_clusters 2 (ascii_clusters (codes "   ")) ≡ (0, 0) ∷ []
unfolding lines_from is_line_end is_blank word_columns str_width step past_emoji lib.Utf8.encode
blanks = refl

wide_word : lines_of_clusters 3 (ascii_clusters (codes "abcdefg hi")) ≡ (0, 3) ∷ (3, 6) ∷ (6, 7) ∷ (8, 10) ∷ []
unfolding lines_from is_line_end is_blank word_columns str_width step past_emoji lib.Utf8.encode
wide_word = refl

wide_word_and_more : lines_of_clusters 3 (ascii_clusters (codes "abcdefg h")) ≡ (0, 3) ∷ (3, 6) ∷ (6, 9) ∷ []
unfolding lines_from is_line_end is_blank word_columns str_width step past_emoji lib.Utf8.encode
wide_word_and_more = refl

wide_word_later : lines_of_clusters 3 (ascii_clusters (codes "x abcdefg")) ≡ (0, 1) ∷ (2, 5) ∷ (5, 8) ∷ (8, 9) ∷ []
unfolding lines_from is_line_end is_blank word_columns str_width step past_emoji lib.Utf8.encode
wide_word_later = refl

one_column : lines_of_clusters 1 (ascii_clusters (codes "ab cd")) ≡ (0, 1) ∷ (1, 2) ∷ (3, 4) ∷ (4, 5) ∷ []
unfolding lines_from is_line_end is_blank word_columns str_width step past_emoji lib.Utf8.encode
one_column = refl

two_blanks : lines_of_clusters 3 (ascii_clusters (codes "aaa  bbb")) ≡ (0, 3) ∷ (5, 8) ∷ []
unfolding lines_from is_line_end is_blank word_columns str_width step past_emoji lib.Utf8.encode
two_blanks = refl

two_words : lines_of_clusters 2 (ascii_clusters (codes "ab cd")) ≡ (0, 2) ∷ (3, 5) ∷ []
unfolding lines_from is_line_end is_blank word_columns str_width step past_emoji lib.Utf8.encode
two_words = refl

blanks_last : lines_of_clusters 2 (ascii_clusters (codes "ab cd  ")) ≡ (0, 2) ∷ (3, 5) ∷ []
unfolding lines_from is_line_end is_blank word_columns str_width step past_emoji lib.Utf8.encode
blanks_last = refl

longer_words : lines_of_clusters 4 (ascii_clusters (codes "a link b")) ≡ (0, 1) ∷ (2, 6) ∷ (7, 8) ∷ []
unfolding lines_from is_line_end is_blank word_columns str_width step past_emoji lib.Utf8.encode
longer_words = refl

empty_line : lines_of_clusters 2 (ascii_clusters (codes "a\n\nb")) ≡ (0, 1) ∷ (2, 2) ∷ (3, 4) ∷ []
unfolding lines_from is_line_end is_blank word_columns str_width step past_emoji lib.Utf8.encode
empty_line = refl

tab : lines_of_clusters 8 (ascii_clusters (codes "a\t b")) ≡ (0, 4) ∷ []
unfolding lines_from is_line_end is_blank word_columns str_width step past_emoji lib.Utf8.encode
tab = refl

crlf : lines_of_clusters 4 ((0x61 ∷ []) ∷ (0x0D ∷ 0x0A ∷ []) ∷ (0x62 ∷ []) ∷ []) ≡ (0, 1) ∷ (3, 4) ∷ []
unfolding lines_from is_line_end is_blank word_columns str_width step past_emoji lib.Utf8.encode
crlf = refl
