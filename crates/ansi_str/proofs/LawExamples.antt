-- Worked examples of the laws, each by computation: what they say of small texts, and where they need their premises.
use Rattle.ansi_str.proofs.Common.{◌≡◌, refl, codes, List, [], ◌∷◌, ◌++◌, ℕ, ◌+◌, true, Some, None, length, encode_utf8, digits, chars, trim_start, trim_end, trim, pieces_of, Sequence, Text, merged, LoneEscape, plain, Rendition, plain_style, start, close, styled, unstyled, residue, cut, right_side, left_side, kept, without_prefix, trimmed, parts, part_from, part, all_parts, slice_of, CutRange, LeftOf, RightOf, PartOf, WithoutPrefix, Trimmed, Change, meaning}
use Rattle.std.specs.Prelude.{option_map}
use Rattle.ansi_items.proofs.Tables.{MakesRows, utf8}
use Rattle.ansi_items.specs.declared.ansitok.AnsiColor.TheVariants.{Bit4}
use Rattle.ansi_style.specs.Reading.{style_after_from}
use Rattle.ansi_style.proofs.StyledLemmas.{in_style}

abbrev bold_style : Rendition
bold_style = record plain_style { bold = true }

-- Whole texts join: the two runs of text that touch are one piece. A lone escape may begin a sequence with what follows it, so only whole texts join.

texts_joined : MakesRows pieces_of (
    (codes "\u{1b}[1ma" ++ codes "b\u{1b}[0m", Sequence (codes "\u{1b}[1m") ∷ Text (codes "ab") ∷ Sequence (codes "\u{1b}[0m") ∷ [])
    ∷ (codes "\u{1b}" ++ codes "[1m", Sequence (codes "\u{1b}[1m") ∷ [])
    ∷ [])
texts_joined = refl

the_pieces_of_both_are_others : merged (pieces_of (codes "\u{1b}") ++ pieces_of (codes "[1m")) ≡ LoneEscape ∷ Text (codes "[1m") ∷ []
the_pieces_of_both_are_others = refl

-- a start sets what is known of its style, if a code selects its colors; a close clears, but may leave `reset` after
starts_and_closes : MakesRows (λ (x : Rendition × List ℕ). style_after_from x.0 x.1) (
    ((plain_style, start (record bold_style { foreground = Some (Bit4 31); unknown = true })), record bold_style { foreground = Some (Bit4 31) })
    ∷ ((plain_style, start (record plain_style { foreground = Some (Bit4 0) })), record plain_style { reset = true })
    ∷ ((record bold_style { unknown = true }, close (record bold_style { unknown = true })), record plain_style { reset = true })
    ∷ [])
unfolding digits
starts_and_closes = refl

-- A cut, a side, a part and what is kept of a text are slices of its styled bytes.

abbrev two_styles : List ℕ
two_styles = codes "\u{1b}[1mab\u{1b}[0mc"

abbrev bold_between_blanks : List ℕ
bold_between_blanks = codes " \u{1b}[1m a \u{1b}[3m"

abbrev list_in_two_styles : List ℕ
list_in_two_styles = codes "a,\u{1b}[1mb,c\u{1b}[0md,"

styled_bytes : MakesRows styled (
    (two_styles, in_style bold_style (codes "ab") ++ in_style plain_style (codes "c"))
    ∷ (cut two_styles 1 (Some 3), in_style bold_style (codes "b") ++ in_style plain_style (codes "c"))
    ∷ (right_side two_styles 1, in_style bold_style (codes "b") ++ in_style plain_style (codes "c"))
    ∷ (left_side two_styles 1 ++ right_side two_styles 1, styled two_styles)
    ∷ (without_prefix two_styles (codes "ab"), in_style plain_style (codes "c"))
    ∷ [])
unfolding cut left_side right_side kept
styled_bytes = refl

slices_of_changes : MakesRows (λ (x : Change × List ℕ). slice_of x.0 (styled x.1)) (
    ((CutRange 1 (Some 3), two_styles), Some (in_style bold_style (codes "b") ++ in_style plain_style (codes "c")))
    ∷ ((WithoutPrefix (codes "ab"), two_styles), Some (in_style plain_style (codes "c")))
    ∷ ((WithoutPrefix (codes "b"), two_styles), None)
    ∷ ((Trimmed, bold_between_blanks), Some (in_style bold_style (codes "a")))
    ∷ ((PartOf (codes ",") 2, list_in_two_styles), Some (in_style bold_style (codes "c") ++ in_style plain_style (codes "d")))
    ∷ ((PartOf (codes ",") 4, list_in_two_styles), None)
    ∷ [])
unfolding chars trim_start trim_end encode_utf8
slices_of_changes = refl

-- the sides join to other bytes with the same styles
sides_of_two_styles : left_side two_styles 1 ++ right_side two_styles 1 ≡ codes "\u{1b}[1ma\u{1b}[22m\u{1b}[1mb\u{1b}[22mc"
unfolding left_side right_side
sides_of_two_styles = refl

-- each mark is kept: what a text leaves open stays open
trimmed_bold_between_blanks : trimmed bold_between_blanks ≡ codes "\u{1b}[1ma\u{1b}[3m"
unfolding chars trim_start trim_end encode_utf8 kept
trimmed_bold_between_blanks = refl

bold_between_blanks_leaves_open : residue (trimmed bold_between_blanks) ≡ record bold_style { italic = true }
unfolding chars trim_start trim_end encode_utf8 kept
bold_between_blanks_leaves_open = refl

-- after a lone escape, what is left may be read as a sequence, so only of whole texts is it the slice

abbrev lone_before_white_space : List ℕ
lone_before_white_space = codes "\u{1b}\n[1m"

trimmed_after_a_lone_escape : trimmed lone_before_white_space ≡ codes "\u{1b}[1m"
unfolding chars trim_start trim_end encode_utf8 kept
trimmed_after_a_lone_escape = refl

trim_of_plain_after_a_lone_escape : trim (plain lone_before_white_space) ≡ codes "[1m"
unfolding chars trim_start trim_end encode_utf8
trim_of_plain_after_a_lone_escape = refl

-- a title within a match belongs to the part after; at the empty pattern parts are the characters between two empty texts
parts_of_texts : MakesRows (λ (x : List ℕ × List ℕ). all_parts x.0 x.1) (
    ((list_in_two_styles, codes ","), codes "a" ∷ codes "\u{1b}[1mb\u{1b}[22m" ∷ codes "\u{1b}[1mc\u{1b}[0md" ∷ [] ∷ [])
    ∷ ((codes "a:\u{1b}]0;t\u{7}:b", codes "::"), codes "a" ∷ codes "\u{1b}]0;t\u{7}b" ∷ [])
    ∷ ((utf8 "\u{1b}[1maé\u{1b}[0m", []), codes "\u{1b}[1m\u{1b}[22m" ∷ codes "\u{1b}[1ma\u{1b}[22m" ∷ utf8 "\u{1b}[1mé\u{1b}[0m" ∷ [] ∷ [])
    ∷ [])
unfolding digits part_from encode_utf8
parts_of_texts = refl

-- a part is whole, and leaves nothing known open
part_of_a_list : option_map styled (part list_in_two_styles (codes ",") 2) ≡ Some (in_style bold_style (codes "c") ++ in_style plain_style (codes "d"))
unfolding digits part_from
part_of_a_list = refl

part_that_ends_in_bold_leaves_nothing_open : option_map residue (part list_in_two_styles (codes ",") 1) ≡ Some plain_style
unfolding digits part_from
part_that_ends_in_bold_leaves_nothing_open = refl

-- a lone escape within a match may begin a sequence with what follows the match, so only of whole texts is a part the slice

abbrev lone_within_a_match : List ℕ
lone_within_a_match = codes "a\n\u{1b}\n[1m"

part_after_a_lone_escape : part lone_within_a_match (codes "\n\n") 1 ≡ Some (codes "\u{1b}[1m")
unfolding digits part_from
part_after_a_lone_escape = refl

slice_after_a_lone_escape : option_map unstyled (slice_of (PartOf (codes "\n\n") 1) (styled lone_within_a_match)) ≡ Some (codes "[1m")
slice_after_a_lone_escape = refl

-- the intervals of the parts lie between the first matches: one that begins within another isn't taken, and what is after the last match is a part, though it may be empty; at the empty pattern there may be two more of them than bytes
intervals_of_parts : MakesRows (λ (x : List ℕ × List ℕ). parts x.0 x.1) (
    ((codes "aaa", codes "aa"), (0, 0) ∷ (2, 3) ∷ [])
    ∷ ((codes "aa", codes "aa"), (0, 0) ∷ (2, 2) ∷ [])
    ∷ ((codes "ab", []), (0, 0) ∷ (0, 1) ∷ (1, 2) ∷ (2, 2) ∷ [])
    ∷ [])
intervals_of_parts = refl

-- a part of one byte in the style with the longest start and the longest close
longest_part_of_a_byte : option_map length (part (codes "\u{1b}[0;99;1;2;3;4;5;6;7;8;9;11;20;21;26;38;2;255;255;255;48;2;255;255;255;58;2;255;255;255;51;52;53;60;61;62;63;64;73;74ma,b") (codes ",") 1) ≡ Some (1 + 251)
unfolding digits part_from
longest_part_of_a_byte = refl

-- changes in turn: each is judged by what the one before has left
changes_in_turn : MakesRows (λ (x : List Change). meaning x (styled two_styles)) (
    (CutRange 1 None ∷ LeftOf 1 ∷ [], Some (in_style bold_style (codes "b")))
    ∷ (RightOf 1 ∷ WithoutPrefix (codes "b") ∷ [], Some (in_style plain_style (codes "c")))
    ∷ (RightOf 1 ∷ WithoutPrefix (codes "ab") ∷ [], None)
    ∷ [])
changes_in_turn = refl
