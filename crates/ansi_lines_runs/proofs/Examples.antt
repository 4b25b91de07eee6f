-- What the definitions say of small texts.
use Rattle.std.proofs.Common.{◌≡◌, [], ◌∷◌, ◌++◌, true, false, Some, None, refl}
use Rattle.std.specs.Prelude.{codes}
use Rattle.std.specs.Fmt.{digits}
use Rattle.std.specs.Str.{trim_start, trim_end, chars}
use lib.Utf8.{encode}
use Rattle.ansi_lines_runs.specs.Lines.{lines}
use Rattle.ansi_lines_runs.specs.Runs.{output_of, refused_line}
use Rattle.ansi_lines_runs.specs.Lines.{answers, first_refused}
use Rattle.ansi_str.specs.Cut.{cut}
use Rattle.ansi_str.specs.Kept.{kept}
use Rattle.ansi_str.specs.Parts.{part_from}
use Rattle.ansi_str.specs.Changes.{CutRange, LeftOf, RightOf, PartOf, WithoutPrefix, WithoutSuffix, Trimmed}
use Rattle.ansi_lines_runs.specs.Words.{Changed, changes_asked, work_asked}

-- an empty text has no lines
pub lines-empty : lines [] ≡ []
lines-empty = refl

-- a line feed ends a line, and the text after it is a line too
pub lines-two : lines (codes "ab\nc") ≡ record { text = codes "ab"; ended = true } ∷ record { text = codes "c"; ended = false } ∷ []
lines-two = refl

-- a last line feed has no line after it
pub lines-ended : lines (codes "a\n\n") ≡ record { text = codes "a"; ended = true } ∷ record { text = []; ended = true } ∷ []
lines-ended = refl

-- a title with a line feed inside is a lone escape and plain text
pub strip-cut-title : output_of (codes "strip" ∷ []) (codes "a\u{1b}]0;t\n\u{7}b\n") ≡ codes "a]0;t\n\u{7}b\n"
unfolding answers work_asked
strip-cut-title = refl

-- an empty list of words is bad words, and writes nothing
pub output_of-no_words : output_of [] (codes "abc\n") ≡ []
unfolding work_asked
output_of-no_words = refl

-- a cut from 1 refuses the second line, since 1 is inside its é (C3 A9 in UTF-8), and the output ends before it
pub cut-inside-character : output_of (codes "cut:1:" ∷ []) (codes "ab\n" ++ 0xC3 ∷ 0xA9 ∷ codes "\n") ≡ codes "b\n"
unfolding answers work_asked changes_asked cut
cut-inside-character = refl

-- that line is the second
pub refused-inside-character : refused_line (codes "cut:1:" ∷ []) (codes "ab\n" ++ 0xC3 ∷ 0xA9 ∷ codes "\n") ≡ Some 2
unfolding first_refused work_asked changes_asked cut
refused-inside-character = refl

-- each word asks for its change, and a pattern is the word's rest, including colons
pub work_asked-each : work_asked (codes "cut:1:3" ∷ codes "left:2" ∷ codes "right:0" ∷ codes "part:1:a:b" ∷ codes "prefix:a:b" ∷ codes "suffix:" ∷ codes "trim" ∷ [])
    ≡ Some (Changed (CutRange 1 (Some 3) ∷ LeftOf 2 ∷ RightOf 0 ∷ PartOf (codes "a:b") 1 ∷ WithoutPrefix (codes "a:b") ∷ WithoutSuffix [] ∷ Trimmed ∷ []))
unfolding work_asked changes_asked
work_asked-each = refl

-- leading zeros are allowed, and an empty end is no end
pub work_asked-zeros : work_asked (codes "cut:01:3" ∷ codes "cut:1:" ∷ []) ≡ Some (Changed (CutRange 1 (Some 3) ∷ CutRange 1 None ∷ []))
unfolding work_asked changes_asked
work_asked-zeros = refl

-- a third field is one too many for a cut
pub work_asked-three_fields : work_asked (codes "cut:1:2:3" ∷ []) ≡ None
unfolding work_asked changes_asked
work_asked-three_fields = refl

-- `strip` has to be the only word; beside other words it isn't a change
pub work_asked-strip_beside : work_asked (codes "strip" ∷ codes "trim" ∷ []) ≡ None
unfolding work_asked changes_asked
work_asked-strip_beside = refl

-- one bad word makes all bad
pub work_asked-one_bad : work_asked (codes "trim" ∷ codes "part:1" ∷ []) ≡ None
unfolding work_asked changes_asked
work_asked-one_bad = refl

-- each line is cut, and the result is trimmed
pub cut-and-trim : output_of (codes "cut:1:3" ∷ codes "trim" ∷ []) (codes "\u{1b}[30mTEXT\u{1b}[39m\n a \n") ≡ codes "\u{1b}[30mEX\u{1b}[39m\na\n"
unfolding answers work_asked changes_asked cut kept trim_start trim_end chars encode
cut-and-trim = refl

-- the empty pattern matches before and after each character, so part 0 is empty and part 1 is the first character
pub part-of_empty_pattern : output_of (codes "part:1:" ∷ []) (codes "ab") ≡ codes "a"
unfolding answers work_asked changes_asked part_from
part-of_empty_pattern = refl

-- a prefix with a colon
pub prefix-with_colon : output_of (codes "prefix:a:b" ∷ codes "cut:00:" ∷ []) (codes "a:bc\n") ≡ codes "c\n"
unfolding answers work_asked changes_asked cut kept
prefix-with_colon = refl

-- a line without the prefix is refused
pub prefix-absent : refused_line (codes "prefix:ab" ∷ []) (codes "abc\nxbc\nabd") ≡ Some 2
unfolding first_refused work_asked changes_asked kept
prefix-absent = refl

-- a cell of a table is cut to eight bytes, and its color ends with it
pub cell-cut : output_of (codes "cut:0:8" ∷ []) (codes "\u{1b}[32mready for work\u{1b}[39m\n") ≡ codes "\u{1b}[32mready fo\u{1b}[39m\n"
unfolding answers work_asked changes_asked cut
cell-cut = refl

-- the message of a log line, after the kind, in its color
pub log-part : output_of (codes "prefix:error" ∷ codes "part:1:: " ∷ []) (codes "\u{1b}[31merror: disk full\u{1b}[39m\n") ≡ codes "\u{1b}[31mdisk full\u{1b}[39m\n"
unfolding answers work_asked changes_asked kept part_from digits
log-part = refl

-- and its first four bytes
pub log-part-cut : output_of (codes "prefix:error" ∷ codes "part:1:: " ∷ codes "cut:0:4" ∷ []) (codes "\u{1b}[31merror: disk full\u{1b}[39m\n") ≡ codes "\u{1b}[31mdisk\u{1b}[39m\n"
unfolding answers work_asked changes_asked kept part_from cut digits
log-part-cut = refl

-- the words of a line, each in its style
pub words-first : output_of (codes "part:0: " ∷ []) (codes "\u{1b}[1mone two\u{1b}[22m three\n") ≡ codes "\u{1b}[1mone\u{1b}[22m\n"
unfolding answers work_asked changes_asked part_from
words-first = refl

pub words-second : output_of (codes "part:1: " ∷ []) (codes "\u{1b}[1mone two\u{1b}[22m three\n") ≡ codes "\u{1b}[1mtwo\u{1b}[22m\n"
unfolding answers work_asked changes_asked part_from
words-second = refl

pub words-third : output_of (codes "part:2: " ∷ []) (codes "\u{1b}[1mone two\u{1b}[22m three\n") ≡ codes "three\n"
unfolding answers work_asked changes_asked part_from
words-third = refl
