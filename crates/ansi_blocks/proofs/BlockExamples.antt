-- Worked examples of blocks and of printed ends, each by computation.
use Rattle.ansi_blocks.proofs.Common.{refl, codes, [], ◌∷◌, Some, List, ℕ, Bool, true, false, Rendition, plain_style, Block, blocks, blocks_from}
use Rattle.ansi_items.proofs.Tables.{MakesRows}
use Rattle.ansi_items.specs.declared.ansitok.AnsiColor.TheVariants.{Bit4}
use Rattle.ansi_style.specs.Written.{close_if_any}

abbrev block : List ℕ → Rendition → Bool → Block
block w s lent = record { text = w; style = s; is_borrow = lent }

-- a run is a block, in the style there
blocks_of_texts : MakesRows blocks (
    ([], [])
    ∷ (codes "213\n456", block (codes "213\n456") plain_style true ∷ [])
    ∷ (codes "\u{1b}[38;7;1mx", block (codes "x") (record plain_style { bold = true }) true ∷ [])
    ∷ (codes "\u{1b}[mx", block (codes "x") (record plain_style { reset = true }) true ∷ [])
    ∷ (codes "\u{1b}[1;01mx", block (codes "x") (record plain_style { bold = true }) true ∷ [])
    ∷ (
      codes "\u{1b}[41;30mqwe:TEXT\u{1b}[39m \u{1b}[34mQWE",
      block (codes "qwe:TEXT") (record plain_style { foreground = Some (Bit4 30); background = Some (Bit4 41) }) true
          ∷ block (codes " ") (record plain_style { background = Some (Bit4 41) }) true
          ∷ block (codes "QWE") (record plain_style { foreground = Some (Bit4 34); background = Some (Bit4 41) }) true
          ∷ [],
    )
    ∷ (
      codes "\u{1b}[41;30m Hello \u{1b}[0m \t \u{1b}[43;32m World \u{1b}[0m",
      block (codes " Hello ") (record plain_style { foreground = Some (Bit4 30); background = Some (Bit4 41) }) true
          ∷ block (codes " \t ") (record plain_style { reset = true }) true
          ∷ block (codes " World ") (record plain_style { foreground = Some (Bit4 32); background = Some (Bit4 43); reset = true }) true
          ∷ [],
    )
    ∷ [])
unfolding blocks_from
blocks_of_texts = refl

-- other sequences wait for the next run, and after the last one they are dropped
waiting_sequences : MakesRows blocks (
    (codes "\u{1b}[1 mx", block (codes "\u{1b}[1 mx") plain_style false ∷ [])
    ∷ (codes "\u{1b}[>4;2mx", block (codes "\u{1b}[>4;2mx") plain_style false ∷ [])
    ∷ (codes "\u{1b}]8;;u\u{1b}\\link\u{1b}]8;;\u{1b}\\", block (codes "\u{1b}]8;;u\u{1b}\\link") plain_style false ∷ [])
    ∷ (codes "a\u{1b}[1 m\u{1b}[31m\u{1b}[2 mb", block (codes "a") plain_style true ∷ block (codes "\u{1b}[1 m\u{1b}[2 mb") (record plain_style { foreground = Some (Bit4 31) }) false ∷ [])
    ∷ (codes "a\u{1b}]0;t\u{7}", block (codes "a") plain_style true ∷ [])
    ∷ (codes "\u{1b}]\u{1b}]", block (codes "\u{1b}]") plain_style false ∷ block (codes "\u{1b}]") plain_style false ∷ [])
    ∷ [])
unfolding blocks_from
waiting_sequences = refl

closes : MakesRows close_if_any (
    (record plain_style { unknown = true }, [])
    ∷ (record plain_style { reset = true; unknown = true }, codes "\u{1b}[0m\u{1b}[0m")
    ∷ (record plain_style { font = Some 12 }, codes "\u{1b}[10m")
    ∷ [])
closes = refl
