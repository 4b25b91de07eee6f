use Rattle.std.proofs.Common.{◌≡◌, ℕ, List, ◌++◌, string_bytes, ◌∙◌, ap, ap₂, append_assoc}
use Rattle.std.proofs.lemmas.Result.{on_ok_weaker}
use Rattle.ansi_items.specs.Pieces.{pieces_of}
use Rattle.ansi_style.specs.States.{rendition_of}
use Rattle.ansi_style.specs.Written.{start, close}
use Rattle.ansi_slice.specs.Stretches.{sequences_up_to}
use Rattle.ansi_safe.specs.Links.{link_end}
use Rattle.ansi_clusters.specs.Lines.{blanks}
use Rattle.ansi_cells.specs.Slices.{parts_opening}
use Rattle.ansi_cells.proofs.SliceLemmas.{text-written, parts-written}
use Rattle.ansi_cells.proofs.slices.Parts.push_to.Goals as goal

append_assoc-four : (o p m c : List ℕ) → ((o ++ p) ++ m) ++ c ≡ o ++ ((p ++ m) ++ c)
append_assoc-four o p m c = simp append_assoc

pub push_sequences-requires : goal.push_sequences-requires
push_sequences-requires g c = c.requires.good

-- what is written, one part after another
pub returns : goal.returns
returns g c =
    let s = c.args.self.now in
    let t = s.text.now in
    let old = string_bytes c.args.out.now in
    let from = sequences_up_to s.hidden (pieces_of t) in
    let rest = c.range_from.result.now in
    let opening : string_bytes c.push_blanks.new.out ≡ old ++ parts_opening s
    = c.in_ok-push_blanks.ensures ∙ ap (λ u. u ++ blanks s.before)
    (c.in_ok-push_str.ensures.bytes ∙ ap (λ u. u ++ s.opened.link.now) c.in_ok-write_start.ensures.bytes)
    ∙ append_assoc-four old (start (rendition_of s.opened.style)) s.opened.link.now (blanks s.before) in
    let before_close : string_bytes c.push_blanks-2.new.out ≡ ((string_bytes c.push_blanks.new.out ++ from) ++ rest) ++ blanks s.after
    = c.in_ok-push_blanks-2.ensures ∙ ap (λ u. u ++ blanks s.after) (c.in_ok-push_str-2.ensures.bytes ∙ ap (λ u. u ++ rest) c.in_ok-shown.ensures.bytes) in
    on_ok_weaker c.push_to.result (λ written.
    written ∙ ap (λ u. string_bytes c.push_blanks-2.new.out ++ u) (ap₂ (λ l r. l ++ close (rendition_of r)) c.ending.ensures.link_end c.ending.ensures.style)
    ∙ parts-written from rest (blanks s.after) (link_end s.closed.link.now ++ close (rendition_of s.closed.style)) opening (text-written c.requires.within c.in_ok-shown.ensures.offset c.range_from.ensures.value) before_close
    ∙ append_assoc-four old (parts_opening s) _ _) c.push_to.ensures.bytes
