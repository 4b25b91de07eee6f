use Rattle.ansi_slice.proofs.Common.{◌++◌, ◌&&◌, ◌∙◌, ap, ap₂, arith, slice_range, string_bytes, pieces_of, plain, close, rendition_of, style_within, sequences_up_to}
use Rattle.ansi_search.specs.Positions.{is_char_boundary}
use Rattle.ansi_search.proofs.PositionLemmas.{is_good_range-disordered, char_boundary_is}
use Rattle.ansi_slice.proofs.StretchLemmas.{cut-stretch, cut-front_stretch, range-by_stretch, good_range-by_stretch}
use Rattle.ansi_slice.proofs.slice.cuts.cut_up_to.Goals.{then-not-is_char_boundary-via-then-not-is_char_boundary, then-not-is_char_boundary-via-else-not-is_char_boundary+then-not-is_char_boundary-2}
use Rattle.ansi_slice.proofs.slice.cuts.cut_up_to.Goals.{then-start-gt0+in_ok-push_front, else-start-gt0}
use Rattle.ansi_slice.proofs.slice.cuts.cut_up_to.Goals as goal

-- no range ends before its start
pub returns-then-end-start-clause-cut : goal.returns-then-end-start-clause-cut
returns-then-end-start-clause-cut g c = is_good_range-disordered (plain c.args.text.now) c.args.start c.args.end c.if-end-start.true

-- an end isn't good
pub returns-then-not-is_char_boundary-clause-cut : goal.returns-then-not-is_char_boundary-clause-cut
returns-then-not-is_char_boundary-clause-cut g c =
    let is = c.stretch_of-marks.ensures.stretch in
    let to = c.stretch_of-marks.result.to in
    elim c.then-not-is_char_boundary.branch [
      | then-not-is_char_boundary-via-then-not-is_char_boundary w ↦
          range-by_stretch c.utf8.text c.if-end-start.false is c.is_char_boundary.ensures.test (char_boundary_is c.args.text.now to)
          ∙ ap (λ a. a && is_char_boundary c.args.text.now to) w.if-not-is_char_boundary.true
      | then-not-is_char_boundary-via-else-not-is_char_boundary+then-not-is_char_boundary-2 w ↦
          range-by_stretch c.utf8.text c.if-end-start.false is c.is_char_boundary.ensures.test w.is_char_boundary-else-not-is_char_boundary.ensures.test
          ∙ ap₂ (λ a b. a && b) w.if-not-is_char_boundary.false w.if-not-is_char_boundary-2.true
    ]

-- the call allocates only if the range is good

pub returns-in_err-push_front-clause-takes_no_memory : goal.returns-in_err-push_front-clause-takes_no_memory
returns-in_err-push_front-clause-takes_no_memory g c = λ bad. absurd (cc (bad, good_range-by_stretch c.utf8.text c.if-end-start.false c.stretch_of-marks.ensures.stretch c.is_char_boundary.ensures.test c.is_char_boundary-else-not-is_char_boundary.ensures.test c.if-not-is_char_boundary.false c.if-not-is_char_boundary-2.false))

pub returns-in_err-push_str-clause-takes_no_memory : goal.returns-in_err-push_str-clause-takes_no_memory
returns-in_err-push_str-clause-takes_no_memory g c = λ bad. absurd (cc (bad, good_range-by_stretch c.utf8.text c.if-end-start.false c.stretch_of-marks.ensures.stretch c.is_char_boundary.ensures.test c.is_char_boundary-else-not-is_char_boundary.ensures.test c.if-not-is_char_boundary.false c.if-not-is_char_boundary-2.false))

pub returns-in_err-write_close-clause-takes_no_memory : goal.returns-in_err-write_close-clause-takes_no_memory
returns-in_err-write_close-clause-takes_no_memory g c = λ bad. absurd (cc (bad, good_range-by_stretch c.utf8.text c.if-end-start.false c.stretch_of-marks.ensures.stretch c.is_char_boundary.ensures.test c.is_char_boundary-else-not-is_char_boundary.ensures.test c.if-not-is_char_boundary.false c.if-not-is_char_boundary-2.false))

-- the sequences up to the start, the stretch and the close are the cut
pub returns-clause-cut : goal.returns-clause-cut
returns-clause-cut g c =
    let t = c.args.text.now in
    let is = c.stretch_of-marks.ensures.stretch in
    let styled = c.stretch_of-marks.ensures.style ∙ ap (λ r. style_within r t c.args.end) c.plain_style-style.ensures in
    let all = close (rendition_of c.stretch_of-marks.new.style) in
    let stretch = c.range.result.now in (
      good_range-by_stretch c.utf8.text c.if-end-start.false is c.is_char_boundary.ensures.test c.is_char_boundary-else-not-is_char_boundary.ensures.test c.if-not-is_char_boundary.false c.if-not-is_char_boundary-2.false,
      c.in_ok-write_close.ensures.bytes
          ∙ ap (λ v. v ++ all) c.in_ok-push_str.ensures.bytes
          ∙ elim c.if-start-gt0.branch [
            | then-start-gt0+in_ok-push_front w ↦ (
                let from = c.range.ensures.value ∙ ap (λ n. slice_range t n c.stretch_of-marks.result.to) w.begin-is in
                let front = ap string_bytes w.cut-is ∙ w.in_ok-push_front.ensures ∙ ap (λ v. v ++ sequences_up_to c.args.start (pieces_of t)) c.in_ok-cut.ensures.bytes in
                cut-stretch c.if-end-start.false is front from styled)
            | else-start-gt0 w ↦ (
                let from = c.range.ensures.value ∙ ap (λ n. slice_range t n c.stretch_of-marks.result.to) w.begin-is in
                ap (λ v. (v ++ stretch) ++ all) (ap string_bytes w.cut-is ∙ c.in_ok-cut.ensures.bytes) ∙ cut-front_stretch (omega (arith, w.if-start-gt0.false)) is from styled)
          ],
    )
