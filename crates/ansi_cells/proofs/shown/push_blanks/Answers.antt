use Rattle.std.proofs.Common.{◌≡◌, ◌+◌, ◌-◌, ◌++◌, string_bytes, take, refl, ◌∙◌, ap, arith, append_assoc}
use Rattle.std.specs.Str.{byte}
use Rattle.std.proofs.lemmas.List.{replicate-append-replicate, take-replicate}
use Rattle.std.proofs.lemmas.Str.{IsCharBoundary-from_ascii}
use Rattle.std.proofs.lemmas.Str.Ascii.{IsAscii-from_all}
use Rattle.ansi_clusters.specs.Lines.{blanks}
use Rattle.ansi_clusters.proofs.AsciiLemmas.{All-printable_is_ascii}
use Rattle.ansi_cells.proofs.shown.push_blanks.Goals as goal

pub loop-left-preserved : goal.loop-left-preserved
loop-left-preserved g c =
    let old = string_bytes c.args.out.now in
    let done = c.args.count - c.loop-left.left in
    let more : done + 64 ≡ c.args.count - (c.loop-left.left - 64) = omega arith in
    record {
      within = omega arith;
      written = c.in_ok-push_str.ensures.bytes ∙ ap (λ u. u ++ blanks 64) c.loop-left.invariant.written ∙ append_assoc old (blanks done) (blanks 64)
          ∙ ap (λ u. old ++ u) (replicate-append-replicate done 64 (byte " ") ∙ ap blanks more);
    }

-- blanks are ASCII
pub range-requires-clause-end_boundary : goal.range-requires-clause-end_boundary
range-requires-clause-end_boundary g c = IsCharBoundary-from_ascii (blanks 64) c.loop-left.left (IsAscii-from_all (blanks 64) (All-printable_is_ascii (blanks 64) refl)) (omega arith)

pub returns : goal.returns
returns g c =
    let old = string_bytes c.args.out.now in
    let left = c.loop-left.left in
    let done = c.args.count - left in
    let all : done + left ≡ c.args.count = omega arith in
    let none : left - 0 ≡ left = omega arith in
    let last = c.range.ensures.value ∙ ap (λ n. take n (blanks 64)) none ∙ take-replicate left 64 (byte " ") (omega arith) in
    c.in_ok-push_str-2.ensures.bytes ∙ ap (λ u. u ++ c.range.result.now) c.loop-left.invariant.written ∙ append_assoc old (blanks done) c.range.result.now
    ∙ ap (λ u. old ++ u) (ap (λ u. blanks done ++ u) last ∙ replicate-append-replicate done left (byte " ") ∙ ap blanks all)
