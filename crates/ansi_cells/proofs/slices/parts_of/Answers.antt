use Rattle.std.proofs.Common.{refl, ◌≡◌, ◌+◌, ◌-◌, ◌<◌, not, take, nat_le, sym, ◌∙◌, ap, arith}
use Rattle.std.proofs.lemmas.Bool.{or_right}
use Rattle.std.proofs.lemmas.Str.{IsCharBoundary-start}
use Rattle.ansi_items.specs.Plain.{plain, marks}
use Rattle.ansi_style.specs.Styled.{style_after}
use Rattle.ansi_safe.specs.Links.{link_of}
use Rattle.ansi_clusters.specs.Columns.{columns}
use Rattle.ansi_cells.proofs.EdgeLemmas.{column-before}
use Rattle.ansi_cells.proofs.SliceLemmas.{first-none, from-ordered, from-boundary, are_parts}
use Rattle.ansi_cells.proofs.slices.parts_of.Goals as goal

-- the text has no column at the first edge
pub returns-then-has_none_before : goal.returns-then-has_none_before
returns-then-has_none_before c =
    let x = plain c.args.text.now in
    let some : 0 < c.edge_after-first.result.before + (c.args.end - c.args.start) = omega (arith, c.if-end-start.false) in
    or_right (nat_le c.args.end c.args.start) (nat_le (columns x) c.args.start)
    (first-none c.args.text.now c.args.start c.args.end c.start.result.position c.edge_after-first.result c.start.ensures.position c.edge_after-first.ensures (column-before c.edge_after-last.ensures some ∙ ap not (sym c.has_none_before.ensures ∙ c.if-has_none_before.true)))

pub range-requires-clause-end_boundary : goal.range-requires-clause-end_boundary
range-requires-clause-end_boundary c =
    from-boundary c.args.text.now c.args.start c.args.end c.start.result.position c.edge_after-first.result c.edge_after-last.result c.start.ensures.position c.edge_after-first.ensures c.edge_after-last.ensures c.if-end-start.false
    c.opened_from-from.result c.closed_at-to.result.0 c.opened_from-from.ensures (ap (λ e. e.0) c.closed_at-to.ensures) (IsCharBoundary-start c.args.text.now c.utf8.text)

pub range-text-requires-clause-start_le_end : goal.range-text-requires-clause-start_le_end
range-text-requires-clause-start_le_end c =
    from-ordered c.args.text.now c.args.start c.args.end c.start.result.position c.edge_after-first.result c.edge_after-last.result c.start.ensures.position c.edge_after-first.ensures c.edge_after-last.ensures c.if-end-start.false
    c.opened_from-from.result c.closed_at-to.result.0 c.opened_from-from.ensures (ap (λ e. e.0) c.closed_at-to.ensures)

pub returns : goal.returns
returns c =
    let t = c.args.text.now in
    let from = c.opened_from-from.result in
    let count : from - 0 ≡ from = omega arith in
    let some : 0 < c.edge_after-first.result.before + (c.args.end - c.args.start) = omega (arith, c.if-end-start.false) in
    let front : c.range.result.now ≡ take from t = c.range.ensures.value ∙ ap (λ n. take n t) count in
    are_parts t c.args.start c.args.end c.start.result.position c.edge_after-first.result c.edge_after-last.result c.start.ensures.position c.edge_after-first.ensures c.edge_after-last.ensures c.if-end-start.false
    from c.closed_at-to.result.0 c.opened_from-from.ensures (ap (λ e. e.0) c.closed_at-to.ensures) _ c.utf8.text (column-before c.edge_after-last.ensures some ∙ ap not (sym c.has_none_before.ensures ∙ c.if-has_none_before.false)) c.range-text.ensures.value
    (c.pen_after-opened.ensures.style ∙ ap style_after front) (c.pen_after-opened.ensures.link ∙ ap (λ u. link_of (marks u)) front)
    c.pen_after_from.ensures.style c.pen_after_from.ensures.link c.min.ensures refl (ap (λ e. e.1) c.closed_at-to.ensures)
