use Rattle.std.proofs.Common.{slice_index, sym, ◌∙◌, ap, arith}
use Rattle.ansi_clusters.specs.Walks.{is_seen_ascii}
use Rattle.ansi_clusters.proofs.PrintableLemmas.{ends-byte, ends-end}
use Rattle.ansi_clusters.proofs.walks.Walk.ends_ascii.Goals as goal

pub returns-then-text-self : goal.returns-then-text-self
returns-then-text-self c _ view is before b first = ends-end view c.args.text.now c.utf8.text c.args.self is (omega (arith, c.if-text-self.true)) before b

pub returns-then-is_seen_ascii : goal.returns-then-is_seen_ascii
returns-then-is_seen_ascii c _ view is before b first =
    let w = c.args.self in
    let byte = ap (λ t. is_seen_ascii (slice_index t w.offset)) (sym c.as_bytes.ensures.value) ∙ sym c.is_seen_ascii.ensures ∙ c.if-is_seen_ascii.true in
    ends-byte view c.args.text.now c.utf8.text w is (omega (arith, c.if-text-self.false)) byte before b first
