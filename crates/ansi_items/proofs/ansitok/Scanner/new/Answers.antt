use Rattle.ansi_items.proofs.Common.{subst, IsCharBoundary-start, IsScanning}
use Rattle.ansi_items.proofs.EscapeLemmas.{scanning_start}
use Rattle.ansi_items.proofs.PieceLemmas.{are_pieces}
use Rattle.ansi_items.proofs.ansitok.Scanner.new.Goals as goal

-- the front of a text is a character boundary, and a search looked at it up to the first ESC
pub invariant_of-result : goal.invariant_of-result
invariant_of-result c =
    let found = c.next_escape-escape.ensures in
    subst (λ v. IsScanning v 0 c.next_escape-escape.result c.next_escape-escape.new.self.count) c.as_bytes.ensures.value
    (scanning_start c.as_bytes.result.now _ _ (IsCharBoundary-start c.as_bytes.result.now c.as_bytes.ensures.utf8) found.place found.looks)

pub returns-clause-pieces : goal.returns-clause-pieces
returns-clause-pieces c = are_pieces c.args.text.now
