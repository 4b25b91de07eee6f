use Rattle.ansi_slice.proofs.Common.{◌++◌, ◌∙◌, sym, ap₂, arith, append_assoc, string_bytes, plain, length-plain, kept}
use Rattle.ansi_search.proofs.PositionLemmas.{no_character_goes_on-past}
use Rattle.ansi_slice.proofs.StretchLemmas.{kept-none}
use Rattle.ansi_slice.proofs.slice.kept.push_up_to.Goals as goal

-- the largest position lies past the end of each text
pub push_sequences-requires : goal.push_sequences-requires
push_sequences-requires g c = no_character_goes_on-past (plain c.split_at.result.1.now) _ (omega (arith, length-plain c.split_at.result.1.now))

-- all sequences of what follows
pub returns : goal.returns
returns g c =
    let old = string_bytes c.args.out.now in
    let front = c.split_at.result.0.now in
    let rest = c.split_at.result.1.now in
    c.in_ok-push_sequences.ensures.bytes
    ∙ ap₂ (λ u v. u ++ v) c.in_ok-push_str.ensures.bytes (sym (kept-none rest _ (omega arith)))
    ∙ append_assoc old front (kept rest 0 0)
    ∙ ap₂ (λ u v. old ++ (u ++ kept v 0 0)) c.split_at.ensures.front c.split_at.ensures.back
