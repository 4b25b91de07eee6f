use Rattle.std.proofs.Common.{◌≡◌, ◌-◌, inl, inr, true, length, take, sym, ◌∙◌, ap, subst, arith}
use Rattle.std.proofs.lemmas.Bool.{cases_lt}
use Rattle.std.specs.Str.{IsCharBoundary}
use Rattle.std.specs.List.{list_all}
use Rattle.ansi_items.specs.Bytes.{is_plain_byte}
use Rattle.ansi_items.specs.Counts.{before_escape}
use Rattle.ansi_items.proofs.EscapeLemmas.{escape_found}
use Rattle.ansi_clusters.proofs.NearLemmas.{near-boundary, near-bytes, near-none}
use Rattle.ansi_clusters.proofs.walks.near_run_len.Goals as goal

pub returns : goal.returns
returns c =
    let t = c.args.text.now in
    let n = c.ceil_char_boundary.result in
    let part = c.ceil_char_boundary.ensures in
    let count : n - 0 ≡ n = omega arith in
    let near : c.range-near.result.now ≡ take n t = c.range-near.ensures.value ∙ ap (λ m. take m t) count in
    let found : c.unwrap_or.result ≡ before_escape (take n t)
    = c.unwrap_or.ensures ∙ rw (← near) (rw (← c.as_bytes.ensures.value) (escape_found _ c.memchr.result c.memchr.ensures)) in
    record {
      boundary = subst (IsCharBoundary t) (sym found) (near-boundary t n part.boundary);
      bytes = subst (λ m. list_all is_plain_byte (take m t) ≡ true) (sym found) (near-bytes t n part.boundary);
      none = λ e. near-none t n (λ some. elim (cases_lt (length t) 512) [
        | inl short ↦ omega (arith, some, part.beyond short)
        | inr long ↦ omega (arith, part.bound long)
      ]) (sym found ∙ e);
    }
