use Rattle.std.proofs.Common.{◌≡◌, ℕ, ◌-◌, Bool, true, List, chars, take, drop, length, min, slice_range, sym, ◌∙◌, ap, ap₂, subst, arith}
use Rattle.std.proofs.Math.Seq.{drop-length}
use Rattle.std.proofs.lemmas.Bool.{eq-eqb}
use Rattle.std.proofs.lemmas.List.{take_rest}
use Rattle.std.proofs.lemmas.Str.{chars-nil}
use Rattle.std.specs.List.{prefix_len}
use Rattle.std.specs.Str.{IsCharBoundary}
use Rattle.ansi_safe.specs.Safe.{is_ordinary_byte, all_allowed}
use Rattle.ansi_safe.proofs.AllowedLemmas.{allowed_after_front}
use Rattle.ansi_safe.proofs.FrontLemmas.{boundary-ordinary, prefix_len-take}
use Rattle.ansi_safe.proofs.allowed.run_is_allowed.Goals as goal

abbrev is_ordinary : ℕ → Bool
is_ordinary = is_ordinary_byte true

-- what is ordinary of the text from the run on, and of the run
ordinary-len : (t run u : List ℕ) (s e front n : ℕ) → run ≡ slice_range t s e → length run ≡ e - s → u ≡ t → front ≡ prefix_len is_ordinary (take (length u - s) (drop s u)) → n ≡ min front (length run) → n ≡ prefix_len is_ordinary run
ordinary-len t run u s e front n run_is len u_is front_is n_is =
    n_is ∙ ap₂ min (front_is ∙ ap (prefix_len is_ordinary) (take_rest u s) ∙ ap (λ v. prefix_len is_ordinary (drop s v)) u_is) len ∙ sym (prefix_len-take is_ordinary (e - s) (drop s t)) ∙ ap (prefix_len is_ordinary) (sym run_is)

pub range_from-requires : goal.range_from-requires
range_from-requires c =
    let run = c.range-run.result.now in
    let len : c.min-ordinary.result ≡ prefix_len is_ordinary run = ordinary-len c.args.text.now run c.as_bytes.result.now c.args.start c.args.end c.front_len.result c.min-ordinary.result c.range-run.ensures.value (omega (arith, c.range-run.ensures.len)) c.as_bytes.ensures.value c.front_len.ensures c.min-ordinary.ensures in
    λ _. subst (IsCharBoundary run) (sym len) (boundary-ordinary true run c.range-run.utf8)

pub returns-then-ordinary-run : goal.returns-then-ordinary-run
returns-then-ordinary-run c =
    let run = c.range-run.result.now in
    let len : c.min-ordinary.result ≡ prefix_len is_ordinary run = ordinary-len c.args.text.now run c.as_bytes.result.now c.args.start c.args.end c.front_len.result c.min-ordinary.result c.range-run.ensures.value (omega (arith, c.range-run.ensures.len)) c.as_bytes.ensures.value c.front_len.ensures c.min-ordinary.ensures in
    let all : all_allowed (chars run) ≡ true = allowed_after_front run c.range-run.utf8 ∙ ap (λ n. all_allowed (chars (drop n run))) (sym len ∙ c.if-ordinary-run.true)
    ∙ ap (λ u. all_allowed (chars u)) (drop-length run) ∙ ap all_allowed chars-nil in
    eq-eqb _ _ c.if-ordinary-run.true ∙ sym (ap (λ u. all_allowed (chars u)) (sym c.range-run.ensures.value) ∙ all)

pub returns-else-ordinary-run : goal.returns-else-ordinary-run
returns-else-ordinary-run c =
    let run = c.range-run.result.now in
    let len : c.min-ordinary.result ≡ prefix_len is_ordinary run = ordinary-len c.args.text.now run c.as_bytes.result.now c.args.start c.args.end c.front_len.result c.min-ordinary.result c.range-run.ensures.value (omega (arith, c.range-run.ensures.len)) c.as_bytes.ensures.value c.front_len.ensures c.min-ordinary.ensures in
    c.rest_is_allowed.ensures ∙ ap (λ u. all_allowed (chars u)) c.range_from.ensures.value ∙ ap (λ n. all_allowed (chars (drop n run))) len
    ∙ sym (allowed_after_front run c.range-run.utf8) ∙ ap (λ u. all_allowed (chars u)) c.range-run.ensures.value
