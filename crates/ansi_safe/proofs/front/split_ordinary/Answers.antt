use Rattle.std.proofs.Common.{◌≡◌, ◌++◌, take, drop, chars, sym, ◌∙◌, ap, ap₂, subst, take-append-drop}
use Rattle.std.proofs.lemmas.Str.{IsUtf8-take, chars-append}
use Rattle.std.specs.Str.{IsCharBoundary, IsUtf8}
use Rattle.std.specs.List.{list_all, prefix_len}
use Rattle.ansi_items.proofs.SequenceLemmas.{all-run}
use Rattle.ansi_safe.specs.Safe.{is_ordinary_byte}
use Rattle.ansi_safe.proofs.FrontLemmas.{boundary-ordinary}
use Rattle.ansi_safe.proofs.front.split_ordinary.Goals as goal

pub split_at-requires : goal.split_at-requires
split_at-requires c =
    let test = is_ordinary_byte c.args.white in
    let len : c.ordinary_len.result ≡ prefix_len test c.args.text.now = c.ordinary_len.ensures ∙ ap (prefix_len test) c.as_bytes.ensures.value in
    subst (IsCharBoundary c.args.text.now) (sym len) (boundary-ordinary c.args.white c.args.text.now c.utf8.text)

pub returns-clause-chars : goal.returns-clause-chars
returns-clause-chars c =
    let test = is_ordinary_byte c.args.white in
    let t = c.args.text.now in
    let len : c.ordinary_len.result ≡ prefix_len test t = c.ordinary_len.ensures ∙ ap (prefix_len test) c.as_bytes.ensures.value in
    let cut = subst (IsCharBoundary t) (sym len) (boundary-ordinary c.args.white t c.utf8.text) in
    ap chars (sym (take-append-drop c.ordinary_len.result t))
    ∙ chars-append (take c.ordinary_len.result t) (drop c.ordinary_len.result t) (IsUtf8-take t c.ordinary_len.result c.utf8.text cut)
    ∙ ap₂ (λ u v. chars u ++ chars v) (sym c.split_at.ensures.front) (sym c.split_at.ensures.back)

pub returns-clause-ordinary : goal.returns-clause-ordinary
returns-clause-ordinary c =
    let test = is_ordinary_byte c.args.white in
    let len : c.ordinary_len.result ≡ prefix_len test c.args.text.now = c.ordinary_len.ensures ∙ ap (prefix_len test) c.as_bytes.ensures.value in
    ap (list_all test) (c.split_at.ensures.front ∙ ap (λ n. take n c.args.text.now) len) ∙ all-run test c.args.text.now

pub returns-clause-utf8 : goal.returns-clause-utf8
returns-clause-utf8 c =
    let test = is_ordinary_byte c.args.white in
    let t = c.args.text.now in
    let len : c.ordinary_len.result ≡ prefix_len test t = c.ordinary_len.ensures ∙ ap (prefix_len test) c.as_bytes.ensures.value in
    let cut = subst (IsCharBoundary t) (sym len) (boundary-ordinary c.args.white t c.utf8.text) in
    subst IsUtf8 (sym c.split_at.ensures.front) (IsUtf8-take t c.ordinary_len.result c.utf8.text cut)
