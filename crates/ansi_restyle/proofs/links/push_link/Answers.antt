use Rattle.std.proofs.Common.{◌++◌, List, ℕ, ap, ◌∙◌, codes}
use Rattle.ansi_restyle.specs.Links.{without_links}
use Rattle.ansi_restyle.proofs.LinkRangeLemmas.{five}
use Rattle.ansi_restyle.proofs.links.push_link.Goals as goal

pub returns : goal.returns
returns g c =
    let address = c.args.address.now in
    let bare = without_links c.args.text.now in
    c.in_ok-push_str-4.ensures.bytes
    ∙ ap (λ (u : List ℕ). u ++ codes "\u{1b}]8;;\u{1b}\\")
    (c.in_ok-push_without_links.ensures
    ∙ ap (λ (u : List ℕ). u ++ bare)
    (c.in_ok-push_str-3.ensures.bytes ∙ ap (λ (u : List ℕ). u ++ codes "\u{1b}\\") (c.in_ok-push_str-2.ensures.bytes ∙ ap (λ (u : List ℕ). u ++ address) c.in_ok-push_str.ensures.bytes)))
    ∙ five _ (codes "\u{1b}]8;;") address (codes "\u{1b}\\") bare (codes "\u{1b}]8;;\u{1b}\\")
