use Rattle.std.proofs.Common.{length, refl, sym, ◌∙◌, ap, subst, string_bytes}
use Rattle.ansi_items.specs.Plain.{plain}
use Rattle.ansi_style.specs.States.{rendition_of}
use Rattle.ansi_search.specs.Positions.{no_character_goes_on}
use Rattle.ansi_search.specs.Matches.{first_match_from}
use Rattle.ansi_restyle.specs.Rests.{IsAtMatch}
use Rattle.ansi_restyle.proofs.MarkLemmas.{at_match_end, at_match_less, at_match_step, marked-begin, marked-end}
use Rattle.ansi_restyle.proofs.restyle.push_marked.Goals as goal

-- the first match

pub push_match-requires-clause-end : goal.push_match-requires-clause-end
push_match-requires-clause-end g c =
    at_match_end (marked-begin (string_bytes c.args.out.now) c.args.change.now c.args.text.now c.args.first.rest.pat.now c.utf8.text) c.requires.first c.requires.utf8

pub matches-init : goal.matches-init
matches-init g c =
    let step = at_match_step (marked-begin (string_bytes c.args.out.now) c.args.change.now c.args.text.now c.args.first.rest.pat.now c.utf8.text) c.requires.first c.requires.pat c.requires.utf8
    c.in_ok-push_str.ensures.bytes c.in_ok-left.ensures.bytes c.in_ok-left.ensures.style c.in_ok-left.ensures.left.1 in
    record { pat = c.in_ok-left.ensures.left.0; way = record { so_far = refl; utf8 = step.utf8; is_next = refl } }

-- each later one

pub push_match-requires-in-Some-clause-end : goal.push_match-requires-in-Some-clause-end
push_match-requires-in-Some-clause-end g c =
    let r = c.in-Some.at.rest in
    let is = c.matches.invariant.pat in
    let at = subst (λ p. IsAtMatch c.matches.left.rest.text.now p c.in-Some.at.front.now r.rest.text.now (rendition_of c.matches.style) (rendition_of c.cut.new.style)) is c.in-Some.ensures.1 in
    ap (λ p. no_character_goes_on (plain r.rest.text.now) (length p)) (c.in-Some.ensures.0 ∙ is) ∙ at_match_end c.matches.invariant.way at c.requires.utf8

pub matches-smaller : goal.matches-smaller
matches-smaller g c =
    let r = c.in-Some.at.rest in
    let is = c.matches.invariant.pat in
    let at = subst (λ p. IsAtMatch c.matches.left.rest.text.now p c.in-Some.at.front.now r.rest.text.now (rendition_of c.matches.style) (rendition_of c.cut.new.style)) is c.in-Some.ensures.1 in
    let same = c.in-Some.ensures.0 ∙ is in
    at_match_less c.matches.invariant.way at c.requires.pat (rw same at c.in_ok-left-2.ensures.left.1)

pub matches-preserved : goal.matches-preserved
matches-preserved g c =
    let r = c.in-Some.at.rest in
    let is = c.matches.invariant.pat in
    let at = subst (λ p. IsAtMatch c.matches.left.rest.text.now p c.in-Some.at.front.now r.rest.text.now (rendition_of c.matches.style) (rendition_of c.cut.new.style)) is c.in-Some.ensures.1 in
    let same = c.in-Some.ensures.0 ∙ is in
    record {
      pat = c.in_ok-left-2.ensures.left.0 ∙ same;
      way = at_match_step c.matches.invariant.way at c.requires.pat c.requires.utf8 c.in_ok-push_str-2.ensures.bytes
          (rw same at c.in_ok-left-2.ensures.bytes) (rw same at c.in_ok-left-2.ensures.style) (rw same at c.in_ok-left-2.ensures.left.1);
    }

-- no match is left
pub returns : goal.returns
returns g c =
    let step = at_match_step (marked-begin (string_bytes c.args.out.now) c.args.change.now c.args.text.now c.args.first.rest.pat.now c.utf8.text) c.requires.first c.requires.pat c.requires.utf8
    c.in_ok-push_str.ensures.bytes c.in_ok-left.ensures.bytes c.in_ok-left.ensures.style c.in_ok-left.ensures.left.1 in
    let none = ap (λ p. first_match_from (plain c.matches.left.rest.text.now) p 0) (sym c.matches.invariant.pat) ∙ c.in_default.ensures in
    marked-end c.matches.invariant.way none c.in_ok-push_str-3.ensures.bytes ∙ step.so_far
