use Rattle.std.proofs.Common.{refl, arith, subst}
use Rattle.std.specs.Str.{IsUtf8}
use Rattle.ansi_style.specs.States.{rendition_of}
use Rattle.ansi_split.proofs.RestLemmas.{boundary-drop, no_escape-drop, match_boundary_in_run}
use Rattle.ansi_restyle.specs.Rests.{IsNextPlace}
use Rattle.ansi_restyle.proofs.UnmarkedLemmas.{next-seen, match_in_run, at_match_in_run}
use Rattle.ansi_restyle.proofs.unmarked.Unmarked.cut.Goals as goal

-- the bytes occur next there

pub cut_from-requires-clause-near : goal.cut_from-requires-clause-near
cut_from-requires-clause-near c =
    let s = c.args.self.now in
    let next : IsNextPlace s.rest.text.now s.pat.now s.seen c.place_from-near.result = rw (c.as_bytes.ensures.value, c.requires.finder) at c.place_from-near.ensures.next in
    next-seen s.rest.text.now s.pat.now s.seen c.place_from-near.result s.is_seen next

-- the match begins in the run

pub split_at-requires : goal.split_at-requires
split_at-requires c =
    let s = c.args.self.now in
    let t = s.rest.text.now in
    let p = s.pat.now in
    let near = c.place_from-near.result in
    let next : IsNextPlace t p s.seen near = rw (c.as_bytes.ensures.value, c.requires.finder) at c.place_from-near.ensures.next in
    let found = match_in_run t p s.rest.run_len near (subst IsUtf8 c.as_bytes-pattern.ensures.value c.as_bytes-pattern.ensures.utf8) c.requires.some s.rest.run_ends.0 s.rest.run_is_plain (next-seen t p s.seen near s.is_seen next) c.if-near-run_len.true
    (omega (arith, c.as_bytes-pattern.ensures.len, c.if-pattern-run_len.true)) in
    match_boundary_in_run t p 0 s.rest.run_len near s.rest.run_ends.0 s.rest.run_is_plain c.if-near-run_len.true found

pub invariant_of-new : goal.invariant_of-new
invariant_of-new c =
    let s = c.args.self.now in
    let near = c.place_from-near.result in
    rw c.split_at.ensures.back (record {
      run_ends = boundary-drop s.rest.text.now near s.rest.run_len (omega (arith, c.if-near-run_len.true)) s.rest.run_ends;
      run_is_plain = no_escape-drop s.rest.text.now near s.rest.run_len s.rest.run_is_plain;
    })

pub returns-then-pattern-run_len : goal.returns-then-pattern-run_len
returns-then-pattern-run_len c =
    let s = c.args.self.now in
    let t = s.rest.text.now in
    let p = s.pat.now in
    let near = c.place_from-near.result in
    let next : IsNextPlace t p s.seen near = rw (c.as_bytes.ensures.value, c.requires.finder) at c.place_from-near.ensures.next in
    let found = match_in_run t p s.rest.run_len near (subst IsUtf8 c.as_bytes-pattern.ensures.value c.as_bytes-pattern.ensures.utf8) c.requires.some s.rest.run_ends.0 s.rest.run_is_plain (next-seen t p s.seen near s.is_seen next) c.if-near-run_len.true
    (omega (arith, c.as_bytes-pattern.ensures.len, c.if-pattern-run_len.true)) in
    (c.new-rest.ensures.pat, rw (c.new-rest.ensures.text, c.split_at.ensures.front, c.split_at.ensures.back) (at_match_in_run (rendition_of c.args.style.now) t p s.rest.run_len near s.rest.run_ends.0 s.rest.run_is_plain c.if-near-run_len.true found))
