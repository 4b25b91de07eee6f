-- What a sink has taken so far, and what is still to come.
use Rattle.std.proofs.Common.{◌≡◌, ◌≤◌, ◌<◌, List, [], ◌++◌, ℕ, length, Option, refl, sym, ap, ◌∙◌, append_assoc, append-nil}
use Rattle.std.specs.Io.KnownBytes.{append_known}
use Rattle.ansi_io.proofs.Known.{append_known-nil, append_known-twice}
use Rattle.ansi_view_runs.specs.Lines.{Line, HasNoLineFeed, max_piece, lines}
use Rattle.ansi_view_runs.specs.LineViews.{BeginsWithLine}
use Rattle.ansi_view_runs.specs.Views.{Work, opening_after, viewed, viewed_all}
use Rattle.ansi_view_runs.specs.Runs.{to_come, Shows, ShowsBeginning}
use Rattle.ansi_view_runs.proofs.LineLemmas.{lines-none, only_line}

-- at the start all is still to come
pub Shows-start : (before : List ℕ → List ℕ) (old : Option (List ℕ)) → Shows before before old old
Shows-start before old = record { part = []; taken = sym (append_known-nil old); whole = λ more. refl }

-- one more write
pub Shows-more : {before now after : List ℕ → List ℕ} {old mid : Option (List ℕ)} (new : Option (List ℕ)) (front : List ℕ)
    → Shows before now old mid → new ≡ append_known mid front → ((more : List ℕ) → now more ≡ front ++ after more) → Shows before after old new
Shows-more {before} {now} {after} {old} {mid} new front so_far wrote goes_on = record {
  part = so_far.part ++ front;
  taken = append_known-twice old so_far.part front so_far.taken wrote;
  whole = λ more. so_far.whole more ∙ ap (λ xs. so_far.part ++ xs) (goes_on more) ∙ sym (append_assoc so_far.part front (after more));
}

-- one more stretch
pub Shows-then : {before now after : List ℕ → List ℕ} {old mid new : Option (List ℕ)} → Shows before now old mid → Shows now after mid new → Shows before after old new
Shows-then {before} {now} {after} {old} {mid} {new} first next = Shows-more new next.part first next.taken next.whole

-- what is to come of bytes that begin with a line
pub to_come-line : (work : Work) (opening opening_then b rest : List ℕ) (line : Line) → BeginsWithLine b line rest → opening_then ≡ opening_after work.view opening line
    → (more : List ℕ) → to_come work opening b more ≡ viewed work opening line ++ to_come work opening_then rest more
unfolding viewed_all
to_come-line work opening opening_then b rest line begins then more =
    ap (viewed_all work opening) (begins more) ∙ ap (λ o. viewed work opening line ++ to_come work o rest more) (sym then)

-- nothing comes of no bytes
pub to_come-nothing : (work : Work) (opening : List ℕ) → to_come work opening [] [] ≡ []
unfolding viewed_all
to_come-nothing work opening = ap (viewed_all work opening) lines-none

-- the last line comes of bytes without a line feed
pub to_come-last : (work : Work) (opening b : List ℕ) → 0 < length b → HasNoLineFeed b → length b ≤ max_piece → to_come work opening b [] ≡ viewed work opening (record { text = b; end = [] })
unfolding viewed_all
to_come-last work opening b some none fits =
    ap (λ t. viewed_all work opening (lines t)) (append-nil b) ∙ ap (viewed_all work opening) (only_line b some none fits) ∙ append-nil (viewed work opening (record { text = b; end = [] }))

-- no bytes are a beginning
pub nothing_shown : (before : List ℕ → List ℕ) (old : Option (List ℕ)) → ShowsBeginning before old old
nothing_shown before old = record { after = before; shows = Shows-start before old }
