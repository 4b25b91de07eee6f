-- What stages of a job make of a text in turn.
use Rattle.std.proofs.Common.{◌≡◌, ◌<◌, ◌≤◌, List, [], ◌∷◌, ◌++◌, ℕ, ◌-◌, map, flat_map, fold, length, take, drop, get_or, refl, sym, ◌∙◌, ap, ap₂, append-nil, append_assoc, arith, string_bytes}
use Rattle.std.specs.List.{join_by}
use Rattle.std.specs.Prelude.{String}
use Rattle.std.proofs.lemmas.Grind.{flat_map-append}
use Rattle.std.proofs.lemmas.List.{map-append, take_all}
use Rattle.ansi_columns.specs.declared.edits.ColumnEdit.{ColumnEdit}
use Rattle.ansi_columns.specs.Edits as columns
use Rattle.ansi_cells.specs.Indents.{wrapped_with}
use Rattle.ansi_cells.specs.Wrapped.{CarriedPart, wrapped}
use Rattle.ansi_cells.proofs.IndentLemmas.{wrapped_with-bytes}
use Rattle.ansi_lines_runs.specs.Runs.{words_of}
use Rattle.ansi_view_runs.specs.declared.edits.Stage.{Stage}
use Rattle.ansi_view_runs.specs.Edits.{Change, OnColumns, Wrapped, changed, changed_in_turn}
use Rattle.ansi_view_runs.specs.SafeJobs.{on_columns, changes_then}
use Rattle.ansi_view_runs.specs.Views.{line_break, changed_line}

-- edits by columns make one text, and what follows is made of that
turn-columns : (edits : List ColumnEdit) (more : List Change) (t : List ℕ) → changed_in_turn (on_columns edits ++ more) t ≡ changed_in_turn more (columns.changed_in_turn (columns.changes_of edits) t)
turn-columns [] more t = refl
turn-columns (e ∷ edits) more t = turn-columns edits more (columns.changed (columns.change_of e) t)

turn-last : (edits : List ColumnEdit) (t : List ℕ) → changed_in_turn (on_columns edits) t ≡ columns.changed_in_turn (columns.changes_of edits) t ∷ []
turn-last edits t = ap (λ cs. changed_in_turn cs t) (sym (append-nil (on_columns edits))) ∙ turn-columns edits [] t

-- changes are made of each text by itself

abbrev in_turn : List Change → List (List ℕ) → List (List ℕ)
in_turn changes ts = fold (λ us change. flat_map (changed change) us) ts changes

turn-append : (changes : List Change) (ts us : List (List ℕ)) → in_turn changes (ts ++ us) ≡ in_turn changes ts ++ in_turn changes us
turn-append [] ts us = refl
turn-append (change ∷ changes) ts us = ap (in_turn changes) (flat_map-append (changed change) ts us) ∙ turn-append changes (flat_map (changed change) ts) (flat_map (changed change) us)

turn-none : (changes : List Change) → in_turn changes [] ≡ []
turn-none [] = refl
turn-none (change ∷ changes) = turn-none changes

turn-each : (changes : List Change) (ts : List (List ℕ)) → in_turn changes ts ≡ flat_map (changed_in_turn changes) ts
turn-each changes [] = turn-none changes
turn-each changes (t ∷ ts) = turn-append changes (t ∷ []) ts ∙ ap (λ us. changed_in_turn changes t ++ us) (turn-each changes ts)

-- so a stage makes lines, and what follows is made of each

turn-lines : (edits : List ColumnEdit) (width : ℕ) (t : List ℕ)
    → changed_in_turn (on_columns edits ++ Wrapped width ∷ []) t ≡ map (λ (l : CarriedPart). l.bytes) (wrapped_with (columns.changed_in_turn (columns.changes_of edits) t) width [] [])
turn-lines edits width t =
    let u = columns.changed_in_turn (columns.changes_of edits) t in
    turn-columns edits (Wrapped width ∷ []) t ∙ append-nil (map (λ (l : CarriedPart). l.bytes) (wrapped u width)) ∙ sym (wrapped_with-bytes u width)

turn-stage : (edits : List ColumnEdit) (width : ℕ) (more : List Change) (t : List ℕ)
    → changed_in_turn (on_columns edits ++ Wrapped width ∷ more) t ≡ flat_map (changed_in_turn more) (map (λ (l : CarriedPart). l.bytes) (wrapped_with (columns.changed_in_turn (columns.changes_of edits) t) width [] []))
turn-stage edits width more t =
    turn-columns edits (Wrapped width ∷ more) t ∙ ap (in_turn more) (sym (turn-columns edits (Wrapped width ∷ []) t) ∙ turn-lines edits width t) ∙ turn-each more _

-- as the code calls it: these are the lines of a stage
pub stage-lines : (given edits : List ColumnEdit) (w width : ℕ) (first later t : List ℕ) (lines : List CarriedPart) → given ≡ edits → w ≡ width → first ≡ [] → later ≡ []
    → map (λ (l : CarriedPart). l.bytes) lines ≡ map (λ (l : CarriedPart). l.bytes) (wrapped_with (columns.changed_in_turn (columns.changes_of given) t) w first later)
    → map (λ (l : CarriedPart). l.bytes) lines ≡ changed_in_turn (on_columns edits ++ Wrapped width ∷ []) t
stage-lines given edits w width first later t lines same_edits same_width none no_more are =
    are ∙ ap (λ es. map (λ (l : CarriedPart). l.bytes) (wrapped_with (columns.changed_in_turn (columns.changes_of es) t) w first later)) same_edits
    ∙ ap (λ n. map (λ (l : CarriedPart). l.bytes) (wrapped_with (columns.changed_in_turn (columns.changes_of edits) t) n first later)) same_width
    ∙ ap₂ (λ f l. map (λ (l : CarriedPart). l.bytes) (wrapped_with (columns.changed_in_turn (columns.changes_of edits) t) width f l)) none no_more
    ∙ sym (turn-lines edits width t)

module _ {A : Type 0} where
  -- before the first of these lines, what follows is made of all of them
  pub stage-begun : (stages more : List (Stage A)) (stage : Stage A) (last : List ColumnEdit) (t : List ℕ) (made : List (List ℕ)) (lines : List CarriedPart)
      → stages ≡ stage ∷ more → map (λ (l : CarriedPart). l.bytes) lines ≡ changed_in_turn (on_columns stage.edits.items ++ Wrapped stage.width ∷ []) t
      → made ++ flat_map (changed_in_turn (changes_then more last)) (map (λ (l : CarriedPart). l.bytes) lines) ≡ made ++ changed_in_turn (changes_then stages last) t
  stage-begun stages more stage last t made lines split are =
      let edits = stage.edits.items in
      ap (λ ts. made ++ flat_map (changed_in_turn (changes_then more last)) ts) (are ∙ turn-lines edits stage.width t)
      ∙ ap (λ ts. made ++ ts) (sym (turn-stage edits stage.width (changes_then more last) t))
      ∙ ap (λ ss. made ++ changed_in_turn (changes_then ss last) t) (sym split)

  -- the first stage and the others, as the code splits them
  pub first_stage : (stages : List (Stage A)) (stage : Stage A) → 1 ≤ length stages → stage ≡ get_or stages 0 stage → stages ≡ stage ∷ take (length stages - 1) (drop 1 stages)
  first_stage [] stage some is = absurd (omega (arith, some))
  first_stage (next ∷ more) stage some is = ap₂ (λ s ss. s ∷ ss) (sym is) (sym (take_all (length (next ∷ more) - 1) more (omega arith)))

  -- after the last stage
  pub last-pushed : {Y : Type 0} (stages : List (Stage A)) (last : List ColumnEdit) (t : List ℕ) (made after : List (String Y)) (text : String Y) → length stages < 1 → after ≡ made ++ text ∷ []
      → string_bytes text ≡ columns.changed_in_turn (columns.changes_of last) t → words_of after ≡ words_of made ++ changed_in_turn (changes_then stages last) t
  last-pushed [] last t made after text none is bytes =
      ap words_of is ∙ map-append string_bytes made (text ∷ []) ∙ ap (λ u. words_of made ++ u ∷ []) bytes ∙ ap (λ us. words_of made ++ us) (sym (turn-last last t))
  last-pushed (stage ∷ stages) last t made after text none is bytes = absurd (omega (arith, none))

  -- and so is a line without a stage
  pub last-line : (stages : List (Stage A)) (given last : List ColumnEdit) (t u end : List ℕ) → stages ≡ [] → given ≡ last → u ≡ columns.changed_in_turn (columns.changes_of given) t
      → u ++ end ≡ changed_line (changes_then stages last) t end
  last-line stages given last t u end none same is =
      ap (λ v. v ++ end) (is ∙ ap (λ es. columns.changed_in_turn (columns.changes_of es) t) same ∙ sym (append-nil (columns.changed_in_turn (columns.changes_of last) t)))
      ∙ ap (λ ts. join_by (λ t. t) (line_break end) ts ++ end) (sym (turn-last last t))
      ∙ ap (λ ss. changed_line (changes_then ss last) t end) (sym none)

-- ---- one more edit, or one more stage

module _ {A : Type 0} where
  pub then-edit : (stages : List (Stage A)) (edits : List ColumnEdit) (e : ColumnEdit) → changes_then stages (edits ++ e ∷ []) ≡ changes_then stages edits ++ OnColumns (columns.change_of e) ∷ []
  then-edit [] edits e = map-append (λ e. OnColumns (columns.change_of e)) edits (e ∷ [])
  then-edit (stage ∷ stages) edits e =
      let here = on_columns stage.edits.items in
      ap (λ cs. here ++ Wrapped stage.width ∷ cs) (then-edit stages edits e) ∙ sym (append_assoc here (Wrapped stage.width ∷ changes_then stages edits) (OnColumns (columns.change_of e) ∷ []))

  pub then-stage : (stages : List (Stage A)) (last : Stage A) → changes_then (stages ++ last ∷ []) [] ≡ changes_then stages last.edits.items ++ Wrapped last.width ∷ []
  then-stage [] last = refl
  then-stage (stage ∷ stages) last =
      let here = on_columns stage.edits.items in
      ap (λ cs. here ++ Wrapped stage.width ∷ cs) (then-stage stages last) ∙ sym (append_assoc here (Wrapped stage.width ∷ changes_then stages last.edits.items) (Wrapped last.width ∷ []))
