-- What a run writes of its input, so far and to the end.
use Rattle.std.specs.Prelude.{◌≡◌, ◌≤◌, ◌⊎◌, ℕ, ◌+◌, List, [], ◌++◌, Bool, true, Option, Some, None, Result, OnOk, IfErr, ⊤}
use Rattle.std.specs.Io.KnownBytes.{append_known, prepend_known}
use Rattle.ansi_view_runs.specs.declared.stop.Stop.{Stop}
use Rattle.ansi_view_runs.specs.declared.stop.Stop.TheVariants.{Closed, ReadFailed, WriteFailed, OutOfMemory}
use Rattle.ansi_io.specs.Devices.{count_after}
use Rattle.ansi_lines_runs.specs.Lines.{WritesBeginning}
use Rattle.ansi_view_runs.specs.Lines.{lines}
use Rattle.ansi_view_runs.specs.Views.{Work, viewed_all, view_of}

-- what an input becomes that begins with these bytes, with this open before them, whatever follows
abbrev pub to_come : Work → List ℕ → List ℕ → List ℕ → List ℕ
to_come work opening bytes more = viewed_all work opening (lines (bytes ++ more))

-- the bytes taken since, and then what is still to come, are all that was to come before, whatever follows
pub record Shows (before after : List ℕ → List ℕ) (old new : Option (List ℕ)) : Type 0 where
  pub part : List ℕ
  pub taken : new ≡ append_known old part
  pub whole : (more : List ℕ) → before more ≡ part ++ after more

-- the bytes taken since are a beginning of what was to come
pub record ShowsBeginning (before : List ℕ → List ℕ) (old new : Option (List ℕ)) : Type 0 where
  pub after : List ℕ → List ℕ
  pub shows : Shows before after old new

-- no write failed or found the device closed
pub record KeepsFlags (failed_before failed_after closed_before closed_after : Bool) : Type 0 where
  pub failed : failed_after ≡ failed_before
  pub closed : closed_after ≡ closed_before

-- writing stops because the device is closed, a write failed otherwise, or memory has run out; in the last case nothing failed, and this is so
abbrev pub StopsWriting : Bool → Bool → Bool → Bool → Type 0 → Stop → Type 0
StopsWriting failed_before failed_after closed_before closed_after so_far Closed = (failed_after ≡ true) × (closed_after ≡ true)
StopsWriting failed_before failed_after closed_before closed_after so_far WriteFailed = (failed_after ≡ true) × (closed_after ≡ closed_before)
StopsWriting failed_before failed_after closed_before closed_after so_far OutOfMemory = so_far × KeepsFlags failed_before failed_after closed_before closed_after
StopsWriting failed_before failed_after closed_before closed_after so_far ReadFailed = ⊥

-- These bytes are written to a sink, which passes nothing on. If that stops because memory has run out, the sink is as before.
pub record Writes {S : Type 0} (taken : S → Option (List ℕ)) (flushes : S → ℕ) (failed closed : S → Bool) (bytes : List ℕ) (result : Result (Unit {0}) Stop) (old new : S) : Type 0 where
  pub all : OnOk result (taken new ≡ append_known (taken old) bytes)
  pub unflushed : flushes new ≡ flushes old
  pub flags : OnOk result (KeepsFlags (failed old) (failed new) (closed old) (closed new))
  pub stopped : IfErr result (StopsWriting (failed old) (failed new) (closed old) (closed new) (taken new ≡ taken old))

-- the bytes read so far came before those left, what they become is written as far as it is decided, and the rest is held
pub record HasViewed (work : Work) (opening rest : List ℕ) (left_before left_after old new : Option (List ℕ)) : Type 0 where
  pub read : List ℕ
  pub left : left_before ≡ prepend_known read left_after
  pub shows : Shows (to_come work [] read) (to_come work opening rest) old new

-- what all of the input becomes is written, if the input reports its bytes
abbrev pub ViewsAll : Work → Option (List ℕ) → Option (List ℕ) → Option (List ℕ) → Type 0
ViewsAll work None old new = ⊤
ViewsAll work (Some bytes) old new = new ≡ append_known old (view_of work bytes)

-- what the bytes read become is written, which are a front of the input, if it reports its bytes
pub record ViewsFront (work : Work) (left old new : Option (List ℕ)) : Type 0 where
  pub read : List ℕ
  pub rest : Option (List ℕ)
  pub front : left ≡ prepend_known read rest
  pub taken : new ≡ append_known old (view_of work read)

-- a beginning of what the input becomes is written, if it reports its bytes
abbrev pub ViewsBeginning : Work → Option (List ℕ) → Option (List ℕ) → Option (List ℕ) → Type 0
ViewsBeginning work None old new = ⊤
ViewsBeginning work (Some bytes) old new = WritesBeginning old new (view_of work bytes)

-- reading stops because a read failed, or because as many reads were made as are counted
abbrev pub StopsReading : Bool → ℕ → Type 0
StopsReading failed reads = (failed ≡ true) ⊎ (4_294_967_295 ≤ reads)

-- at least this many reads were made, and at most one flush for each of them, and one more
pub record MostFlushes (reads_before reads_after flushes_before flushes_after : ℕ) : Type 0 where
  pub reads : ℕ
  pub counted : count_after reads_before reads ≤ reads_after
  pub most : flushes_after ≤ flushes_before + reads + 1
