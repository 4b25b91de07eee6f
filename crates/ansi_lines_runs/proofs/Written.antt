-- What a sink has taken so far.
use Rattle.std.proofs.Common.{◌≡◌, List, [], ◌++◌, ℕ, Bool, true, false, ◌||◌, Option, None, Some, IfSome, refl, sym, ap, ◌∙◌, append_assoc, append-nil}
use Rattle.std.specs.Io.KnownBytes.{append_known}
use Rattle.ansi_lines_runs.specs.Lines.{WritesBeginning}
use Rattle.ansi_io.proofs.Known.{append_known-nil, append_known-twice}

-- the bytes taken since, and then this rest, are all of these
pub record HasWritten (old new : Option (List ℕ)) (all rest : List ℕ) : Type 0 where
  pub part : List ℕ
  pub taken : new ≡ append_known old part
  pub whole : all ≡ part ++ rest

-- at the start the rest is all
pub HasWritten-start : (old : Option (List ℕ)) (all : List ℕ) → HasWritten old old all all
HasWritten-start old all = record { part = []; taken = sym (append_known-nil old); whole = refl }

-- one more write
pub HasWritten-more : {old now : Option (List ℕ)} {all rest : List ℕ} (new : Option (List ℕ)) (front next : List ℕ)
    → HasWritten old now all rest → new ≡ append_known now front → rest ≡ front ++ next → HasWritten old new all next
HasWritten-more {old} {now} {all} {rest} new front next so_far wrote splits = record {
  part = so_far.part ++ front;
  taken = append_known-twice old so_far.part front so_far.taken wrote;
  whole = so_far.whole ∙ ap (λ xs. so_far.part ++ xs) splits ∙ sym (append_assoc so_far.part front next);
}

-- without a rest all is taken
pub HasWritten-all : {old now new : Option (List ℕ)} {all rest : List ℕ} → HasWritten old now all rest → new ≡ now → rest ≡ [] → new ≡ append_known old all
HasWritten-all {old} so_far same none =
    same ∙ so_far.taken ∙ ap (λ xs. append_known old xs) (sym (so_far.whole ∙ ap (λ xs. so_far.part ++ xs) none ∙ append-nil so_far.part))

-- the bytes written so far are a beginning of all
pub HasWritten-beginning : {old new : Option (List ℕ)} {all rest : List ℕ} → HasWritten old new all rest → WritesBeginning old new all
HasWritten-beginning {old} {new} {all} {rest} so_far = record { part = so_far.part; rest = rest; taken = so_far.taken; whole = so_far.whole }

-- no bytes are a beginning of all
pub nothing-beginning : (left old : Option (List ℕ)) (all : List ℕ → List ℕ) → IfSome left (λ bytes. WritesBeginning old old (all bytes))
nothing-beginning None old all = tt
nothing-beginning (Some bytes) old all = HasWritten-beginning (HasWritten-start old (all bytes))

-- a call that works leaves the flag as it was
pub flag_unchanged : (before after : Bool) → after ≡ (before || false) → after ≡ before
flag_unchanged true after is = is
flag_unchanged false after is = is
