-- What is known of a device's bytes, from one call to the next.
use Rattle.std.proofs.Common.{subst, sym, Result, Ok, Err, OnOk, ◌≡◌, ℕ, List, [], ◌++◌, Option, None, Some, IfSome, is_some, refl, ap, ◌∙◌, append_assoc, append-nil}
use Rattle.std.specs.Io.KnownBytes.{prepend_known, append_known, Appends, Keeps, IsAtEnd}
use Rattle.std.specs.declared.io.Error.{Error}
use Rattle.ansi_io.specs.declared.devices.WriteFault.{WriteFault}
use Rattle.ansi_io.specs.Devices.{write_result}

-- appending no bytes changes nothing
pub append_known-nil : (known : Option (List ℕ)) → append_known known [] ≡ known
append_known-nil None = refl
append_known-nil (Some bytes) = ap Some (append-nil bytes)

-- bytes appended in two steps are appended at once
pub append_known-append : (known : Option (List ℕ)) (front next : List ℕ) → append_known (append_known known front) next ≡ append_known known (front ++ next)
append_known-append None front next = refl
append_known-append (Some bytes) front next = ap Some (append_assoc bytes front next)

-- the bytes that two writes append
pub append_known-twice : {now new : Option (List ℕ)} (old : Option (List ℕ)) (front next : List ℕ)
    → now ≡ append_known old front → new ≡ append_known now next → new ≡ append_known old (front ++ next)
append_known-twice old front next first second = second ∙ ap (λ k. append_known k next) first ∙ append_known-append old front next

-- at the end the bytes read are all that were left
pub all_read : (left now : Option (List ℕ)) (read : List ℕ) → left ≡ prepend_known read now → IsAtEnd now → IfSome left (λ bytes. read ≡ bytes)
all_read None now read taken ended = tt
all_read (Some bytes) None read taken ended = cc
all_read (Some bytes) (Some more) read taken ended = let joined = append-nil read in cc

-- bytes that are known both before and after, or neither, and grow
pub appends-alike : (old new : Option (List ℕ)) (more : List ℕ) → is_some old ≡ is_some new → Appends old new more → new ≡ append_known old more
appends-alike None None more alike grew = refl
appends-alike None (Some bytes) more alike grew = cc
appends-alike (Some front) None more alike grew = absurd grew
appends-alike (Some front) (Some bytes) more alike grew = ap Some grew

-- bytes that are known both before and after, or neither, and stay
pub keeps-alike : (old new : Option (List ℕ)) → is_some old ≡ is_some new → Keeps old new → new ≡ old
keeps-alike None None alike kept = refl
keeps-alike None (Some bytes) alike kept = cc
keeps-alike (Some bytes) None alike kept = absurd kept
keeps-alike (Some bytes) (Some now) alike kept = ap Some kept

-- what follows if a call of std is done follows if the device's is
pub on_ok-reported : {given known : Type 0} → (given → known) → (done : Result (Unit {0}) Error) {result : Result (Unit {0}) WriteFault}
    → result ≡ write_result done → OnOk done given → OnOk result known
on_ok-reported {known = known} follows (Ok done) same given = subst (λ r. OnOk r known) (sym same) (follows given)
on_ok-reported {known = known} follows (Err error) same given = subst (λ r. OnOk r known) (sym same) tt

-- what is known is known if a call is done
pub on_ok-known : {known : Type 0} (result : Result (Unit {0}) WriteFault) → known → OnOk result known
on_ok-known (Ok done) known = known
on_ok-known (Err fault) known = tt
