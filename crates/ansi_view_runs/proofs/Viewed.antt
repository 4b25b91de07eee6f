-- What is written of the input so far, and at the end.
use Rattle.std.proofs.Common.{◌≡◌, List, [], ◌++◌, take, ℕ, Bool, true, false, ◌||◌, Option, None, Some, Err, refl, sym, subst, ap, ◌∙◌, append_assoc, append-nil}
use Rattle.std.specs.Io.KnownBytes.{append_known, prepend_known, IsAtEnd}
use Rattle.ansi_io.proofs.Known.{append_known-twice}
use Rattle.ansi_io.specs.Devices.{Reads, was_failed}
use Rattle.ansi_io.specs.declared.devices.ReadFault.{ReadFault}
use Rattle.ansi_io.specs.declared.devices.ReadFault.TheVariants.{Failed, Interrupted}
use Rattle.ansi_view_runs.specs.Lines.{lines}
use Rattle.ansi_view_runs.specs.Views.{Work, viewed_all, view_of}
use Rattle.ansi_view_runs.specs.Runs.{to_come, Shows, ShowsBeginning, KeepsFlags, HasViewed, ViewsAll, ViewsFront, ViewsBeginning}
use Rattle.ansi_view_runs.proofs.Shown.{Shows-start, Shows-then, nothing_shown}

-- no bytes in front change nothing
prepend_known-nil : (known : Option (List ℕ)) → known ≡ prepend_known [] known
prepend_known-nil None = refl
prepend_known-nil (Some bytes) = refl

-- bytes in front in two steps
prepend_known-prepend : (front next : List ℕ) (known : Option (List ℕ)) → prepend_known front (prepend_known next known) ≡ prepend_known (front ++ next) known
prepend_known-prepend front next None = refl
prepend_known-prepend front next (Some bytes) = ap Some (sym (append_assoc front next bytes))

-- nothing is read
pub HasViewed-start : (work : Work) (left old : Option (List ℕ)) → HasViewed work [] [] left left old old
HasViewed-start work left old = record { read = []; left = prepend_known-nil left; shows = Shows-start (to_come work [] []) old }

-- more is read
pub HasViewed-read : {work : Work} {opening rest : List ℕ} {left_before left_now old new : Option (List ℕ)} (bytes : List ℕ) (left_after : Option (List ℕ))
    → HasViewed work opening rest left_before left_now old new → left_now ≡ prepend_known bytes left_after → HasViewed work opening (rest ++ bytes) left_before left_after old new
HasViewed-read {work} {opening} {rest} bytes left_after so_far gave =
    let read = so_far.read in
    record {
      read = read ++ bytes;
      left = so_far.left ∙ ap (prepend_known read) gave ∙ prepend_known-prepend read bytes left_after;
      shows = record {
        part = so_far.shows.part;
        taken = so_far.shows.taken;
        whole = λ more.
            ap (λ t. viewed_all work [] (lines t)) (append_assoc read bytes more)
            ∙ so_far.shows.whole (bytes ++ more)
            ∙ ap (λ t. so_far.shows.part ++ viewed_all work opening (lines t)) (sym (append_assoc rest bytes more));
      };
    }

-- more is written
pub HasViewed-then : {work : Work} {opening opening_then rest rest_then : List ℕ} {left_before left_after old mid new : Option (List ℕ)}
    → HasViewed work opening rest left_before left_after old mid → Shows (to_come work opening rest) (to_come work opening_then rest_then) mid new
    → HasViewed work opening_then rest_then left_before left_after old new
HasViewed-then so_far next = record { read = so_far.read; left = so_far.left; shows = Shows-then so_far.shows next }

-- what the bytes held become at the end is written after the rest
ended : {work : Work} {opening rest : List ℕ} {left_before left_after old mid new : Option (List ℕ)} (so_far : HasViewed work opening rest left_before left_after old mid)
    → new ≡ append_known mid (to_come work opening rest []) → new ≡ append_known old (view_of work so_far.read)
ended {work} {opening} {rest} {left_before} {left_after} {old} {mid} {new} so_far wrote =
    append_known-twice old so_far.shows.part (to_come work opening rest []) so_far.shows.taken wrote
    ∙ ap (append_known old) (sym (so_far.shows.whole []) ∙ ap (λ t. viewed_all work [] (lines t)) (append-nil so_far.read))

-- the bytes read are a front of the input
pub views_front : {work : Work} {opening rest : List ℕ} {left_before left_after old mid new : Option (List ℕ)}
    → HasViewed work opening rest left_before left_after old mid → new ≡ append_known mid (to_come work opening rest []) → ViewsFront work left_before old new
views_front {left_after = left_after} so_far wrote = record { read = so_far.read; rest = left_after; front = so_far.left; taken = ended so_far wrote }

-- at the end they are all of it
all_read : (work : Work) (left_before left_after old new : Option (List ℕ)) (read : List ℕ) → left_before ≡ prepend_known read left_after → IsAtEnd left_after
    → new ≡ append_known old (view_of work read) → ViewsAll work left_before old new
all_read work None left_after old new read left end wrote = tt
all_read work (Some bytes) None old new read left end wrote = cc
all_read work (Some bytes) (Some more) old new read left end wrote =
    let joined : read ++ more ≡ read = ap (λ xs. read ++ xs) end ∙ append-nil read in
    let same : bytes ≡ read = cc in
    wrote ∙ ap (λ t. append_known old (view_of work t)) (sym same)

pub views_all : {work : Work} {opening rest : List ℕ} {left_before left_after old mid new : Option (List ℕ)}
    → HasViewed work opening rest left_before left_after old mid → IsAtEnd left_after → new ≡ append_known mid (to_come work opening rest []) → ViewsAll work left_before old new
views_all {work} {opening} {rest} {left_before} {left_after} {old} {mid} {new} so_far end wrote =
    all_read work left_before left_after old new so_far.read so_far.left end (ended so_far wrote)

-- a beginning is written of what the input becomes
beginning : (work : Work) (left_before left_after old new : Option (List ℕ)) (read : List ℕ) (after : List ℕ → List ℕ) → left_before ≡ prepend_known read left_after
    → Shows (to_come work [] read) after old new → ViewsBeginning work left_before old new
beginning work None left_after old new read after left shows = tt
beginning work (Some bytes) None old new read after left shows = cc
beginning work (Some bytes) (Some more) old new read after left shows =
    let same : bytes ≡ read ++ more = cc in
    record { part = shows.part; rest = after more; taken = shows.taken; whole = ap (λ t. viewed_all work [] (lines t)) same ∙ shows.whole more }

pub views_beginning : {work : Work} {opening rest : List ℕ} {left_before left_after old mid new : Option (List ℕ)}
    → HasViewed work opening rest left_before left_after old mid → ShowsBeginning (to_come work opening rest) mid new → ViewsBeginning work left_before old new
views_beginning {work} {opening} {rest} {left_before} {left_after} {old} {mid} {new} so_far next =
    beginning work left_before left_after old new so_far.read next.after so_far.left (Shows-then so_far.shows next.shows)

-- nothing more is written
pub views_same : {work : Work} {opening rest : List ℕ} {left_before left_after old mid new : Option (List ℕ)}
    → HasViewed work opening rest left_before left_after old mid → new ≡ mid → ViewsBeginning work left_before old new
views_same {work} {opening} {rest} {mid = mid} so_far same =
    views_beginning so_far (subst (ShowsBeginning (to_come work opening rest) mid) (sym same) (nothing_shown (to_come work opening rest) mid))

-- flags that are kept twice
pub flags_then : {failed failed_mid failed_new closed closed_mid closed_new : Bool} → KeepsFlags failed failed_mid closed closed_mid → KeepsFlags failed_mid failed_new closed_mid closed_new
    → KeepsFlags failed failed_new closed closed_new
flags_then first next = record { failed = next.failed ∙ first.failed; closed = next.closed ∙ first.closed }

-- a read that fails
pub failed_now : (before after : Bool) (fault : ReadFault) → fault ≡ Failed → after ≡ (before || was_failed (Err fault)) → after ≡ true
failed_now true after fault is flag = flag
failed_now false after fault is flag = flag ∙ ap (λ f. was_failed (Err f)) is

-- a read that is interrupted
pub interrupted_now : (before after : Bool) (fault : ReadFault) → fault ≡ Interrupted → after ≡ (before || was_failed (Err fault)) → after ≡ before
interrupted_now true after fault is flag = flag
interrupted_now false after fault is flag = flag ∙ ap (λ f. was_failed (Err f)) is

-- an interrupted read takes nothing
pub nothing_taken : (old new : Option (List ℕ)) (fault : ReadFault) (room : List ℕ) → fault ≡ Interrupted → Reads old new (Err fault) room → new ≡ old
nothing_taken old new fault room is reads = rw is at reads

-- a read of no bytes takes nothing
pub nothing_given : (old new : Option (List ℕ)) (count : ℕ) (room : List ℕ) → count ≡ 0 → old ≡ prepend_known (take count room) new → new ≡ old
nothing_given old new count room none gave = prepend_known-nil new ∙ sym (gave ∙ ap (λ n. prepend_known (take n room) new) none)
