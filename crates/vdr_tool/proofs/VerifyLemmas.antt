-- How `verify` ends, by what it made of a file.
use Rattle.std.proofs.Common.{◌≡◌, ◌⊎◌, ℕ, List, Option, Some, None, Ok, Err, refl, inl, inr, subst, sym}
use Rattle.std.specs.Prelude.{IfSome, Result, ⊤}
use Rattle.std.specs.Io.KnownBytes.{Appends, IsAtEnd}
use Rattle.vdr_feed.specs.Reader.{IfKnown}
use Rattle.vdr_verify.specs.Laws.{NoEvidenceStops}
use Rattle.vdr_verify.specs.Stops.{StopsAt}
use Rattle.vdr_verify.specs.Verifies.{HasCauses, HoldsSo, IfEvidence, IsVerified, Verifies}
use Rattle.vdr_verify.specs.declared.part.Part.{Part}
use Rattle.vdr_verify.specs.declared.refused.VerifyRefused.{VerifyRefused}
use Rattle.vdr_verify.specs.declared.refused.VerifyRefused.TheVariants as stops
use Rattle.vdr_command.specs.Endings.{IsWorkDone}
use Rattle.vdr_command.specs.Outside.{InputFailed, OutputFailed, Outside, Prints, PrintsFront}
use Rattle.vdr_command.specs.StatusLine.{IfNoEvidence}
use Rattle.vdr_command.specs.declared.status.Status.{Status}
use Rattle.vdr_command.specs.declared.status.Status.TheVariants.{Done, Words, InputFault, OutputFault}
use Rattle.vdr_tool.specs.Verifying.{IsVerifyStatus, StopsTold, VerifiesAll, VerifiesFile, part_told, status_of_verify}

-- the status of an answer
abbrev pub status_after : Result ⊤ VerifyRefused → Status
status_after (Ok x) = Done
status_after (Err refused) = status_of_verify refused

own_status : (r : Result ⊤ VerifyRefused) → IsVerifyStatus (status_after r)
own_status (Ok x) = tt
own_status (Err stops.Input) = tt
own_status (Err stops.Output) = tt
own_status (Err stops.NoMemory) = tt
own_status (Err (stops.Illegal named offset)) = tt

pub no_words : (r : Result ⊤ VerifyRefused) → status_after r ≡ Words → ⊥
no_words (Ok x) is = cc
no_words (Err stops.Input) is = cc
no_words (Err stops.Output) is = cc
no_words (Err stops.NoMemory) is = cc
no_words (Err (stops.Illegal named offset)) is = cc

stops_told : (left : Option (List ℕ)) (named : Part) (offset : ℕ) → IfSome left (λ bytes. StopsAt bytes named offset) → IfKnown left (λ bytes. StopsTold bytes (part_told named) offset)
stops_told None named offset h = tt
stops_told (Some bytes) named offset h = (named, refl, h)

-- By exclusion.
all_done : (P : List ℕ → Type 0) (bytes : List ℕ) → NoEvidenceStops → HoldsSo P bytes → VerifiesAll bytes Done
all_done P bytes none holds = (λ h records is. tt, λ part offset stops_at done. none bytes holds.heading holds.records part offset holds.is stops_at)

all_refused : (bytes : List ℕ) (named : Part) (offset : ℕ) → NoEvidenceStops → StopsAt bytes named offset → VerifiesAll bytes (status_of_verify (stops.Illegal named offset))
all_refused bytes named offset none is = (λ h records evidence. absurd (none bytes h records named offset evidence is), λ part at stops_at done. cc)

verify_all : (left now taken taken' : Option (List ℕ)) (r : Result ⊤ VerifyRefused) → Verifies left now taken taken' r → NoEvidenceStops
    → (status_after r ≡ InputFault → ⊥) → (status_after r ≡ OutputFault → ⊥) → IfKnown left (λ bytes. VerifiesAll bytes (status_after r))
verify_all None now taken taken' r did none input output = tt
verify_all (Some bytes) now taken taken' (Ok x) did none input output = all_done (Appends taken taken') bytes none did.1
verify_all (Some bytes) now taken taken' (Err stops.Input) did none input output = absurd (input refl)
verify_all (Some bytes) now taken taken' (Err stops.Output) did none input output = absurd (output refl)
verify_all (Some bytes) now taken taken' (Err stops.NoMemory) did none input output = (λ h records is. tt, λ part offset stops_at done. cc)
verify_all (Some bytes) now taken taken' (Err (stops.Illegal named offset)) did none input output = all_refused bytes named offset none did

unprinted : (P : Type 0) → ⊥ ⊎ P → P
unprinted P (inl none) = absurd none
unprinted P (inr p) = p

module _ {tells tells_images : Type 0} where
  owes_so : (old new : Outside tells tells_images) (r : Result ⊤ VerifyRefused) → Verifies old.input.left new.input.left old.output.taken new.output.taken r
      → HasCauses old.input.faults new.input.faults old.output.faults new.output.faults r → IsVerified r ⊎ (new.output ≡ old.output) → NoEvidenceStops → VerifiesFile old new (status_after r)
  owes_so old new r did causes silent none = record {
    own = own_status r;
    done = by_done r did;
    refused = by_refused r did;
    input = by_input r causes;
    output = by_output r did causes;
    silent = by_silent r silent;
    complete = λ nothing. verify_all old.input.left new.input.left old.output.taken new.output.taken r did none (λ is. nothing.input (by_input r causes is)) (λ is. nothing.output (by_output r did causes is).0);
  }
    where
      by_done : (r : Result ⊤ VerifyRefused) → Verifies old.input.left new.input.left old.output.taken new.output.taken r
          → status_after r ≡ Done → IsAtEnd new.input.left × IfEvidence old.input.left (λ text. Prints text old.output new.output)
      by_done (Ok x) did is = did
      by_done (Err stops.Input) did is = let no : ⊥ = cc in absurd no
      by_done (Err stops.Output) did is = let no : ⊥ = cc in absurd no
      by_done (Err stops.NoMemory) did is = let no : ⊥ = cc in absurd no
      by_done (Err (stops.Illegal named offset)) did is = let no : ⊥ = cc in absurd no

      by_refused : (r : Result ⊤ VerifyRefused) → Verifies old.input.left new.input.left old.output.taken new.output.taken r
          → IfNoEvidence (status_after r) (λ named offset. IfKnown old.input.left (λ bytes. StopsTold bytes named offset))
      by_refused (Ok x) did = tt
      by_refused (Err stops.Input) did = tt
      by_refused (Err stops.Output) did = tt
      by_refused (Err stops.NoMemory) did = tt
      by_refused (Err (stops.Illegal named offset)) did = stops_told old.input.left named offset did

      by_input : (r : Result ⊤ VerifyRefused) → HasCauses old.input.faults new.input.faults old.output.faults new.output.faults r → status_after r ≡ InputFault → InputFailed old.input new.input
      by_input (Ok x) causes is = let no : ⊥ = cc in absurd no
      by_input (Err stops.Input) causes is = causes.input_rose refl
      by_input (Err stops.Output) causes is = let no : ⊥ = cc in absurd no
      by_input (Err stops.NoMemory) causes is = let no : ⊥ = cc in absurd no
      by_input (Err (stops.Illegal named offset)) causes is = let no : ⊥ = cc in absurd no

      by_output : (r : Result ⊤ VerifyRefused) → Verifies old.input.left new.input.left old.output.taken new.output.taken r
          → HasCauses old.input.faults new.input.faults old.output.faults new.output.faults r
          → status_after r ≡ OutputFault → OutputFailed old.output new.output × IfEvidence old.input.left (λ text. PrintsFront text old.output new.output)
      by_output (Ok x) did causes is = let no : ⊥ = cc in absurd no
      by_output (Err stops.Input) did causes is = let no : ⊥ = cc in absurd no
      by_output (Err stops.Output) did causes is = (causes.output_rose refl, did.1)
      by_output (Err stops.NoMemory) did causes is = let no : ⊥ = cc in absurd no
      by_output (Err (stops.Illegal named offset)) did causes is = let no : ⊥ = cc in absurd no

      by_silent : (r : Result ⊤ VerifyRefused) → IsVerified r ⊎ (new.output ≡ old.output) → IsWorkDone (status_after r) ⊎ (new.output ≡ old.output)
      by_silent (Ok x) s = inl tt
      by_silent (Err stops.Input) s = inr (unprinted _ s)
      by_silent (Err stops.Output) s = inl tt
      by_silent (Err stops.NoMemory) s = inr (unprinted _ s)
      by_silent (Err (stops.Illegal named offset)) s = inr (unprinted _ s)

  pub verify_owes : (old new : Outside tells tells_images) (status : Status) (r : Result ⊤ VerifyRefused) → status ≡ status_after r → Verifies old.input.left new.input.left old.output.taken new.output.taken r
      → HasCauses old.input.faults new.input.faults old.output.faults new.output.faults r → IsVerified r ⊎ (new.output ≡ old.output) → NoEvidenceStops → VerifiesFile old new status
  verify_owes old new status r is did causes silent none = subst (λ (s : Status). VerifiesFile old new s) (sym is) (owes_so old new r did causes silent none)
