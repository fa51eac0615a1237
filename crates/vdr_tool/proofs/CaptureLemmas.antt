-- How a command ends that reads a capture, by what it made of it.
use Rattle.std.proofs.Common.{◌≡◌, ◌⊎◌, ℕ, List, Option, Some, None, Ok, Err, refl, inl, inr, subst, sym}
use Rattle.std.specs.Prelude.{Result, ⊤}
use Rattle.std.specs.Io.KnownBytes.{Appends, IsAtEnd}
use Rattle.vdr_feed.specs.Feed.{longest_feed}
use Rattle.vdr_feed.specs.Reader.{IfKnown}
use Rattle.vdr_pcap.specs.Capture.{IsCapture, IsRefused, Part}
use Rattle.vdr_pcap.specs.Law.{NoCaptureIsRefused, OneRefusal}
use Rattle.vdr_import.specs.Counts.{Counts, IsCounted, counted_text}
use Rattle.vdr_import.specs.Imports.{HasCauses, IfCaptured, IfReached, IfRefusedBehind, Imports, imported}
use Rattle.vdr_import.specs.declared.refused.ImportRefused.{ImportRefused}
use Rattle.vdr_import.specs.declared.refused.ImportRefused.TheVariants as stops
use Rattle.vdr_command.specs.Endings.{IsWorkDone}
use Rattle.vdr_command.specs.Outside.{InputFailed, OutputFailed, Outside, Prints, PrintsFront}
use Rattle.vdr_command.specs.StatusLine.{IfCapture}
use Rattle.vdr_command.specs.declared.status.Status.{Status}
use Rattle.vdr_command.specs.declared.status.Status.TheVariants.{Done, Words, InputFault, OutputFault, Capture}
use Rattle.vdr_tool.specs.Captures.{CapturesAll, IsCaptureStatus, status_of_import}
use Rattle.vdr_tool.specs.Imports.{Imports as ImportOwes}
use Rattle.vdr_tool.specs.Packets.{CountsPackets}

-- the status of an answer
abbrev pub status_after : Result ⊤ ImportRefused → Status
status_after (Ok x) = Done
status_after (Err refused) = status_of_import refused

pub own_status : (r : Result ⊤ ImportRefused) → IsCaptureStatus (status_after r)
own_status (Ok x) = tt
own_status (Err stops.Input) = tt
own_status (Err stops.Output) = tt
own_status (Err (stops.Refused number offset)) = tt

pub no_words : (r : Result ⊤ ImportRefused) → status_after r ≡ Words → ⊥
no_words (Ok x) is = cc
no_words (Err stops.Input) is = cc
no_words (Err stops.Output) is = cc
no_words (Err (stops.Refused number offset)) is = cc

-- what a capture is, whatever was made of it
capture_in : (P : List Part → Type 0) (bytes : List ℕ) → IfCaptured (Some bytes) P → (parts : List Part) × IsCapture longest_feed bytes parts
capture_in P bytes h = (h.0, h.1)

refused_in : (P : List Part → Type 0) (bytes : List ℕ) (number offset : ℕ) → IfRefusedBehind (Some bytes) number offset P → IsRefused longest_feed bytes number offset
refused_in P bytes number offset h = (h.0, h.1.0, h.1.1)

pub refused_known : (P : List Part → Type 0) (left : Option (List ℕ)) (number offset : ℕ) → IfRefusedBehind left number offset P → IfKnown left (λ bytes. IsRefused longest_feed bytes number offset)
refused_known P None number offset h = tt
refused_known P (Some bytes) number offset h = refused_in P bytes number offset h

-- By exclusion.
captures_done : (bytes : List ℕ) → NoCaptureIsRefused → (parts : List Part) × IsCapture longest_feed bytes parts → CapturesAll bytes Done
captures_done bytes none is = (λ parts c. refl, λ number offset r. none longest_feed bytes is.0 number offset is.1 r)

captures_refused : (bytes : List ℕ) (n at : ℕ) → NoCaptureIsRefused → OneRefusal → IsRefused longest_feed bytes n at → CapturesAll bytes (Capture n at)
captures_refused bytes n at none one is =
    (λ parts c. absurd (none longest_feed bytes parts n at c is), λ number offset r. one longest_feed bytes n at number offset is r)

pub import_all : (left now taken taken' : Option (List ℕ)) (r : Result ⊤ ImportRefused) → Imports left now taken taken' r → NoCaptureIsRefused → OneRefusal
    → (status_after r ≡ InputFault → ⊥) → (status_after r ≡ OutputFault → ⊥) → IfKnown left (λ bytes. CapturesAll bytes (status_after r))
import_all None now taken taken' r did none one input output = tt
import_all (Some bytes) now taken taken' (Ok x) did none one input output =
    captures_done bytes none (capture_in (λ parts. Appends taken taken' (imported parts)) bytes did.1)
import_all (Some bytes) now taken taken' (Err stops.Input) did none one input output = absurd (input refl)
import_all (Some bytes) now taken taken' (Err stops.Output) did none one input output = absurd (output refl)
import_all (Some bytes) now taken taken' (Err (stops.Refused n at)) did none one input output =
    captures_refused bytes n at none one (refused_in (λ parts. Appends taken taken' (imported parts)) bytes n at did)

pub count_all : (left now taken taken' : Option (List ℕ)) (r : Result ⊤ ImportRefused) → Counts left now taken taken' r → NoCaptureIsRefused → OneRefusal
    → (status_after r ≡ InputFault → ⊥) → (status_after r ≡ OutputFault → ⊥) → IfKnown left (λ bytes. CapturesAll bytes (status_after r))
count_all None now taken taken' r did none one input output = tt
count_all (Some bytes) now taken taken' (Ok x) did none one input output =
    captures_done bytes none (capture_in (λ parts. Appends taken taken' (counted_text parts)) bytes did.1)
count_all (Some bytes) now taken taken' (Err stops.Input) did none one input output = absurd (input refl)
count_all (Some bytes) now taken taken' (Err stops.Output) did none one input output = absurd (output refl)
count_all (Some bytes) now taken taken' (Err (stops.Refused n at)) did none one input output =
    captures_refused bytes n at none one (refused_in (λ parts. ⊤) bytes n at did)

no_count : (P : Type 0) → ⊥ ⊎ P → P
no_count P (inl none) = absurd none
no_count P (inr p) = p

-- ---- what the commands owe

module _ {tells tells_images : Type 0} where
  import_owes_so : (old new : Outside tells tells_images) (r : Result ⊤ ImportRefused) → Imports old.input.left new.input.left old.output.taken new.output.taken r
      → HasCauses old.input.faults new.input.faults old.output.faults new.output.faults r → NoCaptureIsRefused → OneRefusal → ImportOwes old new (status_after r)
  import_owes_so old new r did causes none one = record {
    own = own_status r;
    done = by_done r did;
    refused = by_refused r did;
    input = by_input r did causes;
    output = by_output r did causes;
    complete = λ nothing. import_all old.input.left new.input.left old.output.taken new.output.taken r did none one (λ is. nothing.input (by_input r did causes is).0) (λ is. nothing.output (by_output r did causes is).0);
  }
    where
      by_done : (r : Result ⊤ ImportRefused) → Imports old.input.left new.input.left old.output.taken new.output.taken r
          → status_after r ≡ Done → IsAtEnd new.input.left × IfCaptured old.input.left (λ parts. Prints (imported parts) old.output new.output)
      by_done (Ok x) did is = did
      by_done (Err stops.Input) did is = let no : ⊥ = cc in absurd no
      by_done (Err stops.Output) did is = let no : ⊥ = cc in absurd no
      by_done (Err (stops.Refused n at)) did is = let no : ⊥ = cc in absurd no

      by_refused : (r : Result ⊤ ImportRefused) → Imports old.input.left new.input.left old.output.taken new.output.taken r
          → IfCapture (status_after r) (λ number offset. IfRefusedBehind old.input.left number offset (λ parts. Prints (imported parts) old.output new.output))
      by_refused (Ok x) did = tt
      by_refused (Err stops.Input) did = tt
      by_refused (Err stops.Output) did = tt
      by_refused (Err (stops.Refused n at)) did = did

      by_input : (r : Result ⊤ ImportRefused) → Imports old.input.left new.input.left old.output.taken new.output.taken r
          → HasCauses old.input.faults new.input.faults old.output.faults new.output.faults r
          → status_after r ≡ InputFault → InputFailed old.input new.input × IfReached old.input.left (λ parts. Prints (imported parts) old.output new.output)
      by_input (Ok x) did causes is = let no : ⊥ = cc in absurd no
      by_input (Err stops.Input) did causes is = (causes.input_rose refl, did)
      by_input (Err stops.Output) did causes is = let no : ⊥ = cc in absurd no
      by_input (Err (stops.Refused n at)) did causes is = let no : ⊥ = cc in absurd no

      by_output : (r : Result ⊤ ImportRefused) → Imports old.input.left new.input.left old.output.taken new.output.taken r
          → HasCauses old.input.faults new.input.faults old.output.faults new.output.faults r
          → status_after r ≡ OutputFault → OutputFailed old.output new.output × IfReached old.input.left (λ parts. PrintsFront (imported parts) old.output new.output)
      by_output (Ok x) did causes is = let no : ⊥ = cc in absurd no
      by_output (Err stops.Input) did causes is = let no : ⊥ = cc in absurd no
      by_output (Err stops.Output) did causes is = (causes.output_rose refl, did)
      by_output (Err (stops.Refused n at)) did causes is = let no : ⊥ = cc in absurd no

  count_owes_so : (old new : Outside tells tells_images) (r : Result ⊤ ImportRefused) → Counts old.input.left new.input.left old.output.taken new.output.taken r
      → HasCauses old.input.faults new.input.faults old.output.faults new.output.faults r → IsCounted r ⊎ (new.output ≡ old.output)
      → NoCaptureIsRefused → OneRefusal → CountsPackets old new (status_after r)
  count_owes_so old new r did causes silent none one = record {
    own = own_status r;
    done = by_done r did;
    refused = by_refused r did;
    input = by_input r causes;
    output = by_output r did causes;
    silent = by_silent r silent;
    complete = λ nothing. count_all old.input.left new.input.left old.output.taken new.output.taken r did none one (λ is. nothing.input (by_input r causes is)) (λ is. nothing.output (by_output r did causes is).0);
  }
    where
      by_done : (r : Result ⊤ ImportRefused) → Counts old.input.left new.input.left old.output.taken new.output.taken r
          → status_after r ≡ Done → IsAtEnd new.input.left × IfCaptured old.input.left (λ parts. Prints (counted_text parts) old.output new.output)
      by_done (Ok x) did is = did
      by_done (Err stops.Input) did is = let no : ⊥ = cc in absurd no
      by_done (Err stops.Output) did is = let no : ⊥ = cc in absurd no
      by_done (Err (stops.Refused n at)) did is = let no : ⊥ = cc in absurd no

      by_refused : (r : Result ⊤ ImportRefused) → Counts old.input.left new.input.left old.output.taken new.output.taken r
          → IfCapture (status_after r) (λ number offset. IfKnown old.input.left (λ bytes. IsRefused longest_feed bytes number offset))
      by_refused (Ok x) did = tt
      by_refused (Err stops.Input) did = tt
      by_refused (Err stops.Output) did = tt
      by_refused (Err (stops.Refused n at)) did = refused_known (λ parts. ⊤) old.input.left n at did

      by_input : (r : Result ⊤ ImportRefused) → HasCauses old.input.faults new.input.faults old.output.faults new.output.faults r → status_after r ≡ InputFault → InputFailed old.input new.input
      by_input (Ok x) causes is = let no : ⊥ = cc in absurd no
      by_input (Err stops.Input) causes is = causes.input_rose refl
      by_input (Err stops.Output) causes is = let no : ⊥ = cc in absurd no
      by_input (Err (stops.Refused n at)) causes is = let no : ⊥ = cc in absurd no

      by_output : (r : Result ⊤ ImportRefused) → Counts old.input.left new.input.left old.output.taken new.output.taken r
          → HasCauses old.input.faults new.input.faults old.output.faults new.output.faults r
          → status_after r ≡ OutputFault → OutputFailed old.output new.output × IfCaptured old.input.left (λ parts. PrintsFront (counted_text parts) old.output new.output)
      by_output (Ok x) did causes is = let no : ⊥ = cc in absurd no
      by_output (Err stops.Input) did causes is = let no : ⊥ = cc in absurd no
      by_output (Err stops.Output) did causes is = (causes.output_rose refl, did)
      by_output (Err (stops.Refused n at)) did causes is = let no : ⊥ = cc in absurd no

      by_silent : (r : Result ⊤ ImportRefused) → IsCounted r ⊎ (new.output ≡ old.output) → IsWorkDone (status_after r) ⊎ (new.output ≡ old.output)
      by_silent (Ok x) s = inl tt
      by_silent (Err stops.Input) s = inr (no_count _ s)
      by_silent (Err stops.Output) s = inl tt
      by_silent (Err (stops.Refused n at)) s = inr (no_count _ s)

  pub import_owes : (old new : Outside tells tells_images) (status : Status) (r : Result ⊤ ImportRefused) → status ≡ status_after r → Imports old.input.left new.input.left old.output.taken new.output.taken r
      → HasCauses old.input.faults new.input.faults old.output.faults new.output.faults r → NoCaptureIsRefused → OneRefusal → ImportOwes old new status
  import_owes old new status r is did causes none one = subst (λ (s : Status). ImportOwes old new s) (sym is) (import_owes_so old new r did causes none one)

  pub count_owes : (old new : Outside tells tells_images) (status : Status) (r : Result ⊤ ImportRefused) → status ≡ status_after r → Counts old.input.left new.input.left old.output.taken new.output.taken r
      → HasCauses old.input.faults new.input.faults old.output.faults new.output.faults r → IsCounted r ⊎ (new.output ≡ old.output)
      → NoCaptureIsRefused → OneRefusal → CountsPackets old new status
  count_owes old new status r is did causes silent none one = subst (λ (s : Status). CountsPackets old new s) (sym is) (count_owes_so old new r did causes silent none one)
