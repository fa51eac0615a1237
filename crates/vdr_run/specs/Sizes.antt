-- How many bytes the records of a run take.
use Rattle.std.specs.Prelude.{ℕ, ◌+◌, ◌≤◌, ◌<◌, Bool, true, false, List, ◌++◌, None}
use Rattle.vdr_terms.specs.Channels.{no_channels}
use Rattle.vdr_terms.specs.Counting.{Pending}
use Rattle.vdr_terms.specs.Rates.{Limit}
use Rattle.vdr_terms.specs.Records.{total}
use Rattle.vdr_terms.specs.Sizes.{records_size}
use Rattle.vdr_core.specs.Recorder.{recorder_after}
use Rattle.vdr_core.specs.Runs.{RunStart}
use Rattle.vdr_core.specs.Taken.{Captured}

-- A run by these limits, the first of a recording. Wherever else one begins, its records take as many bytes.
abbrev pub run_by : (ℕ → Limit) → RunStart
run_by limits = record { limits = limits; channels = no_channels; place = 0; last = None }

-- The bytes of the records of a run by these limits in which these items were taken.
abbrev pub bytes_of : (ℕ → Limit) → List Captured → ℕ
bytes_of limits items = records_size (recorder_after (run_by limits) items).made

-- After the first of these items, the records of the others fit so many bytes.
abbrev pub FitAfter : (ℕ → Limit) → List Captured → List Captured → ℕ → Type 0
FitAfter limits popped items room = bytes_of limits (popped ++ items) ≤ bytes_of limits popped + room

-- A Gap stands before the group's next Datagram.
abbrev pub IsDue : Pending → Type 0
IsDue p = 0 < total p.missed

-- The bytes of the records of an item: none where it is not admitted; else its Datagram of 44 and its own, and 84 more where a Gap is due.
abbrev pub charge : (is_admitted is_due : Bool) → (len : ℕ) → ℕ
charge false due len = 0
charge true false len = 44 + len
charge true true len = 128 + len
