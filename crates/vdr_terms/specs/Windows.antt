-- The retention window (IEC 61996-1 and IMO MSC.333(90): the last 48 hours and the last 30 days), which this project's
-- profile counts in recording time.
use Rattle.std.specs.Prelude.{ℕ, ◌+◌, ◌≡◌, Bool, List, [], filter, nat_lt, slice_get, Option, Some, None, option_map}
use Rattle.vdr_terms.specs.Records.{Record, second, last}

-- A second that is less than so many seconds older than the last is in the window.
abbrev pub in_window : ℕ → ℕ → ℕ → Bool
in_window s last_second seconds = nat_lt last_second (s + seconds)

abbrev pub window_before : Option Record → ℕ → List Record → List Record
window_before None seconds records = []
window_before (Some newest) seconds records = filter (λ r. in_window (second r.tick) (second newest.tick) seconds) records

-- The records that are less than so many seconds older than the last one.
abbrev pub window : ℕ → List Record → List Record
window seconds records = window_before (last records) seconds records

-- The window of so many seconds begins at place a, and the records end at place b.
pub record HasWindowPlaces (seconds : ℕ) (records : List Record) (a b : ℕ) : Type 0 where
  pub first : option_map (λ r. r.place) (slice_get (window seconds records) 0) ≡ Some a
  pub newest : option_map (λ r. r.place) (last records) ≡ Some b
