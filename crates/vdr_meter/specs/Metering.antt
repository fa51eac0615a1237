-- What a meter knows, and of which records it knows this (this project's profile).
use Rattle.std.specs.Prelude.{◌≡◌, ◌≤◌, ◌<◌, ◌==◌, ℕ, false, true, List, length, sum, All, Option, slice_index_or, if◌then◌else◌}
use Rattle.vdr_terms.specs.declared.rate.Rate.{Rate}
use Rattle.vdr_terms.specs.Records.{Record, payload_of, is_datagram}
use Rattle.vdr_terms.specs.Rates.{lengths_in}
use Rattle.vdr_meter.specs.declared.meter.Used.{Used}

-- A meter: the rate of each group, the second of the last item that it admitted, and what it admitted of each group in it.
pub record Metering : Type 0 where
  pub rates : List (Option Rate)
  pub second : ℕ
  pub used : List Used

abbrev pub nothing : Used
nothing = record { datagrams = 0; bytes = 0 }

-- What the meter admitted of a group in a second that is not before its own: of a later one nothing.
abbrev pub used_in : Metering → ℕ → ℕ → Used
used_in meter g s = if meter.second == s then slice_index_or meter.used g nothing else nothing

-- From its second on, the meter admitted what these records have: as many Datagrams of each group, and as many bytes.
pub record Measures (meter : Metering) (records : List Record) : Type 0 where
  pub datagrams : (g s : ℕ) → g < 16 → meter.second ≤ s → (used_in meter g s).datagrams ≡ length (lengths_in g s records)
  pub bytes : (g s : ℕ) → g < 16 → meter.second ≤ s → (used_in meter g s).bytes ≡ sum (lengths_in g s records)

-- None of them is a Datagram.
abbrev pub HasNoDatagram : List Record → Type 0
HasNoDatagram records = All (λ r. is_datagram r.content ≡ false) records

-- The record is a Datagram of this group and tick, of so many bytes.
pub record IsDatagramOf (r : Record) (g t n : ℕ) : Type 0 where
  pub kind : is_datagram r.content ≡ true
  pub group : r.group ≡ g
  pub tick : r.tick ≡ t
  pub bytes : length (payload_of r.content) ≡ n
