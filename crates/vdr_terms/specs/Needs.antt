-- What recording costs, and the slots that a configuration needs.
use Rattle.std.specs.Prelude.{ℕ, ◌+◌, ◌-◌, ◌*◌, ◌/◌, ◌≤◌, List, sum_by, ◌==◌, if◌then◌else◌, Option, Some, None}
use Rattle.vdr_terms.specs.declared.rate.Rate.{Rate}
use Rattle.vdr_terms.specs.Slots.{slot_count}

-- The sizes of a configuration. None: the group is not configured.
pub record Sizes : Type 0 where
  pub groups : List (Option Rate)
  pub segment : ℕ
  pub batch : ℕ
  pub seconds : ℕ → ℕ  -- of each medium's window
  pub incident_seconds : ℕ
  pub incidents : ℕ  -- how many saves may be live

abbrev pub group_cost : Option Rate → ℕ
group_cost None = 0
group_cost (Some rate) = 90 + 140 * rate.datagrams + rate.bytes

-- The bytes of batches that may fall into one second.
abbrev pub cost : Sizes → ℕ
cost sizes = 128 + sum_by group_cost sizes.groups

-- The bytes of batches that a segment surely has once another is begun.
abbrev pub usable : Sizes → ℕ
usable sizes = sizes.segment - 64 - (sizes.batch + 6)

-- The slots for the incidents: the long-term medium has them besides its window's.
abbrev pub pinned_slots : Sizes → ℕ → ℕ
pinned_slots sizes m = if m == 1 then sizes.incidents * ((sizes.incident_seconds + 1) * cost sizes / usable sizes + 2) else 0

abbrev pub needed_slots : Sizes → ℕ → ℕ
needed_slots sizes m = (sizes.seconds m + 1) * cost sizes / usable sizes + 4 + pinned_slots sizes m

-- The slots of a medium of so many bytes.
abbrev pub slots_in : Sizes → ℕ → ℕ
slots_in sizes size = slot_count sizes.segment size

-- The medium has the slots that it needs.
abbrev pub Fits : Sizes → ℕ → ℕ → Type 0
Fits sizes m size = needed_slots sizes m ≤ slots_in sizes size
