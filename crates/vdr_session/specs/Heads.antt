-- The oldest item of each queue, which is held until a batch takes it.
use Rattle.std.specs.Prelude.{◌≡◌, ◌⊎◌, ◌<◌, ◌≤◌, ◌+◌, ◌/◌, ◌++◌, ◌^◌, ℕ, Bool, List, [], length, All, get_or, Option, Some, None}
use Rattle.vdr_terms.specs.Rates.{Limit}
use Rattle.vdr_core.specs.Taken.{Captured, of_group}
use Rattle.vdr_intake.specs.Ends.{QueueId, Taking}
use Rattle.vdr_recorder.specs.Making.{least_datagram}
use Rattle.vdr_run.specs.Charges.{Foretells}
use Rattle.vdr_run.specs.Sizes.{FitAfter, bytes_of}
use Rattle.vdr_run.specs.declared.charges.Charges.{Charges}
use Rattle.vdr_session.specs.Lanes.{IsMet, held, joined_to, popped_by}

-- Of each group these items are, in order, those that were popped, but for the one that is held.
pub record AreHeld (items : List Captured) (heads : List (Option Captured)) (takers : List (Option Taking)) : Type 0 where
  pub each : (g : ℕ) → g < 16 → of_group g items ++ held (get_or heads g None) ≡ popped_by (get_or takers g None)
  pub own : (g : ℕ) → g < 16 → All (λ c. c.group ≡ g) (held (get_or heads g None))
  pub beyond : (g : ℕ) → 16 ≤ g → of_group g items ≡ []

-- Nothing is held.
abbrev pub NoneHeld : List (Option Captured) → Type 0
NoneHeld heads = (g : ℕ) → g < 16 → get_or heads g None ≡ None

-- When the held item was received, in milliseconds; where none is held, later than any is.
abbrev pub received_of : Option Captured → ℕ
received_of None = 2 ^ 48
received_of (Some c) = c.received

-- The item that is held of this group was received no later than those of the other groups.
pub record IsOldest (heads : List (Option Captured)) (g : ℕ) : Type 0 where
  pub group : g < 16
  pub oldest : (k : ℕ) → k < 16 → received_of (get_or heads g None) ≤ received_of (get_or heads k None)

-- No item is held, or its records are longer than what is left behind these.
abbrev pub IsTooLong : (ℕ → Limit) → List Captured → Option Captured → (left : ℕ) → Type 0
IsTooLong limits popped head left = (head ≡ None) ⊎ (bytes_of limits popped + left < bytes_of limits (popped ++ held head))

-- The records of the held item take so many bytes behind these items, and no more than are left; then it was counted. Or none is held, or they
-- take more than are left, and nothing was.
abbrev pub ChargesHeld : (ℕ → Limit) → List Captured → Option Captured → (left : ℕ) → Charges → Option ℕ → Type 0
ChargesHeld limits popped head left after (Some size) =
    (0 < length (held head)) × (bytes_of limits (popped ++ held head) ≡ bytes_of limits popped + size) × (size ≤ left) × Foretells limits (popped ++ held head) after
ChargesHeld limits popped head left after None = IsTooLong limits popped head left × Foretells limits popped after

-- A batch goes on behind these items with the one that is held of this group, which takes so many bytes. Or it ends: it is full, or no item is
-- held, or the one that was received first is too long.
abbrev pub IsNext : (ℕ → Limit) → List Captured → List (Option Captured) → (left : ℕ) → (full : Type 0) → Charges → Option (ℕ × ℕ) → Type 0
IsNext limits popped heads left full after (Some next) = ChargesHeld limits popped (get_or heads next.0 None) left after (Some next.1)
IsNext limits popped heads left full after None =
    (full ⊎ ((g : ℕ) × IsOldest heads g × IsTooLong limits popped (get_or heads g None) left)) × Foretells limits popped after

-- A batch of so many bytes takes no more behind these: it has as many items as it may have, or no item is held, or the records of the one that
-- was received first don't fit it.
abbrev pub IsFilled : (ℕ → Limit) → (popped items : List Captured) → List (Option Captured) → (room : ℕ) → Type 0
IsFilled limits popped items heads room =
    (room / least_datagram ≤ length items)
    ⊎ ((g : ℕ) × IsOldest heads g × ((get_or heads g None ≡ None) ⊎ (FitAfter limits popped (items ++ held (get_or heads g None)) room → ⊥)))

-- A step at group g: these items went to the batch, and its taker may have popped another item, which is held.
pub record Steps (configured : ℕ → Bool) (g : ℕ) (queue : Option QueueId) (old new : Option Taking) (was is : Option Captured) (more : List Captured) : Type 0 where
  pub met : IsMet configured g queue new
  pub joined : joined_to new ≡ joined_to old
  pub order : (items : List Captured) → items ++ held was ≡ popped_by old → (items ++ more) ++ held is ≡ popped_by new
  pub own : All (λ c. c.group ≡ g) (held was) → All (λ c. c.group ≡ g) more × All (λ c. c.group ≡ g) (held is)
