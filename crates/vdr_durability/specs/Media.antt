-- What a medium has of the batches that a recorder commits.
use Rattle.std.specs.Prelude.{ℕ, suc, ◌≤◌, ◌≡◌, ⊤, List, [], ◌∷◌, ◌++◌, map, flat_map, sum_by, slice_index_or, Option, Some, None}
use mathlib.Core.List.{Sublist}
use Rattle.vdr_terms.specs.Records.{Record, last}
use Rattle.vdr_terms.specs.Order.{AreInOrder}
use Rattle.vdr_terms.specs.Needs.{Sizes, cost}
use Rattle.vdr_terms.specs.Rates.{Limit, limit_of}
use Rattle.vdr_core.specs.Runs.{RunStart}
use Rattle.vdr_core.specs.Histories.{Act, records_of_act, stamp_of}
use Rattle.vdr_core.specs.RunStates.{RunState, between_runs, state_along}
use Rattle.vdr_durability.specs.Layout.{Batches, batches_size_at, records_in, batches_in}
use Rattle.vdr_durability.specs.Commits.{AreDoneFrom}

-- Each group may have what stands at its number.
abbrev pub AreLimitsOf : Sizes → (ℕ → Limit) → Type 0
AreLimitsOf sizes limits = (g : ℕ) → limits g ≡ limit_of (slice_index_or sizes.groups g None)

-- The record is the last before the place and the stamp with which a recorder begins.
abbrev pub EndsBefore : RunStart → Option Record → Type 0
EndsBefore start None = ⊤
EndsBefore start (Some r) = (suc r.place ≡ start.place) × (start.last ≡ stamp_of (Some r) None)

-- What a medium had when it was opened: records in order, of which the last is the recorder's last one, and no second has
-- more bytes than its cost. Another medium may have records where this one has none.
pub record IsOpened (cost : ℕ) (start : RunStart) (opened : List Batches) : Type 0 where
  pub order : AreInOrder (records_in opened)
  pub ends : EndsBefore start (last (records_in opened))
  pub paced : (s : ℕ) → sum_by (batches_size_at s) opened ≤ cost

-- The state that these acts leave, where no run was open before them.
abbrev pub state_after : RunStart → List Act → RunState
state_after start acts = state_along (between_runs start) acts

-- A medium after these acts of a recorder: it has some of the batches that it had when it was opened and of those that were
-- committed, in their order, and it ends with the last record of all.
pub record IsMediumOf (sizes : Sizes) (start : RunStart) (opened : List Batches) (acts : List Act) (segments : List Batches) : Type 0 where
  pub limits : AreLimitsOf sizes start.limits
  pub was_opened : IsOpened (cost sizes) start opened
  pub done : AreDoneFrom start.limits sizes.batch (between_runs start) acts
  pub some : Sublist (batches_in segments) (batches_in opened ++ map records_of_act acts)
  pub newest : last (records_in segments) ≡ last (records_in opened ++ flat_map records_of_act acts)

-- What an append leaves of a medium: some of its batches, in their order, and then the new one.
pub record IsAppended (before : List Batches) (batch : List Record) (after : List Batches) : Type 0 where
  pub kept : Batches
  pub some : Sublist kept (batches_in before)
  pub order : batches_in after ≡ kept ++ batch ∷ []
