-- What a recorder hands to commit, and on what conditions (this project's profile).
use Rattle.std.specs.Prelude.{ℕ, ◌+◌, ◌≤◌, ◌≡◌, ◌⊎◌, ⊤, true, false, List, [], ◌∷◌, length, sum_by, All}
use Rattle.vdr_terms.specs.Records.{Record, total}
use Rattle.vdr_terms.specs.Datagrams.{largest}
use Rattle.vdr_terms.specs.Rates.{Limit, is_configured}
use Rattle.vdr_terms.specs.Sizes.{records_size}
use Rattle.vdr_core.specs.Taken.{Captured}
use Rattle.vdr_core.specs.Histories.{Act}
use Rattle.vdr_core.specs.Histories.Act.{Commit, Save, Release, Look}
use Rattle.vdr_core.specs.RunStates.{RunState, after_act, GoesOnWith, BeginsWith, ClosesWith}

-- The bytes of a Start.
abbrev pub start_size : ℕ
start_size = 44

-- The most bytes that the records of an item take: a Gap of 84, and a Datagram of 44 and the item's own.
abbrev pub item_size : Captured → ℕ
item_size c = 128 + length c.bytes

-- The most bytes that the records of these items take.
abbrev pub items_size : List Captured → ℕ
items_size items = sum_by item_size items

-- That of an item of no bytes, and that of the longest: a Datagram has up to 1,472.
abbrev pub least_item : ℕ
least_item = 128

abbrev pub largest_item : ℕ
largest_item = 1600

-- The most bytes that a close takes: a Gap of each of 16 groups, and a Stop.
abbrev pub closing_size : ℕ
closing_size = 1388

-- An item of a group that is configured, no longer than what is recorded.
pub record IsFit (limits : ℕ → Limit) (c : Captured) : Type 0 where
  pub configured : is_configured (limits c.group) ≡ true
  pub short : length c.bytes ≤ largest

-- The records of items, which fit a batch.
pub record TakesItems (limits : ℕ → Limit) (batch : ℕ) (s : RunState) (records : List Record) (taken : List Captured) : Type 0 where
  pub made : GoesOnWith s records taken
  pub fit : All (IsFit limits) taken
  pub short : records_size records ≤ batch

-- The close of a run, where no group that is not configured has missed anything.
pub record ClosesRun (limits : ℕ → Limit) (s : RunState) (records : List Record) (taken : List Captured) : Type 0 where
  pub made : ClosesWith s records taken
  pub quiet : (g : ℕ) → is_configured (limits g) ≡ false → total (made.rest g) ≡ 0

-- The act is one that a recorder does in this state: a commit has the records of items, begins a run, or closes one.
abbrev pub IsDoneIn : (ℕ → Limit) → ℕ → RunState → Act → Type 0
IsDoneIn limits batch s (Commit records taken) = TakesItems limits batch s records taken ⊎ (BeginsWith s records taken ⊎ ClosesRun limits s records taken)
IsDoneIn limits batch s (Save id label a b) = ⊤
IsDoneIn limits batch s (Release id) = ⊤
IsDoneIn limits batch s Look = ⊤

-- Each act is done in the state that those before it leave.
abbrev pub AreDoneFrom : (ℕ → Limit) → ℕ → RunState → List Act → Type 0
AreDoneFrom limits batch s [] = ⊤
AreDoneFrom limits batch s (act ∷ acts) = IsDoneIn limits batch s act × AreDoneFrom limits batch (after_act s act) acts
