-- What a recorder keeps of its maker: the run of its configuration, and the room for the records of a batch.
use Rattle.std.specs.Prelude.{ℕ, ◌≡◌, ◌+◌, ◌/◌, ◌≤◌, ◌<◌, ◌^◌, List, Some, sum_by}
use Rattle.vdr_terms.specs.Records.{total}
use Rattle.vdr_terms.specs.Counting.{next_number}
use Rattle.vdr_config.specs.Configuration.{Configuration}
use Rattle.vdr_config.specs.Sizes.{limits_in}
use Rattle.vdr_core.specs.Runs.{RunStart}
use Rattle.vdr_core.specs.Taken.{Captured, of_group}
use Rattle.vdr_run.specs.Making.{Makes, counted_of}
use Rattle.vdr_run.specs.Meters.{rates_of}
use Rattle.vdr_run.specs.Sizes.{FitAfter}
use Rattle.vdr_run.specs.declared.maker.Maker.{Maker}

-- It has taken these items in a run that began so, and each group is limited by its rate of the configuration: the run's limits are these,
-- and there is a meter of these rates.
pub record MakesBy (config : Configuration) (start : RunStart) (popped : List Captured) (maker : Maker) : Type 0 where
  pub makes : Makes config start popped maker
  pub limits : start.limits ≡ limits_in config.groups
  pub rates : rates_of maker.meter ≡ Some config.groups

-- The fewest bytes of a record.
abbrev pub least_record : ℕ
least_record = 44

-- The fewest bytes of a Datagram that is recorded: none is shorter than its token.
abbrev pub least_datagram : ℕ
least_datagram = 50

-- The buffer has room for as many records as a batch may have, and for the two of one more item.
abbrev pub HasRoom : Configuration → Maker → Type 0
HasRoom config maker = config.batch / least_record + 2 ≤ maker.records.capacity

-- It has taken some items in a run that began somehow, and behind them the records of these fit so many bytes.
pub record FitBehind (config : Configuration) (maker : Maker) (items : List Captured) (room : ℕ) : Type 0 where
  pub start : RunStart
  pub popped : List Captured
  pub makes : MakesBy config start popped maker
  pub fit : FitAfter (limits_in config.groups) popped items room

-- So many numbers of a group these items use up: one each, and one for each item that its port missed before it.
abbrev pub numbers_of : ℕ → List Captured → ℕ
numbers_of g items = sum_by (λ c. total c.missed + 1) (of_group g items)

-- The numbers of each group's items stay below 2^63.
abbrev pub NumbersFit : Maker → List Captured → Type 0
NumbersFit maker items = (g : ℕ) → g < 16 → next_number (counted_of maker g).pending + numbers_of g items < 2 ^ 63
