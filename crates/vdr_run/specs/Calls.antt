-- What a maker asks of a run that begins and of an item, and what it leaves when a run has begun.
use Rattle.std.specs.Prelude.{ℕ, ℤ, ◌≡◌, ◌≤◌, ◌<◌, ◌+◌, ◌^◌, List, [], length, Option, IfSome, option_map}
use Rattle.vdr_terms.specs.declared.datagram.Verdict.TheVariants.{Yes}
use Rattle.vdr_terms.specs.Counting.{next_number}
use Rattle.vdr_terms.specs.Datagrams.{verdict}
use Rattle.vdr_terms.specs.Rates.{Limit}
use Rattle.vdr_terms.specs.Records.{Record, total}
use Rattle.vdr_terms.specs.Stamps.{IsStamp}
use Rattle.vdr_config.specs.Configuration.{Configuration}
use Rattle.vdr_datagram.specs.Channels.{channels_of}
use Rattle.vdr_core.specs.Recorder.{begun}
use Rattle.vdr_core.specs.Runs.{base_after}
use Rattle.vdr_meter.specs.Metering.{HasNoDatagram, Metering}
use Rattle.vdr_run.specs.Making.{Makes, counted_of}
use Rattle.vdr_run.specs.Meters.{IsMetered, second_of}
use Rattle.vdr_run.specs.Starts.{begin_at, stamp_of}
use Rattle.vdr_run.specs.declared.maker.ItemHead.{ItemHead}
use Rattle.vdr_run.specs.declared.maker.Maker.{Maker}

-- A run may begin at this place, after a record of this tick and UTC if there is one, by a meter that has admitted nothing.
pub record FitsStart (meter : Option Metering) (place : ℕ) (last : Option (ℕ × ℤ)) : Type 0 where
  -- the place is below 2^62
  pub low : place < 2 ^ 62
  -- and so is the tick of the Start
  pub early : base_after (option_map stamp_of last) < 2 ^ 62
  -- the last record has a stamp
  pub stamped : IfSome last (λ told. IsStamp told.1)
  -- the meter, if there is one, has admitted nothing
  pub unused : second_of meter ≡ 0

-- A run has begun so, and its Start is made.
pub record BeginsAt (config : Configuration) (meter : Option Metering) (place : ℕ) (last : Option (ℕ × ℤ)) (old new : Maker) : Type 0 where
  -- it has taken nothing in the run, whatever the limits are that the meter has
  pub makes : (limits : ℕ → Limit) → ((made : List Record) → HasNoDatagram made → IsMetered limits meter made)
      → Makes config (begin_at limits (channels_of config) place last) [] new
  -- the meter is this one
  pub metered : new.meter ≡ meter
  -- the next place is that behind the Start
  pub next : new.place ≡ place + 1
  -- no group has counted an item
  pub numbers : (g : ℕ) → g < 16 → next_number (counted_of new g).pending ≡ 0
  -- what is made is the Start
  pub records : (limits : ℕ → Limit) → new.records.items ≡ (begun (begin_at limits (channels_of config) place last)).made
  -- there is as much room as before
  pub room : new.records.capacity ≡ old.records.capacity

-- The item can be recorded, and what is missed before it was not missed by the rate.
pub record FitsRun (item : ItemHead) (bytes : List ℕ) : Type 0 where
  -- it is of one of the 16 groups
  pub group : item.group < 16
  -- it was received within the first 2^48 milliseconds of the run
  pub received : item.received < 2 ^ 48
  -- it has a stamp
  pub stamp : IsStamp item.utc
  -- what its rate refused is counted by the run alone
  pub not_by_rate : item.missed.rate ≡ 0
  -- its bytes are a datagram that can be recorded
  pub recordable : verdict bytes ≡ Yes

-- The maker has room for the records of the item.
pub record HasRoomFor (maker : Maker) (item : ItemHead) : Type 0 where
  -- for a Gap and a Datagram
  pub records : length maker.records.items + 2 ≤ maker.records.capacity
  -- their places are below 2^63
  pub places : maker.place + 2 < 2 ^ 63
  -- and so are the numbers of the group's items
  pub numbers : next_number (counted_of maker item.group).pending + total item.missed + 1 < 2 ^ 63
