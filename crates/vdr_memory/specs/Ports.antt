-- Ports in memory.
use Rattle.std.specs.Prelude.{◌≡◌, ◌≤◌, ◌↔◌, ℕ, pos, List, [], ◌∷◌, ◌++◌, Some, Contains, codes, ⊤}
use Rattle.vdr_terms.specs.Records.{Item}
use Rattle.vdr_outside.specs.Calls.{Asked, other}
use Rattle.vdr_outside.specs.Takes.{Standing}
use Rattle.vdr_outside.specs.declared.port.Taken.{Taken}
use Rattle.vdr_outside.specs.declared.port.Taken.TheVariants.{Quiet, Ended, Failed}

pub record DatagramsInMemory : Type 0 where
  pub left : List Item  -- those not yet given
  pub taken : List Item  -- those that were given, as they were given
  pub floor : ℕ  -- the last `received`

abbrev pub standing_of : DatagramsInMemory → Standing
standing_of d = record { left = Some d.left; taken = Some d.taken; floor = d.floor }

-- `received` never falls, and is not below this one.
abbrev pub NeverFalls : ℕ → List Item → Type 0
NeverFalls floor [] = ⊤
NeverFalls floor (item ∷ items) = (floor ≤ item.received) × NeverFalls item.received items

abbrev pub never_asked : Asked
never_asked = record { times = 0; ends = 0; failures = 0; last = other }

pub record PortInMemory : Type 0 where
  pub datagrams : DatagramsInMemory
  pub failing : List ℕ  -- the takes that fail, by their numbers from 0
  pub quiet : List ℕ  -- the takes that find none in time
  pub asked : Asked

-- What a port in memory answers, exactly.
pub record Answers (port : PortInMemory) (answer : Taken) : Type 0 where
  pub fails : (answer ≡ Failed) ↔ Contains port.failing port.asked.times
  pub quiet : (answer ≡ Quiet) ↔ ((Contains port.failing port.asked.times → ⊥) × Contains port.quiet port.asked.times)
  pub ended : (answer ≡ Ended) ↔ ((Contains port.failing port.asked.times → ⊥) × (Contains port.quiet port.asked.times → ⊥) × (port.datagrams.left ≡ []))

pub record GatedInMemory : Type 0 where
  pub datagrams : DatagramsInMemory
  pub at_once : ℕ  -- how many are given before the gate is open
  pub asked : Asked

-- A port of two that meet. It is made with two datagrams that hold a token alone.
abbrev pub meeting_item : Item
meeting_item = record { received = 0; utc = pos 0; bytes = codes "AbCdE" ++ 0 ∷ [] }

abbrev pub meeting : GatedInMemory
meeting = record { datagrams = record { left = meeting_item ∷ meeting_item ∷ []; taken = []; floor = 0 }; at_once = 1; asked = never_asked }
