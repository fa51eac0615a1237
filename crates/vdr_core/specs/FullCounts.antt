-- Items that were dropped since their queue was full (this project's profile). The records of a run alone don't show that
-- a queue was full: its feeder counts the steps that found it so, and a full queue holds as many items as its capacity.
use Rattle.std.specs.Prelude.{ℕ, ◌+◌, ◌<◌, ◌≤◌, ◌≡◌, ⊤, List, [], ◌∷◌, ◌++◌, length}
use Rattle.vdr_terms.specs.declared.counts.Counts.{Counts}
use Rattle.vdr_terms.specs.Records.{Record, Item, datagrams_of}
use Rattle.vdr_core.specs.Taken.{Captured, Feeds}
use Rattle.vdr_core.specs.Sums.{missed_in, recorded_in, missed_before}
use Rattle.vdr_core.specs.Shapes.{IsDatagramOf}

-- The feeder of a queue of this capacity found it full so many times. Each time is counted once, before an item that it
-- pushed or at the end; and where there was any, it had pushed as many items as the capacity.
pub record AreFullSteps (capacity full_steps : ℕ) (pushed : List Captured) (rest : Counts) : Type 0 where
  pub counted : (missed_before pushed).full + rest.full ≡ full_steps
  pub held : 0 < full_steps → capacity ≤ length pushed

-- The Datagrams are those of some of these items, in their order.
abbrev pub AreSomeOf : List Captured → List Record → Type 0
AreSomeOf items [] = ⊤
AreSomeOf items (r ∷ rs) = (refused rest : List Captured) × (c : Captured) × (items ≡ refused ++ c ∷ rest) × IsDatagramOf c r × AreSomeOf rest rs

-- A run's full counts of a group are the full steps of its feeder. What was popped are items of what the port gave, in
-- its order, as many as were recorded or refused by the rate, the recorded ones among them; and where any count is full,
-- they are at least as many as the capacity.
pub record FullCounts (capacity full_steps g : ℕ) (popped : List Captured) (rest : Counts) (given : List Item) (run : List Record) : Type 0 where
  pub full : (missed_in g run).full ≡ full_steps
  pub feeds : Feeds g popped rest given
  pub passed : length popped ≡ recorded_in g run + (missed_in g run).rate
  pub recorded : AreSomeOf popped (datagrams_of g run)
  pub held : 0 < full_steps → capacity ≤ recorded_in g run + (missed_in g run).rate
