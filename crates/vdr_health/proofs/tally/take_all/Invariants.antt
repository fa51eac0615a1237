use Rattle.std.proofs.Common.{◌≡◌, ◌++◌, take, Bool, List}
use Rattle.vdr_core.specs.Taken.{Captured}
use Rattle.vdr_health.specs.Tallies.{Tallies}
use Rattle.vdr_health.proofs.tally.take_all.Given as goal

abbrev pub invariant-loop-item : goal.invariant-loop-item
invariant-loop-item l = (begun : Bool) (popped : List Captured) → Tallies begun popped l.initial.tally → Tallies begun (popped ++ take l.item-index l.items) l.tally
