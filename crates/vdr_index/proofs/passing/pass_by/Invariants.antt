use Rattle.std.proofs.Common.{◌<◌, ◌-◌, length}
use Rattle.vdr_index.specs.Selections.{Passes, StartsSelected}
use Rattle.vdr_index.proofs.passing.pass_by.Given as goal

abbrev pub invariant-loop-reached : goal.invariant-loop-reached
invariant-loop-reached l = Passes l.segment l.selection l.fn.position l.reached × (l.reached.at < l.reached.to → StartsSelected l.segment l.selection l.reached)

abbrev pub decreases-loop-reached : goal.decreases-loop-reached
decreases-loop-reached l = length l.segment - l.reached.to
