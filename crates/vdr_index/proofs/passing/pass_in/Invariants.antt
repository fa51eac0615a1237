use Rattle.std.proofs.Common.{◌-◌}
use Rattle.vdr_index.specs.Selections.{Passes}
use Rattle.vdr_index.proofs.passing.pass_in.Given as goal

abbrev pub invariant-loop-at : goal.invariant-loop-at
invariant-loop-at l = Passes l.segment l.selection l.position (record { at = l.at; to = l.position.to })

abbrev pub decreases-loop-at : goal.decreases-loop-at
decreases-loop-at l = l.position.to - l.at
