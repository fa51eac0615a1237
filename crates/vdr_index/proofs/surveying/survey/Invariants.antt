use Rattle.std.proofs.Common.{◌-◌, length}
use Rattle.vdr_index.proofs.WalkLemmas.{Reached}
use Rattle.vdr_index.proofs.surveying.survey.Given as goal

abbrev pub invariant-loop-from : goal.invariant-loop-from
invariant-loop-from l = Reached l.segment l.first l.found

abbrev pub decreases-loop-from : goal.decreases-loop-from
decreases-loop-from l = length l.segment - l.found.end
