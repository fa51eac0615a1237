use Rattle.std.proofs.Common.{length}
use Rattle.vdr_tag.specs.Views.{values_of}
use Rattle.vdr_tag.proofs.FrontLemmas.{IsBehind}
use Rattle.vdr_tag.proofs.read.read_tags.Given as goal

abbrev pub invariant-loop-after : goal.invariant-loop-after
invariant-loop-after l = IsBehind l.bytes l.rest (values_of l.tags)

abbrev pub decreases-loop-after : goal.decreases-loop-after
decreases-loop-after l = length l.rest
