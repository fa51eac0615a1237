use Rattle.std.proofs.Common.{length}
use Rattle.vdr_tag.specs.Views.{values_of}
use Rattle.vdr_tag.proofs.ItemLemmas.{Reads}
use Rattle.vdr_tag.proofs.items.read_items.Given as goal

abbrev pub invariant-loop-item : goal.invariant-loop-item
invariant-loop-item l = Reads (values_of l.fn.tags) l.text l.rest (values_of l.tags) l.accepted

abbrev pub decreases-loop-item : goal.decreases-loop-item
decreases-loop-item l = length l.rest
