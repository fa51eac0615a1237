use Rattle.vdr_recorder.proofs.Batches.{HasTaken}
use Rattle.vdr_recorder.proofs.making.make.Given as goal

abbrev pub invariant-loop-item : goal.invariant-loop-item
invariant-loop-item l = HasTaken l.config l.item-index l.items l.fn.maker l.maker
