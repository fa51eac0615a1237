use Rattle.std.proofs.Common.{◌++◌, take}
use Rattle.vdr_index.specs.Stretches.{ComesTo}
use Rattle.vdr_index.proofs.stretch.stretch_of.Given as goal

abbrev pub invariant-loop-item : goal.invariant-loop-item
invariant-loop-item l = ComesTo (take 1 l.records ++ take l.item-index l.others) l.stretch
