use Rattle.std.proofs.Common.{◌↔◌, drop}
use Rattle.vdr_memory.specs.Ports.{NeverFalls}
use Rattle.vdr_memory.proofs.item.are_in_order.Given as goal

abbrev pub invariant-loop-item : goal.invariant-loop-item
invariant-loop-item l = NeverFalls l.floor (drop l.item-index l.items) ↔ NeverFalls 0 l.items
