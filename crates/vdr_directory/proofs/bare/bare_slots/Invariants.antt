use Rattle.std.proofs.Common.{List}
use Rattle.vdr_directory.specs.Sequence.{Placed}
use Rattle.vdr_directory.specs.Order.{AreInOrder}
use Rattle.vdr_directory.specs.Entries.{Describe}
use Rattle.vdr_directory.proofs.Bringing.{FoundBare}
use Rattle.vdr_directory.proofs.bare.bare_slots.Given as goal

abbrev pub invariant-loop-i : goal.invariant-loop-i
invariant-loop-i l = (placed : List Placed) → AreInOrder placed → Describe placed l.opened → FoundBare placed l.opened l.i l.bare.items
