use Rattle.std.proofs.Common.{List, option_copied}
use Rattle.vdr_directory.specs.Sequence.{Placed}
use Rattle.vdr_directory.specs.Entries.{Describe}
use Rattle.vdr_directory.proofs.Passing.{Passed}
use Rattle.vdr_directory.proofs.order.first_break.Given as goal

abbrev pub invariant-loop-i : goal.invariant-loop-i
invariant-loop-i l = (placed : List Placed) → Describe placed l.entries → Passed placed l.entries l.i (option_copied l.before)
