use Rattle.std.proofs.Common.{◌≡◌, take}
use Rattle.vdr_directory.proofs.Entering.{ending_read}
use Rattle.vdr_directory.proofs.newest.ending_among.Given as goal

abbrev pub invariant-loop-entry : goal.invariant-loop-entry
invariant-loop-entry l = l.ending ≡ ending_read (take l.entry-index l.opened)
