use Rattle.std.proofs.Common.{◌≡◌, ◌++◌, take}
use Rattle.vdr_entry.specs.Escape.{escaped}
use Rattle.vdr_values.proofs.escape.print_escaped.Given as goal

abbrev pub invariant-loop-byte : goal.invariant-loop-byte
invariant-loop-byte l = l.out.items ≡ l.fn.out.items ++ escaped (take l.byte-index l.bytes)
