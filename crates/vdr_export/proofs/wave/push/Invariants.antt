use Rattle.std.proofs.Common.{◌≡◌, ◌++◌, take}
use Rattle.vdr_export.proofs.wave.push.Given as goal

abbrev pub invariant-loop-byte : goal.invariant-loop-byte
invariant-loop-byte l = l.header.items ≡ l.initial.header.items ++ take l.byte-index l.bytes
