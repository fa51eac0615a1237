use Rattle.std.proofs.Common.{◌≡◌, ◌+◌, ◌*◌, take}
use Rattle.vdr_bytes.specs.Numbers.{Puts, le_u64s}
use Rattle.vdr_bytes.proofs.numbers.put_u64s.Given as goal

abbrev pub invariant-loop-number : goal.invariant-loop-number
invariant-loop-number l = record {
  ends : l.end ≡ l.at + 8 * l.number-index;
  written : Puts l.initial.into l.into l.at (le_u64s (take l.number-index l.numbers));
}
