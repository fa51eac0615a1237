use Rattle.std.proofs.Common.{◌≡◌, ◌-◌, ◌++◌, length, replicate}
use Rattle.vdr_values.proofs.spelling.filled.Given as goal

abbrev pub invariant-loop : goal.invariant-loop
invariant-loop l = l.filled.items ≡ l.digits ++ replicate (l.counter - length l.digits) 48
