use Rattle.std.proofs.Common.{◌-◌, ◌≤◌, length}
use Rattle.vdr_sources.specs.Rows.{ComesBefore, ComesBehind}
use Rattle.vdr_sources.proofs.place.place_of.Given as goal

abbrev pub invariant-loop-from : goal.invariant-loop-from
invariant-loop-from l = record {
  inside : l.from ≤ l.to;
  within : l.to ≤ length l.rows;
  behind : ComesBehind (record { group = l.group; name = l.name }) l.from l.rows;
  before : ComesBefore (record { group = l.group; name = l.name }) l.to l.rows;
}

abbrev pub decreases-loop-from : goal.decreases-loop-from
decreases-loop-from l = l.to - l.from
