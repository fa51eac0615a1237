use Rattle.std.proofs.Common.{◌≡◌, ◌-◌, ◌≤◌, length}
use Rattle.std.specs.Prelude.{Some, slice_get}
use Rattle.std.specs.declared.cmp.Ordering.TheVariants.{Less}
use Rattle.vdr_ais.specs.Lines.{Key}
use Rattle.vdr_ais.specs.Pending.{Pending, key_cmp}
use Rattle.vdr_ais.specs.Places.{ComesBehind}
use Rattle.vdr_ais.specs.Views.{key_of}
use Rattle.vdr_ais.proofs.unfinished.place_of.Given as goal

abbrev pub invariant-loop-from : goal.invariant-loop-from
invariant-loop-from l = record {
  inside : l.from ≤ l.to;
  within : l.to ≤ length l.entries;
  behind : ComesBehind (key_cmp (key_of l.key)) l.entries l.from;
  before : (e : Key × Pending) → slice_get l.entries l.to ≡ Some e → key_cmp (key_of l.key) e.0 ≡ Less;
}

abbrev pub decreases-loop-from : goal.decreases-loop-from
decreases-loop-from l = l.to - l.from
