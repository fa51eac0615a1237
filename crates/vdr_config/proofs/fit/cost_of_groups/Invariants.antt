use Rattle.std.proofs.Common.{◌≡◌, ◌≤◌, ◌+◌, ◌*◌, take, sum_by}
use Rattle.vdr_terms.specs.Needs.{group_cost}
use Rattle.vdr_config.proofs.fit.cost_of_groups.Given as goal

abbrev pub invariant-loop-rate : goal.invariant-loop-rate
invariant-loop-rate l = record {
  value : l.cost ≡ 128 + sum_by group_cost (take l.rate-index l.groups);
  small : l.cost ≤ 128 + 11_400_090 * l.rate-index;
}
