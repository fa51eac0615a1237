use Rattle.std.proofs.Common.{◌≡◌, ◌≤◌, ◌+◌, ◌*◌, ◌++◌, ℕ, None}
use Rattle.std.specs.Prelude.{slice_index_or}
use Rattle.arrayvec.specs.ArrayVec.{array_vec_len}
use Rattle.vdr_health.specs.Health.{lines_below, no_gauge}
use Rattle.vdr_health.proofs.page.push_lines.Given as goal

abbrev pub invariant-loop-group : goal.invariant-loop-group
invariant-loop-group l = record {
  printed : l.page.items ≡ l.initial.page.items ++ lines_below l.group (λ (g : ℕ). slice_index_or l.sums g None) (λ (g : ℕ). slice_index_or l.gauged.groups g no_gauge);
  short : array_vec_len l.page ≤ array_vec_len l.initial.page + 219 * l.group;
}
