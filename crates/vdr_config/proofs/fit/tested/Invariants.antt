use Rattle.std.proofs.Common.{◌≡◌, drop}
use Rattle.vdr_config.specs.Sizes.{sizes_of, fitting_from, fitting}
use Rattle.vdr_config.proofs.fit.tested.Given as goal

abbrev pub invariant-loop-size : goal.invariant-loop-size
invariant-loop-size l = record {
  at : l.m ≡ l.size-index;
  rest : fitting_from (sizes_of l.config) l.m (drop l.size-index l.sizes) ≡ fitting (sizes_of l.config) l.sizes;
}
