use Rattle.std.proofs.Common.{refl}
use Rattle.vdr_live.proofs.asking.sizes_in.Goals as goal

pub returns-clause-refused : goal.returns-clause-refused
returns-clause-refused g c = (
  record {
    config = c.in-Ok.config;
    is = c.in-Ok.ensures.exact;
    lacking = c.in-Err-least_sizes.ensures.refused c.in-Err-least_sizes.small refl;
  },
  refl,
)
