use Rattle.std.proofs.Common.{◌-◌, ◌+◌, arith}
use Rattle.vdr_ais.proofs.BitLemmas.{pow_within}
use Rattle.vdr_ais.proofs.field.thousands.Goals as goal

pub overflow_mul-field : goal.overflow_mul-field
overflow_mul-field c = let p = pow_within (c.args.last + 1 - c.args.first) 18 (omega (arith, c.requires.short)) in omega (arith, p, c.field.ensures.below)

pub overflow_mul-last : goal.overflow_mul-last
overflow_mul-last c = let p = pow_within (c.args.last - c.args.first) 17 (omega (arith, c.requires.short)) in omega (arith, p)

pub signed-requires-clause-half : goal.signed-requires-clause-half
signed-requires-clause-half c = let p = pow_within (c.args.last - c.args.first) 17 (omega (arith, c.requires.short)) in omega (arith, p)

pub signed-requires-clause-below : goal.signed-requires-clause-below
signed-requires-clause-below c = let p = pow_within (c.args.last + 1 - c.args.first) 18 (omega (arith, c.requires.short)) in omega (arith, p, c.field.ensures.below)
