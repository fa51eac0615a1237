use Rattle.std.proofs.Common.{arith}
use Rattle.vdr_index.proofs.StretchLemmas.{front_long, stamp_read, head_read}
use Rattle.vdr_index.proofs.head.head_at.Goals as goal

pub u64_at-requires : goal.u64_at-requires
u64_at-requires c = let g = c.requires in omega (arith, front_long _ g.1 g.0 g.2)

pub u64_at-requires-2 : goal.u64_at-requires-2
u64_at-requires-2 c = let g = c.requires in omega (arith, front_long _ g.1 g.0 g.2)

pub u64_at-requires-3 : goal.u64_at-requires-3
u64_at-requires-3 c = let g = c.requires in omega (arith, front_long _ g.1 g.0 g.2)

pub u64_at-requires-4 : goal.u64_at-requires-4
u64_at-requires-4 c = let g = c.requires in omega (arith, front_long _ g.1 g.0 g.2)

pub overflow_cast-result : goal.overflow_cast-result
overflow_cast-result c = let g = c.requires in omega (arith, stamp_read _ g.1 g.0 g.2, c.u64_at-4.ensures)

pub u16_at-requires : goal.u16_at-requires
u16_at-requires c = let g = c.requires in omega (arith, front_long _ g.1 g.0 g.2)

pub returns : goal.returns
returns c =
    let g = c.requires in
    (g.0, g.1, g.2, head_read _ g.1 g.0 g.2 _ _ _ _ _ c.u64_at.ensures c.u64_at-2.ensures c.u64_at-3.ensures c.u64_at-4.ensures c.u16_at.ensures)
