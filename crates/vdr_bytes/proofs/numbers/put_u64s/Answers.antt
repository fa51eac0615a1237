use Rattle.std.proofs.Common.{arith}
use Rattle.vdr_bytes.proofs.PutsLemmas.{puts-number}
use Rattle.vdr_bytes.proofs.numbers.put_u64s.Goals as goal

pub loop-number-preserved : goal.loop-number-preserved
loop-number-preserved c = record {
  ends = omega (arith, c.loop-number.invariant.ends);
  written = puts-number _ _ _ _ _ _ _ c.loop-number-test.true c.loop-number.invariant.ends c.requires c.loop-number.invariant.written c.put_u64.ensures;
}
