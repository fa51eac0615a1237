use Rattle.std.proofs.Common.{rules}
use Rattle.vdr_outside.specs.Disk.{Durable}
use Rattle.vdr_info.proofs.InfoLemmas.{upto}
use Rattle.vdr_info.proofs.info.sync_both.Goals as goal

pub loop-m-preserved : goal.loop-m-preserved
loop-m-preserved g c = record {
  durable = upto (λ k. Durable k (g.M.Media.disk c.sync.new.self)) c.loop-m.m (λ k lt. let was = c.loop-m.invariant.durable k lt in search rules) (search rules);
  reads = search rules;
  moments = search rules;
  sizes = search rules;
  counts = search rules;
  later = search rules;
}
