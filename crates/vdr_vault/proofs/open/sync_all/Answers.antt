use Rattle.std.proofs.Common.{rules}
use Rattle.vdr_outside.specs.Disk.{Durable}
use Rattle.vdr_vault.proofs.OpenMoments.{cause_of_call, cause_of_error}
use Rattle.vdr_vault.proofs.Passed.{upto}
use Rattle.vdr_vault.proofs.open.sync_all.Goals as goal
use Rattle.vdr_media.proofs.Members.{any_at}

pub returns-in_err-sync-clause-cause : goal.returns-in_err-sync-clause-cause
returns-in_err-sync-clause-cause g c = cause_of_error _ _ _ _ c.sync.result _
    (cause_of_call _ c.loop-m.m _ _ _ c.sync.result (λ P here. any_at P 0 c.loop-m.m c.loop-m-test.true here) c.loop-m.invariant.later c.sync.ensures.cause) c.in_err-sync.was

pub loop-m-preserved : goal.loop-m-preserved
loop-m-preserved g c = record {
  durable = upto (λ k. Durable k (g.M.Media.disk c.sync.new.self)) c.loop-m.m (λ k lt. let was = c.loop-m.invariant.durable k lt in search rules) (search rules);
  reads = search rules;
  moments = search rules;
  sizes = search rules;
  counts = search rules;
  later = search rules;
}
