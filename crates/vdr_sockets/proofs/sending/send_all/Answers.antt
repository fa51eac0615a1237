use Rattle.std.proofs.Common.{rules}
use Rattle.vdr_outside.proofs.Known.{appends-step}
use Rattle.vdr_sockets.proofs.sending.send_all.Goals as goal

pub loop-preserved : goal.loop-preserved
loop-preserved g c = record {
  within = search rules;
  written = appends-step _ _ _ _ _ _ c.loop.invariant.written c.in-Some.ensures.sent;
}
