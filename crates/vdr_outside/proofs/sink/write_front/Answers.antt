use Rattle.std.proofs.Common.{rules}
use Rattle.vdr_outside.proofs.Known.{appends-step}
use Rattle.vdr_outside.proofs.sink.write_front.Goals as goal

pub loop-done-preserved : goal.loop-done-preserved
loop-done-preserved g c = record {
  within = search rules;
  written = appends-step _ _ _ _ _ _ c.loop-done.invariant.written c.in-Ok.ensures.bytes;
  later = search rules;
}
