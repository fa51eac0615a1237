use Rattle.std.proofs.Common.{rules}
use Rattle.vdr_import.proofs.Relaying.{gathers_on, gathers_write}
use Rattle.vdr_import.proofs.buffers.Buffer.hand_on.Goals as goal

pub loop-self-preserved : goal.loop-self-preserved
loop-self-preserved g c = record {
  handed = gathers_on _ _ _ _ _ _ c.loop-self.invariant.handed
      (gathers_write _ _ c.loop-self.self.bytes c.loop-self.self.from c.loop-self.self.to c.in_ok-self.field-0 c.loop-self.self.order c.in_ok-self.ensures.bytes);
  later = search rules;
}
