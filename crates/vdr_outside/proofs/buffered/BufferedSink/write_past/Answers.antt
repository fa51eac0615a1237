use Rattle.vdr_outside.proofs.Known.{writes-past}
use Rattle.vdr_outside.proofs.buffered.BufferedSink.write_past.Goals as goal

pub returns-then-bytes-gt-CAPACITY-clause-bytes : goal.returns-then-bytes-gt-CAPACITY-clause-bytes
returns-then-bytes-gt-CAPACITY-clause-bytes g c =
    writes-past _ (g.O.Sink.taken c.hand_on.new.self.sink.now) _ c.hand_on.new.self.buffer.items _ c.hand_on.new.self.handed _ c.in_ok-hand_on.ensures.empty c.in_ok-hand_on.ensures.kept c.write.ensures.bytes
