use Rattle.std.proofs.Common.{ap}
use Rattle.vdr_outside.proofs.Known.{keeps-closed}
use Rattle.vdr_outside.proofs.buffered.BufferedSink.close.Goals as goal

pub returns-clause-all : goal.returns-clause-all
returns-clause-all g c = keeps-closed _ (g.O.Sink.taken c.hand_on-result.new.self.sink.now) _ c.hand_on-result.new.self.buffer.items c.hand_on-result.new.self.handed _ c.hand_on-result.ensures.kept c.hand_on-result.ensures.empty (ap g.O.Sink.taken c.into_lent.ensures.value)
