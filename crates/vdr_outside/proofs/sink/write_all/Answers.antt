use Rattle.vdr_outside.proofs.Known.{appends-front}
use Rattle.vdr_outside.proofs.sink.write_all.Goals as goal

pub returns-clause-front : goal.returns-clause-front
returns-clause-front g c = appends-front _ _ _ _ c.write_front-result.ensures.bytes
