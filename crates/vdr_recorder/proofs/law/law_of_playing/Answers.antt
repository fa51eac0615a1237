use Rattle.vdr_recorder.proofs.Headlines.{back}
use Rattle.vdr_recorder.proofs.law.law_of_playing.Goals as goal

pub returns : goal.returns
returns c = record { plays = λ x events first rest image reads split order shown. back x reads events order first rest split image shown }
