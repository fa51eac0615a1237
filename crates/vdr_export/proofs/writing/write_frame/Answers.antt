use Rattle.vdr_visit.proofs.Printing.{front_of_whole}
use Rattle.vdr_export.proofs.Fronts.{front_second}
use Rattle.vdr_export.proofs.writing.write_frame.Goals as goal

pub returns-in_err-write_silence-clause-front : goal.returns-in_err-write_silence-clause-front
returns-in_err-write_silence-clause-front g c = front_of_whole _ _ _ c.args.frame.now.samples.now c.write_silence.ensures.front

pub returns-clause-front : goal.returns-clause-front
returns-clause-front g c = front_second _ _ _ _ c.args.frame.now.samples.now c.in_ok-write_silence.ensures.all c.write_all.ensures.front
