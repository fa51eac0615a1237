use Rattle.vdr_verify.proofs.Visits.{stop_finds}
use Rattle.vdr_verify.proofs.rereading.step.Goals as goal

pub returns-in-Err-clause-finds : goal.returns-in-Err-clause-finds
returns-in-Err-clause-finds g c = λ first h seen is. stop_finds first (g.I.Source.left c.next_record.new.input) c.next_record.new.reader c.args.asked.now c.next_record.new.item h seen c.in-Err.refused _ c.stop_again.ensures (c.in-Err.ensures.finds first h seen is)
