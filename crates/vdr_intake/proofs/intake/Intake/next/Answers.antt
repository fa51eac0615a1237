use Rattle.vdr_intake.proofs.Steps.{pops, is_left}
use Rattle.vdr_intake.proofs.intake.Intake.next.Goals as goal

pub pop_as-requires-clause-rule : goal.pop_as-requires-clause-rule
pop_as-requires-clause-rule g c = (pops _ _ c.taker.invariant.takes, is_left _ _ c.taker.invariant.takes)
