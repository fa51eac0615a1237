use Rattle.vdr_opening.specs.Media.{parts_of}
use Rattle.vdr_opening.proofs.PartsHeld.{legible, meet_known}
use Rattle.vdr_opening.proofs.Refusals.{held_not_refused, one_answer}
use Rattle.vdr_opening.proofs.law.law_of_refusals.Goals as goal

pub returns-clause-parts : goal.returns-clause-parts
returns-clause-parts c = held_not_refused

pub returns-clause-either : goal.returns-clause-either
returns-clause-either c image x m offset h meet = held_not_refused image (parts_of x) m offset (legible image x h) ((meet_known image x h).1 meet)

pub returns-clause-one : goal.returns-clause-one
returns-clause-one c = one_answer
