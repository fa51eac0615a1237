use Rattle.vdr_rescue.proofs.Legible.{legible_finds, legible_gives, legible_opens}
use Rattle.vdr_rescue.proofs.law.law_of_legible.Goals as goal

pub returns-clause-opens : goal.returns-clause-opens
returns-clause-opens c image y m offset holds there r = legible_opens image y m holds there offset r

pub returns-clause-gives : goal.returns-clause-gives
returns-clause-gives c image y m x holds there k = legible_gives image y m holds there x k

pub returns-clause-finds : goal.returns-clause-finds
returns-clause-finds c image y m x holds there k keeps = legible_finds image y m holds there x k keeps
