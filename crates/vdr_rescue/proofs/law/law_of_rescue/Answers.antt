use Rattle.vdr_rescue.proofs.OfLives.{ours_find, plays_same, rescues_life}
use Rattle.vdr_rescue.proofs.law.law_of_rescue.Goals as goal

pub returns-clause-gives : goal.returns-clause-gives
returns-clause-gives c = rescues_life

pub returns-clause-finds : goal.returns-clause-finds
returns-clause-finds c image y m x ours holds there k = ours_find image y m holds there ours x k

pub returns-clause-plays : goal.returns-clause-plays
returns-clause-plays c = plays_same
