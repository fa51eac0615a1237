use Rattle.vdr_durability.proofs.ends.law_of_ends_off.Goals as goal
use Rattle.vdr_durability.proofs.Meeting.{front_meets, none_off, one_off, meet_or_off}

pub returns-clause-fronts : goal.returns-clause-fronts
returns-clause-fronts c = front_meets

pub returns-clause-none : goal.returns-clause-none
returns-clause-none c = none_off

pub returns-clause-one : goal.returns-clause-one
returns-clause-one c = one_off

pub returns-clause-some : goal.returns-clause-some
returns-clause-some c = meet_or_off
