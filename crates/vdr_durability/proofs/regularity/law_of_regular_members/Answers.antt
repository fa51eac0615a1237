use Rattle.vdr_durability.proofs.regularity.law_of_regular_members.Goals as goal
use Rattle.vdr_durability.proofs.Regular.{level_regular, passed_regular, pins_allowed, member_has_victim, lacked_is_paced}

pub returns-clause-pins : goal.returns-clause-pins
returns-clause-pins c = pins_allowed

pub returns-clause-victim : goal.returns-clause-victim
returns-clause-victim c = member_has_victim

pub returns-clause-lacked : goal.returns-clause-lacked
returns-clause-lacked c = lacked_is_paced

pub returns-clause-level : goal.returns-clause-level
returns-clause-level c = level_regular

pub returns-clause-passed : goal.returns-clause-passed
returns-clause-passed c = passed_regular
