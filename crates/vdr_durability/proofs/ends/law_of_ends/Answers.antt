use Rattle.vdr_durability.proofs.ends.law_of_ends.Goals as goal
use Rattle.vdr_durability.proofs.Meeting.{level_meet, meet_parts, none_meet}
use Rattle.vdr_durability.proofs.Restored.{passed_leads, passed_meet, reached_level}

pub returns-clause-passed : goal.returns-clause-passed
returns-clause-passed c = λ members reading batch some leads h. meet_parts members reading batch some h leads

pub returns-clause-meet : goal.returns-clause-meet
returns-clause-meet c = λ members given waiting reading batch h. (passed_leads members given waiting batch reading h, passed_meet members given waiting batch reading h)

pub returns-clause-reached : goal.returns-clause-reached
returns-clause-reached c = λ members given reading batch h. reached_level members given batch reading h

pub returns-clause-empty : goal.returns-clause-empty
returns-clause-empty c = λ members reading leads h. none_meet members reading h leads

pub returns-clause-level : goal.returns-clause-level
returns-clause-level c = level_meet
