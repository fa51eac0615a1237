use Rattle.vdr_durability.proofs.playback_law.law_of_playback.Goals as goal
use Rattle.vdr_durability.proofs.Found.{is_tested, is_retained, window_is, is_in_order, nothing_found, meeting_found}

pub returns-clause-tested : goal.returns-clause-tested
returns-clause-tested c = is_tested

pub returns-clause-retained : goal.returns-clause-retained
returns-clause-retained c = is_retained

pub returns-clause-window : goal.returns-clause-window
returns-clause-window c = window_is

pub returns-clause-order : goal.returns-clause-order
returns-clause-order c = is_in_order

pub returns-clause-left_out : goal.returns-clause-left_out
returns-clause-left_out c = nothing_found

pub returns-clause-that_meet : goal.returns-clause-that_meet
returns-clause-that_meet c = meeting_found
