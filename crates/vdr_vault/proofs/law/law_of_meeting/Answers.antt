use Rattle.vdr_vault.proofs.Meeting.{knows_to_meet}
use Rattle.vdr_vault.proofs.law.law_of_meeting.Goals as goal

pub returns : goal.returns
returns c = knows_to_meet
