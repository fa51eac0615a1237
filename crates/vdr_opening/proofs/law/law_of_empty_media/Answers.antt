use Rattle.vdr_opening.proofs.Fronts.{empty_holds, empty_meet}
use Rattle.vdr_opening.proofs.law.law_of_empty_media.Goals as goal

pub returns-clause-holds : goal.returns-clause-holds
returns-clause-holds c = empty_holds

pub returns-clause-meet : goal.returns-clause-meet
returns-clause-meet c = empty_meet
