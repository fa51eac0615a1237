use Rattle.vdr_durability.proofs.showing.law_of_saves.Goals as goal
use Rattle.vdr_durability.proofs.Shows.{save_shows, release_shows}

pub returns-clause-saved : goal.returns-clause-saved
returns-clause-saved c = save_shows

pub returns-clause-released : goal.returns-clause-released
returns-clause-released c = release_shows
