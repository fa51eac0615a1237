use Rattle.vdr_durability.proofs.showing.law_of_further_runs.Goals as goal
use Rattle.std.proofs.Common.{refl}
use Rattle.vdr_durability.proofs.Reopened.{reopened_window, reopened_places, reopened_goes_on, reopened_is_opening}

pub returns-clause-window : goal.returns-clause-window
returns-clause-window c = reopened_window

pub returns-clause-places : goal.returns-clause-places
returns-clause-places c = reopened_places

pub returns-clause-goes_on : goal.returns-clause-goes_on
returns-clause-goes_on c = reopened_goes_on

pub returns-clause-opening : goal.returns-clause-opening
returns-clause-opening c = λ members opening events reading is shown. (reopened_is_opening members opening events reading is shown, record { place = refl; stamp = refl })
