use Rattle.vdr_durability.proofs.retention_law.law_of_windows.Goals as goal
use Rattle.vdr_durability.proofs.Appended.{holds_less, outside_all}
use Rattle.vdr_durability.proofs.Ordered.{same_window, same_places, save_keeps_places}

pub returns-clause-window : goal.returns-clause-window
returns-clause-window c = same_window

pub returns-clause-places : goal.returns-clause-places
returns-clause-places c = same_places

pub returns-clause-less : goal.returns-clause-less
returns-clause-less c = holds_less

pub returns-clause-saved : goal.returns-clause-saved
returns-clause-saved c = save_keeps_places

pub returns-clause-outside : goal.returns-clause-outside
returns-clause-outside c = outside_all
