use Rattle.std.proofs.Common.{◌∷◌, rules}
use Rattle.vdr_watch.specs.Signs.{Begins}
use Rattle.vdr_watch.proofs.tables.Tables.add.Goals as goal

pub returns-in-Start-clause-still : goal.returns-in-Start-clause-still
returns-in-Start-clause-still g c = (Begins ∷ c.requires.0, record { beats = search rules; states = c.requires.1.states; alerts = c.requires.1.alerts })
