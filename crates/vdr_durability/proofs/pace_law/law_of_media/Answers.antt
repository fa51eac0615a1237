use Rattle.vdr_durability.proofs.pace_law.law_of_media.Goals as goal
use Rattle.vdr_durability.proofs.Media.{at_opening, appended, silent, fits, begun_for, replaced}

pub returns-clause-opened : goal.returns-clause-opened
returns-clause-opened c = at_opening

pub returns-clause-appended : goal.returns-clause-appended
returns-clause-appended c = appended

pub returns-clause-silent : goal.returns-clause-silent
returns-clause-silent c = silent

pub returns-clause-fits : goal.returns-clause-fits
returns-clause-fits c = fits

pub returns-clause-begun : goal.returns-clause-begun
returns-clause-begun c = begun_for

pub returns-clause-replaced : goal.returns-clause-replaced
returns-clause-replaced c = replaced
