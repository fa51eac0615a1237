use Rattle.vdr_rows.proofs.Degrees.{degrees_near}
use Rattle.vdr_rows.proofs.laws.law_of_decimal_places.Goals as goal

pub returns : goal.returns
returns c = degrees_near
