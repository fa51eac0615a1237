use Rattle.vdr_rows.proofs.Fielded.{eleven}
use Rattle.vdr_rows.proofs.laws.law_of_fields.Goals as goal

pub returns : goal.returns
returns c = eleven
