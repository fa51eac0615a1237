use Rattle.vdr_thin.specs.Handed.{Told}
use Rattle.vdr_thin.specs.Tables.{Key}
use Rattle.std.proofs.Common.{ℕ, List}
use Rattle.vdr_thin.proofs.Handing.{hands_out}
use Rattle.vdr_thin.proofs.laws.law_of_tables.Goals as goal

pub returns : goal.returns
returns c = λ (step : ℕ) (told : List Told) (key : Key). hands_out step key told
