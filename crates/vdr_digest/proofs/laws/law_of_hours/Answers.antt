use Rattle.vdr_digest.proofs.HourLemmas.{hours_agree, hours_have_lines}
use Rattle.vdr_digest.proofs.laws.law_of_hours.Goals as goal

pub returns : goal.returns
returns c = record { lines = hours_have_lines; agree = hours_agree }
