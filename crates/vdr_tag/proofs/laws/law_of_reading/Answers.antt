use Rattle.vdr_tag.proofs.Readings.{reading-front, reading-refused}
use Rattle.vdr_tag.proofs.Totality.{HasFront-from_reading, IsRefused-from_reading}
use Rattle.vdr_tag.proofs.laws.law_of_reading.Goals as goal

pub returns : goal.returns
returns c = record {
  front = λ bytes values n. (HasFront-from_reading bytes values n, reading-front bytes values n);
  refused = λ bytes bad. (IsRefused-from_reading bytes bad, reading-refused bytes bad);
}
