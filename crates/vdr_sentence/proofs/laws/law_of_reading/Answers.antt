use Rattle.vdr_sentence.proofs.Readings.{IsSentence-from_reading, reading-from_sentence, reading-refused, refused-from_reading}
use Rattle.vdr_sentence.proofs.laws.law_of_reading.Goals as goal

pub returns : goal.returns
returns c = record {
  sentence = λ bytes start content. (IsSentence-from_reading bytes (record { start = start; content = content }), reading-from_sentence bytes start content);
  refused = λ bytes bad. (refused-from_reading bytes bad, reading-refused bytes bad);
}
