use Rattle.vdr_pcm.proofs.PcmLemmas.{IsPcm-from_reading, reading-from_IsPcm}
use Rattle.vdr_pcm.proofs.laws.law_of_pcm.Goals as goal

pub returns : goal.returns
returns c = λ bytes frame are_bytes. (IsPcm-from_reading bytes frame are_bytes, reading-from_IsPcm bytes frame)
