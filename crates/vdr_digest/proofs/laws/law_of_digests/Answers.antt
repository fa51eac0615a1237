use Rattle.vdr_digest.proofs.HourLemmas.{digest_is_printed}
use Rattle.vdr_digest.proofs.laws.law_of_digests.Goals as goal

pub returns : goal.returns
returns c = digest_is_printed
