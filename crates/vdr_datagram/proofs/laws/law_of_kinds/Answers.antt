use Rattle.vdr_datagram.proofs.TokenLemmas.{token-of_frame, token-of_image}
use Rattle.vdr_datagram.proofs.laws.law_of_kinds.Goals as goal

pub returns : goal.returns
returns c = record { image = token-of_image; pcm = token-of_frame }
