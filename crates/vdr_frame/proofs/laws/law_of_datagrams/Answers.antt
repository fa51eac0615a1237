use Rattle.vdr_frame.proofs.LinkLemmas.{finds_datagrams}
use Rattle.vdr_frame.proofs.laws.law_of_datagrams.Goals as goal

pub returns : goal.returns
returns c = finds_datagrams
