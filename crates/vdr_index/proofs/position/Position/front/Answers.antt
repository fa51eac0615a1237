use Rattle.std.proofs.Common.{refl}
use Rattle.vdr_index.proofs.StepLemmas.{front_ahead}
use Rattle.vdr_index.proofs.position.Position.front.Goals as goal

pub returns-clause-ahead : goal.returns-clause-ahead
returns-clause-ahead c = λ segment records. front_ahead segment _ records refl refl
