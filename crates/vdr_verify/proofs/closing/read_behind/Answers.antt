use Rattle.std.proofs.Common.{Ok, refl, true}
use Rattle.vdr_verify.proofs.Pieces.{took}
use Rattle.vdr_verify.proofs.Refusals.{behind_stops}
use Rattle.vdr_verify.proofs.closing.read_behind.Goals as goal

pub returns-clause-reads : goal.returns-clause-reads
returns-clause-reads g c = λ first h q seen is.
    behind_stops _ _ _ _ q h seen c.take.new.into _ is (took _ _ _ _ _ (Ok c.in-Ok.more) c.in-Ok.more true refl c.if-not-more.false c.in-Ok.ensures.takes).consumed c.take.auto.into refl
