use Rattle.std.proofs.Common.{rules}
use Rattle.vdr_remake.proofs.Shutting.{closing_moments}
use Rattle.vdr_remake.proofs.closing.close_medium.Goals as goal

pub returns-clause-moments : goal.returns-clause-moments
returns-clause-moments g c =
    closing_moments _ _ _ _ _ c.sync.ensures.time c.sync.ensures.images c.in_ok-sync.ensures.durable c.read.ensures.unchanged (search rules) c.write_through.ensures.moments
