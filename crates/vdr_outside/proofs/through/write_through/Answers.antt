use Rattle.vdr_outside.proofs.Moments.{moments_write, moments_then}
use Rattle.vdr_outside.proofs.through.write_through.Goals as goal

pub returns-in_err-write-clause-moments : goal.returns-in_err-write-clause-moments
returns-in_err-write-clause-moments g c = moments_write _ _ _ _ _ c.requires.range c.write.ensures.time c.write.ensures.images

pub returns-in_err-sync-clause-moments : goal.returns-in_err-sync-clause-moments
returns-in_err-sync-clause-moments g c =
    moments_then _ _ _ _ (moments_write _ _ _ _ _ c.requires.range c.write.ensures.time c.write.ensures.images) c.sync.ensures.time c.sync.ensures.images

pub returns-clause-moments : goal.returns-clause-moments
returns-clause-moments g c =
    moments_then _ _ _ _ (moments_write _ _ _ _ _ c.requires.range c.write.ensures.time c.write.ensures.images) c.sync.ensures.time c.sync.ensures.images
