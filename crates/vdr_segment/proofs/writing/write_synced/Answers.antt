use Rattle.std.proofs.Common.{◌∙◌}
use Rattle.vdr_outside.proofs.Moments.{moments_write, moments_then}
use Rattle.vdr_segment.proofs.Fronts.{front_written, front_torn}
use Rattle.vdr_segment.proofs.writing.write_synced.Goals as goal

pub returns-in_err-write-clause-moments : goal.returns-in_err-write-clause-moments
returns-in_err-write-clause-moments g c = moments_write _ _ _ _ _ c.requires.range c.write.ensures.time c.write.ensures.images

pub returns-in_err-sync-clause-moments : goal.returns-in_err-sync-clause-moments
returns-in_err-sync-clause-moments g c =
    moments_then _ _ _ _ (moments_write _ _ _ _ _ c.requires.range c.write.ensures.time c.write.ensures.images) c.sync.ensures.time c.sync.ensures.images

pub returns-clause-moments : goal.returns-clause-moments
returns-clause-moments g c =
    moments_then _ _ _ _ (moments_write _ _ _ _ _ c.requires.range c.write.ensures.time c.write.ensures.images) c.sync.ensures.time c.sync.ensures.images

pub returns-in_err-write-clause-front_reads : goal.returns-in_err-write-clause-front_reads
returns-in_err-write-clause-front_reads g c told = front_torn _ _ _ _ _ c.requires.behind (c.in_err-write.ensures.torn told)

pub returns-in_err-sync-clause-front_reads : goal.returns-in_err-sync-clause-front_reads
returns-in_err-sync-clause-front_reads g c told = front_written _ _ _ _ _ c.requires.behind (c.sync.ensures.reads told ∙ c.in_ok-write.ensures.reads told)

pub returns-clause-front_reads : goal.returns-clause-front_reads
returns-clause-front_reads g c told = front_written _ _ _ _ _ c.requires.behind (c.sync.ensures.reads told ∙ c.in_ok-write.ensures.reads told)
