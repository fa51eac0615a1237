use Rattle.std.proofs.Common.{refl}
use Rattle.vdr_evidence.specs.Files.{covered, heading_bytes}
use Rattle.vdr_verify.proofs.Refusals.{digest_on, digest_stops, expected, unexpected}
use Rattle.vdr_verify.proofs.closing.read_digest.Goals as goal

pub returns-then-same-clause-reads : goal.returns-then-same-clause-reads
returns-then-same-clause-reads g c = λ first h q seen is.
    digest_on _ _ _ _ _ q h seen _ is (c.digest-wanted.ensures (covered (heading_bytes h) seen) is.behind.held) (expected _ _ _ _ _ c.in-Ok.same c.in-Ok.ensures.expects c.if-same.true)

pub returns-clause-reads : goal.returns-clause-reads
returns-clause-reads g c = λ first h q seen is.
    digest_stops _ _ _ q h seen _ _ is (c.digest-wanted.ensures (covered (heading_bytes h) seen) is.behind.held) refl (unexpected _ _ _ _ _ c.in-Ok.same c.in-Ok.ensures.expects c.if-same.false)
