use Rattle.vdr_bytes.proofs.NumberLemmas.{length-le_u64}
use Rattle.vdr_bytes.proofs.PutsLemmas.{puts-whole}
use Rattle.vdr_verify.proofs.Refusals.{expected_as, number_on, number_stops, unexpected_as}
use Rattle.vdr_verify.proofs.closing.read_number.Goals as goal

pub returns-then-same-clause-reads : goal.returns-then-same-clause-reads
returns-then-same-clause-reads g c = λ first h q seen is.
    number_on _ _ _ _ _ q h seen c.args.records _ is
    (expected_as _ _ _ _ _ _ c.in-Ok.same c.in-Ok.ensures.expects c.if-same.true (puts-whole _ _ _ c.put_u64.ensures (length-le_u64 c.args.records)))

pub returns-clause-reads : goal.returns-clause-reads
returns-clause-reads g c = λ first h q seen is.
    number_stops _ _ _ q h seen c.args.records _ is
    (unexpected_as _ _ _ _ _ _ c.in-Ok.same c.in-Ok.ensures.expects c.if-same.false (puts-whole _ _ _ c.put_u64.ensures (length-le_u64 c.args.records)))
