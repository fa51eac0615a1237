use Rattle.std.proofs.Common.{◌+◌, length, arith}
use Rattle.vdr_datagram.proofs.CutLemmas.{alone-from}
use Rattle.vdr_datagram.proofs.cutting.first_length.Goals as goal

pub returns-then-bytes-i-eq13-clause-alone : goal.returns-then-bytes-i-eq13-clause-alone
returns-then-bytes-i-eq13-clause-alone c =
    alone-from c.args.bytes.now (c.loop-i.i + 1) (omega (arith, c.loop-i-test.true)) (λ k below. c.loop-i.invariant k (omega (arith, below)))

pub returns-clause-alone : goal.returns-clause-alone
returns-clause-alone c =
    alone-from c.args.bytes.now (length c.args.bytes.now) (omega arith) (λ k below. c.loop-i.invariant k (omega (arith, below, c.loop-i-test.false)))
