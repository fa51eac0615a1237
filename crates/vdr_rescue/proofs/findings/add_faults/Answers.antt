use Rattle.std.proofs.Common.{arith}
use Rattle.vdr_rescue.proofs.FindLemmas.{faults_done, faults_more}
use Rattle.vdr_rescue.proofs.findings.add_faults.Goals as goal

pub loop-i-preserved : goal.loop-i-preserved
loop-i-preserved c =
    faults_more c.args.area.segment c.args.heads.now c.args.told.now _ c.loop-i.offsets.items c.loop-i.i _ _ _ (omega (arith, c.requires, c.loop-i-test.true)) (omega (arith, c.loop-i-test.true))
    c.loop-i.invariant c.in_ok-add_fault.ensures

pub returns : goal.returns
returns c = faults_done c.args.area.segment c.args.heads.now c.args.told.now _ c.loop-i.offsets.items c.loop-i.i (omega (arith, c.loop-i-test.false)) c.loop-i.invariant
