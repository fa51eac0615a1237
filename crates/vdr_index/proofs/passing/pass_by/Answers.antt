use Rattle.vdr_index.specs.declared.position.Position.{Position}
use Rattle.vdr_index.proofs.PassLemmas.{none_starts, pass_into}
use Rattle.vdr_index.proofs.StepLemmas.{batch_stands}
use Rattle.vdr_index.proofs.passing.pass_by.Goals as goal

pub returns-in_default : goal.returns-in_default
returns-in_default c = record {
  passes = c.loop-reached.invariant.0;
  next = none_starts c.args.segment.now c.args.selection.now c.loop-reached.reached c.walk.result c.loop-reached.invariant.0.stands c.loop-reached-test.true c.walk.ensures c.in_default.not-Batch;
}

pub pass_in-reached-requires-in-loop-reached : goal.pass_in-reached-requires-in-loop-reached
pass_in-reached-requires-in-loop-reached c = batch_stands c.args.segment.now c.loop-reached.reached.to c.in-Batch.from c.in-Batch.to c.in-Batch.ensures

pub loop-reached-preserved : goal.loop-reached-preserved
loop-reached-preserved c =
    let next : Position = c.pass_in-reached-in-loop-reached.result in (
      pass_into c.args.segment.now c.args.selection.now c.args.position c.loop-reached.reached next c.in-Batch.from c.in-Batch.to c.loop-reached.invariant.0 c.loop-reached-test.true c.in-Batch.ensures
          c.pass_in-reached-in-loop-reached.ensures.passes,
      c.pass_in-reached-in-loop-reached.ensures.next,
    )

pub returns-clause-next : goal.returns-clause-next
returns-clause-next c = c.loop-reached.invariant.1 c.loop-reached-test.false
