use Rattle.vdr_review.proofs.Olds.{gone_more}
use Rattle.vdr_review.proofs.window.Window.drop_before.Goals as goal

pub loop-preserved : goal.loop-preserved
loop-preserved c = gone_more c.args.last c.args.self.now c.loop.self c.pop_before.new.self c.loop.invariant c.loop-test.ensures
