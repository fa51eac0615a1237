use Rattle.std.proofs.Common.{◌≡◌, arith}
use Rattle.vdr_readout.proofs.Rows.{below_all}
use Rattle.vdr_readout.proofs.informing.below_of.Goals as goal

pub returns : goal.returns
returns g c =
    let end : c.loop-before.before ≡ 32 = omega (arith, c.loop-before-test.false, c.loop-before.auto.before-end) in
    below_all c.loop-before.before (g.S.Saves.table c.args.saves.now) c.args.text.now _ _ end c.loop-before.invariant c.in_ok-push_config.ensures
