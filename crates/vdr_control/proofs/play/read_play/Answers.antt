use Rattle.vdr_control.proofs.IdLemmas.{if_none}
use Rattle.vdr_control.proofs.PlayLemmas.{no_play}
use Rattle.vdr_control.proofs.play.read_play.Goals as goal

pub returns-in_err-medium-clause-none : goal.returns-in_err-medium-clause-none
returns-in_err-medium-clause-none c =
    if_none c.from_residual.result (no_play c.args.medium.now c.args.channel.now c.args.from.now c.args.to.now c.in_err-medium.ensures.none)
