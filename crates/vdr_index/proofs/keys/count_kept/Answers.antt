use Rattle.std.proofs.Common.{arith}
use Rattle.vdr_index.proofs.Firsts.{are_kept}
use Rattle.vdr_index.proofs.keys.count_kept.Goals as goal

pub returns : goal.returns
returns c = are_kept c.args.kept.now c.args.order.now c.requires c.front_of.result c.rank.result (omega (arith, c.front_of.ensures)) (c.rank.ensures c.requires.rises)
