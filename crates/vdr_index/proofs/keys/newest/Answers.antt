use Rattle.vdr_index.proofs.Firsts.{newest_kept, none_kept}
use Rattle.vdr_index.proofs.keys.newest.Goals as goal

pub returns-then-count-eq0-clause-none : goal.returns-then-count-eq0-clause-none
returns-then-count-eq0-clause-none c = none_kept c.args.kept.now c.args.order.now c.requires c.count_kept-count.result c.count_kept-count.ensures c.if-count-eq0.true

pub returns-clause-some : goal.returns-clause-some
returns-clause-some c = newest_kept c.args.kept.now c.args.order.now c.requires c.count_kept-count.result c.count_kept-count.ensures c.if-count-eq0.false
