use Rattle.std.proofs.Common.{rules}
use Rattle.vdr_ais.specs.Pending.{key_cmp}
use Rattle.vdr_ais.proofs.entry.Entry.order.Goals as goal

pub returns : goal.returns
unfolding key_cmp
returns c = search rules
