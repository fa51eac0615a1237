use Rattle.std.proofs.Common.{sym, subst}
use Rattle.vdr_ais.specs.Pending.{AreEntries}
use Rattle.vdr_ais.proofs.Begun.{no_entries}
use Rattle.vdr_ais.proofs.unfinished.Unfinished.new.Goals as goal

pub invariant_of-result : goal.invariant_of-result
invariant_of-result c = subst AreEntries (sym c.new.ensures.items) no_entries
