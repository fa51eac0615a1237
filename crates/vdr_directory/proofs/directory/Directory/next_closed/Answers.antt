use Rattle.std.proofs.Common.{sym}
use Rattle.vdr_directory.proofs.Telling.{closed_none, closed_some}
use Rattle.vdr_directory.proofs.directory.Directory.next_closed.Goals as goal

pub returns-clause-some : goal.returns-clause-some
returns-clause-some c = rw (sym c.self.view_is) (closed_some _ c.newest_slot.result c.first_clear.result (rw (sym c.self.view_is) at c.newest_slot.ensures) c.first_clear.ensures.some)

pub returns-clause-none : goal.returns-clause-none
returns-clause-none c = rw (sym c.self.view_is) (closed_none _ c.newest_slot.result c.first_clear.result (rw (sym c.self.view_is) at c.newest_slot.ensures) c.self.invariant c.first_clear.ensures.none)
