use Rattle.std.proofs.Common.{sym, ◌∙◌}
use Rattle.vdr_directory.proofs.Telling.{next_seq_is}
use Rattle.vdr_ring.proofs.ring.Ring.next_seq.Goals as goal

pub returns-in-Some : goal.returns-in-Some
returns-in-Some c = rw (sym c.self.view_is) (λ placed tells order. next_seq_is _ placed c.self.inside.directory tells order c.in-Some.newest _ (sym c.newest.ensures.newest ∙ c.in-Some.is) c.saturating_add.ensures)
