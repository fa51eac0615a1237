use Rattle.std.proofs.Common.{if◌then◌else◌, suc, []}
use Rattle.vdr_entry.specs.Queries.{asked}
use Rattle.vdr_ring.specs.Walks.{steps_left}
use Rattle.vdr_vault.proofs.Visiting.{IsVisiting}
use Rattle.vdr_vault.proofs.each.visit_each.Given as goal

abbrev pub invariant-loop-found : goal.invariant-loop-found
invariant-loop-found g l =
    IsVisiting (asked l.query) l.fn.vault l.vault (g.M.Media.disk l.fn.media) (g.M.Media.disk l.media) (g.M.Media.bytes_read l.fn.media) (g.M.Media.bytes_read l.media)
    (g.M.Media.faults l.fn.media) (g.M.Media.faults l.media) (g.O.Sink.faults l.fn.out) (g.O.Sink.faults l.out) (g.O.Sink.taken l.fn.out) (g.O.Sink.taken l.out)
    (λ (first : g.row.V.Denot). g.V.Visitor.has first [] l.fn.visitor) (λ (first : g.row.V.Denot) seen. g.V.Visitor.has first seen l.visitor) g.V.Visitor.line l.cursor l.found

abbrev pub decreases-loop-found : goal.decreases-loop-found
decreases-loop-found g l = if l.found then suc (steps_left l.cursor) else 0
