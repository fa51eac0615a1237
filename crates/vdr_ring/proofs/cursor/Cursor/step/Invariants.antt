use Rattle.vdr_entry.specs.Queries.{asked}
use Rattle.vdr_index.specs.Indexes.{span_as}
use Rattle.vdr_ring.specs.Walks.{segments_left}
use Rattle.vdr_ring.proofs.Midway.{IsMidway}
use Rattle.vdr_ring.proofs.cursor.Cursor.step.Given as goal

abbrev pub invariant-loop-self : goal.invariant-loop-self
invariant-loop-self g l =
    IsMidway g.M.Media (asked l.selection.query) (span_as l.selection.span) l.initial.ring l.ring l.initial.self l.self l.initial.media l.media

abbrev pub decreases-loop-self : goal.decreases-loop-self
decreases-loop-self g l = segments_left l.self.standing
