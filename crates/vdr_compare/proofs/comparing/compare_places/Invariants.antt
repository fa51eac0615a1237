use Rattle.std.proofs.Common.{◌≡◌, ◌≤◌, ◌+◌, List}
use Rattle.vdr_outside.specs.Causes.{NoneFalls}
use Rattle.vdr_outside.specs.Disk.{Unchanged, content}
use Rattle.vdr_compare.specs.declared.standing.Standing.{Standing as AStanding}
use Rattle.vdr_compare.specs.Sides.{AreAhead, ahead_of}
use Rattle.vdr_compare.proofs.Going.{IsGoneOver}
use Rattle.vdr_compare.proofs.comparing.compare_places.Given as goal

abbrev pub invariant-loop-standing : goal.invariant-loop-standing
invariant-loop-standing g l = record {
  capsule : l.capsule.cursor.area ≡ l.fn.capsule.cursor.area;
  longterm : l.longterm.cursor.area ≡ l.fn.longterm.cursor.area;
  unchanged : Unchanged (g.M.Media.disk l.fn.media) (g.M.Media.disk l.media);
  later : NoneFalls (g.M.Media.faults l.fn.media) (g.M.Media.faults l.media);
  output : g.O.Sink.faults l.fn.out ≤ g.O.Sink.faults l.out;
  goes : g.M.Media.tells → (ahead : List AStanding)
      → AreAhead (content (g.M.Media.disk l.fn.media).reads l.fn.capsule.cursor.area.medium) (content (g.M.Media.disk l.fn.media).reads l.fn.longterm.cursor.area.medium) l.fn.capsule l.fn.longterm ahead
      → IsGoneOver (content (g.M.Media.disk l.fn.media).reads l.fn.capsule.cursor.area.medium) (content (g.M.Media.disk l.fn.media).reads l.fn.longterm.cursor.area.medium) l.capsule l.longterm l.fn.tally l.tally ahead
      (g.O.Sink.taken l.fn.out) (g.O.Sink.taken l.out);
}

abbrev pub decreases-loop-standing : goal.decreases-loop-standing
decreases-loop-standing g l = ahead_of l.capsule + ahead_of l.longterm
