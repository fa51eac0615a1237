use Rattle.std.proofs.Common.{◌≡◌, ◌≤◌, ◌<◌, ℕ, None, get_or, length}
use Rattle.vdr_desk.specs.declared.desk.Desk.{Desk}
use Rattle.vdr_session.specs.declared.mark.Mark.{Mark}
use Rattle.vdr_session.proofs.recording.reset.Given as goal

abbrev pub invariant-loop-i : goal.invariant-loop-i
invariant-loop-i g l =
    ((k : ℕ) (d : Desk g.row.L.Denot Mark) → k < l.i → get_or l.desks k d ≡ record (get_or l.initial.desks k d) { pass = None; cause = None })
    × ((k : ℕ) (d : Desk g.row.L.Denot Mark) → l.i ≤ k → get_or l.desks k d ≡ get_or l.initial.desks k d)
    × (length l.desks ≡ length l.initial.desks)
