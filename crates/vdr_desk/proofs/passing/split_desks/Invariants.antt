use Rattle.std.proofs.Common.{◌≡◌, ◌≤◌, ◌<◌, ◌-◌, ℕ, [], false, Some, get_or, length}
use Rattle.vdr_desk.specs.declared.desk.Desk.{Desk}
use Rattle.vdr_desk.proofs.passing.split_desks.Given as goal

abbrev pub invariant-loop-i : goal.invariant-loop-i
invariant-loop-i g l =
    (l.pass ≡ record l.initial.pass { parts = l.initial.pass.parts - l.i })
    × ((k : ℕ) (d : Desk g.row.L.Denot g.row.T-Event.Denot) → k < l.i
    → get_or l.desks k d ≡ record (get_or l.initial.desks k d) { pass = Some (record { latch = l.initial.pass.latch; parts = 1; leads = false; seen = l.initial.pass.seen; own = [] }) })
    × ((k : ℕ) (d : Desk g.row.L.Denot g.row.T-Event.Denot) → l.i ≤ k → get_or l.desks k d ≡ get_or l.initial.desks k d)
    × (length l.desks ≡ length l.initial.desks)
