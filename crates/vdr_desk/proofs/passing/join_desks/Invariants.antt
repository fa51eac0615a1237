use Rattle.std.proofs.Common.{◌≡◌, ◌≤◌, ◌<◌, ◌+◌, ℕ, None, IfSome, get_or, length}
use mathlib.Core.List.{IsPrefix}
use Rattle.vdr_desk.specs.declared.desk.Desk.{Desk}
use Rattle.vdr_desk.proofs.passing.join_desks.Given as goal

abbrev pub invariant-loop-i : goal.invariant-loop-i
invariant-loop-i g l =
    ((l.pass.latch ≡ l.initial.pass.latch) × (l.pass.parts ≡ l.initial.pass.parts + l.i) × (l.pass.leads ≡ l.initial.pass.leads) × (l.pass.own ≡ l.initial.pass.own))
    × IsPrefix l.initial.pass.seen l.pass.seen
    × ((k : ℕ) (d : Desk g.row.L.Denot g.row.T-Event.Denot) → k < l.i → IfSome (get_or l.initial.desks k d).pass (λ p. IsPrefix p.seen l.pass.seen))
    × ((k : ℕ) (d : Desk g.row.L.Denot g.row.T-Event.Denot) → k < l.i → get_or l.desks k d ≡ record (get_or l.initial.desks k d) { pass = None })
    × ((k : ℕ) (d : Desk g.row.L.Denot g.row.T-Event.Denot) → l.i ≤ k → get_or l.desks k d ≡ get_or l.initial.desks k d)
    × (length l.desks ≡ length l.initial.desks)
