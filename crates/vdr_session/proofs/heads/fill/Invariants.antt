use Rattle.std.proofs.Common.{◌≡◌, ◌≤◌, ◌-◌, ◌/◌, ◌++◌, ℕ, Bool, List, length}
use Rattle.vdr_terms.specs.Rates.{Limit}
use Rattle.vdr_core.specs.Taken.{Captured as CapturedTold}
use Rattle.vdr_recorder.specs.Making.{least_datagram}
use Rattle.vdr_run.specs.Charges.{Foretells}
use Rattle.vdr_session.specs.Heads.{AreHeld}
use Rattle.vdr_session.specs.Lanes.{AreMet, StayJoined}
use Rattle.vdr_session.proofs.Charged.{AreCharged}
use Rattle.vdr_session.proofs.heads.fill.Given as goal

abbrev pub invariant-loop-group : goal.invariant-loop-group
invariant-loop-group g l =
    ((configured : ℕ → Bool) → AreMet configured l.queues l.initial.takers → AreMet configured l.queues l.takers)
    × ((before : List CapturedTold) → AreHeld before l.initial.heads l.initial.takers → AreHeld (before ++ l.items.items) l.heads l.takers)
    × StayJoined l.initial.takers l.takers
    × ((limits : ℕ → Limit) (popped : List CapturedTold) → Foretells limits popped l.initial.charges → AreCharged limits popped l.items.items l.left l.room l.charges)
    × (l.room / least_datagram ≤ l.items.capacity)
    × (length l.takers ≡ 16)
    × (length l.heads ≡ 16)

abbrev pub decreases-loop-group : goal.decreases-loop-group
decreases-loop-group g l = l.room / least_datagram - length l.items.items
