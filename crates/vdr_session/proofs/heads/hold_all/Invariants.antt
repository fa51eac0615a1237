use Rattle.std.proofs.Common.{◌≡◌, ◌<◌, ℕ, Bool, List, true, None, length, get_or}
use Rattle.vdr_core.specs.Taken.{Captured as CapturedTold}
use Rattle.vdr_session.specs.Heads.{AreHeld}
use Rattle.vdr_session.specs.Lanes.{AreMet, IsDrained, StayJoined}
use Rattle.vdr_session.proofs.heads.hold_all.Given as goal

abbrev pub invariant-loop-group : goal.invariant-loop-group
invariant-loop-group g l =
    ((configured : ℕ → Bool) → AreMet configured l.queues l.initial.takers → AreMet configured l.queues l.takers)
    × ((items : List CapturedTold) → AreHeld items l.initial.heads l.initial.takers → AreHeld items l.heads l.takers)
    × StayJoined l.initial.takers l.takers
    × (l.none ≡ true → (k : ℕ) → k < l.group → (get_or l.heads k None ≡ None) × IsDrained (get_or l.takers k None))
    × (length l.takers ≡ 16)
    × (length l.heads ≡ 16)
