use Rattle.std.proofs.Common.{◌≡◌, ◌≤◌, ◌/◌, [], true, length}
use mathlib.Core.List.{IsPrefix}
use Rattle.vdr_recorder.specs.Making.{least_datagram}
use Rattle.vdr_run.specs.Charges.{Foretells}
use Rattle.vdr_session.specs.Heads.{AreHeld}
use Rattle.vdr_session.specs.Lanes.{AreMet, StayJoined}
use Rattle.vdr_session.specs.Marks.{is_begun, taken_in}
use Rattle.vdr_session.proofs.recording_loop.record_queued.Given as goal

abbrev pub invariant-loop : goal.invariant-loop
invariant-loop g l =
    ((l.pass.latch ≡ l.initial.pass.latch) × (l.pass.parts ≡ l.initial.pass.parts) × (l.pass.leads ≡ true) × (is_begun l.pass.own ≡ true))
    × AreMet g.T.Records.configured l.queues l.takers
    × AreHeld (taken_in l.pass.own) l.heads l.takers
    × StayJoined l.initial.takers l.takers
    × (l.room / least_datagram ≤ l.batch.items.capacity)
    × (l.batch.items.items ≡ [])
    × (length l.takers ≡ 16)
    × IsPrefix l.initial.pass.seen l.pass.seen
    × Foretells g.T.Records.limits (taken_in l.pass.own) l.batch.charges
