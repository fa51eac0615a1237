use Rattle.std.proofs.Common.{◌≡◌, ◌≤◌, ◌<◌, ℕ, None, length, get_or, slice_index_or}
use Rattle.vdr_terms.specs.Records.{none_missed}
use Rattle.vdr_capture.specs.declared.lane.Lane.{Lane}
use Rattle.vdr_session.specs.Feeding.{RestIs}
use Rattle.vdr_session.proofs.summing.rest_of.Given as goal

abbrev pub invariant-loop-group : goal.invariant-loop-group
invariant-loop-group g l =
    ((k : ℕ) (d : Lane g.row.P.Denot) → k < l.group → RestIs (get_or l.queues k None) (get_or l.lanes k d) (slice_index_or l.rest k none_missed))
    × ((k : ℕ) → l.group ≤ k → slice_index_or l.rest k none_missed ≡ none_missed)
    × (length l.rest ≡ 16)
