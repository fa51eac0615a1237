-- What a session asks of its recorder and of its lanes, and what it tells and keeps whatever it records.
use Rattle.std.specs.Prelude.{◌≡◌, ◌<◌, ℕ, false, List, length, slice_index_or}
use Rattle.vdr_outside.specs.declared.media.Media.{Ghosts as MediaTells}
use Rattle.vdr_opening.specs.Media.{members_with}
use Rattle.vdr_vault.specs.Calls.{SameElsewhere}
use Rattle.vdr_vault.specs.Vaults.{AreRings, VaultState}
use Rattle.vdr_capture.specs.declared.lane.Lane.{Lane}
use Rattle.vdr_recorder.specs.Recordings.{RecorderState}
use Rattle.vdr_session.specs.declared.session.SessionEnd.{SessionEnd}
use Rattle.vdr_session.specs.Sessions.{DecidesSession, HasGroups, HasSessionCause, IsUnbegun}

-- The recorder is over these media, no run is open, and no write has failed.
pub record MayRecord (recorder : RecorderState) (sizes : List ℕ) : Type 0 where
  -- each ring is its medium's
  pub rings : AreRings recorder.vault sizes
  -- no run is open
  pub closed : recorder.is_open ≡ false
  -- no write has failed
  pub works : recorder.vault.failed ≡ false

-- There is a lane for each of the sixteen groups, at the group's number.
pub record AreByGroup {P : Type 0} (lanes : List (Lane P)) : Type 0 where
  -- there are sixteen
  pub sixteen : length lanes ≡ 16
  -- each one is at the number of its group
  pub own : (g : ℕ) (d : Lane P) → g < 16 → (slice_index_or lanes g d).group ≡ g

-- What a session tells of its groups, and what it keeps of its ports and media.
pub record EndsSession {M P : Type 0} (media : MediaTells M) (vault : VaultState) (before after : List (Lane P)) (old new : M)
    (end : SessionEnd) : Type 0 where
  -- there are sums and queues of the configured groups, unless there was no memory for them
  pub groups : HasGroups vault.config.groups end
  -- a run is refused by what the vault tells, and else it is begun
  pub decides : DecidesSession vault end.outcome
  -- where there was no memory, or the run was refused, nothing was called
  pub unbegun : IsUnbegun end.outcome → (new ≡ old) × ((g : ℕ) (d : Lane P) → g < 16 → (slice_index_or after g d).port ≡ (slice_index_or before g d).port)
  -- media but the capsule and the long-term one read as before
  pub others : media.tells → SameElsewhere (members_with 0) (media.disk old).reads (media.disk new).reads
  -- no medium changes its size
  pub sizes : (media.disk new).sizes ≡ (media.disk old).sizes
  -- no count of faults falls, and a fault of the media has its cause
  pub cause : HasSessionCause (media.faults old) (media.faults new) end.outcome
