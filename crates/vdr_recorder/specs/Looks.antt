-- What a call that only reads leaves of a recorder.
use Rattle.std.specs.Prelude.{◌≡◌, ℕ, List}
use Rattle.vdr_terms.specs.Queries.{Query}
use Rattle.vdr_core.specs.Histories.{Event, Opening}
use Rattle.vdr_core.specs.Histories.Act.{Look}
use Rattle.vdr_durability.specs.Playback.{medium_of}
use Rattle.vdr_outside.specs.Disk.{Disk}
use Rattle.vdr_vault.specs.Refusals.{HasVisitCause}
use Rattle.vdr_vault.specs.Visits.{HasOnlyRead}
use Rattle.vdr_recorder.specs.Recordings.{HasDone, HasRecorded, RecorderState}

module _ {tells tells_images : Type 0} where
  -- A query's medium was read, and nothing else was done. That is one event of the history, a look. A fault is answered only where it has its
  -- cause.
  pub record HasLooked (query : Query) (old new : RecorderState) (before after : Disk tells tells_images) (read_before read_now faults_before faults_now : List ℕ) (answered : Type 0) : Type 0 where
    pub read : HasOnlyRead query old.vault new.vault before after read_before read_now
    pub maker : new.maker ≡ old.maker
    pub is_open : new.is_open ≡ old.is_open
    pub done : (opening : Opening) (events : List Event) (t0 : ℕ) → HasRecorded opening events t0 old before → HasDone opening events t0 Look new before after
    pub cause : HasVisitCause (medium_of query.medium) old.vault.failed faults_before faults_now answered
