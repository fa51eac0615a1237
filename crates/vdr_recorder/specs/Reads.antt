-- What a recorder tells as a reader, and what its visits leave.
use Rattle.std.specs.Prelude.{◌≡◌, ℕ, List}
use Rattle.vdr_terms.specs.Queries.{Query}
use Rattle.vdr_terms.specs.Records.{Record}
use Rattle.vdr_core.specs.Histories.{Event, Opening}
use Rattle.vdr_durability.specs.Playback.{selected}
use Rattle.vdr_outside.specs.declared.media.Media.{Ghosts as MediaTells}
use Rattle.vdr_directory.specs.Sequence.{Placed}
use Rattle.vdr_visit.specs.Visits.{ReadEnd}
use Rattle.vdr_visit.specs.Visits.ReadEnd.{AllRead, ReadDamaged, ReadFault}
use Rattle.vdr_vault.specs.Plays.{TellsDamageOf}
use Rattle.vdr_vault.specs.Vaults.{IsReadable}
use Rattle.vdr_recorder.specs.Looks.{HasLooked}
use Rattle.vdr_recorder.specs.Recordings.{RecorderState}

module _ {M : Type 0} (media : MediaTells M) where
  -- The media can be read as what some events left, of which the query selects these records.
  pub record Selects (r : RecorderState) (x : M) (query : Query) (records : List Record) : Type 0 where
    pub told : media.tells
    pub opening : Opening
    pub events : List Event
    pub placed : ℕ → List Placed
    pub readable : IsReadable opening events r.vault placed (media.disk x)
    pub are : records ≡ selected opening events query

  -- Visits of the query are a look. Damage that is met is told.
  pub record HasRead (query : Query) (old new : RecorderState) (x y : M) (end : ReadEnd) : Type 0 where
    pub looked : HasLooked query old new (media.disk x) (media.disk y) (media.bytes_read x) (media.bytes_read y) (media.faults x) (media.faults y) (end ≡ ReadFault)
    pub damage : TellsDamageOf query old.vault (media.disk x) (λ m offset. end ≡ ReadDamaged m offset) (end ≡ AllRead)
