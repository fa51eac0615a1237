-- `release ID`: an incident is released (this project's profile).
use Rattle.std.specs.Prelude.{◌≡◌, ◌≤◌, ◌⊎◌, ◌∷◌, ℕ, [], codes, decimal, Some, None, Result, Ok, Err, ⊤}
use Rattle.vdr_core.specs.Histories.{Act, Incident, live}
use Rattle.vdr_core.specs.Histories.Act.{Release as Releasing}
use Rattle.vdr_durability.specs.Readings.{EndsMeet}
use Rattle.vdr_outside.specs.Disk.{Image}
use Rattle.vdr_incident.specs.declared.refused.ReleaseRefused.{ReleaseRefused}
use Rattle.vdr_incident.specs.declared.refused.ReleaseRefused.TheVariants as releases
use Rattle.vdr_opening.specs.Media.{members_with, Contents, HoldsContents, reading_of}
use Rattle.vdr_recorder.specs.Watched.{IsToldOnce, Watched}
use Rattle.vdr_recorder.specs.Watched.PlainTurn.{Release as ARelease}
use Rattle.vdr_command.specs.Endings.{IsDone, IsWorkDone}
use Rattle.vdr_command.specs.Opened.{AddsMissing, IfNoIncident, IsOpenableWith, IsUnbegun, MayLeave, MediaEnds, RefusesAll}
use Rattle.vdr_command.specs.Outside.{NothingFailed, Outside}
use Rattle.vdr_command.specs.Promises.{Promise}
use Rattle.vdr_command.specs.declared.status.Status.{Status}
use Rattle.vdr_command.specs.declared.status.Status.TheVariants.{Done, Unformatted, Damaged, MediaFault, NoMemory, NoIncident}

-- How a release under this id ends the command.
abbrev pub status_of_release : Result ⊤ ReleaseRefused → (id : ℕ) → Status
status_of_release (Ok x) id = Done
status_of_release (Err releases.NoSuch) id = NoIncident id
status_of_release (Err releases.Fault) id = MediaFault

-- The command ends so, and in no other way.
abbrev pub IsReleaseStatus : Status → Type 0
IsReleaseStatus Done = ⊤
IsReleaseStatus Unformatted = ⊤
IsReleaseStatus (Damaged m offset) = ⊤
IsReleaseStatus MediaFault = ⊤
IsReleaseStatus NoMemory = ⊤
IsReleaseStatus (NoIncident id) = ⊤
IsReleaseStatus status = ⊥

-- A save is live under the id.
abbrev pub CanRelease : ℕ → Contents → Type 0
CanRelease id x = (saved : Incident) × (live x.table id ≡ Some saved)

-- The act releases this id.
abbrev pub ReleasesId : ℕ → Act → Type 0
ReleasesId id act = act ≡ Releasing id

-- What is live is released, and what is not is refused by its own refusal, or there was no memory.
pub record ReleasesAll (id : ℕ) (image : Image) (status : Status) : Type 0 where
  pub refused : RefusesAll image status
  pub incident : (x : Contents) → HoldsContents image x → EndsMeet (members_with x.further) (reading_of x) → live x.table id ≡ None
      → (status ≡ NoIncident id) ⊎ (status ≡ NoMemory)
  pub done : (x : Contents) → HoldsContents image x → EndsMeet (members_with x.further) (reading_of x) → CanRelease id x → IsDone status

-- What `release` owes. It prints nothing. `w`: what an object was told meanwhile, where it `hears` anything.
pub record Releases {tells tells_images : Type 0} (id : ℕ) (old new : Outside tells tells_images) (hears : Type 0) (w : Watched) (status : Status) : Type 0 where
  pub own : IsReleaseStatus status
  -- the refusal comes only with its cause
  pub no_incident : IfNoIncident status (λ told. (told ≡ id) × (tells → IsOpenableWith old.media.disk.reads (λ x. live x.table id ≡ None)))
  pub silent : new.output ≡ old.output
  -- the media, and what is said of them
  pub media : MediaEnds (CanRelease id) (λ m offset. ⊥) (MayLeave (ReleasesId id) new.media.disk.clock status) old.media new.media status
  pub missing : IsUnbegun status → AddsMissing old.media.disk new.media.disk
  -- where the work was done, an object outside was told of the release once all images showed it
  pub heard : IsWorkDone status → hears → IsToldOnce old.media.disk new.media.disk (ARelease id) w
  -- nothing else comes in the place of the release, or of a refusal, but want of memory
  pub complete : NothingFailed old new → tells → ReleasesAll id old.media.disk.reads status

abbrev pub releasing : (id : ℕ) → Promise
releasing id = record {
  words = λ texts. texts ≡ codes "release" ∷ decimal id ∷ [];
  legal = (1 ≤ id) × (id ≤ 32);
  reads_input = ⊥;
  uses_media = ⊤;
  owes = λ old new hears w status. Releases id old new hears w status;
}
