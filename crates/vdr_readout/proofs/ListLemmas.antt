-- What `incidents` answers, from what opening the media ensures; and by exclusion, that what may be listed is.
use Rattle.std.proofs.Common.{◌≡◌, ⊎_elim, ℕ, List, [], Result, Ok, refl}
use Rattle.vdr_core.specs.Histories.{Event}
use Rattle.vdr_durability.specs.Readings.{EndsMeet}
use Rattle.vdr_outside.specs.Disk.{SameBut}
use Rattle.vdr_directory.specs.Sequence.{Placed}
use Rattle.vdr_opening.specs.Media.{members_with, Contents, HoldsContents, opening_of, reading_of}
use Rattle.vdr_opening.specs.declared.refused.OpenRefused.{OpenRefused}
use Rattle.vdr_vault.specs.Openings.{OpensAtEachMoment}
use Rattle.vdr_vault.specs.Vaults.{VaultState, ShowsHistory, Stands}
use Rattle.vdr_recorder.proofs.Playing.{config_read}
use Rattle.vdr_recorder.proofs.Resting.{stand_reads}
use Rattle.vdr_command.specs.Endings.{IsWorkDone}
use Rattle.vdr_readout.specs.Incidents.{CanList, IsListStatus, ListsAll}
use Rattle.vdr_command.specs.Opened.{AreLooks, MediaEnds, OneAnswer, WasRecorded}
use Rattle.vdr_command.specs.Outside.{MediaSeen}
use Rattle.vdr_command.specs.declared.status.Status.{Status}
use Rattle.vdr_command.specs.declared.status.Status.TheVariants.{Done, Words, Config, Small, Unformatted, Formatted, Damaged, MediaFault, PortFault, LinkFault, InputFault, OutputFault, NoMemory, Feed, NoChannel, NoIncident, SaveRefused, Place, Tick, ExportKind, ExportNothing, ExportMixed, ExportLong, ExportPart, Capture, NoEvidence, Missing}
use Rattle.vdr_command.proofs.OpenedCompleteness.{damaged_refused, opened_refused, memory_refused, unformatted_refused}
use Rattle.vdr_command.proofs.OpenedLemmas.{OpenedOn, kept_opened, no_looks, opened_so, worked_ends}

module _ {tells tells_images : Type 0} where
  -- What was opened is listed.
  pub listed_ends : {T : Type 0} (old new : MediaSeen tells tells_images) (result : Result T OpenRefused) (r : T) → result ≡ Ok r
      → (vault : VaultState) → OpenedOn old.disk vault
      → ((x : Contents) → tells → HoldsContents old.disk.reads x → WasRecorded x → (placed : ℕ → List Placed) × Stands (opening_of x) [] vault placed new.disk)
      → (tells → SameBut 1 old.disk.reads new.disk.reads)
      → ((x : Contents) → tells → HoldsContents old.disk.reads x → EndsMeet (members_with x.further) (reading_of x) → WasRecorded x → OpensAtEachMoment old.disk new.disk result (ShowsHistory (opening_of x) []))
      → (status : Status) → IsWorkDone status → MediaEnds CanList (λ m offset. ⊥) AreLooks old new status
  listed_ends old new result r is vault parts stands others moments status done =
      worked_ends CanList (λ m offset. ⊥) AreLooks old new status done (opened_so CanList old.disk vault parts (λ x read. tt)) others
      (λ x t holds meet regular. kept_opened x (config_read old.disk.reads x holds) regular AreLooks status old.disk new.disk result r is no_looks
      (λ worked told. let s = stands x t holds regular in stand_reads (opening_of x) [] vault s.0 new.disk s.1 told) (moments x t holds meet regular))

module _ {tells tells_images : Type 0} (old new : MediaSeen tells tells_images) (told : tells) (law : OneAnswer old.disk.reads) (MayBe : List Event → Type 0) where
  pub lists_all : (status : Status) → (status ≡ OutputFault → ⊥) → (status ≡ MediaFault → ⊥) → IsListStatus status → MediaEnds CanList (λ m offset. ⊥) MayBe old new status → ListsAll old.disk.reads status
  lists_all Done output media own ends = let p = ends.openable tt told in record { refused = opened_refused old.disk.reads law Done p.0 p.1 p.2 p.3; done = λ x holds meet. tt }
  lists_all Unformatted output media own ends =
      let un = (ends.unformatted refl).1 told in record { refused = unformatted_refused old.disk.reads un; done = λ x holds meet. absurd (law.formatted x holds un) }
  lists_all (Damaged k at) output media own ends = ⊎_elim
      (λ refused. let r = refused.1 told in record { refused = damaged_refused old.disk.reads law k at r.0 r.1; done = λ x holds meet. absurd (law.either x k at holds meet r.1) })
      (λ none. absurd none)
      ends.damaged
  lists_all NoMemory output media own ends = record { refused = memory_refused old.disk.reads; done = λ x holds meet. tt }
  lists_all MediaFault output media own ends = absurd (media refl)
  lists_all OutputFault output media own ends = absurd (output refl)
  lists_all Words output media own ends = absurd own
  lists_all (Config n) output media own ends = absurd own
  lists_all (Small small) output media own ends = absurd own
  lists_all Formatted output media own ends = absurd own
  lists_all InputFault output media own ends = absurd own
  lists_all (Feed n at) output media own ends = absurd own
  lists_all NoChannel output media own ends = absurd own
  lists_all Place output media own ends = absurd own
  lists_all (PortFault group) output media own ends = absurd own
  lists_all (LinkFault link) output media own ends = absurd own
  lists_all Tick output media own ends = absurd own
  lists_all ExportKind output media own ends = absurd own
  lists_all ExportNothing output media own ends = absurd own
  lists_all (ExportMixed place) output media own ends = absurd own
  lists_all ExportLong output media own ends = absurd own
  lists_all (ExportPart number) output media own ends = absurd own
  lists_all (Missing place) output media own ends = absurd own
  lists_all (Capture number offset) output media own ends = absurd own
  lists_all (NoEvidence named offset) output media own ends = absurd own
  lists_all (NoIncident id) output media own ends = absurd own
  lists_all (SaveRefused cause) output media own ends = absurd own
