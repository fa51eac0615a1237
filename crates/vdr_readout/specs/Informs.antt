-- What `info` prints and answers, of both media and of one alone (this project's profile).
use Rattle.std.specs.Prelude.{◌≡◌, ◌⊎◌, ◌∷◌, ℕ, List, [], ◌++◌, codes, Option, Ok, length, ⊤}
use Rattle.vdr_core.specs.Histories as histories
use Rattle.vdr_durability.specs.Readings.{EndsMeet}
use Rattle.vdr_config.specs.Configuration.{Configuration}
use Rattle.vdr_config.specs.Grammar.{configuration}
use Rattle.vdr_terms.specs.Slots.{slot_count}
use Rattle.vdr_outside.specs.Disk.{Image, content}
use Rattle.vdr_media.specs.Formatted.{IsFormatted, IsUnformatted}
use Rattle.vdr_media.specs.Medium.{HoldsText}
use Rattle.vdr_entry.specs.declared.query.Medium.{Medium}
use Rattle.vdr_entry.specs.declared.query.Medium.TheVariants.{Capsule, LongTerm, Incident}
use Rattle.vdr_control.specs.Plays.{medium_word}
use Rattle.vdr_opening.specs.Media.{members_with, Contents, HoldsParts, reading_of}
use Rattle.vdr_opening.specs.Refusals.{IsRefused}
use Rattle.vdr_rescue.specs.Saves.{AreSaves, SavesState, saved_slots}
use Rattle.vdr_info.specs.Helds.{none_held}
use Rattle.vdr_info.specs.Infos.{InfoState, OpensInfo, TellerState, told_behind}
use Rattle.vdr_info.specs.Lines.{config_text, medium_line}
use Rattle.vdr_info.specs.Used.{AreUsed}
use Rattle.vdr_command.specs.Endings.{IsDone, IsWorkDone}
use Rattle.vdr_command.specs.Opened.{IfDamaged, IsUntouched, PrintsText, RefusesAll}
use Rattle.vdr_command.specs.Outside.{MediaFailed, NothingFailed, OutputFailed, Outside}
use Rattle.vdr_command.specs.Promises.{Promise}
use Rattle.vdr_command.specs.declared.status.Status.{Status}
use Rattle.vdr_command.specs.declared.status.Status.TheVariants.{Unformatted, MediaFault, OutputFault, Words}
use Rattle.vdr_teller.specs.Incidents.{incidents_text}
use Rattle.vdr_readout.specs.Incidents.{IsListStatus}
use Rattle.vdr_readout.specs.Reads.{number_asked}
use Rattle.vdr_readout.specs.Rescues.{IsRescueStatus, LeavesRescued, Rescues}
use Rattle.vdr_readout.specs.Sources.{whole_of}

-- Below the lines of media: the rows of the live incidents, and the configuration.
abbrev pub below_text : List (Option histories.Incident) → (text : List ℕ) → List ℕ
below_text table text = incidents_text table ++ config_text text

-- The line of each medium, and what stands below.
abbrev pub info_text : InfoState → List ℕ
info_text info = medium_line info.capsule ++ medium_line info.long_term ++ below_text info.table info.text

-- What can be opened is told, and what can't is refused by its own refusal, or there was no memory.
pub record InformsAll (image : Image) (status : Status) : Type 0 where
  pub refused : RefusesAll image status
  pub done : (x : Contents) → HoldsParts image x → EndsMeet (members_with x.further) (reading_of x) → IsDone status

module _ {tells tells_images : Type 0} (old new : Outside tells tells_images) (status : Status) where
  -- This was read of the media, and is printed.
  pub record PrintsInfo : Type 0 where
    pub info : InfoState
    pub opened : OpensInfo info old.media.disk old.media.bytes_read new.media.bytes_read
    pub text : PrintsText (info_text info) status old.output new.output

  -- What `info` owes.
  pub record Informs : Type 0 where
    pub own : IsListStatus status
    -- what opening reads of the media is told, and no more than twice that is read
    pub printed : IsWorkDone status → tells → PrintsInfo
    -- each refusal and failure comes only with its cause
    pub unformatted : status ≡ Unformatted → tells → IsUnformatted old.media.disk.reads
    pub damaged : IfDamaged status (λ m offset. tells → IsFormatted old.media.disk.reads × IsRefused old.media.disk.reads m offset)
    pub fault : status ≡ MediaFault → MediaFailed old.media new.media
    pub output : status ≡ OutputFault → OutputFailed old.output new.output
    pub silent : IsWorkDone status ⊎ (new.output ≡ old.output)
    -- nothing is written to any medium
    pub untouched : IsUntouched old.media.disk new.media.disk
    -- nothing else comes in the place of the text, or of a refusal, but want of memory
    pub complete : NothingFailed old new → tells → InformsAll old.media.disk.reads status

abbrev pub informing : Promise
informing = record {
  words = λ texts. texts ≡ codes "info" ∷ [];
  legal = ⊤;
  reads_input = ⊥;
  uses_media = ⊤;
  owes = λ old new hears w status. Informs old new status;
}

-- ---- one medium alone

-- Medium m with these bytes, whatever they are, is told so before its records are read: its slots by its configuration, how many hold
-- a segment, the live incidents that are legal, and the text.
pub record IsToldAlone (m : ℕ) (bytes : List ℕ) (first : TellerState) : Type 0 where
  pub config : Configuration
  pub text : List ℕ
  pub holds : HoldsText text bytes
  pub reads : configuration text ≡ Ok config
  pub used : ℕ
  pub are : AreUsed config.segment bytes (slot_count config.segment (length bytes)) used
  pub saves : SavesState
  pub saved : AreSaves bytes (saved_slots m config) saves
  pub is : first ≡ record { held = none_held m config.segment (slot_count config.segment (length bytes)) used; below = below_text saves.table text }

-- What `rescue info` owes: behind all records that the medium gives it prints the line of the medium by them, what stands below, and what
-- was found.
pub record RescuesInfo {tells tells_images : Type 0} (medium : Medium) (old new : Outside tells tells_images) (status : Status) : Type 0 where
  pub own : status ≡ Words → ⊥
  pub ends : IsRescueStatus status
  -- a failure comes only with its cause, whatever is told
  pub output : status ≡ OutputFault → OutputFailed old.output new.output
  pub told : tells → (first : TellerState) → IsToldAlone (number_asked (whole_of medium)) (content old.media.disk.reads (number_asked (whole_of medium))) first
      → Rescues (whole_of medium) (λ seen r. []) (λ seen. told_behind first seen) old new status
  pub media : LeavesRescued (whole_of medium) old.media new.media status

-- It is asked of a medium, not of an incident.
abbrev pub IsWhole : Medium → Type 0
IsWhole Capsule = ⊤
IsWhole LongTerm = ⊤
IsWhole (Incident id) = ⊥

abbrev pub informing_alone : Medium → Promise
informing_alone medium = record {
  words = λ texts. texts ≡ codes "rescue" ∷ codes "info" ∷ medium_word medium ∷ [];
  legal = IsWhole medium;
  reads_input = ⊥;
  uses_media = ⊤;
  owes = λ old new hears w status. RescuesInfo medium old new status;
}
