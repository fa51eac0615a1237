-- What media are, by what opening reads of them, and what one medium alone is (this project's profile).
use Rattle.std.specs.Prelude.{◌≡◌, ℕ, List, ◌++◌, get_or, Any, Option, Result, OnErr}
use Rattle.vdr_terms.specs.Records.{Record}
use Rattle.vdr_terms.specs.Slots.{slot_count}
use Rattle.vdr_core.specs.Histories.{Incident}
use Rattle.vdr_durability.specs.Readings.{EndsMeet}
use Rattle.vdr_outside.specs.Causes.{NoneFalls, Rose}
use Rattle.vdr_outside.specs.Disk.{Disk}
use Rattle.vdr_media.specs.Formatted.{IsFormatted}
use Rattle.vdr_opening.specs.Media.{Contents, HoldsParts, members_with, reading_of}
use Rattle.vdr_info.specs.Costs.{ReadsTwice}
use Rattle.vdr_info.specs.Helds.{TellsHeld, held_behind}
use Rattle.vdr_info.specs.Lines.{medium_line}
use Rattle.vdr_info.specs.declared.held.Held.{Held}

-- What both media are: what stands on each, the incident saves by their slots, and the text of the configuration.
pub record InfoState : Type 0 where
  pub capsule : Held
  pub long_term : Held
  pub table : List (Option Incident)
  pub text : List ℕ

-- So much is told of media of these sizes, of which opening reads this.
pub record AreParts (x : Contents) (sizes : List ℕ) (capsule long_term : Held) (text : List ℕ) : Type 0 where
  pub capsule_is : TellsHeld 0 x.config.segment (slot_count x.config.segment (get_or sizes 0 0)) (x.placed 0) capsule
  pub long_term_is : TellsHeld 1 x.config.segment (slot_count x.config.segment (get_or sizes 1 0)) (x.placed 1) long_term
  pub text_is : text ≡ x.text

-- And the incident saves are those of the media.
pub record IsInfoOf (x : Contents) (sizes : List ℕ) (info : InfoState) : Type 0 where
  pub parts : AreParts x sizes info.capsule info.long_term info.text
  pub table : info.table ≡ x.table

-- Opening reads of the media that they are this, they are told so, and so many bytes were read of them.
pub record OpensInfo {tells tells_images : Type 0} (info : InfoState) (disk : Disk tells tells_images) (before now : List ℕ) : Type 0 where
  pub formatted : IsFormatted disk.reads
  pub parts : Contents
  pub holds : HoldsParts disk.reads parts
  pub meet : EndsMeet (members_with parts.further) (reading_of parts)
  pub told : IsInfoOf parts disk.sizes info
  pub reads : ReadsTwice parts disk.sizes before now

-- No count of faults falls, and an error comes only where that of one of the media rose.
pub record HasBothCause {T E : Type 0} (before now : List ℕ) (result : Result T E) : Type 0 where
  pub later : NoneFalls before now
  pub rose : OnErr result (Any (λ m. Rose (get_or before m 0) (get_or now m 0)) (members_with 0))

-- What tells of one medium: what it was told of its slots and of the records so far, and the text below its line.
pub record TellerState : Type 0 where
  pub held : Held
  pub below : List ℕ

-- It, behind these records, and what it prints behind them where they are all.
abbrev pub teller_behind : TellerState → List Record → TellerState
teller_behind first records = record { held = held_behind first.held records; below = first.below }

abbrev pub told_behind : TellerState → List Record → List ℕ
told_behind first records = medium_line (held_behind first.held records) ++ first.below
