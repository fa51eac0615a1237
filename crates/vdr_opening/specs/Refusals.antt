-- The first part of the media that is not legal, in the order in which opening tests them (this project's profile). On one
-- medium after the other these are its superblock, its configuration, its segments and their order. Then come the incident
-- slots, by their bytes and then by whether their places are there; then whether the ends of the media meet.
use Rattle.std.specs.Prelude.{◌≡◌, ◌⊎◌, ◌∷◌, ◌++◌, ℕ, List, [], length, All, IfSome, Option, Some, None}
use Rattle.vdr_core.specs.Histories.{Incident}
use Rattle.vdr_durability.specs.Readings.{EndsOff}
use Rattle.vdr_outside.specs.Disk.{Image, content}
use Rattle.vdr_config.specs.Configuration.{Configuration}
use Rattle.vdr_terms.specs.Slots.{slot_count}
use Rattle.vdr_media.specs.Layout.{text_from}
use Rattle.vdr_media.specs.Medium.{IsSuperblock}
use Rattle.vdr_directory.specs.Sequence.{Placed}
use Rattle.vdr_directory.specs.Telling.{HoldAllBy}
use Rattle.vdr_directory.specs.Opening.{Refuses}
use Rattle.vdr_incident.specs.Tables.{HoldsTable, place_of}
use Rattle.vdr_incident.specs.Tables as incidents
use Rattle.vdr_opening.specs.Media.{members_in, members_with, HasFront, IsMediumBy, Contents, HoldsParts, reading_of}

-- The text is that of the medium before, where there is one.
abbrev pub IsSameText : Option (List ℕ) → List ℕ → Type 0
IsSameText before text = IfSome before (λ first. text ≡ first)

-- Its superblock is not legal.
pub record RefusesSuperblock (m : ℕ) (bytes : List ℕ) (offset : ℕ) : Type 0 where
  pub broken : (segment : ℕ) → IsSuperblock m segment bytes → ⊥
  pub at : offset ≡ 0

-- Its superblock is, but it has no configuration that goes with it and is that of the medium before.
pub record RefusesConfiguration (m : ℕ) (before : Option (List ℕ)) (bytes : List ℕ) (offset : ℕ) : Type 0 where
  pub segment : ℕ
  pub superblock : IsSuperblock m segment bytes
  pub broken : (c : Configuration) (text : List ℕ) → HasFront m c text bytes → IsSameText before text → ⊥
  pub at : offset ≡ text_from

-- Both are, and its first segment that is not, or that breaks the order, is at this offset.
pub record RefusesSegments (m : ℕ) (before : Option (List ℕ)) (bytes : List ℕ) (offset : ℕ) : Type 0 where
  pub config : Configuration
  pub text : List ℕ
  pub front : HasFront m config text bytes
  pub same : IsSameText before text
  pub refuses : Refuses config.segment (slot_count config.segment (length bytes)) bytes offset

-- Medium m is not legal behind one with this configuration.
abbrev pub RefusesMedium : (m : ℕ) (before : Option (List ℕ)) (bytes : List ℕ) (offset : ℕ) → Type 0
RefusesMedium m before bytes offset = RefusesSuperblock m bytes offset ⊎ (RefusesConfiguration m before bytes offset ⊎ RefusesSegments m before bytes offset)

-- What opening reads of medium m is legal behind one with this configuration, and has this text.
pub record IsLegalBehind (m : ℕ) (before : Option (List ℕ)) (text bytes : List ℕ) : Type 0 where
  pub config : Configuration
  pub known : List Placed
  pub legal : IsMediumBy m config text known bytes
  pub same : IsSameText before text

-- The first of these media that is not legal is m.
abbrev pub RefusesFrom : (before : Option (List ℕ)) (numbers : List ℕ) (image : Image) (m offset : ℕ) → Type 0
RefusesFrom before [] image m offset = ⊥
RefusesFrom before (k ∷ ks) image m offset =
    ((m ≡ k) × RefusesMedium k before (content image k) offset)
    ⊎ ((text : List ℕ) × IsLegalBehind k before text (content image k) × RefusesFrom (Some text) ks image m offset)

-- What opening reads of each medium is legal, with one configuration.
pub record AreLegal (image : Image) (c : Configuration) (text : List ℕ) (known : ℕ → List Placed) : Type 0 where
  pub each : All (λ m. IsMediumBy m c text (known m) (content image m)) (members_in image)

-- The media are, and the first incident slot that is not is at this offset.
pub record RefusesIncidents (image : Image) (m offset : ℕ) : Type 0 where
  pub config : Configuration
  pub text : List ℕ
  pub known : ℕ → List Placed
  pub legal : AreLegal image config text known
  pub refuses : incidents.Refuses config.incident_slots (content image 1) offset
  pub on : m ≡ 1

-- The incident slots are, and the first whose places are not all there is at this offset, by what is known of the segments.
pub record RefusesPlaces (image : Image) (m offset : ℕ) : Type 0 where
  pub config : Configuration
  pub text : List ℕ
  pub known : ℕ → List Placed
  pub legal : AreLegal image config text known
  pub before : List (Option Incident)
  pub here : Incident
  pub after : List (Option Incident)
  pub table : HoldsTable config.incident_slots (before ++ Some here ∷ after) (content image 1)
  pub there : All (λ slot. IfSome slot (λ incident. HoldAllBy incident.a incident.b (known 1))) before
  pub missing : HoldAllBy here.a here.b (known 1) → ⊥
  pub at : offset ≡ place_of (length before)
  pub on : m ≡ 1

-- All parts are legal, and medium m is the first whose end is off.
pub record RefusesEnds (image : Image) (m offset : ℕ) : Type 0 where
  pub parts : Contents
  pub holds : HoldsParts image parts
  pub off : EndsOff (members_with parts.further) (reading_of parts) m
  pub at : offset ≡ 0

-- The first part that is not legal is at this offset of medium m.
abbrev pub IsRefused : (image : Image) (m offset : ℕ) → Type 0
IsRefused image m offset =
    RefusesFrom None (members_in image) image m offset
    ⊎ (RefusesIncidents image m offset ⊎ (RefusesPlaces image m offset ⊎ RefusesEnds image m offset))
