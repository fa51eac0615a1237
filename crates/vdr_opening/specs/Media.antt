-- What the capsule and the long-term medium hold, by the parts of their bytes (this project's profile).
use Rattle.std.specs.Prelude.{◌≡◌, ℕ, Bool, false, List, [], length, map, replicate, All, IfSome, Option, None, Ok}
use Rattle.vdr_core.specs.Histories.{Incident, Opening}
use Rattle.vdr_durability.specs.Readings.{Reading}
use Rattle.vdr_durability.specs.Shown.{opened}
use Rattle.vdr_outside.specs.Disk.{Image, content}
use Rattle.vdr_config.specs.Configuration.{Configuration}
use Rattle.vdr_config.specs.Grammar.{configuration}
use Rattle.vdr_terms.specs.Slots.{slot_count}
use Rattle.vdr_media.specs.Medium.{IsSuperblock, HoldsConfiguration, HoldsText}
pub use Rattle.vdr_media.specs.Formatted.{members_with, members_in, further_in}
use Rattle.vdr_directory.specs.Sequence.{Placed, batches_in}
use Rattle.vdr_directory.specs.Order.{AreInOrder}
use Rattle.vdr_directory.specs.Holds.{HoldsPlaced}
use Rattle.vdr_directory.specs.Lookup.{HoldAll}
use Rattle.vdr_directory.specs.Knowns.{AreInOrderBy, known_of}
use Rattle.vdr_directory.specs.Opening.{AreKnown}
use Rattle.vdr_directory.specs.Telling.{HoldAllBy}
use Rattle.vdr_ring.specs.Whole.{is_filled}
use Rattle.vdr_incident.specs.Tables.{HoldsTable}
use Rattle.vdr_opening.specs.Settings.{settings_of}

-- What stands before the slots of medium m, but for the incident slots: its superblock and its configuration.
pub record HasFront (m : ℕ) (c : Configuration) (text bytes : List ℕ) : Type 0 where
  pub superblock : IsSuperblock m c.segment bytes
  pub configured : HoldsConfiguration m c text bytes

-- A medium holds the text of this configuration. Whether it goes with the medium is not asked.
pub record HoldsConfigText (c : Configuration) (bytes : List ℕ) : Type 0 where
  pub text : List ℕ
  pub holds : HoldsText text bytes
  pub reads : configuration text ≡ Ok c

-- Its slots hold these segments, in a legal order.
pub record HasSegments (c : Configuration) (placed : List Placed) (bytes : List ℕ) : Type 0 where
  pub holds : HoldsPlaced c.segment (slot_count c.segment (length bytes)) placed bytes
  pub order : AreInOrder placed

-- Medium m is legal, apart from its incident slots.
pub record IsMedium (m : ℕ) (c : Configuration) (text : List ℕ) (placed : List Placed) (bytes : List ℕ) : Type 0 where
  pub front : HasFront m c text bytes
  pub segments : HasSegments c placed bytes

-- All places of each live incident stand in these segments.
abbrev pub AreThere : List (Option Incident) → List Placed → Type 0
AreThere table placed = All (λ slot. IfSome slot (λ incident. HoldAll incident.a incident.b placed)) table

-- What legible media hold: how many further media there are, the configuration with its text, the segments of each medium by its
-- number, the incidents, and whether at most one slot of each medium is not open.
pub record Contents : Type 0 where
  pub further : ℕ
  pub config : Configuration
  pub text : List ℕ
  pub placed : ℕ → List Placed
  pub table : List (Option Incident)
  pub filled : ℕ → Bool

-- The contents of media that were just formatted.
abbrev pub nothing_on : (further : ℕ) → Configuration → (text : List ℕ) → Contents
nothing_on further c text = record { further = further; config = c; text = text; placed = λ m. []; table = replicate c.incident_slots None; filled = λ m. false }

-- How many slots medium m of an image has.
abbrev pub slots_on : Configuration → Image → ℕ → ℕ
slots_on c image m = slot_count c.segment (length (content image m))

-- The image holds these contents.
pub record HoldsContents (image : Image) (x : Contents) : Type 0 where
  pub further : x.further ≡ further_in image
  pub media : All (λ m. IsMedium m x.config x.text (x.placed m) (content image m)) (members_with x.further)
  pub table : HoldsTable x.config.incident_slots x.table (content image 1)
  pub there : AreThere x.table (x.placed 1)
  pub filled : All (λ m. x.filled m ≡ is_filled (slots_on x.config image m) (x.placed m)) (members_with x.further)

-- What opening reads of media's contents: all, but for the batches of segments whose header has a summary.
abbrev pub parts_of : Contents → Contents
parts_of x = record x { placed = λ m. map known_of (x.placed m) }

-- The slots of a medium hold segments of which opening knows this, in a legal order as far as it knows.
pub record HasKnowns (c : Configuration) (known : List Placed) (bytes : List ℕ) : Type 0 where
  pub are : AreKnown c.segment (slot_count c.segment (length bytes)) bytes known
  pub order : AreInOrderBy known

-- What opening reads of medium m, but for its incident slots, is legal.
pub record IsMediumBy (m : ℕ) (c : Configuration) (text : List ℕ) (known : List Placed) (bytes : List ℕ) : Type 0 where
  pub front : HasFront m c text bytes
  pub segments : HasKnowns c known bytes

-- All places of each live incident stand in these segments, by what is known of them.
abbrev pub AreThereBy : List (Option Incident) → List Placed → Type 0
AreThereBy table known = All (λ slot. IfSome slot (λ incident. HoldAllBy incident.a incident.b known)) table

-- What opening reads of the image is legal, and is this. Batches that it leaves unread may be broken.
pub record HoldsParts (image : Image) (x : Contents) : Type 0 where
  pub further : x.further ≡ further_in image
  pub media : All (λ m. IsMediumBy m x.config x.text (x.placed m) (content image m)) (members_with x.further)
  pub table : HoldsTable x.config.incident_slots x.table (content image 1)
  pub there : AreThereBy x.table (x.placed 1)

-- What contents read as.
abbrev pub reading_of : Contents → Reading
reading_of x = record { batches = λ m. batches_in (x.placed m); table = x.table; text = x.text }

-- The image is legible as media of these numbers, and reads so.
pub record Reads (image : Image) (numbers : List ℕ) (reading : Reading) : Type 0 where
  pub contents : Contents
  pub members_are : numbers ≡ members_with contents.further
  pub holds : HoldsContents image contents
  pub is : reading ≡ reading_of contents

-- What a run begins with that is opened on these contents.
abbrev pub opening_of : Contents → Opening
opening_of x = opened (members_with x.further) (settings_of x.config x.text) (reading_of x)
