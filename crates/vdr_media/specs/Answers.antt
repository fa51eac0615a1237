-- What each answer of `format` says of its three tests, in their order, and when it may be a fault.
use Rattle.std.specs.Prelude.{◌≡◌, ◌⊎◌, ℕ, ◌≤◌, Bool, false, List, [], ◌∷◌, get_or, sum, Any, Result, Ok, Err, IsOk, IsErrOf, ⊤}
use Rattle.vdr_outside.specs.Causes.{Rose, NoneFalls, counted}
use Rattle.vdr_outside.specs.Disk.{Disk}
use Rattle.vdr_config.specs.declared.bad.ConfigBad.{ConfigBad}
use Rattle.vdr_config.specs.declared.bad.ConfigBad.TheVariants as bad
use Rattle.vdr_config.specs.declared.media.TooSmall.{TooSmall as Small}
use Rattle.vdr_config.specs.Configuration.{Configuration}
use Rattle.vdr_config.specs.Sizes.{sizes_of, fitting}
use Rattle.vdr_media.specs.declared.refused.FormatRefused.{FormatRefused}
use Rattle.vdr_media.specs.declared.refused.FormatRefused.TheVariants.{NoMemory, Config, AlreadyFormatted, TooSmall, Fault}
use Rattle.vdr_terms.specs.Slots.{slots_from}
use Rattle.vdr_media.specs.Formatted.{IsFormatted, IsUnformatted}

abbrev pub Answer : Type 0
Answer = Result ⊤ FormatRefused

-- What is said of a text that is no configuration. Want of memory is no fault of the text.
abbrev pub refusal_by : ConfigBad → FormatRefused
refusal_by bad.NoMemory = NoMemory
refusal_by e = Config e

-- Whether media of these sizes have the slots that the configuration needs, else the first that has not.
abbrev pub room : Configuration → List ℕ → Result ⊤ Small
room c sizes = fitting (sizes_of c) (get_or sizes 0 0 ∷ get_or sizes 1 0 ∷ [])

-- The text is refused exactly so. Every other answer but want of memory comes only of a configuration.
abbrev pub TextTested : Answer → Result Configuration ConfigBad → Type 0
TextTested (Err NoMemory) grammar = ⊤
TextTested (Err (Config e)) grammar = grammar ≡ Err e
TextTested (Err AlreadyFormatted) grammar = IsOk grammar
TextTested (Err (TooSmall small)) grammar = IsOk grammar
TextTested (Err Fault) grammar = IsOk grammar
TextTested (Ok x) grammar = IsOk grammar

-- The media are refused as formatted only where they are and must not be. Later answers come only where they are not, or may be; a
-- fault comes also where that could not be read.
abbrev pub FormattedTested : Answer → (again : Bool) → (formatted unformatted unread : Type 0) → Type 0
FormattedTested (Err NoMemory) again formatted unformatted unread = ⊤
FormattedTested (Err (Config e)) again formatted unformatted unread = ⊤
FormattedTested (Err AlreadyFormatted) again formatted unformatted unread = (again ≡ false) × formatted
FormattedTested (Err (TooSmall small)) again formatted unformatted unread = again ≡ false → unformatted
FormattedTested (Err Fault) again formatted unformatted unread = (again ≡ false → unformatted) ⊎ unread
FormattedTested (Ok x) again formatted unformatted unread = again ≡ false → unformatted

-- The media are refused as too small exactly so. Later answers come only where they have room.
abbrev pub RoomTested : Answer → Result ⊤ Small → (unread : Type 0) → Type 0
RoomTested (Err NoMemory) fitting unread = ⊤
RoomTested (Err (Config e)) fitting unread = ⊤
RoomTested (Err AlreadyFormatted) fitting unread = ⊤
RoomTested (Err (TooSmall small)) fitting unread = fitting ≡ Err small
RoomTested (Err Fault) fitting unread = (fitting ≡ Ok tt) ⊎ unread
RoomTested (Ok x) fitting unread = fitting ≡ Ok tt

-- One of the three tests was not passed, or there was no memory for the first.
abbrev pub IfRefused : Answer → Type 0 → Type 0
IfRefused (Err NoMemory) P = P
IfRefused (Err (Config e)) P = P
IfRefused (Err AlreadyFormatted) P = P
IfRefused (Err (TooSmall small)) P = P
IfRefused (Err Fault) P = ⊤
IfRefused (Ok x) P = ⊤

-- The text was refused, or there was no memory to read it.
abbrev pub IfTextRefused : Answer → Type 0 → Type 0
IfTextRefused (Err NoMemory) P = P
IfTextRefused (Err (Config e)) P = P
IfTextRefused (Err AlreadyFormatted) P = ⊤
IfTextRefused (Err (TooSmall small)) P = ⊤
IfTextRefused (Err Fault) P = ⊤
IfTextRefused (Ok x) P = ⊤

module _ {tells tells_images : Type 0} where
  -- What is known of media that are formatted, and of such that are not.
  abbrev pub KnownFormatted : Disk tells tells_images → Type 0
  KnownFormatted disk = (slots_from ≤ get_or disk.sizes 0 0) × (tells → IsFormatted disk.reads)

  abbrev pub KnownUnformatted : Disk tells tells_images → Type 0
  KnownUnformatted disk = tells → IsUnformatted disk.reads

-- The count of no medium falls. A fault comes only where that of one of these rose, and so their sum.
pub record HasFaultCause (members : List ℕ) (before now : List ℕ) (answer : Answer) : Type 0 where
  pub later : NoneFalls before now
  pub by_medium : IsErrOf answer Fault → Any (λ m. Rose (get_or before m 0) (get_or now m 0)) members
  pub in_all : IsErrOf answer Fault → Rose (sum before) (sum now)

-- At most one byte was read, of medium 0.
abbrev pub ReadsOneByte : List ℕ → List ℕ → Type 0
ReadsOneByte before now = (now ≡ before) ⊎ (now ≡ counted before 0 1)
