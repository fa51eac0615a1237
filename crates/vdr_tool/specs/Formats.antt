-- What `format` and `reformat` answer, and what they do to the media (this project's profile).
use Rattle.std.specs.Prelude.{◌≡◌, ◌⊎◌, ◌∷◌, ℕ, Bool, true, false, List, [], codes, Option, Result, Ok, Err, All, ⊤}
use Rattle.std.specs.Io.KnownBytes.{IsAtEnd}
use Rattle.vdr_outside.specs.Disk.{Disk, Unchanged}
use Rattle.vdr_outside.specs.Moments.{AtEachMoment, Settled}
use Rattle.vdr_feed.specs.Reader.{IfKnown}
use Rattle.vdr_config.specs.declared.media.TooSmall.{TooSmall}
use Rattle.vdr_config.specs.declared.bad.ConfigBad.{ConfigBad}
use Rattle.vdr_config.specs.Configuration.{Configuration}
use Rattle.vdr_config.specs.Grammar.{configuration}
use Rattle.vdr_media.specs.Answers.{KnownFormatted, KnownUnformatted, room}
use Rattle.vdr_media.specs.Formatted.{members, IsFormatted, IsUnformatted, IsEmptyHistoryOf, SameBeside}
use Rattle.vdr_media.specs.Formatting.{FormatsAtEachMoment}
use Rattle.vdr_media.specs.Medium.{IsEmptyMedium}
use Rattle.vdr_command.specs.Endings.{IsDone, IsConfigRefusal}
use Rattle.vdr_media.specs.declared.refused.FormatRefused.{FormatRefused}
use Rattle.vdr_media.specs.declared.refused.FormatRefused.TheVariants as refusal
use Rattle.vdr_command.specs.Refusals.{RefusesConfig, number_of}
use Rattle.vdr_command.specs.Outside.{InputFailed, MediaFailed, MediaSeen, NothingFailed, Outside}
use Rattle.vdr_command.specs.Promises.{Promise}
use Rattle.vdr_command.specs.StatusLine.{IfSmall, IsConfig}
use Rattle.vdr_command.specs.declared.status.Status.{Status}
use Rattle.vdr_command.specs.declared.status.Status.TheVariants.{Done, Config, Small, Formatted, MediaFault, InputFault, NoMemory}

-- The bytes, where they are known, are this configuration's text, and P holds of both.
abbrev pub IfConfiguration : Option (List ℕ) → (Configuration → List ℕ → Type 0) → Type 0
IfConfiguration left P = IfKnown left (λ bytes. (c : Configuration) × (configuration bytes ≡ Ok c) × P c bytes)

-- How a refusal ends the command.
abbrev pub status_of : FormatRefused → Status
status_of refusal.NoMemory = NoMemory
status_of (refusal.Config bad) = Config (number_of bad)
status_of refusal.AlreadyFormatted = Formatted
status_of (refusal.TooSmall small) = Small small
status_of refusal.Fault = MediaFault

-- What is said of a configuration that is refused.
abbrev pub IfBad : FormatRefused → (ConfigBad → Type 0) → Type 0
IfBad (refusal.Config bad) P = P bad
IfBad refused P = ⊤

-- The command succeeded, or it ended otherwise.
abbrev pub outcome_of : Status → Result ⊤ Status
outcome_of Done = Ok tt
outcome_of status = Err status

-- The command ends so, and in no other way.
abbrev pub IsFormatStatus : Status → Type 0
IsFormatStatus Done = ⊤
IsFormatStatus (Config number) = ⊤
IsFormatStatus (Small small) = ⊤
IsFormatStatus Formatted = ⊤
IsFormatStatus MediaFault = ⊤
IsFormatStatus InputFault = ⊤
IsFormatStatus NoMemory = ⊤
IsFormatStatus status = ⊥

-- The media may be formatted: they are not, or they are to be formatted again.
abbrev pub MayFormat : {tells tells_images : Type 0} → Bool → Disk tells tells_images → Type 0
MayFormat again disk = again ≡ false → KnownUnformatted disk

-- What may be formatted is, and what may not is refused by its own refusal, or there was no memory.
pub record FormatsAll {tells tells_images : Type 0} (again : Bool) (bytes : List ℕ) (old : Disk tells tells_images) (status : Status) : Type 0 where
  pub refused : (bad : ConfigBad) → configuration bytes ≡ Err bad → IsConfigRefusal bad status
  pub formatted : (c : Configuration) → configuration bytes ≡ Ok c → again ≡ false → IsFormatted old.reads → (status ≡ Formatted) ⊎ (status ≡ NoMemory)
  pub small : (c : Configuration) → configuration bytes ≡ Ok c → (again ≡ true) ⊎ IsUnformatted old.reads
      → (small : TooSmall) → room c old.sizes ≡ Err small → (status ≡ Small small) ⊎ (status ≡ NoMemory)
  pub done : (c : Configuration) → configuration bytes ≡ Ok c → (again ≡ true) ⊎ IsUnformatted old.reads
      → room c old.sizes ≡ Ok tt → IsDone status

module _ {tells tells_images : Type 0} where
  -- What the answer says of the input and of the media at entry, and what the media are afterwards.
  pub record FormatEnds (again : Bool) (left : Option (List ℕ)) (old new : MediaSeen tells tells_images) (status : Status) : Type 0 where
    pub own : IsFormatStatus status
    -- each refusal comes exactly in its case, and leaves the media as they were
    pub formatted : status ≡ Formatted → (again ≡ false) × IfConfiguration left (λ c bytes. ⊤) × KnownFormatted old.disk
    pub small : IfSmall status (λ small. IfConfiguration left (λ c bytes. room c old.disk.sizes ≡ Err small) × MayFormat again old.disk)
    pub fault : status ≡ MediaFault → MediaFailed old new
    pub untouched : (status ≡ Done) ⊎ ((status ≡ MediaFault) ⊎ Unchanged old.disk new.disk)
    -- a medium beside the capsule and the long-term medium stays as it was, at every moment
    pub others : tells → SameBeside members (λ image. image ≡ old.disk.reads) new.disk.reads
    pub others_meanwhile : AtEachMoment old.disk new.disk (SameBeside members old.disk.now)
    -- a success leaves media of the input's configuration that hold nothing, and a stop leaves them so
    pub done : status ≡ Done → MayFormat again old.disk × IfConfiguration left (λ c bytes. (room c old.disk.sizes ≡ Ok tt)
        × All (λ m. Settled m (IsEmptyMedium m c bytes) new.disk) members)
    -- what a stop leaves at each moment, whatever is unsynced at entry
    pub moments : (status ≡ Done) ⊎ (status ≡ MediaFault)
        → IfConfiguration left (λ c bytes. FormatsAtEachMoment old.disk new.disk (outcome_of status) (IsEmptyHistoryOf members bytes))
    -- and whatever is known of the input, with some text
    pub leaves : (status ≡ Done) ⊎ (status ≡ MediaFault)
        → (text : List ℕ) × FormatsAtEachMoment old.disk new.disk (outcome_of status) (IsEmptyHistoryOf members text)

  -- What `format` and `reformat` owe. They print nothing.
  pub record Formats (again : Bool) (old new : Outside tells tells_images) (status : Status) : Type 0 where
    -- the input was read to its end
    pub done : status ≡ Done → IsAtEnd new.input.left × IfConfiguration old.input.left (λ c bytes. ⊤)
    -- each refusal and failure comes only with its cause
    pub config : RefusesConfig status old.input.left old.output new.output
    pub input : status ≡ InputFault → InputFailed old.input new.input
    pub silent : IsConfig status ⊎ (new.output ≡ old.output)
    -- the media, and what is said of them
    pub media : FormatEnds again old.input.left old.media new.media status
    -- nothing else comes in the place of a refusal, or of a success, but want of memory
    pub complete : NothingFailed old new → IfKnown old.input.left (λ bytes. tells → FormatsAll again bytes old.media.disk status)

abbrev pub format_words : (again : Bool) → List (List ℕ)
format_words false = codes "format" ∷ []
format_words true = codes "reformat" ∷ []

abbrev pub formatting : (again : Bool) → Promise
formatting again = record {
  words = λ texts. texts ≡ format_words again;
  legal = ⊤;
  reads_input = ⊤;
  uses_media = ⊤;
  owes = λ old new hears w status. Formats again old new status;
}
