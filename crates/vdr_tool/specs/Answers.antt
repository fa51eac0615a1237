-- What the program answers, over all commands: when each status comes, and when none but 0 and 9. It follows from the pages.
use Rattle.std.specs.Prelude.{◌≡◌, ◌≤◌, ◌<◌, ◌^◌, ℕ, List, String, Err, ⊤}
use Rattle.std.specs.declared.alloc.Global.{Global}
use Rattle.vdr_config.specs.Grammar.{configuration}
use Rattle.vdr_config.specs.declared.bad.ConfigBad.{ConfigBad}
use Rattle.vdr_config.specs.declared.media.TooSmall.{TooSmall}
use Rattle.vdr_core.specs.Runs.{base_after}
use Rattle.vdr_feed.specs.Feed.{longest_feed}
use Rattle.vdr_feed.specs.Reader.{IfKnown}
use Rattle.vdr_media.specs.Answers.{KnownFormatted}
use Rattle.vdr_media.specs.Formatted.{IsUnformatted}
use Rattle.vdr_opening.specs.Media.{opening_of}
use Rattle.vdr_pcap.specs.Capture.{IsRefused}
use Rattle.vdr_recorder.specs.Watched.{Watched}
use Rattle.vdr_command.specs.Endings.{IsDone}
use Rattle.vdr_command.specs.Opened.{IsOpenableWith}
use Rattle.vdr_command.specs.Outside.{InputFailed, MediaFailed, NothingFailed, OutputFailed, Outside}
use Rattle.vdr_command.specs.Refusals.{number_of}
use Rattle.vdr_command.specs.declared.status.EvidencePart.{EvidencePart}
use Rattle.vdr_command.specs.declared.status.SaveCause.{SaveCause}
use Rattle.vdr_command.specs.declared.status.Status.{Status}
use Rattle.vdr_command.specs.declared.status.Status.TheVariants.{Done, Words, Config, Small, Unformatted, Formatted, Damaged, MediaFault, InputFault, OutputFault, Feed, NoChannel, NoIncident, SaveRefused, Place, Tick, ExportKind, ExportNothing, ExportMixed, ExportLong, ExportPart, Capture, NoEvidence, Missing}
use Rattle.vdr_export.specs.declared.refused.ExportRefused.TheVariants as exports
use Rattle.vdr_tool.specs.Commands.{Asked}
use Rattle.vdr_tool.specs.Own.{OwnCause, OwnChannel, OwnDamaged, OwnFeed, OwnFile, OwnIncident, OwnKind, OwnMissing, OwnSmall}
use Rattle.vdr_tool.specs.Permits.{Permits}
use Rattle.vdr_tool.specs.Possible.{CanAnswer}
use Rattle.vdr_tool.specs.Runs.{Asks, page}
use Rattle.vdr_tool.specs.Verifying.{StopsTold}

-- The words ask for a command, of which P holds.
abbrev pub IsAsked : (words : List (String Global)) → (P : Asked → Type 0) → Type 0
IsAsked words P = (command : Asked) × Asks words command × P command

module _ {tells tells_images : Type 0} (words : List (String Global)) (old new : Outside tells tells_images) where
  -- Each status comes only so. `w`: what an object was told meanwhile, where it `hears` anything. 6 comes of ports and links alone, which none of
  -- these commands asks; want of memory, 9, needs no cause.
  pub record Answers (hears : Type 0) (w : Watched) (status : Status) : Type 0 where
    -- it is one that the command can answer at all
    pub possible : (command : Asked) → Asks words command → CanAnswer command status
    -- 0: all that its page says of success was done, and nothing stands behind its text
    pub done : status ≡ Done → IsAsked words (λ command. (page command).owes old new hears w Done)
    -- 2: exactly where the words ask for nothing
    pub words_only : status ≡ Words → IsAsked words (λ command. ⊤) → ⊥
    pub none_asked : (IsAsked words (λ command. ⊤) → ⊥) → status ≡ Words
    -- 3: the configuration is refused by the grammar, or there is no room for it
    pub config : (number : ℕ) → status ≡ Config number → (bad : ConfigBad) × (number_of bad ≡ number) × IfKnown old.input.left (λ bytes. configuration bytes ≡ Err bad)
    pub small : (lacking : TooSmall) → status ≡ Small lacking → IsAsked words (λ command. OwnSmall old command lacking)
    -- 4: the media are not as they have to be
    pub unformatted : status ≡ Unformatted → tells → IsUnformatted old.media.disk.reads
    pub formatted : status ≡ Formatted → KnownFormatted old.media.disk
    pub damaged : (m offset : ℕ) → status ≡ Damaged m offset → IsAsked words (λ command. OwnDamaged old command new.media.disk m offset)
    pub missing : (from : ℕ) → status ≡ Missing from → IsAsked words (λ command. OwnMissing old command from)
    -- 5, 7 and 8: the count of the media's faults rose, that of the input's, that of the output's
    pub media : status ≡ MediaFault → MediaFailed old.media new.media
    pub input : status ≡ InputFault → InputFailed old.input new.input
    pub output : status ≡ OutputFault → OutputFailed old.output new.output
    -- 10: the feed is refused so
    pub feed : (number offset : ℕ) → status ≡ Feed number offset → IsAsked words (λ command. OwnFeed old command number offset)
    -- 11: channel or incident are not there
    pub channel : status ≡ NoChannel → IsAsked words (λ command. OwnChannel old command)
    pub incident : (id : ℕ) → status ≡ NoIncident id → IsAsked words (λ command. OwnIncident old command id)
    -- 12: the save is judged so
    pub refused : (cause : SaveCause) → status ≡ SaveRefused cause → IsAsked words (λ command. OwnCause old command cause)
    -- 13: a run would begin at the end of the numbers
    pub place : status ≡ Place → tells → IsOpenableWith old.media.disk.reads (λ x. 2 ^ 62 ≤ (opening_of x).next_place)
    pub tick : status ≡ Tick → tells → IsOpenableWith old.media.disk.reads (λ x. ((opening_of x).next_place < 2 ^ 62) × (2 ^ 62 ≤ base_after (opening_of x).last))
    -- 14: the channel is of another kind, or there is no such file
    pub kind : status ≡ ExportKind → IsAsked words (λ command. OwnKind old command)
    pub nothing : status ≡ ExportNothing → IsAsked words (λ command. OwnFile old command exports.Nothing)
    pub mixed : (from : ℕ) → status ≡ ExportMixed from → IsAsked words (λ command. OwnFile old command (exports.Mixed from))
    pub long : status ≡ ExportLong → IsAsked words (λ command. OwnFile old command exports.Long)
    pub part : (number : ℕ) → status ≡ ExportPart number → IsAsked words (λ command. OwnFile old command (exports.Part number))
    -- 16: the capture is refused so, and a file that is no evidence at its first part that is not legal
    pub capture : (number offset : ℕ) → status ≡ Capture number offset → IfKnown old.input.left (λ bytes. IsRefused longest_feed bytes number offset)
    pub evidence : (named : EvidencePart) (offset : ℕ) → status ≡ NoEvidence named offset → IfKnown old.input.left (λ bytes. StopsTold bytes named offset)

  -- Where all is there that the command asks for, and no count rises, it is done, or there was no memory.
  abbrev pub Completes : Status → Type 0
  Completes status = (command : Asked) → Asks words command → NothingFailed old new → Permits old command → IsDone status
