-- Why a command answers with a status of its own kind, from its page: for each such status, what each command says of what stood outside
-- before it. A command that can't answer so says ⊥; a trial, whose media were formatted before, says it of media that tell nothing alone.
use Rattle.std.specs.Prelude.{◌≡◌, ◌≢◌, ◌⊎◌, ℕ, List, take, Option, Some, None, Result, Err}
use Rattle.vdr_compare.specs.Media.{ComparesMedia}
use Rattle.vdr_compare.specs.declared.difference.Verdict.{Verdict}
use Rattle.vdr_compare.specs.declared.media.MediaRefused.{MediaRefused}
use Rattle.vdr_config.specs.Configuration.{Configuration}
use Rattle.vdr_config.specs.declared.media.TooSmall.{TooSmall}
use Rattle.vdr_core.specs.Histories.{live}
use Rattle.vdr_entry.specs.declared.query.Medium.{Medium}
use Rattle.vdr_entry.specs.declared.query.Medium.TheVariants.{Incident}
use Rattle.vdr_export.specs.Answers.{file_of}
use Rattle.vdr_export.specs.declared.file.File.{File}
use Rattle.vdr_export.specs.declared.refused.ExportRefused.{ExportRefused}
use Rattle.vdr_export.specs.declared.timing.Timing.TheVariants.{Numbered}
use Rattle.vdr_feed.specs.Feed.{IsRefused as IsFeedRefused, feed_header, longest_feed}
use Rattle.vdr_feed.specs.Reader.{IfKnown}
use Rattle.vdr_info.specs.Infos.{TellerState}
use Rattle.vdr_media.specs.Answers.{KnownUnformatted, room}
use Rattle.vdr_opening.specs.Media.{Contents, HoldsContents, opening_of}
use Rattle.vdr_outside.specs.Disk.{Disk, content}
use Rattle.vdr_recorder.specs.Refusals.{MayBegin}
use Rattle.vdr_replay.specs.Feeding.{AreConfigured, RefusesNext}
use Rattle.vdr_rescue.specs.Alones.{RefusesAlone, Rescue, Rescued}
use Rattle.vdr_rescue.specs.Findings.{found_in}
use Rattle.vdr_rescue.specs.declared.found.Found.TheVariants as found
use Rattle.vdr_terms.specs.Records.{FeedItem}
use Rattle.vdr_command.specs.Opened.{IsOpenableWith, IsRefusedAt, MetUnsound}
use Rattle.vdr_command.specs.Outside.{Outside}
use Rattle.vdr_command.specs.declared.status.SaveCause.{SaveCause}
use Rattle.vdr_command.specs.declared.status.Status.{Status}
use Rattle.vdr_command.specs.declared.status.Status.TheVariants.{Damaged, Missing}
use Rattle.vdr_readout.specs.Compares.{status_of_comparison}
use Rattle.vdr_readout.specs.Exports.{file_in, made_of}
use Rattle.vdr_export.specs.Wishes.{timed_from}
use Rattle.vdr_readout.specs.Informs.{IsToldAlone}
use Rattle.vdr_readout.specs.Readings.{Reading, asked_in}
use Rattle.vdr_readout.specs.Readings.Reading.{Wav, TimedWav, Picture, Pictures}
use Rattle.vdr_readout.specs.Reads.{AskedPlay, CanBeRead, CanPlay, LacksChannel, LacksIncident, MetUnreadable, number_asked}
use Rattle.vdr_readout.specs.Rescues.{records_rescued}
use Rattle.vdr_readout.specs.Sources.{whole_of}
use Rattle.vdr_export.specs.declared.wish.Wish.TheVariants as wishes
use Rattle.vdr_tool.specs.Commands.{Asked}
use Rattle.vdr_tool.specs.Commands.Asked.{Review, Format, Replay, Read, Evidence, Page, Incidents, Info, Save, Release, Trial, Rescue as Rescuing, RescueInfo, Compare}
use Rattle.vdr_tool.specs.Formats.{IfConfiguration, MayFormat}
use Rattle.vdr_tool.specs.Saves.{CanSave, IsJudged}
use Rattle.vdr_tool.specs.Trials.{bench}

-- The file that a reading makes of its channel, None where the channel is none of its kind, and where a reading makes no file.
abbrev pub file_read : Reading → Configuration → Option File
file_read (Wav asked) c = file_in (wishes.Sound Numbered) c asked.channel
file_read (TimedWav asked) c = file_in (wishes.Sound (timed_from asked.from)) c asked.channel
file_read (Picture asked block) c = file_in (wishes.Picture block) c asked.channel
file_read (Pictures asked) c = file_in wishes.Listing c asked.channel
file_read reading c = None

module _ {tells tells_images : Type 0} (old : Outside tells tells_images) where
  -- ---- what is said of one medium alone

  -- P holds of all that the medium which is asked for gives.
  abbrev pub OfAlone : AskedPlay → (P : Rescue → Type 0) → Type 0
  OfAlone asked P = (x : Rescue) → tells → Rescued (number_asked asked) (content old.media.disk.reads (number_asked asked)) x → P x

  -- It can't be opened alone, or this is found on it.
  abbrev pub IsDamagedAlone : AskedPlay → (m offset : ℕ) → Type 0
  IsDamagedAlone asked m offset = (m ≡ number_asked asked)
      × ((tells → RefusesAlone (number_asked asked) (content old.media.disk.reads (number_asked asked)) offset) ⊎ OfAlone asked (λ x. found_in x.findings ≡ found.Damaged offset))

  abbrev pub LacksIncidentAlone : AskedPlay → ℕ → Type 0
  LacksIncidentAlone asked id = (asked.medium ≡ Incident id) × OfAlone asked (λ x. (LacksChannel x.config asked.channel → ⊥) × LacksIncident x.table asked.medium)

  -- P, where the text of this medium's configuration can be read.
  abbrev pub IfTold : Medium → (P : Type 0) → Type 0
  IfTold medium P = tells → (first : TellerState) → IsToldAlone (number_asked (whole_of medium)) (content old.media.disk.reads (number_asked (whole_of medium))) first → P

  -- The status is that of a comparison of both media.
  abbrev pub IsCompared : Status → Type 0
  IsCompared status = (ended : Result Verdict MediaRefused) × (status ≡ status_of_comparison ended)
      × (tells → (taken : Option (List ℕ)) × ComparesMedia old.media.disk.reads old.output.taken taken ended)

  -- ---- 3

  abbrev pub OwnSmall : Asked → TooSmall → Type 0
  OwnSmall (Format again) small = IfConfiguration old.input.left (λ c bytes. room c old.media.disk.sizes ≡ Err small) × MayFormat again old.media.disk
  OwnSmall (Trial seed count) small = (room bench old.media.disk.sizes ≡ Err small) × KnownUnformatted old.media.disk
  OwnSmall command small = ⊥

  -- ---- 4; `after` is what the disk is then

  -- Opening refuses it there, or it was met behind opening, as media tell that can't be read.
  abbrev pub IsMet : AskedPlay → (after : Disk tells tells_images) → (m offset : ℕ) → Type 0
  IsMet asked after m offset = IsRefusedAt old.media.disk after m offset ⊎ MetUnreadable asked old.media.disk after (λ x. CanPlay x asked.medium asked.channel) m offset

  abbrev pub OwnDamaged : Asked → (after : Disk tells tells_images) → (m offset : ℕ) → Type 0
  OwnDamaged Replay after m offset = IsRefusedAt old.media.disk after m offset
  OwnDamaged (Read reading) after m offset = IsMet (asked_in reading) after m offset
  OwnDamaged (Evidence asked) after m offset = IsMet asked after m offset
  OwnDamaged (Page asked words) after m offset = IsMet asked after m offset
  OwnDamaged Incidents after m offset = IsRefusedAt old.media.disk after m offset
  OwnDamaged Info after m offset = IsRefusedAt old.media.disk after m offset
  OwnDamaged (Save label) after m offset = IsRefusedAt old.media.disk after m offset ⊎ MetUnsound old.media.disk after (CanSave label) m offset
  OwnDamaged (Release id) after m offset = IsRefusedAt old.media.disk after m offset
  OwnDamaged (Trial seed count) after m offset = tells → ⊥
  OwnDamaged (Rescuing reading) after m offset = IsDamagedAlone (asked_in reading) m offset
  OwnDamaged (RescueInfo medium) after m offset = IfTold medium (IsDamagedAlone (whole_of medium) m offset)
  OwnDamaged Compare after m offset = IsCompared (Damaged m offset)
  OwnDamaged command after m offset = ⊥

  abbrev pub OwnMissing : Asked → (place : ℕ) → Type 0
  OwnMissing (Rescuing reading) place = OfAlone (asked_in reading) (λ x. found_in x.findings ≡ found.Missing place)
  OwnMissing (RescueInfo medium) place = IfTold medium (OfAlone (whole_of medium) (λ x. found_in x.findings ≡ found.Missing place))
  OwnMissing Compare place = IsCompared (Missing place)
  OwnMissing command place = ⊥

  -- ---- 10

  abbrev pub OwnFeed : Asked → (number offset : ℕ) → Type 0
  OwnFeed (Review rate) number offset = IfKnown old.input.left (λ bytes. IsFeedRefused longest_feed bytes number offset)
  OwnFeed Replay number offset =
      ((number ≡ 1) × (offset ≡ 0) × IfKnown old.input.left (λ bytes. take 8 bytes ≢ feed_header))
      ⊎ (tells → IsOpenableWith old.media.disk.reads (λ x. MayBegin (opening_of x)
      × IfKnown old.input.left (λ bytes. (feed : List FeedItem) × RefusesNext x.config.groups bytes number offset feed × AreConfigured x.config.groups feed)))
  OwnFeed (Trial seed count) number offset = tells → ⊥
  OwnFeed command number offset = ⊥

  -- ---- 11

  abbrev pub NamesNoChannel : AskedPlay → Type 0
  NamesNoChannel asked = tells → IsOpenableWith old.media.disk.reads (λ x. LacksChannel x.config asked.channel)

  abbrev pub OwnChannel : Asked → Type 0
  OwnChannel (Read reading) = NamesNoChannel (asked_in reading)
  OwnChannel (Evidence asked) = NamesNoChannel asked
  OwnChannel (Page asked words) = NamesNoChannel asked
  OwnChannel (Rescuing reading) = OfAlone (asked_in reading) (λ x. LacksChannel x.config (asked_in reading).channel)
  OwnChannel (RescueInfo medium) = IfTold medium (OfAlone (whole_of medium) (λ x. LacksChannel x.config (whole_of medium).channel))
  OwnChannel command = ⊥

  abbrev pub NamesNoIncident : AskedPlay → ℕ → Type 0
  NamesNoIncident asked id = (asked.medium ≡ Incident id)
      × (tells → IsOpenableWith old.media.disk.reads (λ x. (LacksChannel x.config asked.channel → ⊥) × LacksIncident x.table asked.medium))

  abbrev pub OwnIncident : Asked → ℕ → Type 0
  OwnIncident (Read reading) id = NamesNoIncident (asked_in reading) id
  OwnIncident (Evidence asked) id = NamesNoIncident asked id
  OwnIncident (Page asked words) id = NamesNoIncident asked id
  OwnIncident (Release given) id = (id ≡ given) × (tells → IsOpenableWith old.media.disk.reads (λ x. live x.table given ≡ None))
  OwnIncident (Rescuing reading) id = LacksIncidentAlone (asked_in reading) id
  OwnIncident (RescueInfo medium) id = IfTold medium (LacksIncidentAlone (whole_of medium) id)
  OwnIncident command id = ⊥

  -- ---- 12

  abbrev pub OwnCause : Asked → SaveCause → Type 0
  OwnCause (Save label) cause = tells → IsOpenableWith old.media.disk.reads (IsJudged label (Some cause))
  OwnCause command cause = ⊥

  -- ---- 14

  abbrev pub OwnKind : Asked → Type 0
  OwnKind (Read reading) = tells → IsOpenableWith old.media.disk.reads (λ x. CanPlay x (asked_in reading).medium (asked_in reading).channel × (file_read reading x.config ≡ None))
  OwnKind (Rescuing reading) = OfAlone (asked_in reading) (λ x. file_read reading x.config ≡ None)
  OwnKind command = ⊥

  -- Of what the media hold there is no such file, for this reason.
  abbrev pub OwnFile : Asked → ExportRefused → Type 0
  OwnFile (Read reading) why =
      (tells → IsOpenableWith old.media.disk.reads (λ x. CanPlay x (asked_in reading).medium (asked_in reading).channel × ((file : File) × (file_read reading x.config ≡ Some file))))
      × ((x : Contents) (file : File) → tells → HoldsContents old.media.disk.reads x → CanBeRead x → file_read reading x.config ≡ Some file → made_of x (asked_in reading) file ≡ Err why)
  OwnFile (Rescuing reading) why =
      OfAlone (asked_in reading) (λ x. (file : File) × (file_read reading x.config ≡ Some file) × (file_of file (records_rescued x (asked_in reading)) ≡ Err why))
  OwnFile command why = ⊥
