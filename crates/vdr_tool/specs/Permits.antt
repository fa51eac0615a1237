-- When all is there that a command asks for: nothing stands in its way but a failure or want of memory.
use Rattle.std.specs.Prelude.{◌≡◌, ◌⊎◌, ℕ, Bool, true, List, Some, Result, Ok, ⊤}
use Rattle.vdr_config.specs.Configuration.{Configuration}
use Rattle.vdr_compare.specs.Comparisons.{comparison_verdict, windows_of}
use Rattle.vdr_compare.specs.Openings.{AreAlike}
use Rattle.vdr_compare.specs.Standings.{standings}
use Rattle.vdr_compare.specs.declared.difference.Verdict.TheVariants.{Same}
use Rattle.vdr_config.specs.Grammar.{configuration}
use Rattle.vdr_config.specs.Sizes.{window_of}
use Rattle.vdr_durability.specs.Readings.{EndsMeet}
use Rattle.vdr_evidence.specs.Files.{Heading}
use Rattle.vdr_export.specs.Answers.{file_of}
use Rattle.vdr_export.specs.declared.file.File.{File}
use Rattle.vdr_export.specs.declared.refused.ExportRefused.{ExportRefused}
use Rattle.vdr_feed.specs.Feed.{IsFeed, longest_feed}
use Rattle.vdr_info.specs.Infos.{TellerState}
use Rattle.vdr_media.specs.Answers.{room}
use Rattle.vdr_media.specs.Formatted.{IsUnformatted}
use Rattle.vdr_opening.specs.Media.{members_with, Contents, HoldsContents, HoldsParts, opening_of, reading_of}
use Rattle.vdr_outside.specs.Disk.{content}
use Rattle.vdr_pcap.specs.Capture.{IsCapture, Part}
use Rattle.vdr_recorder.specs.Refusals.{MayBegin}
use Rattle.vdr_replay.specs.Feeding.{AreConfigured}
use Rattle.vdr_rescue.specs.Alones.{Rescue, Rescued}
use Rattle.vdr_rescue.specs.Findings.{found_in}
use Rattle.vdr_rescue.specs.declared.found.Found.TheVariants.{Whole}
use Rattle.vdr_terms.specs.Records.{FeedItem, Record}
use Rattle.vdr_verify.specs.Legal.{IsEvidence}
use Rattle.vdr_command.specs.Opened.{WasRecorded}
use Rattle.vdr_command.specs.Outside.{Outside}
use Rattle.vdr_readout.specs.Exports.{made_of}
use Rattle.vdr_readout.specs.Informs.{IsToldAlone}
use Rattle.vdr_readout.specs.Readings.{Reading, asked_in}
use Rattle.vdr_readout.specs.Readings.Reading.{Wav, TimedWav, Picture, Pictures}
use Rattle.vdr_readout.specs.Reads.{AskedPlay, CanBeRead, CanPlay, number_asked}
use Rattle.vdr_readout.specs.Rescues.{CanRescue, records_rescued}
use Rattle.vdr_readout.specs.Sources.{whole_of}
use Rattle.vdr_tool.specs.Commands.{Asked}
use Rattle.vdr_tool.specs.Commands.Asked.{Review, Check, Format, Replay, Read, Evidence, Page, Incidents, Info, Save, Release, Trial, Import, Packets, Verify, Rescue as Rescuing, RescueInfo, Compare}
use Rattle.vdr_tool.specs.Own.{file_read}
use Rattle.vdr_tool.specs.Releases.{CanRelease}
use Rattle.vdr_tool.specs.Saves.{CanSave}
use Rattle.vdr_tool.specs.Trials.{bench}

-- The channel is of the kind of file that is asked for, and the records make one. Other readings print any records.
abbrev pub MakesFile : Reading → Configuration → (File → Result (List ℕ) ExportRefused) → Type 0
MakesFile (Wav asked) c made = (file : File) × (whole : List ℕ) × (file_read (Wav asked) c ≡ Some file) × (made file ≡ Ok whole)
MakesFile (TimedWav asked) c made = (file : File) × (whole : List ℕ) × (file_read (TimedWav asked) c ≡ Some file) × (made file ≡ Ok whole)
MakesFile (Picture asked block) c made = (file : File) × (whole : List ℕ) × (file_read (Picture asked block) c ≡ Some file) × (made file ≡ Ok whole)
MakesFile (Pictures asked) c made = (file : File) × (whole : List ℕ) × (file_read (Pictures asked) c ≡ Some file) × (made file ≡ Ok whole)
MakesFile reading c made = ⊤

module _ {tells tells_images : Type 0} (old : Outside tells tells_images) where
  -- The input tells its bytes, of which P holds.
  pub record IsGiven (P : List ℕ → Type 0) : Type 0 where
    pub bytes : List ℕ
    pub known : old.input.left ≡ Some bytes
    pub has : P bytes

  -- The media tell what they read as, and that is legible, both end alike, and P holds of what they hold.
  pub record IsLegibleWith (P : Contents → Type 0) : Type 0 where
    pub told : tells
    pub contents : Contents
    pub holds : HoldsContents old.media.disk.reads contents
    pub meet : EndsMeet (members_with contents.further) (reading_of contents)
    pub has : P contents

  -- The one medium that is asked for gives so much, of which P holds.
  pub record IsRescuedWith (asked : AskedPlay) (P : Rescue → Type 0) : Type 0 where
    pub told : tells
    pub gives : Rescue
    pub rescued : Rescued (number_asked asked) (content old.media.disk.reads (number_asked asked)) gives
    pub has : P gives

  -- The media can be read, and channel and incident are there.
  abbrev pub IsPlayable : AskedPlay → Type 0
  IsPlayable asked = IsLegibleWith (λ x. CanBeRead x × CanPlay x asked.medium asked.channel)

  -- Both media can be read alone, what configurations they hold have the same text, and of what they give nothing differs, lacks or is damaged.
  pub record AreComparedSame : Type 0 where
    pub told : tells
    pub capsule : Rescue
    pub longterm : Rescue
    pub capsule_gives : Rescued 0 (content old.media.disk.reads 0) capsule
    pub longterm_gives : Rescued 1 (content old.media.disk.reads 1) longterm
    pub texts : (alike : Bool) → AreAlike (content old.media.disk.reads 0) (content old.media.disk.reads 1) alike → alike ≡ true
    pub same : comparison_verdict (record { alike = true; capsule = capsule.findings; longterm = longterm.findings })
        (windows_of (window_of capsule.config 0) (window_of longterm.config 1) capsule.given longterm.given) (standings capsule.given longterm.given) ≡ Same

  -- By command.
  abbrev pub Permits : Asked → Type 0
  Permits (Review rate) = IsGiven (λ bytes. (items : List FeedItem) × IsFeed longest_feed bytes items)
  Permits Check = IsGiven (λ bytes. (c : Configuration) × (configuration bytes ≡ Ok c))
  Permits (Format again) = tells × ((again ≡ true) ⊎ IsUnformatted old.media.disk.reads)
      × IsGiven (λ bytes. (c : Configuration) × (configuration bytes ≡ Ok c) × (room c old.media.disk.sizes ≡ Ok tt))
  Permits Replay = IsLegibleWith (λ x. MayBegin (opening_of x) × IsGiven (λ bytes. (feed : List FeedItem) × IsFeed longest_feed bytes feed × AreConfigured x.config.groups feed))
  Permits (Read reading) = IsLegibleWith (λ x. CanBeRead x × CanPlay x (asked_in reading).medium (asked_in reading).channel × MakesFile reading x.config (made_of x (asked_in reading)))
  Permits (Evidence asked) = IsPlayable asked
  Permits (Page asked words) = IsPlayable asked
  Permits Incidents = IsLegibleWith (λ x. ⊤)
  Permits Info = tells × (x : Contents) × HoldsParts old.media.disk.reads x × EndsMeet (members_with x.further) (reading_of x)
  Permits (Save label) = IsLegibleWith (λ x. WasRecorded x × CanSave label x)
  Permits (Release id) = IsLegibleWith (CanRelease id)
  Permits (Trial seed count) = tells × IsUnformatted old.media.disk.reads × (room bench old.media.disk.sizes ≡ Ok tt)
  Permits Import = IsGiven (λ bytes. (parts : List Part) × IsCapture longest_feed bytes parts)
  Permits Packets = IsGiven (λ bytes. (parts : List Part) × IsCapture longest_feed bytes parts)
  Permits Verify = IsGiven (λ bytes. (h : Heading) × (records : List Record) × IsEvidence bytes h records)
  Permits (Rescuing reading) = IsRescuedWith (asked_in reading)
      (λ x. CanRescue x (asked_in reading) × (found_in x.findings ≡ Whole) × MakesFile reading x.config (λ file. file_of file (records_rescued x (asked_in reading))))
  Permits (RescueInfo medium) = IsRescuedWith (whole_of medium) (λ x. CanRescue x (whole_of medium) × (found_in x.findings ≡ Whole)
      × (first : TellerState) × IsToldAlone (number_asked (whole_of medium)) (content old.media.disk.reads (number_asked (whole_of medium))) first)
  Permits Compare = AreComparedSame
