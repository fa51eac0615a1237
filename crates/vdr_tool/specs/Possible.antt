-- What each command can answer at all: with the statuses of its page, and with no other.
use Rattle.std.specs.Prelude.{⊤}
use Rattle.vdr_export.specs.declared.timing.Timing.TheVariants.{Numbered}
use Rattle.vdr_command.specs.declared.status.Status.{Status}
use Rattle.vdr_command.specs.declared.status.Status.TheVariants.{Done, Unformatted, Damaged, MediaFault, InputFault, OutputFault, NoMemory, Feed, Place, Tick, Missing}
use Rattle.vdr_readout.specs.Exports.{IsExportStatus}
use Rattle.vdr_export.specs.Wishes.{timed_from}
use Rattle.vdr_readout.specs.Incidents.{IsListStatus}
use Rattle.vdr_readout.specs.Plays.{IsPlayStatus}
use Rattle.vdr_readout.specs.Readings.{Reading}
use Rattle.vdr_readout.specs.Readings.Reading.{Play, Values, Track, Sources, Watch, Runs, Digest, Targets, Wav, TimedWav, Picture, Pictures}
use Rattle.vdr_readout.specs.RescuedFiles.{IsRescuedFileStatus}
use Rattle.vdr_readout.specs.Rescues.{IsRescueStatus}
use Rattle.vdr_export.specs.declared.wish.Wish.TheVariants as wishes
use Rattle.vdr_tool.specs.Captures.{IsCaptureStatus}
use Rattle.vdr_tool.specs.Checks.{IsCheckStatus}
use Rattle.vdr_tool.specs.Commands.{Asked}
use Rattle.vdr_tool.specs.Commands.Asked.{Review, Check, Format, Replay, Read, Evidence, Page, Incidents, Info, Save, Release, Trial, Import, Packets, Verify, Rescue, RescueInfo, Compare}
use Rattle.vdr_tool.specs.Formats.{IsFormatStatus}
use Rattle.vdr_tool.specs.Releases.{IsReleaseStatus}
use Rattle.vdr_tool.specs.Reviews.{IsReviewStatus}
use Rattle.vdr_tool.specs.Saves.{IsSaveStatus}
use Rattle.vdr_tool.specs.Trials.{IsTrialStatus}
use Rattle.vdr_tool.specs.Verifying.{IsVerifyStatus}

abbrev pub IsReplayStatus : Status → Type 0
IsReplayStatus Done = ⊤
IsReplayStatus Unformatted = ⊤
IsReplayStatus (Damaged m offset) = ⊤
IsReplayStatus MediaFault = ⊤
IsReplayStatus InputFault = ⊤
IsReplayStatus OutputFault = ⊤
IsReplayStatus NoMemory = ⊤
IsReplayStatus (Feed number offset) = ⊤
IsReplayStatus Place = ⊤
IsReplayStatus Tick = ⊤
IsReplayStatus status = ⊥

abbrev pub IsCompareStatus : Status → Type 0
IsCompareStatus Done = ⊤
IsCompareStatus (Damaged m offset) = ⊤
IsCompareStatus (Missing place) = ⊤
IsCompareStatus MediaFault = ⊤
IsCompareStatus OutputFault = ⊤
IsCompareStatus NoMemory = ⊤
IsCompareStatus status = ⊥

-- Of both media, and of one alone.
abbrev pub CanRead : Reading → Status → Type 0
CanRead (Play asked) status = IsPlayStatus status
CanRead (Values asked) status = IsPlayStatus status
CanRead (Track asked source) status = IsPlayStatus status
CanRead (Sources medium) status = IsPlayStatus status
CanRead (Watch medium) status = IsPlayStatus status
CanRead (Runs medium) status = IsPlayStatus status
CanRead (Digest medium) status = IsPlayStatus status
CanRead (Targets medium at) status = IsPlayStatus status
CanRead (Wav asked) status = IsExportStatus (wishes.Sound Numbered) status
CanRead (TimedWav asked) status = IsExportStatus (wishes.Sound (timed_from asked.from)) status
CanRead (Picture asked block) status = IsExportStatus (wishes.Picture block) status
CanRead (Pictures asked) status = IsExportStatus wishes.Listing status

abbrev pub CanRescue : Reading → Status → Type 0
CanRescue (Wav asked) status = IsRescuedFileStatus status
CanRescue (TimedWav asked) status = IsRescuedFileStatus status
CanRescue (Picture asked block) status = IsRescuedFileStatus status
CanRescue (Pictures asked) status = IsRescuedFileStatus status
CanRescue reading status = IsRescueStatus status

abbrev pub CanAnswer : Asked → Status → Type 0
CanAnswer (Review rate) status = IsReviewStatus status
CanAnswer Check status = IsCheckStatus status
CanAnswer (Format again) status = IsFormatStatus status
CanAnswer Replay status = IsReplayStatus status
CanAnswer (Read reading) status = CanRead reading status
CanAnswer (Evidence asked) status = IsPlayStatus status
CanAnswer (Page asked words) status = IsPlayStatus status
CanAnswer Incidents status = IsListStatus status
CanAnswer Info status = IsListStatus status
CanAnswer (Save label) status = IsSaveStatus status
CanAnswer (Release id) status = IsReleaseStatus status
CanAnswer (Trial seed count) status = IsTrialStatus status
CanAnswer Import status = IsCaptureStatus status
CanAnswer Packets status = IsCaptureStatus status
CanAnswer Verify status = IsVerifyStatus status
CanAnswer (Rescue reading) status = CanRescue reading status
CanAnswer (RescueInfo medium) status = IsRescueStatus status
CanAnswer Compare status = IsCompareStatus status
