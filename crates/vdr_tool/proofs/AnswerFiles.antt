-- That a file is refused only in its case.
use Rattle.vdr_export.specs.declared.timing.Timing.TheVariants.{Numbered}
use Rattle.vdr_export.specs.declared.wish.Wish.TheVariants as wishes
use Rattle.std.proofs.Common.{◌≡◌, ℕ, Some, Err, sym, subst}
use Rattle.vdr_export.specs.declared.file.File.{File}
use Rattle.vdr_export.specs.declared.refused.ExportRefused.{ExportRefused}
use Rattle.vdr_export.specs.declared.refused.ExportRefused.TheVariants as exports
use Rattle.vdr_opening.specs.Media.{Contents, HoldsContents}
use Rattle.vdr_outside.specs.Disk.{content}
use Rattle.vdr_recorder.specs.Watched.{Watched}
use Rattle.vdr_command.specs.Opened.{IsOpenableWith}
use Rattle.vdr_command.specs.Outside.{Outside}
use Rattle.vdr_command.specs.declared.status.Status.{Status}
use Rattle.vdr_command.specs.declared.status.Status.TheVariants.{ExportKind, ExportNothing, ExportMixed, ExportLong, ExportPart}
use Rattle.vdr_readout.specs.Exports.{ExportEnds, IfRefusal, IsJudged, file_in, made_of}
use Rattle.vdr_export.specs.Wishes.{timed_from}
use Rattle.vdr_readout.specs.Incidents.{IsListStatus}
use Rattle.vdr_readout.specs.Plays.{IsPlayStatus}
use Rattle.vdr_readout.specs.Readings.{OwesReading, Reading, RescuesReading}
use Rattle.vdr_readout.specs.Readings.Reading.{Play, Values, Track, Sources, Watch, Runs, Digest, Targets, Wav, TimedWav, Picture, Pictures}
use Rattle.vdr_readout.specs.Reads.{AskedPlay, CanBeRead, CanPlay, number_asked}
use Rattle.vdr_readout.specs.RescuedFiles.{ShowsFile, IsNone}
use Rattle.vdr_readout.specs.Rescues.{IsRescueStatus}
use Rattle.vdr_export.specs.declared.wish.Wish.{Wish}
use Rattle.vdr_tool.specs.Captures.{IsCaptureStatus}
use Rattle.vdr_tool.specs.Checks.{IsCheckStatus}
use Rattle.vdr_tool.specs.Commands.{Asked}
use Rattle.vdr_tool.specs.Commands.Asked.{Review, Check, Format, Replay, Read, Evidence, Page, Incidents, Info, Save, Release, Trial, Import, Packets, Verify, Rescue as Rescuing, RescueInfo, Compare}
use Rattle.vdr_tool.specs.Formats.{IsFormatStatus}
use Rattle.vdr_tool.specs.Own.{OwnFile, OwnKind}
use Rattle.vdr_tool.specs.Possible.{IsCompareStatus, IsReplayStatus}
use Rattle.vdr_tool.specs.Releases.{IsReleaseStatus}
use Rattle.vdr_tool.specs.Reviews.{IsReviewStatus}
use Rattle.vdr_tool.specs.Runs.{page}
use Rattle.vdr_tool.specs.Saves.{IsSaveStatus}
use Rattle.vdr_tool.specs.Trials.{IsTrialStatus}
use Rattle.vdr_tool.specs.Verifying.{IsVerifyStatus}
use Rattle.vdr_tool.proofs.AnswerFailures.{compare_ends}
use Rattle.vdr_tool.proofs.ReplayStatuses.{replay_ends_so}
use Rattle.vdr_tool.proofs.AnswerParts.{no_kind}
use Rattle.vdr_readout.proofs.ReadingLemmas.{rescue_ends}

module _ {tells tells_images : Type 0} (old new : Outside tells tells_images) (status : Status) where
  reading_kind : (reading : Reading) → OwesReading reading old new status → status ≡ ExportKind → OwnKind old (Read reading)
  reading_kind (Play asked) owed is = absurd (subst IsPlayStatus is owed.own)
  reading_kind (Values asked) owed is = absurd (subst IsPlayStatus is owed.own)
  reading_kind (Track asked source) owed is = absurd (subst IsPlayStatus is owed.own)
  reading_kind (Sources medium) owed is = absurd (subst IsPlayStatus is owed.own)
  reading_kind (Watch medium) owed is = absurd (subst IsPlayStatus is owed.own)
  reading_kind (Runs medium) owed is = absurd (subst IsPlayStatus is owed.own)
  reading_kind (Digest medium) owed is = absurd (subst IsPlayStatus is owed.own)
  reading_kind (Targets medium at) owed is = absurd (subst IsPlayStatus is owed.own)
  reading_kind (Wav asked) owed is = owed.ends.kind is
  reading_kind (TimedWav asked) owed is = owed.ends.kind is
  reading_kind (Picture asked block) owed is = owed.ends.kind is
  reading_kind (Pictures asked) owed is = owed.ends.kind is

  reading_no_kind : (reading : Reading) → RescuesReading reading old new status → status ≡ ExportKind → OwnKind old (Rescuing reading)
  reading_no_kind (Play asked) owed is = absurd (subst IsRescueStatus is (rescue_ends old new _ _ _ status owed))
  reading_no_kind (Values asked) owed is = absurd (subst IsRescueStatus is (rescue_ends old new _ _ _ status owed))
  reading_no_kind (Track asked source) owed is = absurd (subst IsRescueStatus is (rescue_ends old new _ _ _ status owed))
  reading_no_kind (Sources medium) owed is = absurd (subst IsRescueStatus is (rescue_ends old new _ _ _ status owed))
  reading_no_kind (Watch medium) owed is = absurd (subst IsRescueStatus is (rescue_ends old new _ _ _ status owed))
  reading_no_kind (Runs medium) owed is = absurd (subst IsRescueStatus is (rescue_ends old new _ _ _ status owed))
  reading_no_kind (Digest medium) owed is = absurd (subst IsRescueStatus is (rescue_ends old new _ _ _ status owed))
  reading_no_kind (Targets medium at) owed is = absurd (subst IsRescueStatus is (rescue_ends old new _ _ _ status owed))
  reading_no_kind (Wav asked) owed is = no_kind old new status _ _ owed is
  reading_no_kind (TimedWav asked) owed is = no_kind old new status _ _ owed is
  reading_no_kind (Picture asked block) owed is = no_kind old new status _ _ owed is
  reading_no_kind (Pictures asked) owed is = no_kind old new status _ _ owed is

  module _ (why : ExportRefused) where
    file_judged : (wish : Wish) (asked : AskedPlay) → ExportEnds wish asked old new status → IsJudged status → ((P : ExportRefused → Type 0) → IfRefusal status P → P why)
        → (tells → IsOpenableWith old.media.disk.reads (λ x. CanPlay x asked.medium asked.channel × ((file : File) × (file_in wish x.config asked.channel ≡ Some file))))
        × ((x : Contents) (file : File) → tells → HoldsContents old.media.disk.reads x → CanBeRead x → file_in wish x.config asked.channel ≡ Some file → made_of x asked file ≡ Err why)
    file_judged wish asked ends judged names =
        (ends.openable judged, λ x file told holds can is. names (λ e. made_of x asked file ≡ Err e) (ends.written x file told holds can is).refused)

    -- Of both media.
    reading_file : (reading : Reading) → OwesReading reading old new status → IsJudged status → ((P : ExportRefused → Type 0) → IfRefusal status P → P why) → (IsPlayStatus status → ⊥) → OwnFile old (Read reading) why
    reading_file (Play asked) owed judged names never = absurd (never owed.own)
    reading_file (Values asked) owed judged names never = absurd (never owed.own)
    reading_file (Track asked source) owed judged names never = absurd (never owed.own)
    reading_file (Sources medium) owed judged names never = absurd (never owed.own)
    reading_file (Watch medium) owed judged names never = absurd (never owed.own)
    reading_file (Runs medium) owed judged names never = absurd (never owed.own)
    reading_file (Digest medium) owed judged names never = absurd (never owed.own)
    reading_file (Targets medium at) owed judged names never = absurd (never owed.own)
    reading_file (Wav asked) owed judged names never = file_judged (wishes.Sound Numbered) asked owed.ends judged names
    reading_file (TimedWav asked) owed judged names never = file_judged (wishes.Sound (timed_from asked.from)) asked owed.ends judged names
    reading_file (Picture asked block) owed judged names never = file_judged (wishes.Picture block) asked owed.ends judged names
    reading_file (Pictures asked) owed judged names never = file_judged wishes.Listing asked owed.ends judged names

    -- Of one medium alone.
    reading_no_file : (reading : Reading) → RescuesReading reading old new status
        → ((wish : Wish) (asked : AskedPlay) → ShowsFile tells wish asked (content old.media.disk.reads (number_asked asked)) old.output new.output status → IsNone tells wish asked (content old.media.disk.reads (number_asked asked)) old.output new.output why) → (IsRescueStatus status → ⊥) → OwnFile old (Rescuing reading) why
    reading_no_file (Play asked) owed shows never = absurd (never (rescue_ends old new _ _ _ status owed))
    reading_no_file (Values asked) owed shows never = absurd (never (rescue_ends old new _ _ _ status owed))
    reading_no_file (Track asked source) owed shows never = absurd (never (rescue_ends old new _ _ _ status owed))
    reading_no_file (Sources medium) owed shows never = absurd (never (rescue_ends old new _ _ _ status owed))
    reading_no_file (Watch medium) owed shows never = absurd (never (rescue_ends old new _ _ _ status owed))
    reading_no_file (Runs medium) owed shows never = absurd (never (rescue_ends old new _ _ _ status owed))
    reading_no_file (Digest medium) owed shows never = absurd (never (rescue_ends old new _ _ _ status owed))
    reading_no_file (Targets medium at) owed shows never = absurd (never (rescue_ends old new _ _ _ status owed))
    reading_no_file (Wav asked) owed shows never = (shows (wishes.Sound Numbered) asked owed.shown).1
    reading_no_file (TimedWav asked) owed shows never = (shows (wishes.Sound (timed_from asked.from)) asked owed.shown).1
    reading_no_file (Picture asked block) owed shows never = (shows (wishes.Picture block) asked owed.shown).1
    reading_no_file (Pictures asked) owed shows never = (shows wishes.Listing asked owed.shown).1

module _ {tells tells_images : Type 0} (old new : Outside tells tells_images) (hears : Type 0) (w : Watched) (status : Status) where
  -- 14
  pub own_kind : (command : Asked) → (page command).owes old new hears w status → status ≡ ExportKind → OwnKind old command
  own_kind (Review rate) owed is = absurd (subst IsReviewStatus is owed.own)
  own_kind Check owed is = absurd (subst IsCheckStatus is owed.own)
  own_kind (Format again) owed is = absurd (subst IsFormatStatus is owed.media.own)
  own_kind Replay owed is = absurd (subst IsReplayStatus is (replay_ends_so owed.answer status old.output new.output owed.told))
  own_kind (Read reading) owed is = reading_kind old new status reading owed is
  own_kind (Evidence asked) owed is = absurd (subst IsPlayStatus is owed.own)
  own_kind (Page asked words) owed is = absurd (subst IsPlayStatus is owed.ends.own)
  own_kind Incidents owed is = absurd (subst IsListStatus is owed.own)
  own_kind Info owed is = absurd (subst IsListStatus is owed.own)
  own_kind (Save label) owed is = absurd (subst IsSaveStatus is owed.own)
  own_kind (Release id) owed is = absurd (subst IsReleaseStatus is owed.own)
  own_kind (Trial seed count) owed is = absurd (subst IsTrialStatus is owed.media.own)
  own_kind Import owed is = absurd (subst IsCaptureStatus is owed.own)
  own_kind Packets owed is = absurd (subst IsCaptureStatus is owed.own)
  own_kind Verify owed is = absurd (subst IsVerifyStatus is owed.own)
  own_kind (Rescuing reading) owed is = reading_no_kind old new status reading owed is
  own_kind (RescueInfo medium) owed is = absurd (subst IsRescueStatus is owed.ends)
  own_kind Compare owed is = absurd (subst IsCompareStatus is (compare_ends old new status owed))

  pub own_nothing : (command : Asked) → (page command).owes old new hears w status → status ≡ ExportNothing → OwnFile old command exports.Nothing
  own_nothing (Review rate) owed is = absurd (subst IsReviewStatus is owed.own)
  own_nothing Check owed is = absurd (subst IsCheckStatus is owed.own)
  own_nothing (Format again) owed is = absurd (subst IsFormatStatus is owed.media.own)
  own_nothing Replay owed is = absurd (subst IsReplayStatus is (replay_ends_so owed.answer status old.output new.output owed.told))
  own_nothing (Read reading) owed is = reading_file old new status exports.Nothing reading owed (subst IsJudged (sym is) tt) (λ P h. subst (λ (s : Status). IfRefusal s P) is h) (λ p. subst IsPlayStatus is p)
  own_nothing (Evidence asked) owed is = absurd (subst IsPlayStatus is owed.own)
  own_nothing (Page asked words) owed is = absurd (subst IsPlayStatus is owed.ends.own)
  own_nothing Incidents owed is = absurd (subst IsListStatus is owed.own)
  own_nothing Info owed is = absurd (subst IsListStatus is owed.own)
  own_nothing (Save label) owed is = absurd (subst IsSaveStatus is owed.own)
  own_nothing (Release id) owed is = absurd (subst IsReleaseStatus is owed.own)
  own_nothing (Trial seed count) owed is = absurd (subst IsTrialStatus is owed.media.own)
  own_nothing Import owed is = absurd (subst IsCaptureStatus is owed.own)
  own_nothing Packets owed is = absurd (subst IsCaptureStatus is owed.own)
  own_nothing Verify owed is = absurd (subst IsVerifyStatus is owed.own)
  own_nothing (Rescuing reading) owed is = reading_no_file old new status exports.Nothing reading owed (λ wish asked h. subst (λ (s : Status). ShowsFile tells wish asked (content old.media.disk.reads (number_asked asked)) old.output new.output s) is h) (λ p. subst IsRescueStatus is p)
  own_nothing (RescueInfo medium) owed is = absurd (subst IsRescueStatus is owed.ends)
  own_nothing Compare owed is = absurd (subst IsCompareStatus is (compare_ends old new status owed))

  pub own_mixed : (place : ℕ) (command : Asked) → (page command).owes old new hears w status → status ≡ ExportMixed place → OwnFile old command (exports.Mixed place)
  own_mixed place (Review rate) owed is = absurd (subst IsReviewStatus is owed.own)
  own_mixed place Check owed is = absurd (subst IsCheckStatus is owed.own)
  own_mixed place (Format again) owed is = absurd (subst IsFormatStatus is owed.media.own)
  own_mixed place Replay owed is = absurd (subst IsReplayStatus is (replay_ends_so owed.answer status old.output new.output owed.told))
  own_mixed place (Read reading) owed is = reading_file old new status (exports.Mixed place) reading owed (subst IsJudged (sym is) tt) (λ P h. subst (λ (s : Status). IfRefusal s P) is h) (λ p. subst IsPlayStatus is p)
  own_mixed place (Evidence asked) owed is = absurd (subst IsPlayStatus is owed.own)
  own_mixed place (Page asked words) owed is = absurd (subst IsPlayStatus is owed.ends.own)
  own_mixed place Incidents owed is = absurd (subst IsListStatus is owed.own)
  own_mixed place Info owed is = absurd (subst IsListStatus is owed.own)
  own_mixed place (Save label) owed is = absurd (subst IsSaveStatus is owed.own)
  own_mixed place (Release id) owed is = absurd (subst IsReleaseStatus is owed.own)
  own_mixed place (Trial seed count) owed is = absurd (subst IsTrialStatus is owed.media.own)
  own_mixed place Import owed is = absurd (subst IsCaptureStatus is owed.own)
  own_mixed place Packets owed is = absurd (subst IsCaptureStatus is owed.own)
  own_mixed place Verify owed is = absurd (subst IsVerifyStatus is owed.own)
  own_mixed place (Rescuing reading) owed is = reading_no_file old new status (exports.Mixed place) reading owed (λ wish asked h. subst (λ (s : Status). ShowsFile tells wish asked (content old.media.disk.reads (number_asked asked)) old.output new.output s) is h) (λ p. subst IsRescueStatus is p)
  own_mixed place (RescueInfo medium) owed is = absurd (subst IsRescueStatus is owed.ends)
  own_mixed place Compare owed is = absurd (subst IsCompareStatus is (compare_ends old new status owed))

  pub own_long : (command : Asked) → (page command).owes old new hears w status → status ≡ ExportLong → OwnFile old command exports.Long
  own_long (Review rate) owed is = absurd (subst IsReviewStatus is owed.own)
  own_long Check owed is = absurd (subst IsCheckStatus is owed.own)
  own_long (Format again) owed is = absurd (subst IsFormatStatus is owed.media.own)
  own_long Replay owed is = absurd (subst IsReplayStatus is (replay_ends_so owed.answer status old.output new.output owed.told))
  own_long (Read reading) owed is = reading_file old new status exports.Long reading owed (subst IsJudged (sym is) tt) (λ P h. subst (λ (s : Status). IfRefusal s P) is h) (λ p. subst IsPlayStatus is p)
  own_long (Evidence asked) owed is = absurd (subst IsPlayStatus is owed.own)
  own_long (Page asked words) owed is = absurd (subst IsPlayStatus is owed.ends.own)
  own_long Incidents owed is = absurd (subst IsListStatus is owed.own)
  own_long Info owed is = absurd (subst IsListStatus is owed.own)
  own_long (Save label) owed is = absurd (subst IsSaveStatus is owed.own)
  own_long (Release id) owed is = absurd (subst IsReleaseStatus is owed.own)
  own_long (Trial seed count) owed is = absurd (subst IsTrialStatus is owed.media.own)
  own_long Import owed is = absurd (subst IsCaptureStatus is owed.own)
  own_long Packets owed is = absurd (subst IsCaptureStatus is owed.own)
  own_long Verify owed is = absurd (subst IsVerifyStatus is owed.own)
  own_long (Rescuing reading) owed is = reading_no_file old new status exports.Long reading owed (λ wish asked h. subst (λ (s : Status). ShowsFile tells wish asked (content old.media.disk.reads (number_asked asked)) old.output new.output s) is h) (λ p. subst IsRescueStatus is p)
  own_long (RescueInfo medium) owed is = absurd (subst IsRescueStatus is owed.ends)
  own_long Compare owed is = absurd (subst IsCompareStatus is (compare_ends old new status owed))

  pub own_part : (number : ℕ) (command : Asked) → (page command).owes old new hears w status → status ≡ ExportPart number → OwnFile old command (exports.Part number)
  own_part number (Review rate) owed is = absurd (subst IsReviewStatus is owed.own)
  own_part number Check owed is = absurd (subst IsCheckStatus is owed.own)
  own_part number (Format again) owed is = absurd (subst IsFormatStatus is owed.media.own)
  own_part number Replay owed is = absurd (subst IsReplayStatus is (replay_ends_so owed.answer status old.output new.output owed.told))
  own_part number (Read reading) owed is = reading_file old new status (exports.Part number) reading owed (subst IsJudged (sym is) tt) (λ P h. subst (λ (s : Status). IfRefusal s P) is h) (λ p. subst IsPlayStatus is p)
  own_part number (Evidence asked) owed is = absurd (subst IsPlayStatus is owed.own)
  own_part number (Page asked words) owed is = absurd (subst IsPlayStatus is owed.ends.own)
  own_part number Incidents owed is = absurd (subst IsListStatus is owed.own)
  own_part number Info owed is = absurd (subst IsListStatus is owed.own)
  own_part number (Save label) owed is = absurd (subst IsSaveStatus is owed.own)
  own_part number (Release id) owed is = absurd (subst IsReleaseStatus is owed.own)
  own_part number (Trial seed count) owed is = absurd (subst IsTrialStatus is owed.media.own)
  own_part number Import owed is = absurd (subst IsCaptureStatus is owed.own)
  own_part number Packets owed is = absurd (subst IsCaptureStatus is owed.own)
  own_part number Verify owed is = absurd (subst IsVerifyStatus is owed.own)
  own_part number (Rescuing reading) owed is = reading_no_file old new status (exports.Part number) reading owed (λ wish asked h. subst (λ (s : Status). ShowsFile tells wish asked (content old.media.disk.reads (number_asked asked)) old.output new.output s) is h) (λ p. subst IsRescueStatus is p)
  own_part number (RescueInfo medium) owed is = absurd (subst IsRescueStatus is owed.ends)
  own_part number Compare owed is = absurd (subst IsCompareStatus is (compare_ends old new status owed))
