-- That each refusal which is of one kind over all commands comes only in its case.
use Rattle.std.proofs.Common.{◌≡◌, ℕ, List, Option, Some, None, Result, Err, sym, subst}
use Rattle.std.specs.Prelude.{◌≤◌, ◌<◌, ◌^◌}
use Rattle.vdr_config.specs.Grammar.{configuration}
use Rattle.vdr_config.specs.declared.bad.ConfigBad.{ConfigBad}
use Rattle.vdr_core.specs.Runs.{base_after}
use Rattle.vdr_feed.specs.Feed.{longest_feed}
use Rattle.vdr_feed.specs.Reader.{IfKnown}
use Rattle.vdr_import.specs.Imports.{IfRefusedBehind, imported}
use Rattle.vdr_media.specs.Answers.{KnownFormatted}
use Rattle.vdr_media.specs.Formatted.{IsUnformatted}
use Rattle.vdr_opening.specs.Media.{opening_of}
use Rattle.vdr_pcap.specs.Capture.{IsRefused, Part}
use Rattle.vdr_recorder.specs.Watched.{Watched}
use Rattle.vdr_replay.specs.Answers.{Decides, IfOpened}
use Rattle.vdr_replay.specs.declared.ended.Replayed.{Replayed}
use Rattle.vdr_replay.specs.declared.ended.ReplayRefused.{ReplayRefused}
use Rattle.vdr_command.specs.Opened.{IsOpenableWith}
use Rattle.vdr_command.specs.Outside.{OutputSeen, Outside, Prints}
use Rattle.vdr_command.specs.Refusals.{RefusesConfig, number_of}
use Rattle.vdr_command.specs.StatusLine.{IfCapture, IfNoEvidence}
use Rattle.vdr_command.specs.declared.status.EvidencePart.{EvidencePart}
use Rattle.vdr_command.specs.declared.status.Status.{Status}
use Rattle.vdr_command.specs.declared.status.Status.TheVariants.{Config, Unformatted, Formatted, Place, Tick, Capture, NoEvidence}
use Rattle.vdr_readout.specs.Incidents.{IsListStatus}
use Rattle.vdr_readout.specs.Plays.{IsPlayStatus}
use Rattle.vdr_readout.specs.RescuedFiles.{IsRescuedFileStatus}
use Rattle.vdr_readout.specs.Rescues.{IsRescueStatus}
use Rattle.vdr_readout.proofs.ReadingLemmas.{reading_plays}
use Rattle.vdr_tool.specs.Captures.{IsCaptureStatus}
use Rattle.vdr_tool.specs.Checks.{IsCheckStatus}
use Rattle.vdr_tool.specs.Commands.{Asked}
use Rattle.vdr_tool.specs.Commands.Asked.{Review, Check, Format, Replay, Read, Evidence, Page, Incidents, Info, Save, Release, Trial, Import, Packets, Verify, Rescue as Rescuing, RescueInfo, Compare}
use Rattle.vdr_tool.specs.Formats.{IsFormatStatus}
use Rattle.vdr_tool.specs.Possible.{IsCompareStatus, IsReplayStatus}
use Rattle.vdr_tool.specs.Releases.{IsReleaseStatus}
use Rattle.vdr_tool.specs.Reviews.{IsReviewStatus}
use Rattle.vdr_tool.specs.Runs.{page}
use Rattle.vdr_tool.specs.Saves.{IsSaveStatus}
use Rattle.vdr_tool.specs.Trials.{IsOfOtherMedia, IsTrialStatus}
use Rattle.vdr_tool.specs.Verifying.{IsVerifyStatus, StopsTold}
use Rattle.vdr_tool.proofs.AnswerStatuses.{IsReadStatus, reads_so, rescues_so}
use Rattle.vdr_tool.proofs.AnswerFailures.{compare_ends}
use Rattle.vdr_tool.proofs.ReplayStatuses.{at_place, at_tick, at_unformatted, replay_ends_so}

-- A configuration is refused so, without what was written of it.
refused_config : (left : Option (List ℕ)) (was next : OutputSeen) (number : ℕ) → RefusesConfig (Config number) left was next
    → (bad : ConfigBad) × (number_of bad ≡ number) × IfKnown left (λ bytes. configuration bytes ≡ Err bad)
refused_config left was next number h = (h.0, h.1, h.2)

-- So is a capture.
behind_refused : (left : Option (List ℕ)) (number offset : ℕ) (P : List Part → Type 0) → IfRefusedBehind left number offset P → IfKnown left (λ bytes. IsRefused longest_feed bytes number offset)
behind_refused None number offset P h = tt
behind_refused (Some bytes) number offset P h = (h.0, h.1.0, h.1.1)

module _ {tells tells_images : Type 0} (old new : Outside tells tells_images) (hears : Type 0) (w : Watched) (status : Status) where
  -- 3
  pub own_config : (number : ℕ) (command : Asked) → (page command).owes old new hears w status → status ≡ Config number → (bad : ConfigBad) × (number_of bad ≡ number) × IfKnown old.input.left (λ bytes. configuration bytes ≡ Err bad)
  own_config number (Review rate) owed is = absurd (subst IsReviewStatus is owed.own)
  own_config number Check owed is = refused_config old.input.left old.output new.output number (subst (λ (s : Status). RefusesConfig s old.input.left old.output new.output) is owed.config)
  own_config number (Format again) owed is = refused_config old.input.left old.output new.output number (subst (λ (s : Status). RefusesConfig s old.input.left old.output new.output) is owed.config)
  own_config number Replay owed is = absurd (subst IsReplayStatus is (replay_ends_so owed.answer status old.output new.output owed.told))
  own_config number (Read reading) owed is = absurd (subst IsReadStatus is (reads_so old new status reading owed))
  own_config number (Evidence asked) owed is = absurd (subst IsPlayStatus is owed.own)
  own_config number (Page asked words) owed is = absurd (subst IsPlayStatus is owed.ends.own)
  own_config number Incidents owed is = absurd (subst IsListStatus is owed.own)
  own_config number Info owed is = absurd (subst IsListStatus is owed.own)
  own_config number (Save label) owed is = absurd (subst IsSaveStatus is owed.own)
  own_config number (Release id) owed is = absurd (subst IsReleaseStatus is owed.own)
  own_config number (Trial seed count) owed is = absurd (subst IsTrialStatus is owed.media.own)
  own_config number Import owed is = absurd (subst IsCaptureStatus is owed.own)
  own_config number Packets owed is = absurd (subst IsCaptureStatus is owed.own)
  own_config number Verify owed is = absurd (subst IsVerifyStatus is owed.own)
  own_config number (Rescuing reading) owed is = absurd (subst IsRescuedFileStatus is (rescues_so old new status reading owed))
  own_config number (RescueInfo medium) owed is = absurd (subst IsRescueStatus is owed.ends)
  own_config number Compare owed is = absurd (subst IsCompareStatus is (compare_ends old new status owed))

  -- 4
  pub own_unformatted : (command : Asked) → (page command).owes old new hears w status → status ≡ Unformatted → tells → IsUnformatted old.media.disk.reads
  own_unformatted (Review rate) owed is told = absurd (subst IsReviewStatus is owed.own)
  own_unformatted Check owed is told = absurd (subst IsCheckStatus is owed.own)
  own_unformatted (Format again) owed is told = absurd (subst IsFormatStatus is owed.media.own)
  own_unformatted Replay owed is told = owed.media.unformatted (at_unformatted status old.output new.output owed.answer owed.told is) told
  own_unformatted (Read reading) owed is told = ((reading_plays old new status reading owed).media.unformatted is).1 told
  own_unformatted (Evidence asked) owed is told = (owed.media.media.unformatted is).1 told
  own_unformatted (Page asked words) owed is told = (owed.ends.media.media.unformatted is).1 told
  own_unformatted Incidents owed is told = (owed.media.unformatted is).1 told
  own_unformatted Info owed is told = owed.unformatted is told
  own_unformatted (Save label) owed is told = (owed.media.unformatted is).1 told
  own_unformatted (Release id) owed is told = (owed.media.unformatted is).1 told
  own_unformatted (Trial seed count) owed is told = absurd (owed.media.other_media (subst IsOfOtherMedia (sym is) tt) told)
  own_unformatted Import owed is told = absurd (subst IsCaptureStatus is owed.own)
  own_unformatted Packets owed is told = absurd (subst IsCaptureStatus is owed.own)
  own_unformatted Verify owed is told = absurd (subst IsVerifyStatus is owed.own)
  own_unformatted (Rescuing reading) owed is told = absurd (subst IsRescuedFileStatus is (rescues_so old new status reading owed))
  own_unformatted (RescueInfo medium) owed is told = absurd (subst IsRescueStatus is owed.ends)
  own_unformatted Compare owed is told = absurd (subst IsCompareStatus is (compare_ends old new status owed))

  pub own_formatted : (command : Asked) → (page command).owes old new hears w status → status ≡ Formatted → KnownFormatted old.media.disk
  own_formatted (Review rate) owed is = absurd (subst IsReviewStatus is owed.own)
  own_formatted Check owed is = absurd (subst IsCheckStatus is owed.own)
  own_formatted (Format again) owed is = (owed.media.formatted is).2
  own_formatted Replay owed is = absurd (subst IsReplayStatus is (replay_ends_so owed.answer status old.output new.output owed.told))
  own_formatted (Read reading) owed is = absurd (subst IsReadStatus is (reads_so old new status reading owed))
  own_formatted (Evidence asked) owed is = absurd (subst IsPlayStatus is owed.own)
  own_formatted (Page asked words) owed is = absurd (subst IsPlayStatus is owed.ends.own)
  own_formatted Incidents owed is = absurd (subst IsListStatus is owed.own)
  own_formatted Info owed is = absurd (subst IsListStatus is owed.own)
  own_formatted (Save label) owed is = absurd (subst IsSaveStatus is owed.own)
  own_formatted (Release id) owed is = absurd (subst IsReleaseStatus is owed.own)
  own_formatted (Trial seed count) owed is = owed.media.formatted is
  own_formatted Import owed is = absurd (subst IsCaptureStatus is owed.own)
  own_formatted Packets owed is = absurd (subst IsCaptureStatus is owed.own)
  own_formatted Verify owed is = absurd (subst IsVerifyStatus is owed.own)
  own_formatted (Rescuing reading) owed is = absurd (subst IsRescuedFileStatus is (rescues_so old new status reading owed))
  own_formatted (RescueInfo medium) owed is = absurd (subst IsRescueStatus is owed.ends)
  own_formatted Compare owed is = absurd (subst IsCompareStatus is (compare_ends old new status owed))

  -- 13
  pub own_place : (command : Asked) → (page command).owes old new hears w status → status ≡ Place → tells → IsOpenableWith old.media.disk.reads (λ x. 2 ^ 62 ≤ (opening_of x).next_place)
  own_place (Review rate) owed is told = absurd (subst IsReviewStatus is owed.own)
  own_place Check owed is told = absurd (subst IsCheckStatus is owed.own)
  own_place (Format again) owed is told = absurd (subst IsFormatStatus is owed.media.own)
  own_place Replay owed is told = (subst (λ (a : Result Replayed ReplayRefused). IfOpened a (IsOpenableWith old.media.disk.reads (λ x. Decides x old.input.left new.input.left a))) (at_place status old.output new.output owed.answer owed.told is) (owed.media.openable told))
  own_place (Read reading) owed is told = absurd (subst IsReadStatus is (reads_so old new status reading owed))
  own_place (Evidence asked) owed is told = absurd (subst IsPlayStatus is owed.own)
  own_place (Page asked words) owed is told = absurd (subst IsPlayStatus is owed.ends.own)
  own_place Incidents owed is told = absurd (subst IsListStatus is owed.own)
  own_place Info owed is told = absurd (subst IsListStatus is owed.own)
  own_place (Save label) owed is told = absurd (subst IsSaveStatus is owed.own)
  own_place (Release id) owed is told = absurd (subst IsReleaseStatus is owed.own)
  own_place (Trial seed count) owed is told = absurd (owed.media.other_media (subst IsOfOtherMedia (sym is) tt) told)
  own_place Import owed is told = absurd (subst IsCaptureStatus is owed.own)
  own_place Packets owed is told = absurd (subst IsCaptureStatus is owed.own)
  own_place Verify owed is told = absurd (subst IsVerifyStatus is owed.own)
  own_place (Rescuing reading) owed is told = absurd (subst IsRescuedFileStatus is (rescues_so old new status reading owed))
  own_place (RescueInfo medium) owed is told = absurd (subst IsRescueStatus is owed.ends)
  own_place Compare owed is told = absurd (subst IsCompareStatus is (compare_ends old new status owed))

  pub own_tick : (command : Asked) → (page command).owes old new hears w status → status ≡ Tick → tells → IsOpenableWith old.media.disk.reads (λ x. ((opening_of x).next_place < 2 ^ 62) × (2 ^ 62 ≤ base_after (opening_of x).last))
  own_tick (Review rate) owed is told = absurd (subst IsReviewStatus is owed.own)
  own_tick Check owed is told = absurd (subst IsCheckStatus is owed.own)
  own_tick (Format again) owed is told = absurd (subst IsFormatStatus is owed.media.own)
  own_tick Replay owed is told = (subst (λ (a : Result Replayed ReplayRefused). IfOpened a (IsOpenableWith old.media.disk.reads (λ x. Decides x old.input.left new.input.left a))) (at_tick status old.output new.output owed.answer owed.told is) (owed.media.openable told))
  own_tick (Read reading) owed is told = absurd (subst IsReadStatus is (reads_so old new status reading owed))
  own_tick (Evidence asked) owed is told = absurd (subst IsPlayStatus is owed.own)
  own_tick (Page asked words) owed is told = absurd (subst IsPlayStatus is owed.ends.own)
  own_tick Incidents owed is told = absurd (subst IsListStatus is owed.own)
  own_tick Info owed is told = absurd (subst IsListStatus is owed.own)
  own_tick (Save label) owed is told = absurd (subst IsSaveStatus is owed.own)
  own_tick (Release id) owed is told = absurd (subst IsReleaseStatus is owed.own)
  own_tick (Trial seed count) owed is told = absurd (owed.media.other_media (subst IsOfOtherMedia (sym is) tt) told)
  own_tick Import owed is told = absurd (subst IsCaptureStatus is owed.own)
  own_tick Packets owed is told = absurd (subst IsCaptureStatus is owed.own)
  own_tick Verify owed is told = absurd (subst IsVerifyStatus is owed.own)
  own_tick (Rescuing reading) owed is told = absurd (subst IsRescuedFileStatus is (rescues_so old new status reading owed))
  own_tick (RescueInfo medium) owed is told = absurd (subst IsRescueStatus is owed.ends)
  own_tick Compare owed is told = absurd (subst IsCompareStatus is (compare_ends old new status owed))

  -- 16
  pub own_capture : (number : ℕ) (offset : ℕ) (command : Asked) → (page command).owes old new hears w status → status ≡ Capture number offset → IfKnown old.input.left (λ bytes. IsRefused longest_feed bytes number offset)
  own_capture number offset (Review rate) owed is = absurd (subst IsReviewStatus is owed.own)
  own_capture number offset Check owed is = absurd (subst IsCheckStatus is owed.own)
  own_capture number offset (Format again) owed is = absurd (subst IsFormatStatus is owed.media.own)
  own_capture number offset Replay owed is = absurd (subst IsReplayStatus is (replay_ends_so owed.answer status old.output new.output owed.told))
  own_capture number offset (Read reading) owed is = absurd (subst IsReadStatus is (reads_so old new status reading owed))
  own_capture number offset (Evidence asked) owed is = absurd (subst IsPlayStatus is owed.own)
  own_capture number offset (Page asked words) owed is = absurd (subst IsPlayStatus is owed.ends.own)
  own_capture number offset Incidents owed is = absurd (subst IsListStatus is owed.own)
  own_capture number offset Info owed is = absurd (subst IsListStatus is owed.own)
  own_capture number offset (Save label) owed is = absurd (subst IsSaveStatus is owed.own)
  own_capture number offset (Release id) owed is = absurd (subst IsReleaseStatus is owed.own)
  own_capture number offset (Trial seed count) owed is = absurd (subst IsTrialStatus is owed.media.own)
  own_capture number offset Import owed is = behind_refused old.input.left number offset (λ parts. Prints (imported parts) old.output new.output) (subst (λ (s : Status). IfCapture s (λ n at. IfRefusedBehind old.input.left n at (λ parts. Prints (imported parts) old.output new.output))) is owed.refused)
  own_capture number offset Packets owed is = subst (λ (s : Status). IfCapture s (λ n at. IfKnown old.input.left (λ bytes. IsRefused longest_feed bytes n at))) is owed.refused
  own_capture number offset Verify owed is = absurd (subst IsVerifyStatus is owed.own)
  own_capture number offset (Rescuing reading) owed is = absurd (subst IsRescuedFileStatus is (rescues_so old new status reading owed))
  own_capture number offset (RescueInfo medium) owed is = absurd (subst IsRescueStatus is owed.ends)
  own_capture number offset Compare owed is = absurd (subst IsCompareStatus is (compare_ends old new status owed))

  pub own_evidence : (named : EvidencePart) (offset : ℕ) (command : Asked) → (page command).owes old new hears w status → status ≡ NoEvidence named offset → IfKnown old.input.left (λ bytes. StopsTold bytes named offset)
  own_evidence named offset (Review rate) owed is = absurd (subst IsReviewStatus is owed.own)
  own_evidence named offset Check owed is = absurd (subst IsCheckStatus is owed.own)
  own_evidence named offset (Format again) owed is = absurd (subst IsFormatStatus is owed.media.own)
  own_evidence named offset Replay owed is = absurd (subst IsReplayStatus is (replay_ends_so owed.answer status old.output new.output owed.told))
  own_evidence named offset (Read reading) owed is = absurd (subst IsReadStatus is (reads_so old new status reading owed))
  own_evidence named offset (Evidence asked) owed is = absurd (subst IsPlayStatus is owed.own)
  own_evidence named offset (Page asked words) owed is = absurd (subst IsPlayStatus is owed.ends.own)
  own_evidence named offset Incidents owed is = absurd (subst IsListStatus is owed.own)
  own_evidence named offset Info owed is = absurd (subst IsListStatus is owed.own)
  own_evidence named offset (Save label) owed is = absurd (subst IsSaveStatus is owed.own)
  own_evidence named offset (Release id) owed is = absurd (subst IsReleaseStatus is owed.own)
  own_evidence named offset (Trial seed count) owed is = absurd (subst IsTrialStatus is owed.media.own)
  own_evidence named offset Import owed is = absurd (subst IsCaptureStatus is owed.own)
  own_evidence named offset Packets owed is = absurd (subst IsCaptureStatus is owed.own)
  own_evidence named offset Verify owed is = subst (λ (s : Status). IfNoEvidence s (λ part at. IfKnown old.input.left (λ bytes. StopsTold bytes part at))) is owed.refused
  own_evidence named offset (Rescuing reading) owed is = absurd (subst IsRescuedFileStatus is (rescues_so old new status reading owed))
  own_evidence named offset (RescueInfo medium) owed is = absurd (subst IsRescueStatus is owed.ends)
  own_evidence named offset Compare owed is = absurd (subst IsCompareStatus is (compare_ends old new status owed))
