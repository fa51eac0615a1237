-- What each command can answer, and that a failure is told only where a count rose.
use Rattle.std.proofs.Common.{◌≡◌, Result, Ok, Err, sym, subst}
use Rattle.vdr_compare.specs.declared.comparing.CompareRefused.TheVariants as compares
use Rattle.vdr_compare.specs.declared.difference.Verdict.{Verdict}
use Rattle.vdr_compare.specs.declared.difference.Verdict.TheVariants as verdict
use Rattle.vdr_compare.specs.declared.media.MediaRefused.{MediaRefused}
use Rattle.vdr_compare.specs.declared.media.MediaRefused.TheVariants.{Opening, Comparing}
use Rattle.vdr_outside.specs.declared.fault.PartRefused.TheVariants as parts
use Rattle.vdr_recorder.specs.Watched.{Watched}
use Rattle.vdr_command.specs.Outside.{InputFailed, MediaFailed, OutputFailed, Outside}
use Rattle.vdr_command.specs.declared.status.Status.{Status}
use Rattle.vdr_command.specs.declared.status.Status.TheVariants.{MediaFault, InputFault, OutputFault}
use Rattle.vdr_readout.specs.Compares.{ComparesBoth, status_of_comparison}
use Rattle.vdr_readout.specs.Incidents.{IsListStatus}
use Rattle.vdr_readout.specs.Plays.{IsPlayStatus}
use Rattle.vdr_readout.specs.Readings.{OwesReading, Reading, RescuesReading}
use Rattle.vdr_readout.specs.Readings.Reading.{Play, Values, Track, Sources, Watch, Runs, Digest, Targets, Wav, TimedWav, Picture, Pictures}
use Rattle.vdr_readout.specs.RescuedFiles.{IsRescuedFileStatus}
use Rattle.vdr_readout.specs.Rescues.{IsRescueStatus}
use Rattle.vdr_readout.proofs.ReadingLemmas.{file_output, reading_plays, rescue_output}
use Rattle.vdr_tool.specs.Captures.{IsCaptureStatus}
use Rattle.vdr_tool.specs.Checks.{IsCheckStatus}
use Rattle.vdr_tool.specs.Commands.{Asked}
use Rattle.vdr_tool.specs.Commands.Asked.{Review, Check, Format, Replay, Read, Evidence, Page, Incidents, Info, Save, Release, Trial, Import, Packets, Verify, Rescue as Rescuing, RescueInfo, Compare}
use Rattle.vdr_tool.specs.Formats.{IsFormatStatus}
use Rattle.vdr_tool.specs.Possible.{CanAnswer, IsCompareStatus}
use Rattle.vdr_tool.specs.Releases.{IsReleaseStatus}
use Rattle.vdr_tool.specs.Reviews.{IsReviewStatus}
use Rattle.vdr_tool.specs.Runs.{page}
use Rattle.vdr_tool.specs.Saves.{IsSaveStatus}
use Rattle.vdr_tool.specs.Trials.{IsTrialStatus}
use Rattle.vdr_tool.specs.Verifying.{IsVerifyStatus}
use Rattle.vdr_tool.proofs.AnswerStatuses.{IsReadStatus, can_read, can_rescue, reads_so, rescues_so}
use Rattle.vdr_tool.proofs.ReplayStatuses.{replay_ends_so}
use Rattle.vdr_tool.proofs.ReplayLemmas.{replay_fault}

compared : (ended : Result Verdict MediaRefused) → IsCompareStatus (status_of_comparison ended)
compared (Ok verdict.Same) = tt
compared (Ok verdict.Configuration) = tt
compared (Ok (verdict.Damaged m offset)) = tt
compared (Ok (verdict.Differs place)) = tt
compared (Ok (verdict.Lacks place)) = tt
compared (Err (Opening parts.NoMemory)) = tt
compared (Err (Opening (parts.Damaged m offset))) = tt
compared (Err (Opening parts.Fault)) = tt
compared (Err (Comparing compares.Fault)) = tt
compared (Err (Comparing compares.Output)) = tt

module _ {tells tells_images : Type 0} (old new : Outside tells tells_images) (status : Status) where
  pub compare_ends : ComparesBoth old new status → IsCompareStatus status
  compare_ends owed = subst IsCompareStatus (sym owed.status_is) (compared owed.ended)

  -- The output failed, whatever was read.
  read_output : (reading : Reading) → OwesReading reading old new status → status ≡ OutputFault → OutputFailed old.output new.output
  read_output (Play asked) owed is = owed.output is
  read_output (Values asked) owed is = owed.output is
  read_output (Track asked source) owed is = owed.output is
  read_output (Sources medium) owed is = owed.output is
  read_output (Watch medium) owed is = owed.output is
  read_output (Runs medium) owed is = owed.output is
  read_output (Digest medium) owed is = owed.output is
  read_output (Targets medium at) owed is = owed.output is
  read_output (Wav asked) owed is = owed.ends.output is
  read_output (TimedWav asked) owed is = owed.ends.output is
  read_output (Picture asked block) owed is = owed.ends.output is
  read_output (Pictures asked) owed is = owed.ends.output is

  rescue_failed : (reading : Reading) → RescuesReading reading old new status → status ≡ OutputFault → OutputFailed old.output new.output
  rescue_failed (Play asked) owed is = rescue_output old new status _ _ _ owed is
  rescue_failed (Values asked) owed is = rescue_output old new status _ _ _ owed is
  rescue_failed (Track asked source) owed is = rescue_output old new status _ _ _ owed is
  rescue_failed (Sources medium) owed is = rescue_output old new status _ _ _ owed is
  rescue_failed (Watch medium) owed is = rescue_output old new status _ _ _ owed is
  rescue_failed (Runs medium) owed is = rescue_output old new status _ _ _ owed is
  rescue_failed (Digest medium) owed is = rescue_output old new status _ _ _ owed is
  rescue_failed (Targets medium at) owed is = rescue_output old new status _ _ _ owed is
  rescue_failed (Wav asked) owed is = file_output old new status _ _ owed is
  rescue_failed (TimedWav asked) owed is = file_output old new status _ _ owed is
  rescue_failed (Picture asked block) owed is = file_output old new status _ _ owed is
  rescue_failed (Pictures asked) owed is = file_output old new status _ _ owed is

  -- And the media.
  rescue_fault : (reading : Reading) → RescuesReading reading old new status → status ≡ MediaFault → MediaFailed old.media new.media
  rescue_fault (Play asked) owed is = owed.media.fault is
  rescue_fault (Values asked) owed is = owed.media.fault is
  rescue_fault (Track asked source) owed is = owed.media.fault is
  rescue_fault (Sources medium) owed is = owed.media.fault is
  rescue_fault (Watch medium) owed is = owed.media.fault is
  rescue_fault (Runs medium) owed is = owed.media.fault is
  rescue_fault (Digest medium) owed is = owed.media.fault is
  rescue_fault (Targets medium at) owed is = owed.media.fault is
  rescue_fault (Wav asked) owed is = owed.media.fault is
  rescue_fault (TimedWav asked) owed is = owed.media.fault is
  rescue_fault (Picture asked block) owed is = owed.media.fault is
  rescue_fault (Pictures asked) owed is = owed.media.fault is

module _ {tells tells_images : Type 0} (old new : Outside tells tells_images) (hears : Type 0) (w : Watched) (status : Status) where
  -- The command can answer so.
  pub can_answer : (command : Asked) → (page command).owes old new hears w status → CanAnswer command status
  can_answer (Review rate) owed = owed.own
  can_answer Check owed = owed.own
  can_answer (Format again) owed = owed.media.own
  can_answer Replay owed = replay_ends_so owed.answer status old.output new.output owed.told
  can_answer (Read reading) owed = can_read old new status reading owed
  can_answer (Evidence asked) owed = owed.own
  can_answer (Page asked words) owed = owed.ends.own
  can_answer Incidents owed = owed.own
  can_answer Info owed = owed.own
  can_answer (Save label) owed = owed.own
  can_answer (Release id) owed = owed.own
  can_answer (Trial seed count) owed = owed.media.own
  can_answer Import owed = owed.own
  can_answer Packets owed = owed.own
  can_answer Verify owed = owed.own
  can_answer (Rescuing reading) owed = can_rescue old new status reading owed
  can_answer (RescueInfo medium) owed = owed.ends
  can_answer Compare owed = compare_ends old new status owed

  -- 5, 7 and 8: a count rose.
  pub own_media : (command : Asked) → (page command).owes old new hears w status → status ≡ MediaFault → MediaFailed old.media new.media
  own_media (Review rate) owed is = absurd (subst IsReviewStatus is owed.own)
  own_media Check owed is = absurd (subst IsCheckStatus is owed.own)
  own_media (Format again) owed is = owed.media.fault is
  own_media Replay owed is = replay_fault old.input.left new.input.left old.media new.media hears w old.output new.output status owed.answer owed.told owed.media is
  own_media (Read reading) owed is = (reading_plays old new status reading owed).media.fault is
  own_media (Evidence asked) owed is = owed.media.media.fault is
  own_media (Page asked words) owed is = owed.ends.media.media.fault is
  own_media Incidents owed is = owed.media.fault is
  own_media Info owed is = owed.fault is
  own_media (Save label) owed is = owed.media.fault is
  own_media (Release id) owed is = owed.media.fault is
  own_media (Trial seed count) owed is = owed.media.fault is
  own_media Import owed is = absurd (subst IsCaptureStatus is owed.own)
  own_media Packets owed is = absurd (subst IsCaptureStatus is owed.own)
  own_media Verify owed is = absurd (subst IsVerifyStatus is owed.own)
  own_media (Rescuing reading) owed is = rescue_fault old new status reading owed is
  own_media (RescueInfo medium) owed is = owed.media.fault is
  own_media Compare owed is = owed.fault is

  pub own_input : (command : Asked) → (page command).owes old new hears w status → status ≡ InputFault → InputFailed old.input new.input
  own_input (Review rate) owed is = owed.input is
  own_input Check owed is = owed.input is
  own_input (Format again) owed is = owed.input is
  own_input Replay owed is = owed.input is
  own_input (Read reading) owed is = absurd (subst IsReadStatus is (reads_so old new status reading owed))
  own_input (Evidence asked) owed is = absurd (subst IsPlayStatus is owed.own)
  own_input (Page asked words) owed is = absurd (subst IsPlayStatus is owed.ends.own)
  own_input Incidents owed is = absurd (subst IsListStatus is owed.own)
  own_input Info owed is = absurd (subst IsListStatus is owed.own)
  own_input (Save label) owed is = absurd (subst IsSaveStatus is owed.own)
  own_input (Release id) owed is = absurd (subst IsReleaseStatus is owed.own)
  own_input (Trial seed count) owed is = absurd (subst IsTrialStatus is owed.media.own)
  own_input Import owed is = (owed.input is).0
  own_input Packets owed is = owed.input is
  own_input Verify owed is = owed.input is
  own_input (Rescuing reading) owed is = absurd (subst IsRescuedFileStatus is (rescues_so old new status reading owed))
  own_input (RescueInfo medium) owed is = absurd (subst IsRescueStatus is owed.ends)
  own_input Compare owed is = absurd (subst IsCompareStatus is (compare_ends old new status owed))

  pub own_output : (command : Asked) → (page command).owes old new hears w status → status ≡ OutputFault → OutputFailed old.output new.output
  own_output (Review rate) owed is = (owed.output is).0
  own_output Check owed is = (owed.output is).0
  own_output (Format again) owed is = absurd (subst IsFormatStatus is owed.media.own)
  own_output Replay owed is = owed.output is
  own_output (Read reading) owed is = read_output old new status reading owed is
  own_output (Evidence asked) owed is = owed.output is
  own_output (Page asked words) owed is = owed.ends.output is
  own_output Incidents owed is = owed.output is
  own_output Info owed is = owed.output is
  own_output (Save label) owed is = owed.output is
  own_output (Release id) owed is = absurd (subst IsReleaseStatus is owed.own)
  own_output (Trial seed count) owed is = owed.output is
  own_output Import owed is = (owed.output is).0
  own_output Packets owed is = (owed.output is).0
  own_output Verify owed is = (owed.output is).0
  own_output (Rescuing reading) owed is = rescue_failed old new status reading owed is
  own_output (RescueInfo medium) owed is = owed.output is
  own_output Compare owed is = owed.output is
