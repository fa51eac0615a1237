-- That each refusal of a command's own kind comes only in its case.
use Rattle.std.proofs.Common.{◌≡◌, ◌∙◌, ℕ, Some, None, Err, sym, subst}
use Rattle.vdr_config.specs.declared.media.TooSmall.{TooSmall}
use Rattle.vdr_core.specs.Histories.{live}
use Rattle.vdr_feed.specs.Feed.{IsRefused as IsFeedRefused, longest_feed}
use Rattle.vdr_feed.specs.Reader.{IfKnown}
use Rattle.vdr_media.specs.Answers.{KnownUnformatted, room}
use Rattle.vdr_opening.specs.Media.{Contents}
use Rattle.vdr_recorder.specs.Watched.{Watched}
use Rattle.vdr_replay.specs.Answers.{RefusesMedia}
use Rattle.vdr_command.specs.Opened.{IfDamaged, IfNoIncident, IsOpenableWith, MetUnsound}
use Rattle.vdr_command.specs.Outside.{Outside}
use Rattle.vdr_command.specs.StatusLine.{IfFeed, IfSmall}
use Rattle.vdr_command.specs.declared.status.SaveCause.{SaveCause}
use Rattle.vdr_command.specs.declared.status.Status.{Status}
use Rattle.vdr_command.specs.declared.status.Status.TheVariants.{Small, Damaged, Feed, NoChannel, NoIncident, SaveRefused, Missing}
use Rattle.vdr_readout.specs.Incidents.{IsListStatus}
use Rattle.vdr_readout.specs.Plays.{IsPlayStatus}
use Rattle.vdr_readout.specs.Readings.{asked_in}
use Rattle.vdr_readout.specs.Reads.{CanPlay, MetUnreadable}
use Rattle.vdr_readout.specs.RescuedFiles.{IsRescuedFileStatus}
use Rattle.vdr_readout.specs.Rescues.{IsRescueStatus}
use Rattle.vdr_readout.proofs.ReadingLemmas.{reading_plays}
use Rattle.vdr_tool.specs.Captures.{IsCaptureStatus}
use Rattle.vdr_tool.specs.Checks.{IsCheckStatus}
use Rattle.vdr_tool.specs.Commands.{Asked}
use Rattle.vdr_tool.specs.Commands.Asked.{Review, Check, Format, Replay, Read, Evidence, Page, Incidents, Info, Save, Release, Trial, Import, Packets, Verify, Rescue as Rescuing, RescueInfo, Compare}
use Rattle.vdr_tool.specs.Formats.{IfConfiguration, IsFormatStatus, MayFormat}
use Rattle.vdr_tool.specs.Own.{NamesNoIncident, OwnCause, OwnChannel, OwnDamaged, OwnFeed, OwnIncident, OwnMissing, OwnSmall}
use Rattle.vdr_tool.specs.Possible.{IsCompareStatus, IsReplayStatus}
use Rattle.vdr_tool.specs.Releases.{IsReleaseStatus}
use Rattle.vdr_tool.specs.Reviews.{IsReviewStatus}
use Rattle.vdr_tool.specs.Runs.{page}
use Rattle.vdr_tool.specs.Saves.{CanSave, IfSaveRefused, IsJudged, IsSaveStatus}
use Rattle.vdr_tool.specs.Trials.{IsOfOtherMedia, IsTrialStatus, bench}
use Rattle.vdr_tool.specs.Verifying.{IsVerifyStatus}
use Rattle.vdr_tool.proofs.AnswerStatuses.{IsReadStatus, reads_so, rescues_so}
use Rattle.vdr_tool.proofs.AnswerFailures.{compare_ends}
use Rattle.vdr_tool.proofs.ReplayStatuses.{at_damaged, replay_ends_so}
use Rattle.vdr_media.specs.Formatted.{IsFormatted}
use Rattle.vdr_opening.specs.Refusals.{IsRefused as IsOpeningRefused}
use Rattle.vdr_tool.proofs.AnswerParts.{damaged_of, feed_refused, reading_channel, reading_damaged, reading_incident, reading_missing, refused_of, rescue_channel, rescue_damaged, rescue_incident, rescue_missing}

module _ {tells tells_images : Type 0} (old new : Outside tells tells_images) (hears : Type 0) (w : Watched) (status : Status) where
  -- 3
  pub own_small : (small : TooSmall) (command : Asked) → (page command).owes old new hears w status → status ≡ Small small → OwnSmall old command small
  own_small small (Review rate) owed is = absurd (subst IsReviewStatus is owed.own)
  own_small small Check owed is = absurd (subst IsCheckStatus is owed.own)
  own_small small (Format again) owed is = subst (λ (s : Status). IfSmall s (λ (t : TooSmall). IfConfiguration old.input.left (λ c bytes. room c old.media.disk.sizes ≡ Err t) × MayFormat again old.media.disk)) is owed.media.small
  own_small small Replay owed is = absurd (subst IsReplayStatus is (replay_ends_so owed.answer status old.output new.output owed.told))
  own_small small (Read reading) owed is = absurd (subst IsReadStatus is (reads_so old new status reading owed))
  own_small small (Evidence asked) owed is = absurd (subst IsPlayStatus is owed.own)
  own_small small (Page asked words) owed is = absurd (subst IsPlayStatus is owed.ends.own)
  own_small small Incidents owed is = absurd (subst IsListStatus is owed.own)
  own_small small Info owed is = absurd (subst IsListStatus is owed.own)
  own_small small (Save label) owed is = absurd (subst IsSaveStatus is owed.own)
  own_small small (Release id) owed is = absurd (subst IsReleaseStatus is owed.own)
  own_small small (Trial seed count) owed is = subst (λ (s : Status). IfSmall s (λ (t : TooSmall). (room bench old.media.disk.sizes ≡ Err t) × KnownUnformatted old.media.disk)) is owed.media.small
  own_small small Import owed is = absurd (subst IsCaptureStatus is owed.own)
  own_small small Packets owed is = absurd (subst IsCaptureStatus is owed.own)
  own_small small Verify owed is = absurd (subst IsVerifyStatus is owed.own)
  own_small small (Rescuing reading) owed is = absurd (subst IsRescuedFileStatus is (rescues_so old new status reading owed))
  own_small small (RescueInfo medium) owed is = absurd (subst IsRescueStatus is owed.ends)
  own_small small Compare owed is = absurd (subst IsCompareStatus is (compare_ends old new status owed))

  -- 4
  pub own_damaged : (m : ℕ) (offset : ℕ) (command : Asked) → (page command).owes old new hears w status → status ≡ Damaged m offset → OwnDamaged old command new.media.disk m offset
  own_damaged m offset (Review rate) owed is = absurd (subst IsReviewStatus is owed.own)
  own_damaged m offset Check owed is = absurd (subst IsCheckStatus is owed.own)
  own_damaged m offset (Format again) owed is = absurd (subst IsFormatStatus is owed.media.own)
  own_damaged m offset Replay owed is = let at = at_damaged status old.output new.output m offset owed.answer owed.told is in
      (owed.media.untouched (subst RefusesMedia (sym at) tt), λ told. owed.media.damaged m offset at told)
  own_damaged m offset (Read reading) owed is = damaged_of old new status (λ (x : Contents). CanPlay x (asked_in reading).medium (asked_in reading).channel) (MetUnreadable (asked_in reading) old.media.disk new.media.disk (λ (x : Contents). CanPlay x (asked_in reading).medium (asked_in reading).channel)) _ (reading_plays old new status reading owed).media m offset is
  own_damaged m offset (Evidence asked) owed is = damaged_of old new status (λ (x : Contents). CanPlay x asked.medium asked.channel) (MetUnreadable asked old.media.disk new.media.disk (λ (x : Contents). CanPlay x asked.medium asked.channel)) _ owed.media.media m offset is
  own_damaged m offset (Page asked words) owed is = damaged_of old new status (λ (x : Contents). CanPlay x asked.medium asked.channel) (MetUnreadable asked old.media.disk new.media.disk (λ (x : Contents). CanPlay x asked.medium asked.channel)) _ owed.ends.media.media m offset is
  own_damaged m offset Incidents owed is = refused_of old new status _ _ owed.media m offset is
  own_damaged m offset Info owed is = (owed.untouched, subst (λ (s : Status). IfDamaged s (λ k at. tells → IsFormatted old.media.disk.reads × IsOpeningRefused old.media.disk.reads k at)) is owed.damaged)
  own_damaged m offset (Save label) owed is = damaged_of old new status (CanSave label) (MetUnsound old.media.disk new.media.disk (CanSave label)) _ owed.media m offset is
  own_damaged m offset (Release id) owed is = refused_of old new status _ _ owed.media m offset is
  own_damaged m offset (Trial seed count) owed is = λ told. owed.media.other_media (subst IsOfOtherMedia (sym is) tt) told
  own_damaged m offset Import owed is = absurd (subst IsCaptureStatus is owed.own)
  own_damaged m offset Packets owed is = absurd (subst IsCaptureStatus is owed.own)
  own_damaged m offset Verify owed is = absurd (subst IsVerifyStatus is owed.own)
  own_damaged m offset (Rescuing reading) owed is = reading_damaged old new status reading owed m offset is
  own_damaged m offset (RescueInfo medium) owed is = λ told first is_told. rescue_damaged old new status _ _ _ (owed.told told first is_told) m offset is
  own_damaged m offset Compare owed is = (owed.ended, sym is ∙ owed.status_is, λ told. (new.output.taken, owed.shown told))

  pub own_missing : (place : ℕ) (command : Asked) → (page command).owes old new hears w status → status ≡ Missing place → OwnMissing old command place
  own_missing place (Review rate) owed is = absurd (subst IsReviewStatus is owed.own)
  own_missing place Check owed is = absurd (subst IsCheckStatus is owed.own)
  own_missing place (Format again) owed is = absurd (subst IsFormatStatus is owed.media.own)
  own_missing place Replay owed is = absurd (subst IsReplayStatus is (replay_ends_so owed.answer status old.output new.output owed.told))
  own_missing place (Read reading) owed is = absurd (subst IsReadStatus is (reads_so old new status reading owed))
  own_missing place (Evidence asked) owed is = absurd (subst IsPlayStatus is owed.own)
  own_missing place (Page asked words) owed is = absurd (subst IsPlayStatus is owed.ends.own)
  own_missing place Incidents owed is = absurd (subst IsListStatus is owed.own)
  own_missing place Info owed is = absurd (subst IsListStatus is owed.own)
  own_missing place (Save label) owed is = absurd (subst IsSaveStatus is owed.own)
  own_missing place (Release id) owed is = absurd (subst IsReleaseStatus is owed.own)
  own_missing place (Trial seed count) owed is = absurd (subst IsTrialStatus is owed.media.own)
  own_missing place Import owed is = absurd (subst IsCaptureStatus is owed.own)
  own_missing place Packets owed is = absurd (subst IsCaptureStatus is owed.own)
  own_missing place Verify owed is = absurd (subst IsVerifyStatus is owed.own)
  own_missing place (Rescuing reading) owed is = reading_missing old new status reading owed place is
  own_missing place (RescueInfo medium) owed is = λ told first is_told. rescue_missing old new status _ _ _ (owed.told told first is_told) place is
  own_missing place Compare owed is = (owed.ended, sym is ∙ owed.status_is, λ told. (new.output.taken, owed.shown told))

  -- 10
  pub own_feed : (number : ℕ) (offset : ℕ) (command : Asked) → (page command).owes old new hears w status → status ≡ Feed number offset → OwnFeed old command number offset
  own_feed number offset (Review rate) owed is = subst (λ (s : Status). IfFeed s (λ n at. IfKnown old.input.left (λ bytes. IsFeedRefused longest_feed bytes n at))) is owed.feed
  own_feed number offset Check owed is = absurd (subst IsCheckStatus is owed.own)
  own_feed number offset (Format again) owed is = absurd (subst IsFormatStatus is owed.media.own)
  own_feed number offset Replay owed is = feed_refused old.input.left new.input.left old.media.disk.reads tells owed.answer status old.output new.output number offset owed.told owed.media.header owed.media.openable is
  own_feed number offset (Read reading) owed is = absurd (subst IsReadStatus is (reads_so old new status reading owed))
  own_feed number offset (Evidence asked) owed is = absurd (subst IsPlayStatus is owed.own)
  own_feed number offset (Page asked words) owed is = absurd (subst IsPlayStatus is owed.ends.own)
  own_feed number offset Incidents owed is = absurd (subst IsListStatus is owed.own)
  own_feed number offset Info owed is = absurd (subst IsListStatus is owed.own)
  own_feed number offset (Save label) owed is = absurd (subst IsSaveStatus is owed.own)
  own_feed number offset (Release id) owed is = absurd (subst IsReleaseStatus is owed.own)
  own_feed number offset (Trial seed count) owed is = λ told. owed.media.other_media (subst IsOfOtherMedia (sym is) tt) told
  own_feed number offset Import owed is = absurd (subst IsCaptureStatus is owed.own)
  own_feed number offset Packets owed is = absurd (subst IsCaptureStatus is owed.own)
  own_feed number offset Verify owed is = absurd (subst IsVerifyStatus is owed.own)
  own_feed number offset (Rescuing reading) owed is = absurd (subst IsRescuedFileStatus is (rescues_so old new status reading owed))
  own_feed number offset (RescueInfo medium) owed is = absurd (subst IsRescueStatus is owed.ends)
  own_feed number offset Compare owed is = absurd (subst IsCompareStatus is (compare_ends old new status owed))

  -- 11
  pub own_channel : (command : Asked) → (page command).owes old new hears w status → status ≡ NoChannel → OwnChannel old command
  own_channel (Review rate) owed is = absurd (subst IsReviewStatus is owed.own)
  own_channel Check owed is = absurd (subst IsCheckStatus is owed.own)
  own_channel (Format again) owed is = absurd (subst IsFormatStatus is owed.media.own)
  own_channel Replay owed is = absurd (subst IsReplayStatus is (replay_ends_so owed.answer status old.output new.output owed.told))
  own_channel (Read reading) owed is = (reading_plays old new status reading owed).no_channel is
  own_channel (Evidence asked) owed is = owed.media.no_channel is
  own_channel (Page asked words) owed is = owed.ends.media.no_channel is
  own_channel Incidents owed is = absurd (subst IsListStatus is owed.own)
  own_channel Info owed is = absurd (subst IsListStatus is owed.own)
  own_channel (Save label) owed is = absurd (subst IsSaveStatus is owed.own)
  own_channel (Release id) owed is = absurd (subst IsReleaseStatus is owed.own)
  own_channel (Trial seed count) owed is = absurd (subst IsTrialStatus is owed.media.own)
  own_channel Import owed is = absurd (subst IsCaptureStatus is owed.own)
  own_channel Packets owed is = absurd (subst IsCaptureStatus is owed.own)
  own_channel Verify owed is = absurd (subst IsVerifyStatus is owed.own)
  own_channel (Rescuing reading) owed is = reading_channel old new status reading owed is
  own_channel (RescueInfo medium) owed is = λ told first is_told. rescue_channel old new status _ _ _ (owed.told told first is_told) is
  own_channel Compare owed is = absurd (subst IsCompareStatus is (compare_ends old new status owed))

  pub own_incident : (id : ℕ) (command : Asked) → (page command).owes old new hears w status → status ≡ NoIncident id → OwnIncident old command id
  own_incident id (Review rate) owed is = absurd (subst IsReviewStatus is owed.own)
  own_incident id Check owed is = absurd (subst IsCheckStatus is owed.own)
  own_incident id (Format again) owed is = absurd (subst IsFormatStatus is owed.media.own)
  own_incident id Replay owed is = absurd (subst IsReplayStatus is (replay_ends_so owed.answer status old.output new.output owed.told))
  own_incident id (Read reading) owed is = subst (λ (s : Status). IfNoIncident s (λ k. NamesNoIncident old (asked_in reading) k)) is (reading_plays old new status reading owed).no_incident
  own_incident id (Evidence asked) owed is = subst (λ (s : Status). IfNoIncident s (λ k. NamesNoIncident old asked k)) is owed.media.no_incident
  own_incident id (Page asked words) owed is = subst (λ (s : Status). IfNoIncident s (λ k. NamesNoIncident old asked k)) is owed.ends.media.no_incident
  own_incident id Incidents owed is = absurd (subst IsListStatus is owed.own)
  own_incident id Info owed is = absurd (subst IsListStatus is owed.own)
  own_incident id (Save label) owed is = absurd (subst IsSaveStatus is owed.own)
  own_incident id (Release given) owed is = subst (λ (s : Status). IfNoIncident s (λ k. (k ≡ given) × (tells → IsOpenableWith old.media.disk.reads (λ x. live x.table given ≡ None)))) is owed.no_incident
  own_incident id (Trial seed count) owed is = absurd (subst IsTrialStatus is owed.media.own)
  own_incident id Import owed is = absurd (subst IsCaptureStatus is owed.own)
  own_incident id Packets owed is = absurd (subst IsCaptureStatus is owed.own)
  own_incident id Verify owed is = absurd (subst IsVerifyStatus is owed.own)
  own_incident id (Rescuing reading) owed is = reading_incident old new status reading owed id is
  own_incident id (RescueInfo medium) owed is = λ told first is_told. rescue_incident old new status _ _ _ (owed.told told first is_told) id is
  own_incident id Compare owed is = absurd (subst IsCompareStatus is (compare_ends old new status owed))

  -- 12
  pub own_cause : (cause : SaveCause) (command : Asked) → (page command).owes old new hears w status → status ≡ SaveRefused cause → OwnCause old command cause
  own_cause cause (Review rate) owed is = absurd (subst IsReviewStatus is owed.own)
  own_cause cause Check owed is = absurd (subst IsCheckStatus is owed.own)
  own_cause cause (Format again) owed is = absurd (subst IsFormatStatus is owed.media.own)
  own_cause cause Replay owed is = absurd (subst IsReplayStatus is (replay_ends_so owed.answer status old.output new.output owed.told))
  own_cause cause (Read reading) owed is = absurd (subst IsReadStatus is (reads_so old new status reading owed))
  own_cause cause (Evidence asked) owed is = absurd (subst IsPlayStatus is owed.own)
  own_cause cause (Page asked words) owed is = absurd (subst IsPlayStatus is owed.ends.own)
  own_cause cause Incidents owed is = absurd (subst IsListStatus is owed.own)
  own_cause cause Info owed is = absurd (subst IsListStatus is owed.own)
  own_cause cause (Save label) owed is = subst (λ (s : Status). IfSaveRefused s (λ c. tells → IsOpenableWith old.media.disk.reads (IsJudged label (Some c)))) is owed.refused
  own_cause cause (Release id) owed is = absurd (subst IsReleaseStatus is owed.own)
  own_cause cause (Trial seed count) owed is = absurd (subst IsTrialStatus is owed.media.own)
  own_cause cause Import owed is = absurd (subst IsCaptureStatus is owed.own)
  own_cause cause Packets owed is = absurd (subst IsCaptureStatus is owed.own)
  own_cause cause Verify owed is = absurd (subst IsVerifyStatus is owed.own)
  own_cause cause (Rescuing reading) owed is = absurd (subst IsRescuedFileStatus is (rescues_so old new status reading owed))
  own_cause cause (RescueInfo medium) owed is = absurd (subst IsRescueStatus is owed.ends)
  own_cause cause Compare owed is = absurd (subst IsCompareStatus is (compare_ends old new status owed))
