-- The life of the media goes on with each command that formats nothing.
use Rattle.std.specs.Bool.{⊤}
use Rattle.std.proofs.Common.{◌≡◌, ◌⊎◌, inl, inr, ℕ, List, [], Option, Result}
use Rattle.vdr_core.specs.Histories.{Event}
use Rattle.vdr_outside.specs.Disk.{Disk}
use Rattle.vdr_outside.proofs.Moments.{moments_none}
use Rattle.vdr_config.specs.Configuration.{Configuration}
use Rattle.vdr_opening.specs.Media.{Contents, HoldsContents}
use Rattle.vdr_vault.specs.Openings.{LeavesAll}
use Rattle.vdr_recorder.specs.Chains.{AllLive, LivesOn, Run}
use Rattle.vdr_recorder.proofs.Chains.{goes_further}
use Rattle.vdr_vault.proofs.Lives.{LifeHolds, life_holds}
use Rattle.vdr_recorder.specs.Headline.{ToldHeadline}
use Rattle.vdr_recorder.specs.Watched.{Watched, nothing_told}
use Rattle.vdr_recorder.proofs.GoingOn.{headline_goes_on}
use Rattle.vdr_replay.specs.Headline.{AccountsForFeed, LeavesHistory}
use Rattle.vdr_replay.specs.Headline.RunEnd.{Broken, NotStarted}
use Rattle.vdr_replay.specs.declared.ended.Replayed.{Replayed}
use Rattle.vdr_replay.specs.declared.ended.ReplayRefused.{ReplayRefused}
use Rattle.vdr_media.proofs.Unformatted.{unchanged_moments}
use Rattle.vdr_readout.proofs.ReadingLemmas.{reading_plays, rescue_unchanged}
use Rattle.vdr_tool.specs.Commands.{Asked}
use Rattle.vdr_tool.specs.Commands.Asked.{Review, Check, Format, Replay, Read, Evidence, Page, Incidents, Info, Save, Release, Trial, Import, Packets, Verify, Rescue, RescueInfo, Compare}
use Rattle.vdr_tool.specs.Lives.{FormatsNothing}
use Rattle.vdr_command.specs.Opened.{ContentsKept, IsUnopened, KeepsContents, MediaEnds}
use Rattle.vdr_command.specs.Outside.{MediaSeen, Outside}
use Rattle.vdr_tool.specs.Replays.{ReplayEnds}
use Rattle.vdr_tool.specs.Runs.{page}
use Rattle.vdr_command.specs.declared.status.Status.{Status}

module _ {tells tells_images : Type 0} (c : Configuration) (text : List ℕ) (runs : List Run) where
  -- What media hold that have such lives.
  pub holds_live : (old : Disk tells tells_images) → tells_images → AllLive c text runs old → LifeHolds c text old.reads
  holds_live old told live = let l = live old.reads (old.shown told).1 in life_holds c text l.all old.reads l.life

  -- One run over it.
  pub run_life : (old new : Disk tells tells_images) (x : Contents) (Told : List Event → Type 0) (may_pend hears : Type 0) (w : Watched) → HoldsContents old.reads x → tells_images → AllLive c text runs old
      → ToldHeadline x Told may_pend old new hears w → LivesOn c text runs old new
  run_life old new x Told may_pend hears w holds told live h = goes_further c text runs h.events old new told live (headline_goes_on x Told may_pend old new hears w holds h)

  -- Of media that were opened.
  pub media_life : {Can : Contents → Type 0} {Met : (m offset : ℕ) → Type 0} {MayBe : List Event → Type 0} (old new : MediaSeen tells tells_images) (status : Status) → MediaEnds Can Met MayBe old new status
      → tells_images → AllLive c text runs old.disk → LivesOn c text runs old.disk new.disk
  media_life {MayBe = MayBe} old new status h told live = by (h.kept l.contents (old.disk.shown told).0 l.holds l.meet l.sound)
    where
      l : LifeHolds c text old.disk.reads
      l = holds_live old.disk told live

      by : (IsUnopened status × LeavesAll old.disk new.disk) ⊎ KeepsContents l.contents MayBe status old.disk new.disk → LivesOn c text runs old.disk new.disk
      by (inl unopened) = inl unopened.1
      by (inr kept) = run_life old.disk new.disk l.contents (ContentsKept l.contents MayBe status new.disk) ⊤ ⊥ nothing_told l.holds told live kept

  -- Of a run of `replay`.
  replay_life : (input now : Option (List ℕ)) (old new : MediaSeen tells tells_images) (hears : Type 0) (w : Watched) (answer : Result Replayed ReplayRefused) → ReplayEnds input now old new hears w answer
      → tells_images → AllLive c text runs old.disk → LivesOn c text runs old.disk new.disk
  replay_life input now old new hears w answer h told live = by _ (h.left l.contents (old.disk.shown told).0 l.holds l.meet l.sound)
    where
      l : LifeHolds c text old.disk.reads
      l = holds_live old.disk told live

      by : (rose : Type 0) → LeavesHistory l.contents rose old.disk new.disk hears w → LivesOn c text runs old.disk new.disk
      by rose (inl (inl leaves)) = inl leaves
      by rose (inl (inr opened)) = run_life old.disk new.disk l.contents (AccountsForFeed l.contents new.disk [] NotStarted) ((NotStarted ≡ Broken) × rose) ⊥ nothing_told l.holds told live opened
      by rose (inr (feed, end, run)) = run_life old.disk new.disk l.contents (AccountsForFeed l.contents new.disk feed end) ((end ≡ Broken) × rose) hears w l.holds told live run

  -- Of each command.
  pub life_of : (command : Asked) (old new : Outside tells tells_images) (hears : Type 0) (w : Watched) (status : Status) → (page command).owes old new hears w status → (page command).uses_media → FormatsNothing command
      → tells_images → AllLive c text runs old.media.disk → LivesOn c text runs old.media.disk new.media.disk
  life_of (Review rate) old new hears w status owed uses none told live = absurd uses
  life_of Check old new hears w status owed uses none told live = absurd uses
  life_of Import old new hears w status owed uses none told live = absurd uses
  life_of Packets old new hears w status owed uses none told live = absurd uses
  life_of Verify old new hears w status owed uses none told live = absurd uses
  life_of (Rescue reading) old new hears w status owed uses none told live = inl (unchanged_moments old.media.disk new.media.disk (rescue_unchanged old new status reading owed))
  life_of (Format again) old new hears w status owed uses none told live = absurd none
  life_of Replay old new hears w status owed uses none told live = replay_life old.input.left new.input.left old.media new.media hears w owed.answer owed.media told live
  life_of (Read reading) old new hears w status owed uses none told live = media_life old.media new.media status (reading_plays old new status reading owed).media told live
  life_of (Evidence asked) old new hears w status owed uses none told live = media_life old.media new.media status owed.media.media told live
  life_of (Page asked words) old new hears w status owed uses none told live = media_life old.media new.media status owed.ends.media.media told live
  life_of Info old new hears w status owed uses none told live = inl owed.untouched.leaves
  life_of (RescueInfo medium) old new hears w status owed uses none told live = inl (unchanged_moments old.media.disk new.media.disk owed.media.unchanged)
  life_of Compare old new hears w status owed uses none told live = inl (unchanged_moments old.media.disk new.media.disk owed.unchanged)
  life_of Incidents old new hears w status owed uses none told live = media_life old.media new.media status owed.media told live
  life_of (Save label) old new hears w status owed uses none told live = media_life old.media new.media status owed.media told live
  life_of (Trial seed count) old new hears w status owed uses none told live = absurd none
  life_of (Release id) old new hears w status owed uses none told live = media_life old.media new.media status owed.media told live

  -- Of media that no call was made on.
  pub life_still : (disk : Disk tells tells_images) → LivesOn c text runs disk disk
  life_still disk = inl (moments_none disk (λ i. disk.now i) (λ i now. now))
