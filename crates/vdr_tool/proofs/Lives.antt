-- Media of this product stay so over each command.
use Rattle.std.specs.Bool.{⊤}
use Rattle.std.proofs.Common.{◌≡◌, ◌≤◌, ◌⊎◌, inl, inr, ⊎_elim, ℕ, Bool, List, [], Option, Result, Err, sym, ap, subst, arith}
use Rattle.vdr_core.specs.Histories.{Event}
use Rattle.vdr_durability.specs.Keeping.{ShowsPrefix}
use Rattle.vdr_outside.specs.Disk.{Disk, Image, Unchanged}
use Rattle.vdr_durability.specs.Readings.{EndsMeet}
use Rattle.vdr_opening.specs.Media.{Contents, members_with, opening_of, reading_of}
use Rattle.vdr_vault.specs.Openings.{LeavesAll}
use Rattle.vdr_recorder.specs.Headline.{PlaysBack, ToldHeadline}
use Rattle.vdr_recorder.specs.Watched.{Watched, nothing_told}
use Rattle.vdr_replay.specs.Headline.{AccountsForFeed, LeavesHistory, RunEnd}
use Rattle.vdr_replay.specs.Headline.RunEnd.{Broken, NotStarted}
use Rattle.vdr_replay.specs.declared.ended.Replayed.{Replayed}
use Rattle.vdr_replay.specs.declared.ended.ReplayRefused.{ReplayRefused}
use Rattle.vdr_vault.specs.Ours.{AreOurs, IsOurs, StayOurs}
use Rattle.vdr_vault.proofs.Ours.{ours_formatted, ours_opened, ours_unchanged}
use Rattle.vdr_readout.proofs.ReadingLemmas.{reading_plays, rescue_unchanged}
use Rattle.vdr_tool.specs.Commands.{Asked}
use Rattle.vdr_tool.specs.Commands.Asked.{Review, Check, Format, Replay, Read, Evidence, Page, Incidents, Info, Save, Release, Trial, Import, Packets, Verify, Rescue, RescueInfo, Compare}
use Rattle.vdr_tool.specs.Formats.{FormatEnds, outcome_of}
use Rattle.vdr_command.specs.Opened.{ContentsKept, IsUnopened, KeepsContents, MediaEnds}
use Rattle.vdr_command.specs.Outside.{MediaFailed, MediaSeen, Outside}
use Rattle.vdr_tool.specs.Replays.{ReplayEnds}
use Rattle.vdr_tool.specs.Trials.{LeavesRun, TrialEnds, TrialLeaves, bench, bench_text}
use Rattle.vdr_terms.specs.Records.{FeedItem}
use Rattle.vdr_vault.specs.Lives.{Life}
use Rattle.vdr_vault.proofs.Lives.{life_ours}
use Rattle.vdr_tool.specs.Runs.{page}
use Rattle.vdr_command.specs.declared.status.Status.{Status}
use Rattle.vdr_command.specs.declared.status.Status.TheVariants.{Done, MediaFault}

pub played_ours : (x : Contents) (events : List Event) (image : Image) → PlaysBack (opening_of x) events image → IsOurs image
played_ours x events image p = inr (p.contents, p.legible, subst (λ (ms : List ℕ). EndsMeet ms (reading_of p.contents)) (ap members_with (sym p.legible.further)) p.shown.media.ends, p.sound)

module _ {tells tells_images : Type 0} where
  abbrev pub Left : Disk tells tells_images → Disk tells tells_images → Type 0
  Left old new = LeavesAll old new ⊎ ((old.clock ≤ new.clock) × ((image : Image) → new.since old.clock image → old.now image ⊎ IsOurs image))

  -- What recorded contents are left as.
  pub headline_ours : (x : Contents) (Told : List Event → Type 0) (may_pend : Type 0) (old new : Disk tells tells_images) (hears : Type 0) (w : Watched) → ToldHeadline x Told may_pend old new hears w → Left old new
  headline_ours x Told may_pend old new hears w h = inr (
    (let first = h.after_entry in let then = h.before_exit in omega (arith, first, then)),
    λ image left. ⊎_elim (λ now. inl now) (λ (shown : ShowsPrefix (PlaysBack (opening_of x)) h.events 0 image). inr (played_ours x shown.first image shown.shown)) (h.moments.each image left),
  )

  kept_ours : (x : Contents) (MayBe : List Event → Type 0) (status : Status) (old new : Disk tells tells_images) → (IsUnopened status × LeavesAll old new) ⊎ KeepsContents x MayBe status old new → Left old new
  kept_ours x MayBe status old new (inl unopened) = inl unopened.1
  kept_ours x MayBe status old new (inr kept) = headline_ours x (ContentsKept x MayBe status new) ⊤ old new ⊥ nothing_told kept

  left_ours : (x : Contents) (rose : Type 0) (old new : Disk tells tells_images) (hears : Type 0) (w : Watched) → LeavesHistory x rose old new hears w → Left old new
  left_ours x rose old new hears w (inl (inl leaves)) = inl leaves
  left_ours x rose old new hears w (inl (inr h)) = headline_ours x (AccountsForFeed x new [] NotStarted) ((NotStarted ≡ Broken) × rose) old new ⊥ nothing_told h
  left_ours x rose old new hears w (inr (feed, end, h)) = headline_ours x (AccountsForFeed x new feed end) ((end ≡ Broken) × rose) old new hears w h

  pub media_lives : {Can : Contents → Type 0} {Met : (m offset : ℕ) → Type 0} {MayBe : List Event → Type 0} (old new : MediaSeen tells tells_images) (status : Status) → MediaEnds Can Met MayBe old new status
      → tells_images → AreOurs old.disk → StayOurs old.disk new.disk
  media_lives {MayBe = MayBe} old new status h told ours = ours_opened old.disk new.disk told ours h.blank
      (λ x t holds meet sound. kept_ours x MayBe status old.disk new.disk (h.kept x t holds meet sound))

  pub replay_lives : (left now : Option (List ℕ)) (old new : MediaSeen tells tells_images) (hears : Type 0) (w : Watched) (answer : Result Replayed ReplayRefused) → ReplayEnds left now old new hears w answer → tells_images → AreOurs old.disk → StayOurs old.disk new.disk
  replay_lives left now old new hears w answer h told ours = ours_opened old.disk new.disk told ours h.blank (λ x t holds meet sound. left_ours x _ old.disk new.disk hears w (h.left x t holds meet sound))

  pub format_lives : (again : Bool) (left : Option (List ℕ)) (old new : MediaSeen tells tells_images) (status : Status) → FormatEnds again left old new status → AreOurs old.disk → StayOurs old.disk new.disk
  format_lives again left old new status h ours = by h.untouched
    where
      formatted : (status ≡ Done) ⊎ (status ≡ MediaFault) → StayOurs old.disk new.disk
      formatted either = let k = h.leaves either in ours_formatted old.disk new.disk (outcome_of status) k.0 ours k.1

      by : (status ≡ Done) ⊎ ((status ≡ MediaFault) ⊎ Unchanged old.disk new.disk) → StayOurs old.disk new.disk
      by (inl done) = formatted (inl done)
      by (inr (inl fault)) = formatted (inr fault)
      by (inr (inr same)) = ours_unchanged old.disk new.disk same ours

  -- What a trial leaves of them, once they were formatted.
  ran_ours : (rose : Type 0) (old new : Disk tells tells_images) (items : List FeedItem) (end : RunEnd) (status : Status) → LeavesRun rose old new items end status → AreOurs old → StayOurs old new
  ran_ours rose old new items end status r ours = record {
    later = r.moments.later;
    each = λ image left. ⊎_elim
        (λ now. ours image now)
        (λ k. ⊎_elim (λ un. inl un) (λ (shown : ShowsPrefix (Life bench bench_text) r.events 0 image). life_ours bench bench_text shown.first image shown.shown) k)
        (r.moments.each image left);
  }

  pub trial_lives : (seed count : ℕ) (old new : MediaSeen tells tells_images) (status : Status) → TrialEnds seed count old new status → tells → AreOurs old.disk → StayOurs old.disk new.disk
  trial_lives seed count old new status h told ours = by h.left
    where
      by : TrialLeaves seed count old new status → StayOurs old.disk new.disk
      by (inl refused) = ours_unchanged old.disk new.disk refused.1 ours
      by (inr (inl failed)) = ours_formatted old.disk new.disk (Err MediaFault) bench_text ours failed.1
      by (inr (inr ran)) = let k = ran.2 told in ran_ours (MediaFailed old new) old.disk new.disk k.1 k.0 status k.3 ours

  -- What a command leaves that leaves what might have been left before.
  ours_left : (old new : Disk tells tells_images) → LeavesAll old new → AreOurs old → StayOurs old new
  ours_left old new leaves ours = record { later = leaves.later; each = λ image left. ours image (leaves.each image left) }

  -- What each command that uses the media leaves of them.
  pub lives_of : (command : Asked) (old new : Outside tells tells_images) (hears : Type 0) (w : Watched) (status : Status) → (page command).owes old new hears w status → (page command).uses_media
      → tells_images → AreOurs old.media.disk → StayOurs old.media.disk new.media.disk
  lives_of (Review rate) old new hears w status owed uses told ours = absurd uses
  lives_of Check old new hears w status owed uses told ours = absurd uses
  lives_of Import old new hears w status owed uses told ours = absurd uses
  lives_of Packets old new hears w status owed uses told ours = absurd uses
  lives_of Verify old new hears w status owed uses told ours = absurd uses
  lives_of (Rescue reading) old new hears w status owed uses told ours = ours_unchanged old.media.disk new.media.disk (rescue_unchanged old new status reading owed) ours
  lives_of (Format again) old new hears w status owed uses told ours = format_lives again old.input.left old.media new.media status owed.media ours
  lives_of Replay old new hears w status owed uses told ours = replay_lives old.input.left new.input.left old.media new.media hears w owed.answer owed.media told ours
  lives_of (Read reading) old new hears w status owed uses told ours = media_lives old.media new.media status (reading_plays old new status reading owed).media told ours
  lives_of (Evidence asked) old new hears w status owed uses told ours = media_lives old.media new.media status owed.media.media told ours
  lives_of (Page asked words) old new hears w status owed uses told ours = media_lives old.media new.media status owed.ends.media.media told ours
  lives_of Info old new hears w status owed uses told ours = ours_left old.media.disk new.media.disk owed.untouched.leaves ours
  lives_of (RescueInfo medium) old new hears w status owed uses told ours = ours_unchanged old.media.disk new.media.disk owed.media.unchanged ours
  lives_of Compare old new hears w status owed uses told ours = ours_unchanged old.media.disk new.media.disk owed.unchanged ours
  lives_of Incidents old new hears w status owed uses told ours = media_lives old.media new.media status owed.media told ours
  lives_of (Save label) old new hears w status owed uses told ours = media_lives old.media new.media status owed.media told ours
  lives_of (Release id) old new hears w status owed uses told ours = media_lives old.media new.media status owed.media told ours
  lives_of (Trial seed count) old new hears w status owed uses told ours = trial_lives seed count old.media new.media status owed.media (old.media.disk.shown told).0 ours

  -- Media that no call was made on.
  pub ours_still : (disk : Disk tells tells_images) → AreOurs disk → StayOurs disk disk
  ours_still disk ours = record { later = omega arith; each = λ image left. ours image (disk.only_now image left) }
