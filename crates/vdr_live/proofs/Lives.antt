-- Media of this product stay so over a live recording, and their life goes on with it.
use Rattle.std.proofs.Common.{◌≡◌, ℕ, List, Result, Ok, Err}
use Rattle.std.specs.Prelude.{sum}
use Rattle.vdr_config.specs.Configuration.{Configuration}
use Rattle.vdr_opening.specs.declared.refused.OpenRefused.{OpenRefused}
use Rattle.vdr_capture.specs.declared.sums.Outcome.TheVariants.{MediaFault}
use Rattle.vdr_session.specs.declared.session.SessionEnd.{SessionEnd}
use Rattle.vdr_recorder.specs.Chains.{AllLive, LivesOn, Run}
use Rattle.vdr_vault.specs.Ours.{AreOurs, StayOurs}
use Rattle.vdr_recorder.specs.Watched.{Watched}
use Rattle.vdr_vault.proofs.Ours.{ours_opened}
use Rattle.vdr_command.specs.Statuses.{status_of_opening}
use Rattle.vdr_command.specs.Outside.{MediaFailed, MediaSeen}
use Rattle.vdr_vault.proofs.OpenMoments.{never_both}
use Rattle.vdr_tool.proofs.LifeGoesOn.{holds_live, media_life, run_life}
use Rattle.vdr_tool.proofs.Lives.{headline_ours, media_lives}
use Rattle.vdr_live.specs.Headline.{AccountsForSession}
use Rattle.vdr_live.specs.Links.{LinkSeen}
use Rattle.vdr_live.specs.Ports.{PortSeen}
use Rattle.vdr_live.specs.Recordings.{RecordingEnds}

module _ {tells tells_images : Type 0} (turns : ℕ) (ports_old ports_new : List PortSeen) (links_old links_new : List LinkSeen) (old new : MediaSeen tells tells_images) (hears : Type 0) (w : Watched) where
  pub record_lives : (answer : Result SessionEnd OpenRefused) → RecordingEnds turns ports_old ports_new links_old links_new old new hears w answer → tells_images → AreOurs old.disk → StayOurs old.disk new.disk
  record_lives (Ok end) ends told ours = ours_opened old.disk new.disk told ours (λ t un. absurd (never_both old.disk.reads (ends.openable t).0 un)) (λ x t holds meet sound.
      headline_ours x (AccountsForSession x (sum old.faults) (sum new.faults) _ turns links_old links_new end new.disk)
      ((end.outcome ≡ MediaFault) × MediaFailed old new) old.disk new.disk hears w (ends.recorded x t holds sound))
  record_lives (Err refused) ends told ours = media_lives old new (status_of_opening refused) ends.media told ours

  pub record_life : (c : Configuration) (text : List ℕ) (runs : List Run) (answer : Result SessionEnd OpenRefused) → RecordingEnds turns ports_old ports_new links_old links_new old new hears w answer
      → tells_images → AllLive c text runs old.disk → LivesOn c text runs old.disk new.disk
  record_life c text runs (Ok end) ends told live =
      let l = holds_live c text runs old.disk told live in
      run_life c text runs old.disk new.disk l.contents (AccountsForSession l.contents (sum old.faults) (sum new.faults) _ turns links_old links_new end new.disk)
      ((end.outcome ≡ MediaFault) × MediaFailed old new) hears w l.holds told live (ends.recorded l.contents (old.disk.shown told).0 l.holds l.sound)
  record_life c text runs (Err refused) ends told live = media_life c text runs old new (status_of_opening refused) ends.media told live
