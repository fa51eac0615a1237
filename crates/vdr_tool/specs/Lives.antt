-- What a command leaves of the media's life (this project's profile).
use Rattle.std.specs.Prelude.{ℕ, List, ⊤}
use Rattle.vdr_outside.specs.Disk.{Disk}
use Rattle.vdr_config.specs.Configuration.{Configuration}
use Rattle.vdr_recorder.specs.Chains.{AllLive, LivesOn, Run}
use Rattle.vdr_vault.specs.Ours.{AreOurs, StayOurs}
use Rattle.vdr_tool.specs.Commands.{Asked}
use Rattle.vdr_tool.specs.Commands.Asked.{Review, Check, Format, Replay, Read, Evidence, Page, Incidents, Info, Save, Release, Trial, Import, Packets, Verify, Rescue, RescueInfo, Compare}

-- The command does not format the media.
abbrev pub FormatsNothing : Asked → Type 0
FormatsNothing (Format again) = ⊥
FormatsNothing (Review rate) = ⊤
FormatsNothing Check = ⊤
FormatsNothing Replay = ⊤
FormatsNothing (Read reading) = ⊤
FormatsNothing Incidents = ⊤
FormatsNothing Info = ⊤
FormatsNothing (Save label) = ⊤
FormatsNothing (Release id) = ⊤
FormatsNothing (Trial seed count) = ⊥
FormatsNothing Import = ⊤
FormatsNothing Packets = ⊤
FormatsNothing Verify = ⊤
FormatsNothing (Evidence asked) = ⊤
FormatsNothing (Page asked words) = ⊤
FormatsNothing (Rescue reading) = ⊤
FormatsNothing (RescueInfo medium) = ⊤
FormatsNothing Compare = ⊤

-- What is kept of the media's life, whichever command it is of these.
pub record KeepsLife {tells tells_images : Type 0} (asked : Asked → Type 0) (old new : Disk tells tells_images) : Type 0 where
  -- media of this product, never formatted or formatted by it and then used, stay so: each image that a stop may leave is unformatted, or
  -- legible and sound
  pub ours : tells_images → AreOurs old → StayOurs old new
  -- and where nothing is formatted their life goes on: the runs since they were formatted, and then nothing, or one run more, whose events
  -- are those of the command's headline (`law_of_goes_on`), of which each image that a stop may leave now shows those that were acknowledged
  pub life : (c : Configuration) (text : List ℕ) (runs : List Run) → tells_images → ((command : Asked) → asked command → FormatsNothing command)
      → AllLive c text runs old → LivesOn c text runs old new
