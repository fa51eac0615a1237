-- What `run` promises: `record` has its page, and all other words are those of `run_alone`.
use Rattle.std.specs.Prelude.{◌≡◌, ◌≤◌, ℕ, List, String}
use Rattle.std.specs.declared.alloc.Global.{Global}
use Rattle.vdr_command.specs.Endings.{WritesLine}
use Rattle.vdr_command.specs.Outside.{OutputSeen}
use Rattle.vdr_recorder.specs.Watched.{Watched}
use Rattle.vdr_tool.specs.Runs.{Runs}
use Rattle.vdr_command.specs.declared.status.Status.{Status}
use Rattle.vdr_command.specs.declared.status.Status.TheVariants.{Words}
use Rattle.vdr_live.specs.Recordings.{AsksRecord, Records, Surroundings}

-- `record` reads no input, and only `record` asks the ports and the links.
pub record RecordsAlone {I P L : Type 0} (words : List (String Global)) (input now : I) (ports ports_now : P) (links links_now : L) (status : Status) : Type 0 where
  -- its words are told from those that ask for nothing
  pub live : (turns : ℕ) → AsksRecord words turns → (status ≡ Words → ⊥) × (now ≡ input)
  -- all other words leave the ports and the links as they are
  pub others : ((turns : ℕ) → AsksRecord words turns → ⊥) → (ports_now ≡ ports) × (links_now ≡ links)

module _ {tells tells_images : Type 0} where
  -- The recording was done, and then the line of its status was written.
  pub record EndsRecord (turns : ℕ) (old new : Surroundings tells tells_images) (hears : Type 0) (w : Watched) (status : Status) : Type 0 where
    pub between : OutputSeen
    pub owed : Records turns old (record { alone = record { input = new.alone.input; output = between; media = new.alone.media }; ports = new.ports; links = new.links }) hears w status
    pub line : WritesLine status between new.alone.output
    pub later : (old.alone.output.faults ≤ between.faults) × (between.faults ≤ new.alone.output.faults)
    pub sizes : new.alone.media.disk.sizes ≡ old.alone.media.disk.sizes

  -- `w`: what an object was told meanwhile, where it `hears` anything.
  pub record RunsAll (words : List (String Global)) (old new : Surroundings tells tells_images) (hears : Type 0) (w : Watched) (status : Status) : Type 0 where
    pub recorded : (turns : ℕ) → AsksRecord words turns → EndsRecord turns old new hears w status
    -- all other words are left to `run_alone`, and no port and no link is asked
    pub alone : ((turns : ℕ) → AsksRecord words turns → ⊥) → Runs words old.alone new.alone hears w status × (new.ports ≡ old.ports) × (new.links ≡ old.links)
