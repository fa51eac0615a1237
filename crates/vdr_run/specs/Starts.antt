-- How a run begins on what the media have.
use Rattle.std.specs.Prelude.{ℕ, ℤ, Option, option_map}
use Rattle.vdr_terms.specs.Channels.{Channels}
use Rattle.vdr_terms.specs.Rates.{Limit}
use Rattle.vdr_config.specs.Configuration.{Configuration}
use Rattle.vdr_config.specs.Sizes.{limits_in}
use Rattle.vdr_datagram.specs.Channels.{channels_of}
use Rattle.vdr_core.specs.Runs.{Stamp, RunStart}

-- The stamp of a tick and a utc.
abbrev pub stamp_of : ℕ × ℤ → Stamp
stamp_of told = record { tick = told.0; utc = told.1 }

-- A run with these limits and channels that begins at this place, after a record of this tick and utc.
abbrev pub begin_at : (ℕ → Limit) → Channels → ℕ → Option (ℕ × ℤ) → RunStart
begin_at limits channels place last = record { limits = limits; channels = channels; place = place; last = option_map stamp_of last }

-- A run of this configuration.
abbrev pub start_with : Configuration → ℕ → Option (ℕ × ℤ) → RunStart
start_with config = begin_at (limits_in config.groups) (channels_of config)
