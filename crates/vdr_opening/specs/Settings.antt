-- The numbers of a configuration on which a history depends.
use Rattle.std.specs.Prelude.{◌≡◌, ℕ, List, Ok}
use Rattle.vdr_core.specs.Histories.{Settings}
use Rattle.vdr_config.specs.Configuration.{Configuration}
use Rattle.vdr_config.specs.Grammar.{configuration}
use Rattle.vdr_config.specs.Sizes.{limits_in, window_of}
use Rattle.vdr_datagram.specs.Channels.{channels_of}

-- The settings of a configuration, whose text this is.
abbrev pub settings_of : Configuration → List ℕ → Settings
settings_of c text = record {
  limits = limits_in c.groups;
  channels = channels_of c;
  seconds = window_of c;
  incident_seconds = c.incident_seconds;
  incident_slots = c.incident_slots;
  text = text;
}

-- They are those of the configuration that the text is.
pub record AreSettingsOf (text : List ℕ) (settings : Settings) : Type 0 where
  pub config : Configuration
  pub reads : configuration text ≡ Ok config
  pub are : settings ≡ settings_of config text
