-- The ranges of the values that the text gives.
use Rattle.std.specs.Prelude.{◌<◌, ◌≤◌, max}
use Rattle.vdr_config.specs.declared.groups.GroupEntry.{GroupEntry}
use Rattle.vdr_config.specs.declared.reading.TopEntry.{TopEntry}
use Rattle.vdr_config.specs.Configuration.{IsRate}

pub record IsEntry (g : GroupEntry) : Type 0 where
  pub number : g.number < 16
  pub rate : IsRate g.rate

pub record IsTop (top : TopEntry) : Type 0 where
  pub capsule_low : 1 ≤ top.capsule_seconds
  pub capsule_high : top.capsule_seconds ≤ 31_536_000
  pub long_low : 1 ≤ top.long_seconds
  pub long_high : top.long_seconds ≤ 31_536_000
  pub float_low : 1 ≤ top.float_seconds
  pub float_high : top.float_seconds ≤ max top.capsule_seconds top.long_seconds
  pub incident_low : 1 ≤ top.incident_seconds
  pub incident_high : top.incident_seconds ≤ top.long_seconds
  pub slots_low : 1 ≤ top.incident_slots
  pub slots_high : top.incident_slots ≤ 32
  pub segment_low : 8_192 ≤ top.segment
  pub segment_high : top.segment ≤ 16_777_216
  pub batch_low : 2_048 ≤ top.batch
  pub batch_high : top.batch ≤ 1_048_576
  pub queue_low : 1 ≤ top.queue
  pub queue_high : top.queue ≤ 65_536
