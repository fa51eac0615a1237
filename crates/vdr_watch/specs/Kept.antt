-- What a watch keeps of the records that it met.
use Rattle.std.specs.Prelude.{◌≡◌, List, Option, option_map}
use Rattle.vdr_terms.specs.Records.{Record, last}
use Rattle.vdr_alerts.specs.Boards.{Board}
use Rattle.vdr_alerts.specs.Lines.{Mark, mark_of}
use Rattle.vdr_watch.specs.Signs.{Alarm, Heartbeat, Sign}
use Rattle.vdr_watch.specs.Supervision.{board_of, latest, met_in, states}

-- The last heartbeats and the last states of alarms, each in order, what is known of bridge alerts, and where the last record stands.
pub record Kept : Type 0 where
  pub heartbeats : List Heartbeat
  pub alarms : List Alarm
  pub board : Board
  pub last : Option Mark

abbrev pub kept_of : List Record → Kept
kept_of records = record { heartbeats = latest (met_in records); alarms = states (met_in records); board = board_of (met_in records); last = option_map mark_of (last records) }

-- These are the last heartbeats and states of the signs that were met, and what is known of bridge alerts.
pub record AreKept (met : List Sign) (heartbeats : List Heartbeat) (alarms : List Alarm) (board : Board) : Type 0 where
  pub beats : heartbeats ≡ latest met
  pub states : alarms ≡ states met
  pub alerts : board ≡ board_of met
