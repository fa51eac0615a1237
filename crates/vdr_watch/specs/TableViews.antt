-- What contracts see of the tables.
use Rattle.std.specs.Prelude.{◌≤◌, ◌+◌, ℕ, List, vec_capacity, vec_len}
use Rattle.vdr_alerts.specs.Views.{board_value}
use Rattle.vdr_alerts.specs.Views as rooms
use Rattle.vdr_watch.specs.Kept.{AreKept}
use Rattle.vdr_watch.specs.Signs.{Sign}
use Rattle.vdr_watch.specs.declared.tables.Tables.{Tables}

-- They keep the last heartbeats and states of the signs that were met.
abbrev pub Keeps : (met : List Sign) → Tables → Type 0
Keeps met t = AreKept met t.heartbeats.items t.alarms.items (board_value t.board)

-- There is room for so many more of each.
pub record HasRoom (t : Tables) (n : ℕ) : Type 0 where
  pub beats : vec_len t.heartbeats + n ≤ vec_capacity t.heartbeats
  pub alarms : vec_len t.alarms + n ≤ vec_capacity t.alarms
  pub board : rooms.HasRoom t.board n
