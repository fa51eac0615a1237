-- What contracts see of sayings and of the board.
use Rattle.std.specs.Prelude.{◌≤◌, ◌+◌, ℕ, vec_capacity, vec_len}
use Rattle.vdr_alerts.specs.Alerts.{Lists, Saying, Tells, alert_cmp, part_cmp}
use Rattle.vdr_alerts.specs.Boards.{Board}
use Rattle.vdr_alerts.specs.Rows.{AreOrdered}
use Rattle.vdr_alerts.specs.declared.board.Board.{Board as Seen}
use Rattle.vdr_alerts.specs.declared.saying.Saying.{Saying as Said}
use Rattle.vdr_alerts.specs.declared.saying.Saying.TheVariants as is

abbrev pub saying_value : Said → Saying
saying_value (is.Tells part) = Tells part
saying_value (is.Lists part reading) = Lists part reading.values

abbrev pub board_value : Seen → Board
board_value b = record { parts = b.parts.items; lists = b.lists.items; alerts = b.alerts.items }

-- Its tables are in order.
pub record IsOrdered (b : Board) : Type 0 where
  pub parts : AreOrdered part_cmp b.parts
  pub lists : AreOrdered part_cmp b.lists
  pub alerts : AreOrdered alert_cmp b.alerts

-- There is room for so many more of each.
pub record HasRoom (b : Seen) (n : ℕ) : Type 0 where
  pub parts : vec_len b.parts + n ≤ vec_capacity b.parts
  pub lists : vec_len b.lists + n ≤ vec_capacity b.lists
  pub alerts : vec_len b.alerts + n ≤ vec_capacity b.alerts
