-- What is said of equipment by its signs (this project's profile): what each sign is compared with, looked for in all that were met before
-- it, the latest first.
use Rattle.std.specs.Prelude.{◌≡◌, ◌↔◌, ◌-◌, ◌*◌, ℕ, Bool, true, false, ◌&&◌, ◌==◌, nat_lt, List, [], ◌∷◌, fold, Contains, Option, Some, None, if◌then◌else◌}
use Rattle.std.specs.Ordering.{nat_cmp, ordering_then}
use Rattle.std.specs.declared.cmp.Ordering.{Ordering}
use Rattle.vdr_terms.specs.Records.{Record}
use Rattle.vdr_durability.specs.Sources.{Source, is_same, source_cmp}
use Rattle.vdr_alerts.specs.Boards.{Board, board_behind, empty}
use Rattle.vdr_alerts.specs.Rows.{AreOrdered, put}
use Rattle.vdr_watch.specs.Signs.{Alarm, Alarms, Beats, Begins, Heartbeat, Says, Sign, signs_of}

-- The last heartbeat of the source, with no begin of a run behind it.
abbrev pub predecessor : Source → (met : List Sign) → Option Heartbeat
predecessor source [] = None
predecessor source (Begins ∷ met) = None
predecessor source (Beats b ∷ met) = if is_same b.source source then Some b else predecessor source met
predecessor source (Alarms a text ∷ met) = predecessor source met
predecessor source (Says saying ∷ met) = predecessor source met

-- The last state of the source's alarm of this number. Runs do not part it.
abbrev pub last_state : Source → (number : ℕ) → (met : List Sign) → Option Alarm
last_state source number [] = None
last_state source number (Begins ∷ met) = last_state source number met
last_state source number (Beats b ∷ met) = last_state source number met
last_state source number (Says saying ∷ met) = last_state source number met
last_state source number (Alarms a text ∷ met) = if is_same a.source source && (a.number == number) then Some a else last_state source number met

-- More than twice the interval has passed since the heartbeat, in millionths of a second.
abbrev pub is_silent : Heartbeat → (tick : ℕ) → Bool
is_silent before tick = nat_lt (2 * before.interval) (1000 * (tick - before.tick))

abbrev pub same_letter : Option ℕ → Option ℕ → Bool
same_letter None None = true
same_letter None (Some m) = false
same_letter (Some n) None = false
same_letter (Some n) (Some m) = n == m

-- Neither the condition nor the acknowledgement differs.
abbrev pub same_state : Alarm → Alarm → Bool
same_state a b = same_letter a.condition b.condition && same_letter a.acknowledged b.acknowledged

-- What was met once these signs came, in order.
abbrev pub met_after : (met : List Sign) → List Sign → List Sign
met_after met [] = met
met_after met (s ∷ signs) = met_after (s ∷ met) signs

-- What these records show, the latest first.
abbrev pub met_in : List Record → List Sign
met_in records = fold (λ met r. met_after met (signs_of r)) [] records

-- By group and then source.
abbrev pub beat_cmp : Heartbeat → Heartbeat → Ordering
beat_cmp a b = source_cmp a.source b.source

-- By group, source and number.
abbrev pub alarm_cmp : Alarm → Alarm → Ordering
alarm_cmp a b = ordering_then (source_cmp a.source b.source) (nat_cmp a.number b.number)

-- The last heartbeat of each source that has no begin of a run behind it, by group and then source.
abbrev pub latest : (met : List Sign) → List Heartbeat
latest [] = []
latest (Begins ∷ met) = []
latest (Beats b ∷ met) = put beat_cmp (latest met) b
latest (Alarms a text ∷ met) = latest met
latest (Says saying ∷ met) = latest met

-- The last state of each alarm, by group, source and number.
abbrev pub states : (met : List Sign) → List Alarm
states [] = []
states (Begins ∷ met) = states met
states (Beats b ∷ met) = states met
states (Says saying ∷ met) = states met
states (Alarms a text ∷ met) = put alarm_cmp (states met) a

-- What is known of bridge alerts. Runs do not part it.
abbrev pub board_of : (met : List Sign) → Board
board_of [] = empty
board_of (Begins ∷ met) = board_of met
board_of (Beats b ∷ met) = board_of met
board_of (Alarms a text ∷ met) = board_of met
board_of (Says saying ∷ met) = board_behind (board_of met) saying

-- The list has, in order, the predecessor that each source would have now, and nothing else.
pub record AreLatest (met : List Sign) (beats : List Heartbeat) : Type 0 where
  pub ordered : AreOrdered beat_cmp beats
  pub each : (b : Heartbeat) → Contains beats b ↔ (predecessor b.source met ≡ Some b)
