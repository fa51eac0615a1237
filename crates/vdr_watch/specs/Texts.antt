-- What is printed of the supervision of equipment (this project's profile).
use Rattle.std.specs.Prelude.{◌+◌, ◌-◌, ◌%◌, ◌==◌, ℕ, List, [], ◌∷◌, ◌++◌, codes, decimal, Option, Some, None, option_map, if◌then◌else◌}
use Rattle.std.specs.List.{concat, flat_map}
use Rattle.vdr_terms.specs.Records.{Record, last}
use Rattle.vdr_durability.specs.Sources.{Source}
use Rattle.vdr_alerts.specs.Boards.{saying_text}
use Rattle.vdr_alerts.specs.Lines.{Mark, front_text, letter_text, mark_of, raw_text}
use Rattle.vdr_watch.specs.Signs.{Alarm, Alarms, Beats, Begins, Heartbeat, Says, Sign, signs_of}
use Rattle.vdr_watch.specs.Supervision.{board_of, is_silent, last_state, latest, met_after, met_in, predecessor, same_state}

-- PLACE UTC silent GROUP SOURCE MS, where so many milliseconds are more than twice the interval.
abbrev pub silent_text : Mark → Heartbeat → List ℕ
silent_text m before = if is_silent before m.tick then front_text m (codes " silent ") before.source ++ concat (decimal (m.tick - before.tick) ∷ codes "\n" ∷ []) else []

-- PLACE UTC jump GROUP SOURCE OLD NEW, where both are there and the second is not the remainder of the first and one by ten: sequence numbers go
-- from 0 to 9 and round.
abbrev pub jump_text : Mark → Source → (before now : Option ℕ) → List ℕ
jump_text m source (Some old) (Some new) = if new == (old + 1) % 10 then [] else front_text m (codes " jump ") source ++ concat (decimal old ∷ codes " " ∷ decimal new ∷ codes "\n" ∷ [])
jump_text m source (Some old) None = []
jump_text m source None now = []

-- What a heartbeat of this sequence number shows behind its predecessor.
abbrev pub beat_text : Mark → (before : Option Heartbeat) → (sequence : Option ℕ) → List ℕ
beat_text m None sequence = []
beat_text m (Some before) sequence = silent_text m before ++ jump_text m before.source before.sequence sequence

-- PLACE UTC alarm GROUP SOURCE NUMBER CONDITION ACKNOWLEDGED, and a space.
abbrev pub state_text : Mark → Alarm → List ℕ
state_text m a = front_text m (codes " alarm ") a.source ++ concat (decimal a.number ∷ codes " " ∷ letter_text a.condition ∷ codes " " ∷ letter_text a.acknowledged ∷ codes " " ∷ [])

-- The same, and TEXT.
abbrev pub alarm_line : Mark → Alarm → (text : Option (List ℕ)) → List ℕ
alarm_line m a text = state_text m a ++ raw_text text ++ codes "\n"

-- An alarm is told at its first state and where its state differs from the last one. Its text alone is no change.
abbrev pub alarm_text : Mark → (before : Option Alarm) → Alarm → (text : Option (List ℕ)) → List ℕ
alarm_text m None a text = alarm_line m a text
alarm_text m (Some before) a text = if same_state before a then [] else alarm_line m a text

-- What a sign shows behind all that were met before it.
abbrev pub sign_text : Mark → (met : List Sign) → Sign → List ℕ
sign_text m met Begins = []
sign_text m met (Beats b) = beat_text m (predecessor b.source met) b.sequence
sign_text m met (Alarms a text) = alarm_text m (last_state a.source a.number met) a text
sign_text m met (Says saying) = saying_text m (board_of met) saying

abbrev pub signs_text : Mark → (met : List Sign) → List Sign → List ℕ
signs_text m met [] = []
signs_text m met (s ∷ signs) = sign_text m met s ++ signs_text m (s ∷ met) signs

-- What a record shows.
abbrev pub record_text : (met : List Sign) → Record → List ℕ
record_text met r = signs_text (mark_of r) met (signs_of r)

-- What records show, in order.
abbrev pub records_text : (met : List Sign) → List Record → List ℕ
records_text met [] = []
records_text met (r ∷ rs) = record_text met r ++ records_text (met_after met (signs_of r)) rs

-- At the end of the window its last record stands as a heartbeat without sequence of each source, by group and then source.
abbrev pub end_text : Option Mark → List Heartbeat → List ℕ
end_text None beats = []
end_text (Some m) beats = flat_map (silent_text m) beats

abbrev pub closing_text : List Record → List ℕ
closing_text records = end_text (option_map mark_of (last records)) (latest (met_in records))

-- All that the records show.
unfoldable pub watch_text : List Record → List ℕ
watch_text records = records_text [] records ++ closing_text records
