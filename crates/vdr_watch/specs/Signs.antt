-- What records show of the equipment on board: heartbeats, states of alarms, and bridge alerts (sentences HBT, ALR, ALF and ALC of IEC 61162-1),
-- and where a run of the recorder begins.
use Rattle.std.specs.Prelude.{ℕ, Bool, ◌||◌, ◌==◌, List, [], ◌∷◌, filter_map, Option, Some, None, option_map, Result, Ok, Err, bytes_eq, codes, if◌then◌else◌}
use Rattle.vdr_terms.specs.Records.{Content, Record}
use Rattle.vdr_terms.specs.Records.Content.{Start, Datagram, Gap, Stop}
use Rattle.vdr_datagram.specs.Verdicts.{LineReading, line_spans}
use Rattle.vdr_datagram.specs.Verdicts.LineReading.{Good, Tag, Sentence}
use Rattle.vdr_values.specs.Readings.{Reading, reading}
use Rattle.vdr_values.specs.Values.{Value, value_at, digits_in, letter_in, number_in, raw_in}
use Rattle.vdr_durability.specs.Sources.{Source}
use Rattle.vdr_tag.specs.declared.grouping.Grouping.{Grouping}
use Rattle.vdr_alerts.specs.Alerts.{Saying, saying_of}
use Rattle.vdr_sources.specs.Tables.{named}

-- A heartbeat of a source.
pub record Heartbeat : Type 0 where
  pub source : Source
  pub tick : ℕ  -- recording time in milliseconds
  pub interval : ℕ  -- until the next one is due, in millionths of a second
  pub sequence : Option ℕ

-- The state of an alarm of a source. Both letters are A for yes and V for no.
pub record Alarm : Type 0 where
  pub source : Source
  pub number : ℕ
  pub condition : Option ℕ
  pub acknowledged : Option ℕ

pub data Sign : Type 0 where
  Begins : Sign
  Beats : (beat : Heartbeat) → Sign
  Alarms : (alarm : Alarm) (text : Option (List ℕ)) → Sign
  Says : (saying : Saying) → Sign  -- of bridge alerts

-- An HBT sentence is a heartbeat where its interval is there and above 0.
abbrev pub heartbeat_of : Source → (tick : ℕ) → (interval : Option (Bool × ℕ)) → (sequence : Option ℕ) → Option Sign
heartbeat_of source tick (Some (negative, millionths)) sequence =
    if negative || millionths == 0 then None else Some (Beats (record { source = source; tick = tick; interval = millionths; sequence = sequence }))
heartbeat_of source tick None sequence = None

-- An ALR sentence is the state of an alarm where its number is there.
abbrev pub alarm_of : Source → (number condition acknowledged : Option ℕ) → (text : Option (List ℕ)) → Option Sign
alarm_of source (Some number) condition acknowledged text = Some (Alarms (record { source = source; number = number; condition = condition; acknowledged = acknowledged }) text)
alarm_of source None condition acknowledged text = None

abbrev pub sign_told : (formatter : List ℕ) → Source → (code : Option ℕ) → (tick : ℕ) → List (Option Value) → Option Sign
sign_told formatter source code tick values =
    if bytes_eq formatter (codes "HBT") then heartbeat_of source tick (number_in (value_at values 0)) (digits_in (value_at values 2))
    else if bytes_eq formatter (codes "ALR") then alarm_of source (digits_in (value_at values 1)) (letter_in (value_at values 2)) (letter_in (value_at values 3)) (raw_in (value_at values 4))
    else option_map Says (saying_of formatter source code values)

-- A sentence with a refused field has no reading, and is no sign.
abbrev pub sign_read : Source → (code : Option ℕ) → (tick : ℕ) → Result (Option Reading) ℕ → Option Sign
sign_read source code tick (Ok (Some r)) = sign_told r.row.formatter source code tick r.values
sign_read source code tick (Ok None) = None
sign_read source code tick (Err bad) = None

-- The code of the TAG group that a sentence stands in.
abbrev pub code_in : Option Grouping → Option ℕ
code_in None = None
code_in (Some group) = Some group.code

-- The sign that a line of a datagram is. One that names no source counts for the source `-`.
abbrev pub sign_in : (group tick : ℕ) → LineReading → Option Sign
sign_in group tick (Good tags sentence) = sign_read (record { group = group; name = named tags.source }) (code_in tags.group) tick (reading sentence.content)
sign_in group tick (Tag bad) = None
sign_in group tick (Sentence tags bad) = None

-- The signs in the lines of a datagram, in order.
abbrev pub signs_in : (group tick : ℕ) (payload : List ℕ) → List Sign
signs_in group tick payload = filter_map (λ s. sign_in group tick s.verdict) (line_spans payload)

abbrev pub signs_said : (group tick : ℕ) → Content → List Sign
signs_said group tick Start = Begins ∷ []
signs_said group tick (Datagram payload) = signs_in group tick payload
signs_said group tick (Gap missed) = []
signs_said group tick Stop = []

-- The signs of a record, in order.
abbrev pub signs_of : Record → List Sign
signs_of r = signs_said r.group r.tick r.content
