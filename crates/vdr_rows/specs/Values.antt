-- The values that a sentence gives, by the columns of its formatter.
use Rattle.std.specs.Prelude.{ℕ, ◌+◌, ◌-◌, ◌*◌, Bool, true, false, not, ◌&&◌, ◌||◌, ◌==◌, List, [], ◌∷◌, ◌++◌, filter_map, length, Option, Some, None, option_map, option_and_then, Result, Ok, Err, codes, decimal, if◌then◌else◌}
use Rattle.std.specs.List.{list_all, list_any}
use Rattle.vdr_entry.specs.Escape.{escaped}
use Rattle.vdr_entry.specs.Utc.{last_digits}
use Rattle.vdr_values.specs.declared.column.Column.{Column}
use Rattle.vdr_values.specs.declared.column.Item.{Item}
use Rattle.vdr_values.specs.declared.column.Item.TheVariants as items
use Rattle.vdr_values.specs.declared.column.Measure.{Measure}
use Rattle.vdr_values.specs.declared.column.Measure.TheVariants as measures
use Rattle.vdr_values.specs.declared.column.Validity.{Validity}
use Rattle.vdr_values.specs.declared.column.Validity.TheVariants as validities
use Rattle.vdr_values.specs.declared.column.Words.{Words}
use Rattle.vdr_values.specs.declared.column.Words.TheVariants as wordings
use Rattle.vdr_values.specs.Readings.{Reading}
use Rattle.vdr_values.specs.Texts.{fraction_text}
use Rattle.vdr_values.specs.Values.{Value, Number, Time, Angle, Digits, Letter, Raw, digits_in, letter_in, value_at}
use Rattle.vdr_rows.specs.declared.decimal.Decimal.{Decimal}
use Rattle.vdr_rows.specs.Decimals.{decimal_text, of_arc, of_count, of_millionths}
use Rattle.vdr_rows.specs.Names.{asserted_by, quantity_text, which_text}

-- A value of the table: which of several it is, its name, the number, its unit, whether the sentence says that it is valid, and a text. What says nothing
-- is empty.
pub record Said : Type 0 where
  pub item : List ℕ
  pub name : List ℕ
  pub number : Option Decimal
  pub measure : List ℕ
  pub valid : Option Bool
  pub words : List ℕ

abbrev pub Fields : Type 0
Fields = List (Option Value)

-- What the field of this number says, counted from 1.
abbrev pub field_in : Fields → (number : ℕ) → Option Value
field_in values number = value_at values (number - 1)

-- ---- which of several

-- A number, digits or a letter. Another field names nothing.
abbrev pub part_text : Option Value → List ℕ
part_text (Some (Number negative millionths)) = decimal_text (of_millionths negative millionths)
part_text (Some (Digits n)) = decimal n
part_text (Some (Letter letter)) = letter ∷ []
part_text _ = []

abbrev pub item_text : Fields → Item → List ℕ
item_text values items.Single = []
item_text values (items.Named which) = which_text which
item_text values (items.Told field) = part_text (field_in values field)
item_text values (items.Beside first second) = part_text (field_in values first) ++ part_text (field_in values second)
item_text values (items.Dotted first second) = part_text (field_in values first) ++ 46 ∷ part_text (field_in values second)

-- ---- the unit

-- Of a speed: K kilometres an hour, M metres a second, N knots, S statute miles an hour.
abbrev pub speed_unit : (letter : ℕ) → List ℕ
speed_unit letter =
    if letter == 75 then codes "km/h"
    else if letter == 77 then codes "m/s"
    else if letter == 78 then codes "kn"
    else if letter == 83 then codes "mph"
    else []

-- Of a distance: K kilometres, N nautical miles, S statute miles.
abbrev pub distance_unit : (letter : ℕ) → List ℕ
distance_unit letter = if letter == 75 then codes "km" else if letter == 78 then codes "nmi" else if letter == 83 then codes "mi" else []

-- Of what is demanded: P percent, R revolutions a minute, D degrees.
abbrev pub demand_unit : (letter : ℕ) → List ℕ
demand_unit letter = if letter == 80 then codes "%" else if letter == 82 then codes "1/min" else if letter == 68 then codes "deg" else []

abbrev pub by_letter : (ℕ → List ℕ) → Option ℕ → List ℕ
by_letter unit None = []
by_letter unit (Some letter) = unit letter

abbrev pub unit_text : Fields → Measure → List ℕ
unit_text values measures.Plain = []
unit_text values measures.Degrees = codes "deg"
unit_text values measures.DegreesAMinute = codes "deg/min"
unit_text values measures.ArcMinutes = codes "arcmin"
unit_text values measures.Metres = codes "m"
unit_text values measures.Feet = codes "ft"
unit_text values measures.Fathoms = codes "fathom"
unit_text values measures.NauticalMiles = codes "nmi"
unit_text values measures.Knots = codes "kn"
unit_text values measures.KilometresAnHour = codes "km/h"
unit_text values measures.MetresASecond = codes "m/s"
unit_text values measures.Revolutions = codes "1/min"
unit_text values measures.Percent = codes "%"
unit_text values measures.Seconds = codes "s"
unit_text values measures.Minutes = codes "min"
unit_text values measures.Celsius = codes "degC"
unit_text values (measures.SpeedBy field) = by_letter speed_unit (letter_in (field_in values field))
unit_text values (measures.DistanceBy field) = by_letter distance_unit (letter_in (field_in values field))
unit_text values (measures.DemandBy field) = by_letter demand_unit (letter_in (field_in values field))

-- ---- whether it is valid

-- The field says this letter or digit alone, bytes again and again.
abbrev pub says_only : (letter : ℕ) → Option Value → Bool
says_only letter (Some (Letter said)) = said == letter
says_only letter (Some (Digits n)) = n == letter - 48
says_only letter (Some (Raw bytes)) = not (length bytes == 0) && list_all (λ b. b == letter) bytes
says_only letter _ = false

-- A status A is valid, another is not.
abbrev pub valid_in : Fields → Validity → Option Bool
valid_in values validities.Untold = None
valid_in values (validities.Status field) = option_map (λ letter. letter == 65) (letter_in (field_in values field))
valid_in values (validities.Unless field letter) = Some (not (says_only letter (field_in values field)))

-- ---- the number

-- South, west and left.
abbrev pub is_opposite : (letter : ℕ) → Bool
is_opposite letter = letter == 83 || letter == 87 || letter == 76

-- Whether the letter of a field turns the sign. Nothing where it is empty.
abbrev pub turned : Fields → (toward : Option ℕ) → Option Bool
turned values None = Some false
turned values (Some field) = option_map is_opposite (letter_in (field_in values field))

abbrev pub sign_by : (turned negative : Bool) → Bool
sign_by turned negative = if turned then not negative else negative

-- The number that a field says: an angle in degrees, and of a letter 1 where it is one of these, else 0.
abbrev pub number_of : (asserts : List ℕ) (turned : Bool) → Value → Option Decimal
number_of asserts turned (Number negative millionths) = Some (of_millionths (sign_by turned negative) millionths)
number_of asserts turned (Angle degrees billionths) = Some (of_arc turned (60_000_000_000 * degrees + billionths))
number_of asserts turned (Digits n) = Some (of_count n)
number_of asserts turned (Letter letter) = Some (of_count (if list_any (λ b. b == letter) asserts then 1 else 0))
number_of asserts turned _ = None

-- None where its field is empty, or the one that says its sign.
abbrev pub number_in : Fields → Column → Option Decimal
number_in values c = option_and_then (λ turned. option_and_then (number_of (asserted_by c.asserts) turned) (field_in values c.field)) (turned values c.toward)

-- ---- the text

abbrev pub shown : Option Value → List ℕ
shown (Some (Raw bytes)) = escaped bytes
shown (Some (Letter letter)) = letter ∷ []
shown _ = []

-- YYYY-MM-DDThh:mm:ss and its fraction, UTC (ISO 8601).
abbrev pub clock_of : (day month year : Option ℕ) → (time : Option Value) → List ℕ
clock_of (Some day) (Some month) (Some year) (Some (Time hour minute second millionths)) =
    last_digits 4 year ++ codes "-" ++ last_digits 2 month ++ codes "-" ++ last_digits 2 day ++ codes "T" ++ last_digits 2 hour ++ codes ":" ++ last_digits 2 minute ++ codes ":" ++ last_digits 2 second
    ++ fraction_text 8 (100 * millionths)
    ++ codes "Z"
clock_of _ _ _ _ = []

abbrev pub words_in : Fields → Column → Words → List ℕ
words_in values c wordings.Silent = []
words_in values c (wordings.Of field) = shown (field_in values field)
words_in values c (wordings.Clock day month year) =
    clock_of (digits_in (field_in values day)) (digits_in (field_in values month)) (digits_in (field_in values year)) (field_in values c.field)

-- ---- the values

abbrev pub said_as : Fields → Column → Option Decimal → Said
said_as values c number = record {
  item = item_text values c.item;
  name = quantity_text c.quantity;
  number = number;
  measure = unit_text values c.measure;
  valid = valid_in values c.valid;
  words = words_in values c c.words;
}

abbrev pub is_clock : Words → Bool
is_clock wordings.Silent = false
is_clock (wordings.Of field) = false
is_clock (wordings.Clock day month year) = true

-- The value of a column: a clock where it is whole, another where its number is there.
abbrev pub said_by : Fields → Column → Option Said
said_by values c =
    if is_clock c.words
    then (if length (words_in values c c.words) == 0 then None else Some (said_as values c None))
    else option_map (λ number. said_as values c (Some number)) (number_in values c)

-- The values of a reading, in the order of its columns.
abbrev pub values_of : Reading → List Said
values_of r = filter_map (said_by r.values) r.row.columns

-- A sentence without a reading gives none.
abbrev pub values_where : Result (Option Reading) ℕ → List Said
values_where (Ok (Some r)) = values_of r
values_where (Ok None) = []
values_where (Err bad) = []
