-- The numbers that a sentence says, and where it says that its source is, for who shows them apart from each other.
use Rattle.std.specs.Prelude.{ℕ, ◌+◌, ◌*◌, ℤ, pos, neg_ℤ, Bool, ◌||◌, List, filter_map, Option, None, Some, option_map, if◌then◌else◌}
use Rattle.vdr_values.specs.declared.column.Column.{Column}
use Rattle.vdr_values.specs.declared.column.Quantity.{Quantity}
use Rattle.vdr_values.specs.Readings.{Reading}
use Rattle.vdr_rows.specs.declared.decimal.Decimal.{Decimal}
use Rattle.vdr_rows.specs.Fixes.{is_latitude, is_longitude, latitude_of, longitude_of}
use Rattle.vdr_rows.specs.Values.{Fields, Said, number_in, said_by, valid_in}

-- A value of the table that is a number.
pub record Numbered : Type 0 where
  pub item : List ℕ
  pub name : List ℕ
  pub number : Decimal
  pub measure : List ℕ
  pub valid : Option Bool

abbrev pub numbered : Option Said → Option Numbered
numbered None = None
numbered (Some s) = option_map (λ n. record { item = s.item; name = s.name; number = n; measure = s.measure; valid = s.valid }) s.number

abbrev pub is_position : Quantity → Bool
is_position quantity = is_latitude quantity || is_longitude quantity

-- The number of a column, where it is none of a position.
abbrev pub number_by : Fields → Column → Option Numbered
number_by values c = if is_position c.quantity then None else numbered (said_by values c)

-- The numbers of a reading, in the order of its columns.
abbrev pub numbers_of : Reading → List Numbered
numbers_of r = filter_map (number_by r.values) r.row.columns

-- Where a sentence says that its source is, valid or not.
pub record Position : Type 0 where
  pub latitude : Decimal
  pub longitude : Decimal
  pub valid : Option Bool

abbrev pub position_with : (valid : Option Bool) (latitude longitude : Option Decimal) → Option Position
position_with valid (Some latitude) (Some longitude) = Some (record { latitude = latitude; longitude = longitude; valid = valid })
position_with valid _ _ = None

abbrev pub position_by : Fields → (latitude longitude : Option Column) → Option Position
position_by values (Some latitude) (Some longitude) = position_with (valid_in values latitude.valid) (number_in values latitude) (number_in values longitude)
position_by values _ _ = None

-- By the columns `latitude` and `longitude` of its formatter, where both have a number.
abbrev pub position_of : Reading → Option Position
position_of r = position_by r.values (latitude_of r.row.columns) (longitude_of r.row.columns)

-- A number in hundred-millionths, by which numbers compare.
abbrev pub hundred_millionths_of : Decimal → ℤ
hundred_millionths_of d = if d.negative then neg_ℤ (pos (100_000_000 * d.whole + d.fraction)) else pos (100_000_000 * d.whole + d.fraction)
