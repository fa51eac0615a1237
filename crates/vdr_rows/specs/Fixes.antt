-- Where a line says that its source is.
use Rattle.std.specs.Prelude.{◌≡◌, ℕ, Bool, true, false, List, [], ◌∷◌, Option, Some, None, unwrap_or, Result, Ok, Err, codes, find, ⊤}
use Rattle.vdr_values.specs.declared.column.Column.{Column}
use Rattle.vdr_values.specs.declared.column.Quantity.{Quantity}
use Rattle.vdr_values.specs.declared.column.Quantity.TheVariants.{Latitude, Longitude}
use Rattle.vdr_values.specs.Readings.{Reading, reading}
use Rattle.vdr_datagram.specs.Verdicts.{LineReading, LineSpan}
use Rattle.vdr_datagram.specs.Verdicts.LineReading.{Good, Tag, Sentence}
use Rattle.vdr_rows.specs.declared.decimal.Decimal.{Decimal}
use Rattle.vdr_rows.specs.declared.fix.Fix.{Fix}
use Rattle.vdr_rows.specs.declared.fix.Fix.TheVariants.{Unsaid, Lost, At}
use Rattle.vdr_rows.specs.Values.{Fields, number_in, valid_in}

-- The source of a line that is not refused, `-` where it names none.
abbrev pub source_of : LineReading → Option (List ℕ)
source_of (Good tags sentence) = Some (unwrap_or tags.source (codes "-"))
source_of (Tag bad) = None
source_of (Sentence tags bad) = None

abbrev pub is_latitude : Quantity → Bool
is_latitude Latitude = true
is_latitude _ = false

abbrev pub is_longitude : Quantity → Bool
is_longitude Longitude = true
is_longitude _ = false

abbrev pub latitude_of : List Column → Option Column
latitude_of columns = find (λ c. is_latitude c.quantity) columns

abbrev pub longitude_of : List Column → Option Column
longitude_of columns = find (λ c. is_longitude c.quantity) columns

-- A position that is valid, with both of its numbers.
abbrev pub fix_with : (valid : Option Bool) (latitude longitude : Option Decimal) → Fix
fix_with (Some true) (Some latitude) (Some longitude) = At latitude longitude
fix_with _ _ _ = Lost

-- By the columns `latitude` and `longitude` of the formatter. One without them says nothing of a position.
abbrev pub fix_by : Fields → (latitude longitude : Option Column) → Fix
fix_by values (Some latitude) (Some longitude) = fix_with (valid_in values latitude.valid) (number_in values latitude) (number_in values longitude)
fix_by values _ _ = Unsaid

abbrev pub fix_said : Reading → Fix
fix_said r = fix_by r.values (latitude_of r.row.columns) (longitude_of r.row.columns)

abbrev pub fix_where : Result (Option Reading) ℕ → Fix
fix_where (Ok (Some r)) = fix_said r
fix_where (Ok None) = Unsaid
fix_where (Err bad) = Unsaid

-- What a line says of where its source is. A line that is refused, or whose fields are, says nothing.
abbrev pub fix_in : LineReading → Fix
fix_in (Good tags sentence) = fix_where (reading sentence.content)
fix_in (Tag bad) = Unsaid
fix_in (Sentence tags bad) = Unsaid

-- No line says anything of a position.
abbrev pub AreUnsaid : List LineSpan → Type 0
AreUnsaid [] = ⊤
AreUnsaid (span ∷ spans) = (fix_in span.verdict ≡ Unsaid) × AreUnsaid spans
