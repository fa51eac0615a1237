-- The values that the sentences of a formatter give a table of values (this project's profile): the columns of a row, as its type has them. Fields are
-- counted from 1, those of groups behind the others.
use Rattle.std.specs.Prelude.{ℕ, None}
use Rattle.vdr_values.specs.declared.column.Column.{Column}
use Rattle.vdr_values.specs.declared.column.Quantity.TheVariants as quantities
use Rattle.vdr_values.specs.declared.column.Item.TheVariants as items
use Rattle.vdr_values.specs.declared.column.Measure.TheVariants as measures
use Rattle.vdr_values.specs.declared.column.Asserts.TheVariants as letters
use Rattle.vdr_values.specs.declared.column.Validity.TheVariants as validities
use Rattle.vdr_values.specs.declared.column.Words.TheVariants as wordings

-- What columns have that say no other.
abbrev pub bare : Column
bare = record {
  quantity = quantities.Heading;
  item = items.Single;
  measure = measures.Plain;
  field = 1;
  toward = None;
  asserts = letters.Yes;
  valid = validities.Untold;
  words = wordings.Silent;
}

-- The letters and the digit that say that a value is not valid: V, N for no fix, 0 for no quality, L for a target that is lost.
abbrev pub not_valid : ℕ
not_valid = 86

abbrev pub no_fix : ℕ
no_fix = 78

abbrev pub no_quality : ℕ
no_quality = 48

abbrev pub lost : ℕ
lost = 76
