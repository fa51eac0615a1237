-- What readings keep.
use Rattle.std.specs.Prelude.{◌≡◌, ℕ, ◌≤◌, true, length, sum_by, Some}
use Rattle.vdr_values.specs.Values.{value_at}
use Rattle.vdr_values.specs.Rows.{form_at}
use Rattle.vdr_values.specs.Table.{row_named}
use Rattle.vdr_values.specs.Readings.{Reading, raw_size, suits_field}
use Rattle.vdr_values.specs.Texts.{reading_text}

-- Its row is that of the table, each value is in the range of its form, the raw fields have at most 76 bytes together, as many as a content, and its
-- text has at most 400.
pub record IsLegal (r : Reading) : Type 0 where
  pub known : row_named r.row.formatter ≡ Some r.row
  pub suits : (index : ℕ) → suits_field (form_at r.row index) (value_at r.values index) ≡ true
  pub raw : sum_by raw_size r.values ≤ 76
  pub short : length (reading_text r) ≤ 400
