-- What holds of the table of values.
use Rattle.std.specs.Prelude.{◌≡◌, ◌≤◌, ◌<◌, ◌+◌, ◌*◌, ◌^◌, ℕ, nat_le, Bool, true, false, not, ◌&&◌, ◌==◌, List, [], ◌∷◌, ◌++◌, decimal, sum_by, Option, Some, None, ⊤, if◌then◌else◌}
use Rattle.std.specs.List.{list_all}
use Rattle.vdr_terms.specs.declared.counts.Counts.{Counts}
use Rattle.vdr_terms.specs.Records.{Record, total}
use Rattle.vdr_terms.specs.Records.Content.{Gap}
use Rattle.vdr_entry.specs.Utc.{utc_text}
use Rattle.vdr_visit.specs.Prints.{whole_text}
use Rattle.vdr_ais.specs.Lines.{Line}
use Rattle.vdr_rows.specs.declared.decimal.Decimal.{Decimal}
use Rattle.vdr_rows.specs.Decimals.{decimal_text, hundred_millionths_in, is_negative, nearest, of_arc}
use Rattle.vdr_rows.specs.Texts.{Row, row_text}
use Rattle.vdr_rows.specs.Tables.{content_rows, last_lines, line_at, rows_behind, table_text}

-- What is printed of records as they come is their table.
abbrev pub TableIsPrinted : Type 0
TableIsPrinted = (records : List Record) → whole_text line_at last_lines records ≡ table_text records

-- ---- degrees

-- A decimal number without its sign, in hundred-millionths.
abbrev pub size_of : Decimal → ℕ
size_of d = 100_000_000 * d.whole + d.fraction

-- A decimal number reads back from its text.
pub record ReadsBack (d : Decimal) : Type 0 where
  pub size : hundred_millionths_in (decimal_text d) ≡ size_of d
  pub sign : is_negative (decimal_text d) ≡ (d.negative && not ((d.whole == 0) && (d.fraction == 0)))

-- Degrees differ from the field's minutes by at most half of the last place, which has 600 billionths of a minute, and have its sign. Their text says
-- them, so it reads back to the same ten-thousandth of a minute.
pub record DegreesAreNear : Type 0 where
  pub above : (negative : Bool) (billionths : ℕ) → 600 * size_of (of_arc negative billionths) ≤ billionths + 300
  pub below : (negative : Bool) (billionths : ℕ) → billionths ≤ 600 * size_of (of_arc negative billionths) + 300
  pub away : (negative : Bool) (billionths : ℕ) → 600 * size_of (of_arc negative billionths) + 300 ≡ billionths → ⊥
  pub sign : (negative : Bool) (billionths : ℕ) → (of_arc negative billionths).negative ≡ negative
  pub places : (negative : Bool) (billionths : ℕ) → (of_arc negative billionths).fraction < 100_000_000
  pub back : (negative : Bool) (ten_thousandths : ℕ) → nearest (6 * size_of (of_arc negative (100_000 * ten_thousandths))) 1000 ≡ ten_thousandths
  pub read : (d : Decimal) → d.whole < 2 ^ 64 → d.fraction < 100_000_000 → ReadsBack d
  pub text : (negative : Bool) (ten_thousandths : ℕ) → ten_thousandths < 2 ^ 31
      → nearest (6 * hundred_millionths_in (decimal_text (of_arc negative (100_000 * ten_thousandths)))) 1000 ≡ ten_thousandths

-- ---- rows

-- Each row is one of the record: it has its stamp and its place.
abbrev pub AreOf : Record → List Row → Type 0
AreOf r [] = ⊤
AreOf r (row ∷ rows) = (row.heading.utc ≡ utc_text r.utc) × (row.heading.place ≡ decimal r.place) × AreOf r rows

-- Those of each record, in the order of the records.
abbrev pub AreInOrder : List Record → List Row → Type 0
AreInOrder [] rows = rows ≡ []
AreInOrder (r ∷ records) rows = (own others : List Row) × (rows ≡ own ++ others) × AreOf r own × AreInOrder records others

-- What rows count together.
abbrev pub count_in : Option Decimal → ℕ
count_in None = 0
count_in (Some d) = d.whole

abbrev pub counted : List Row → ℕ
counted rows = sum_by (λ (row : Row). count_in row.said.number) rows

pub record RowsAreTold : Type 0 where
  pub placed : (records : List Record) → AreInOrder records (rows_behind [] records)
  pub missed : (back : List Line) (r : Record) (counts : Counts) → counted (content_rows back r (Gap counts)) ≡ total counts

-- ---- fields

-- The commas of a text that stand outside of quotes.
abbrev pub commas : (inside : Bool) → List ℕ → ℕ
commas inside [] = 0
commas inside (b ∷ text) = if b == 34 then commas (not inside) text else (if (b == 44) && not inside then 1 else 0) + commas inside text

-- No control character of ASCII.
abbrev pub is_printed : List ℕ → Bool
is_printed text = list_all (λ b. nat_le 0x20 b) text

-- Eleven fields (RFC 4180): ten commas outside of quotes, of which none is left open, whatever stands behind; and LF at the end, behind no other
-- control character.
pub record IsLine (text : List ℕ) : Type 0 where
  pub fields : (behind : List ℕ) → commas false (text ++ behind) ≡ 10 + commas false behind
  pub front : List ℕ
  pub ended : text ≡ front ++ 10 ∷ []
  pub printed : is_printed front ≡ true

abbrev pub AreLines : List Row → Type 0
AreLines [] = ⊤
AreLines (row ∷ rows) = IsLine (row_text row.heading row.said) × AreLines rows

-- So are the rows of all records, whatever bytes were recorded.
abbrev pub FieldsAreEleven : Type 0
FieldsAreEleven = (records : List Record) → AreLines (rows_behind [] records)
