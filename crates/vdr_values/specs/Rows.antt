-- What a row of the table of sentences says, and which fields of a sentence are read by it.
use Rattle.std.specs.Prelude.{ℕ, ◌+◌, ◌-◌, ◌*◌, ◌%◌, ◌==◌, Bool, ◌&&◌, min, nat_le, nat_lt, List, [], length, map, slice_index_or, codes, if◌then◌else◌}
use Rattle.std.specs.List.{list_all, list_any, range_with_len}
use Rattle.vdr_values.specs.declared.column.Column.{Column}
use Rattle.vdr_values.specs.Forms.{Form, Angle, Digits, Letter, Raw, is_sound}

-- A formatter's three characters; the forms of its fields, in order; the shorter counts of fields that are legal too, those of older editions;
-- and its text, in which a digit from 1 on stands for what the field of this number says, `A` for the tenth, `B` for the next, and any other byte
-- for itself. Fields of the group may follow, again and again, and are printed in their order. The columns are the values that it gives a table.
pub record Row : Type 0 where
  pub formatter : List ℕ
  pub fields : List Form
  pub shorter : List ℕ
  pub text : List ℕ
  pub group : List Form
  pub columns : List Column

-- What rows have that say no other.
abbrev pub plain : Row
plain = record { formatter = []; fields = []; shorter = []; text = []; group = []; columns = [] }

-- So many fields, or the next number of them that makes the groups behind the first ones whole. There is one group at least.
abbrev pub whole_groups : (first group count : ℕ) → ℕ
whole_groups first group count = if nat_le count first then first + group else count + (group - 1 - (count - first - 1) % group)

abbrev pub with_groups : (first group count : ℕ) → ℕ
with_groups first group count = if group == 0 then first else min (first + 30 * group) (whole_groups first group count)

-- How many fields are read of a sentence that has so many: those of the row, or as many as there are where this is a shorter count. A group stands
-- thirty times at most. One that is cut is read too, so that its first missing field is refused.
abbrev pub wanted : Row → (count : ℕ) → ℕ
wanted row count = if list_any (λ n. n == count) row.shorter then count else with_groups (length row.fields) (length row.group) count

-- The form of the field at this index, counted from 0.
abbrev pub form_at : Row → (index : ℕ) → Form
form_at row index = if nat_lt index (length row.fields) then slice_index_or row.fields index Raw else slice_index_or row.group ((index - length row.fields) % length row.group) Raw

-- The forms of the fields that are read of a sentence that has so many.
abbrev pub forms_of : Row → (count : ℕ) → List Form
forms_of row count = map (form_at row) (range_with_len 0 (wanted row count))

-- What each row of the table keeps.
abbrev pub is_fit : Row → Bool
is_fit row = list_all is_sound row.fields && list_all is_sound row.group && nat_le (length row.fields) 20 && nat_le (length row.group) 9

-- Degrees with minutes that have six digits behind their point, and nine as receivers give them today.
abbrev pub latitude : Form
latitude = Angle 2 90 6

abbrev pub longitude : Form
longitude = Angle 3 180 6

abbrev pub fine_latitude : Form
fine_latitude = Angle 2 90 9

abbrev pub fine_longitude : Form
fine_longitude = Angle 3 180 9

-- A: valid, active or in order. V: not.
abbrev pub status : Form
status = Letter (codes "AV")

abbrev pub capital : Form
capital = Letter (codes "ABCDEFGHIJKLMNOPQRSTUVWXYZ")

abbrev pub digit : Form
digit = Digits 1 0 9
