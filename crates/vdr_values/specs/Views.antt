-- What contracts see of values, forms and rows.
use Rattle.std.specs.Prelude.{◌≡◌, ℕ, Bool, List, Option, Result, Ok, Err, map, option_map}
use Rattle.vdr_values.specs.declared.value.Num.{Num}
use Rattle.vdr_values.specs.declared.value.Time.{Time}
use Rattle.vdr_values.specs.declared.value.Date.{Date}
use Rattle.vdr_values.specs.declared.value.Angle.{Angle}
use Rattle.vdr_values.specs.declared.value.Value.{Value}
use Rattle.vdr_values.specs.declared.value.Value.TheVariants as is
use Rattle.vdr_values.specs.declared.bad.BadField.{BadField}
use Rattle.vdr_values.specs.declared.form.Form.{Form}
use Rattle.vdr_values.specs.declared.form.Form.TheVariants as form
use Rattle.vdr_values.specs.declared.row.Row.{Row}
use Rattle.vdr_values.specs.Values as values
use Rattle.vdr_values.specs.Forms as forms
use Rattle.vdr_values.specs.Rows as rows

abbrev pub number_value : Num → values.Value
number_value n = values.Number n.negative n.millionths

abbrev pub time_value : Time → values.Value
time_value t = values.Time t.hour t.minute t.second t.millionths

abbrev pub date_value : Date → values.Value
date_value d = values.Date d.year d.month d.day

abbrev pub angle_value : Angle → values.Value
angle_value a = values.Angle a.degrees a.billionths

abbrev pub value_of : Value → values.Value
value_of (is.Number n) = number_value n
value_of (is.Time t) = time_value t
value_of (is.Date d) = date_value d
value_of (is.Angle a) = angle_value a
value_of (is.Digits n) = values.Digits n
value_of (is.Letter b) = values.Letter b
value_of (is.Raw bytes) = values.Raw bytes.now

abbrev pub values_of : List (Option Value) → List (Option values.Value)
values_of = map (option_map value_of)

-- What a call answered, seen by this view, is what is read.
abbrev pub Gives : {X Y : Type 0} → (X → Y) → Result X BadField → Result Y ℕ → Type 0
Gives view (Ok x) read = read ≡ Ok (view x)
Gives view (Err bad) read = read ≡ Err bad.field

abbrev pub form_of : Form → forms.Form
form_of form.Number = forms.Number
form_of (form.Whole greatest) = forms.Whole greatest
form_of form.Time = forms.Time
form_of form.Date = forms.Date
form_of (form.Angle digits greatest places) = forms.Angle digits greatest places
form_of (form.Digits most least greatest) = forms.Digits most least greatest
form_of (form.Letter letters) = forms.Letter letters.now
form_of form.Raw = forms.Raw

abbrev pub row_of : Row → rows.Row
row_of r = record {
  formatter = r.formatter.now;
  fields = map form_of r.fields.now;
  shorter = r.shorter.now;
  text = r.text.now;
  group = map form_of r.group.now;
  columns = r.columns.now;
}

-- A number's sign, and its millionths.
abbrev pub sign_and_size : Num → Bool × ℕ
sign_and_size n = (n.negative, n.millionths)
