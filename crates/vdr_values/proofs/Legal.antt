-- What was read is in the range of its form, and its text is not long.
use Rattle.std.proofs.Common.{◌≡◌, ◌≤◌, ◌+◌, ◌*◌, ℕ, zero, suc, Bool, true, false, cond, List, [], ◌∷◌, length, get_or, sum_by, option_and_then, option_map, Option, Some, None, Result, Ok, Err, refl, sym, ap, subst, arith}
use Rattle.std.specs.List.{list_all}
use Rattle.std.proofs.lemmas.Bool.{and_parts}
use Rattle.std.proofs.lemmas.List.Sums.{sum_by-cons}
use Rattle.vdr_values.specs.Values.{Value, value_at, Number, Time, Date, Angle, Digits, Letter, Raw}
use Rattle.vdr_values.specs.Forms.{Form, suits, if_suits, is_sound, spelled, form_value, field_value}
use Rattle.vdr_values.specs.Forms as kind
use Rattle.vdr_values.specs.Readings.{raw_size, read_along, suits_field, then_values}
use Rattle.vdr_values.specs.Texts.{field_text}
use Rattle.vdr_values.proofs.Along.{Values}
use Rattle.vdr_values.proofs.Sizes.{value-fits}

-- A value that a text spells in the range of its form.
record IsSpelled (form : Form) (text : List ℕ) (v : Value) : Type 0 where
  spelled : spelled form text ≡ Some v
  suits : suits form v ≡ true

IsSpelled-from_value : (form : Form) (text : List ℕ) (v : Value) → form_value form text ≡ Some v → IsSpelled form text v
IsSpelled-from_value form text v h = by_text (spelled form text) refl h
  where
    by_test : (w : Value) (t : Bool) → spelled form text ≡ Some w → suits form w ≡ t → cond t (Some w) None ≡ Some v → IsSpelled form text v
    by_test w true said e h = let same : w ≡ v = cc in subst (IsSpelled form text) same (record { spelled = said; suits = e })
    by_test w false said e h = absurd (cc)

    by_text : (o : Option Value) → spelled form text ≡ o → option_and_then (if_suits form) o ≡ Some v → IsSpelled form text v
    by_text None e h = absurd (cc)
    by_text (Some w) e h = by_test w (suits form w) e refl h

-- Only raw fields have raw bytes, those of the text.
raw-within : (form : Form) (text : List ℕ) (v : Value) → IsSpelled form text v → raw_size (Some v) ≤ length text
raw-within kind.Raw text (Raw bytes) h = let same : text ≡ bytes = cc (h.spelled) in omega (arith, ap length same)
raw-within kind.Number text (Raw bytes) h = absurd (cc (h.suits))
raw-within (kind.Whole greatest) text (Raw bytes) h = absurd (cc (h.suits))
raw-within kind.Time text (Raw bytes) h = absurd (cc (h.suits))
raw-within kind.Date text (Raw bytes) h = absurd (cc (h.suits))
raw-within (kind.Angle digits greatest places) text (Raw bytes) h = absurd (cc (h.suits))
raw-within (kind.Digits most least greatest) text (Raw bytes) h = absurd (cc (h.suits))
raw-within (kind.Letter letters) text (Raw bytes) h = absurd (cc (h.suits))
raw-within _ text (Number negative n) h = omega arith
raw-within _ text (Time hour minute second n) h = omega arith
raw-within _ text (Date year month day) h = omega arith
raw-within _ text (Angle degrees n) h = omega arith
raw-within _ text (Digits n) h = omega arith
raw-within _ text (Letter b) h = omega arith

abbrev pub text_size : Option Value → ℕ
text_size value = length (field_text value)

-- A field with the comma before it.
abbrev pub part_size : List ℕ → ℕ
part_size field = length field + 1

-- What a field says that is in its form.
record IsSaid (form : Form) (field : List ℕ) (value : Option Value) : Type 0 where
  suits : suits_field form value ≡ true
  raw : raw_size value ≤ part_size field
  text : text_size value ≤ 4 * part_size field

said-some : (form : Form) (text : List ℕ) (o : Option Value) (value : Option Value) → is_sound form ≡ true → form_value form text ≡ o → option_map Some o ≡ Some value → IsSaid form text value
said-some form text None value sound e h = absurd (cc)
said-some form text (Some v) None sound e h = absurd (cc)
said-some form text (Some v) (Some w) sound e h =
    let same : v ≡ w = cc in
    let s = IsSpelled-from_value form text v e in
    subst (λ x. IsSaid form text (Some x)) same (record { suits = s.suits; raw = omega (arith, raw-within form text v s); text = omega (arith, value-fits form text v sound s.spelled s.suits) })

IsSaid-from_value : (form : Form) (field : List ℕ) (value : Option Value) → is_sound form ≡ true → field_value form field ≡ Some value → IsSaid form field value
IsSaid-from_value form [] None sound h = record { suits = refl; raw = omega arith; text = omega arith }
IsSaid-from_value form [] (Some v) sound h = absurd (cc)
IsSaid-from_value form (b ∷ text) value sound h = said-some form (b ∷ text) (form_value form (b ∷ text)) value sound refl h

-- The values that were read.
pub record AreSaid (forms : List Form) (fields : List (List ℕ)) (values : Values) : Type 0 where
  pub counted : length values ≡ length forms
  pub suits : (k : ℕ) → suits_field (get_or forms k kind.Raw) (value_at values k) ≡ true
  pub raw : sum_by raw_size values ≤ sum_by part_size fields
  pub text : sum_by text_size values ≤ 4 * sum_by part_size fields
  pub few : length values ≤ sum_by part_size fields

pub record IsThen (v : Option (Option Value)) (later : Result Values ℕ) (values : Values) : Type 0 where
  pub value : Option Value
  pub rest : Values
  pub first : v ≡ Some value
  pub others : later ≡ Ok rest
  pub joined : values ≡ value ∷ rest

pub then_values-ok : (n : ℕ) (v : Option (Option Value)) (later : Result Values ℕ) (values : Values) → then_values n v later ≡ Ok values → IsThen v later values
then_values-ok n None later values h = absurd (cc)
then_values-ok n (Some value) (Err bad) values h = absurd (cc)
then_values-ok n (Some value) (Ok rest) values h = record { value = value; rest = rest; first = refl; others = refl; joined = cc }

pub AreSaid-read : (forms : List Form) (n : ℕ) (fields : List (List ℕ)) (values : Values) → list_all is_sound forms ≡ true → read_along forms n fields ≡ Ok values → AreSaid forms fields values
AreSaid-read [] n fields [] sound h = record { counted = refl; suits = λ k. refl; raw = omega arith; text = omega arith; few = omega arith }
AreSaid-read [] n fields (v ∷ values) sound h = absurd (cc)
AreSaid-read (form ∷ forms) n [] values sound h = absurd (cc)
AreSaid-read (form ∷ forms) n (field ∷ fields) values sound h =
    let parts = then_values-ok n (field_value form field) (read_along forms (n + 1) fields) values h in
    let sounds = and_parts _ _ sound in
    let first = IsSaid-from_value form field parts.value sounds.0 parts.first in
    let others = AreSaid-read forms (n + 1) fields parts.rest sounds.1 parts.others in
    subst (λ vs. AreSaid (form ∷ forms) (field ∷ fields) vs) (sym parts.joined)
    (record {
      counted = ap suc others.counted;
      suits = λ k. at parts.value parts.rest first.suits others.suits k;
      raw = omega (arith, first.raw, others.raw, sum_by-cons raw_size parts.value parts.rest, sum_by-cons part_size field fields);
      text = omega (arith, first.text, others.text, sum_by-cons text_size parts.value parts.rest, sum_by-cons part_size field fields);
      few = omega (arith, others.few, sum_by-cons part_size field fields);
    })
  where
    at : (value : Option Value) (rest : Values) → suits_field form value ≡ true → ((k : ℕ) → suits_field (get_or forms k kind.Raw) (value_at rest k) ≡ true) → (k : ℕ)
        → suits_field (get_or (form ∷ forms) k kind.Raw) (value_at (value ∷ rest) k) ≡ true
    at value rest first later zero = first
    at value rest first later (suc k) = later k
