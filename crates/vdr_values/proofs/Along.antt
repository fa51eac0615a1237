-- Reading fields one after the other, as a loop does.
use Rattle.std.proofs.Common.{◌≡◌, ◌≤◌, ◌<◌, ◌+◌, ◌∙◌, ℕ, suc, List, [], ◌∷◌, ◌++◌, length, map, drop, get_or, Option, Some, None, Result, Ok, Err, refl, sym, ap, subst, arith, append_assoc, add-one, drop-cons, length-append}
use Rattle.std.specs.List.{range_with_len}
use Rattle.std.proofs.Math.ListN.{get_or-map}
use Rattle.std.proofs.lemmas.List.{append-nil, at_drop_all, length-map}
use Rattle.std.proofs.lemmas.List.FromFn.{get_or-range_with_len, length-range_with_len}
use Rattle.vdr_values.specs.Values.{Value}
use Rattle.vdr_values.specs.Forms.{Form, field_value}
use Rattle.vdr_values.specs.Rows.{Row, form_at, forms_of, wanted}
use Rattle.vdr_values.specs.Readings.{read_along, then_values}

abbrev pub Values : Type 0
Values = List (Option Value)

abbrev pub with_front : Values → Result Values ℕ → Result Values ℕ
with_front front (Ok values) = Ok (front ++ values)
with_front front (Err bad) = Err bad

-- The first i fields have the first i forms and say these values, and these fields are left.
pub record HasRead (forms : List Form) (fields : List (List ℕ)) (i : ℕ) (values : Values) (left : List (List ℕ)) : Type 0 where
  pub counted : length values ≡ i
  pub left_are : i + length left ≡ length fields
  pub so_far : with_front values (read_along (drop i forms) (i + 1) left) ≡ read_along forms 1 fields

with_front-none : (read : Result Values ℕ) → with_front [] read ≡ read
with_front-none (Ok values) = refl
with_front-none (Err bad) = refl

pub HasRead-start : (forms : List Form) (fields left : List (List ℕ)) → fields ≡ left → HasRead forms fields 0 [] left
HasRead-start forms fields left same = record { counted = refl; left_are = omega (arith, ap length same); so_far = with_front-none (read_along forms 1 left) ∙ ap (read_along forms 1) (sym same) }

-- The form at i, and those behind it.
abbrev pub StandsAt : List Form → ℕ → Form → Type 0
StandsAt forms i form = drop i forms ≡ form ∷ drop (i + 1) forms

form-at : {A : Type 0} (f : A → Form) (xs : List A) (i : ℕ) (d : A) → i < length xs → StandsAt (map f xs) i (f (get_or xs i d))
form-at f xs i d inside =
    let within : i < length (map f xs) = omega (arith, length-map xs f) in
    rw (add-one, drop-cons (map f xs) i (f d)) (ap (λ x. x ∷ drop (suc i) (map f xs)) (get_or-map f xs i d))

pub form-here : (row : Row) (count i : ℕ) → i < wanted row count → StandsAt (forms_of row count) i (form_at row i)
form-here row count i inside =
    let places : List ℕ = range_with_len 0 (wanted row count) in
    let long : i < length places = omega (arith, length-range_with_len 0 (wanted row count), inside) in
    let here : get_or places i 0 ≡ i = omega (arith, get_or-range_with_len 0 (wanted row count) i 0 inside) in
    subst (λ k. StandsAt (forms_of row count) i (form_at row k)) here (form-at (form_at row) places i 0 long)

pub HasRead-missing : (forms : List Form) (fields : List (List ℕ)) (i : ℕ) (values : Values) (form : Form) → StandsAt forms i form → HasRead forms fields i values [] → read_along forms 1 fields ≡ Err (i + 1)
HasRead-missing forms fields i values form at h = sym h.so_far ∙ ap (λ fs. with_front values (read_along fs (i + 1) [])) at

pub HasRead-refused : (forms : List Form) (fields left : List (List ℕ)) (i : ℕ) (values : Values) (form : Form) (field : List ℕ) → StandsAt forms i form → HasRead forms fields i values (field ∷ left)
    → field_value form field ≡ None → read_along forms 1 fields ≡ Err (i + 1)
HasRead-refused forms fields left i values form field at h bad =
    sym h.so_far ∙ ap (λ fs. with_front values (read_along fs (i + 1) (field ∷ left))) at
    ∙ ap (λ v. with_front values (then_values (i + 1) v (read_along (drop (i + 1) forms) (i + 1 + 1) left))) bad

then_values-front : (front : Values) (n : ℕ) (value : Option Value) (later : Result Values ℕ) → with_front front (then_values n (Some value) later) ≡ with_front (front ++ value ∷ []) later
then_values-front front n value (Ok values) = ap Ok (sym (append_assoc front (value ∷ []) values))
then_values-front front n value (Err bad) = refl

pub HasRead-more : (forms : List Form) (fields left : List (List ℕ)) (i : ℕ) (values : Values) (form : Form) (field : List ℕ) (value : Option Value) → StandsAt forms i form → HasRead forms fields i values (field ∷ left)
    → field_value form field ≡ Some value → HasRead forms fields (i + 1) (values ++ value ∷ []) left
HasRead-more forms fields left i values form field value at h said = record {
  counted = omega (arith, h.counted, length-append values (value ∷ []));
  left_are = omega (arith, h.left_are);
  so_far =
      sym (then_values-front values (i + 1) value (read_along (drop (i + 1) forms) (i + 1 + 1) left))
      ∙ sym (ap (λ fs. with_front values (read_along fs (i + 1) (field ∷ left))) at ∙ ap (λ v. with_front values (then_values (i + 1) v (read_along (drop (i + 1) forms) (i + 1 + 1) left))) said)
      ∙ h.so_far;
}

pub length-forms_of : (row : Row) (count : ℕ) → length (forms_of row count) ≡ wanted row count
length-forms_of row count = length-map (range_with_len 0 (wanted row count)) (form_at row) ∙ length-range_with_len 0 (wanted row count)

pub HasRead-all : (forms : List Form) (fields left : List (List ℕ)) (i : ℕ) (values : Values) → length forms ≤ i → HasRead forms fields i values left → read_along forms 1 fields ≡ Ok values
HasRead-all forms fields left i values past h =
    sym h.so_far ∙ at_drop_all (λ fs. with_front values (read_along fs (i + 1) left)) forms i past ∙ ap Ok (append-nil values)
