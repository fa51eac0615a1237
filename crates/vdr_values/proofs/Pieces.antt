-- Text that is printed piece by piece.
use Rattle.std.proofs.Common.{◌≡◌, ◌≤◌, ◌<◌, ◌+◌, ◌∙◌, ℕ, zero, suc, List, [], ◌∷◌, ◌++◌, Option, option_map, length, take, drop, get_or, refl, sym, ap, arith, length-append}
use Rattle.std.specs.List.{flat_map}
use Rattle.std.proofs.lemmas.List.{take-append-drop, drop_more, length-map}
use Rattle.std.proofs.lemmas.List.Concat.{flat_map-append, flat_map-cons}
use Rattle.vdr_values.specs.declared.row.Row.{Row}
use Rattle.vdr_values.specs.declared.value.Value.{Value}
use Rattle.vdr_values.specs.Readings.{told}
use Rattle.vdr_values.specs.Texts.{field_text, group_text, reading_text, text_along}
use Rattle.vdr_values.specs.Views.{form_of, row_of, value_of, values_of}

-- The piece at i has room where the whole has.
pub room-at : (f : ℕ → List ℕ) (xs : List ℕ) (i : ℕ) → i < length xs → length (flat_map f (take i xs)) + length (f (get_or xs i 0)) ≤ length (flat_map f xs)
room-at f xs i inside =
    let split : flat_map f xs ≡ flat_map f (take i xs) ++ flat_map f (drop i xs) = ap (flat_map f) (sym (take-append-drop i xs)) ∙ flat_map-append f (take i xs) (drop i xs) in
    let first : flat_map f (drop i xs) ≡ f (get_or xs i 0) ++ flat_map f (drop (i + 1) xs) = ap (flat_map f) (drop_more xs i 0 inside) ∙ flat_map-cons f (get_or xs i 0) (drop (i + 1) xs) in
    omega (arith, ap length split, ap length first, length-append (flat_map f (take i xs)) (flat_map f (drop i xs)), length-append (f (get_or xs i 0)) (flat_map f (drop (i + 1) xs)))

pub group-room : (values : List (Option Value)) (i : ℕ) (d : Option Value) → i < length values
    → length (group_text (values_of (take i values))) + 1 + length (field_text (option_map value_of (get_or values i d))) ≤ length (group_text (values_of values))
group-room [] i d inside = absurd (omega (arith, inside))
group-room (value ∷ values) zero d inside = omega (arith, length-append (32 ∷ field_text (option_map value_of value)) (group_text (values_of values)))
group-room (value ∷ values) (suc i) d inside =
    omega (
      arith,
      group-room values i d (omega (arith, inside)),
      length-append (32 ∷ field_text (option_map value_of value)) (group_text (values_of (take i values))),
      length-append (32 ∷ field_text (option_map value_of value)) (group_text (values_of values)),
    )

values-drop : (n : ℕ) (values : List (Option Value)) → values_of (drop n values) ≡ drop n (values_of values)
values-drop zero values = refl
values-drop (suc n) [] = refl
values-drop (suc n) (value ∷ values) = values-drop n values

-- The text of a reading, by what the program keeps.
pub reading_text-kept : (row : Row) (values : List (Option Value))
    → reading_text (told (row_of row) (values_of values)) ≡ text_along row.text.now (values_of values) ++ group_text (values_of (drop (length row.fields.now) values))
unfolding reading_text
reading_text-kept row values =
    let n : length (row_of row).fields ≡ length row.fields.now = length-map row.fields.now form_of in
    ap (λ k. text_along row.text.now (values_of values) ++ group_text (drop k (values_of values))) n
    ∙ ap (λ vs. text_along row.text.now (values_of values) ++ group_text vs) (sym (values-drop (length row.fields.now) values))
