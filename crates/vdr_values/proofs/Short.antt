-- The text of what was read has at most 400 bytes.
use Rattle.std.proofs.Common.{◌≡◌, ◌≤◌, ◌+◌, ◌-◌, ◌*◌, ◌%◌, ◌∙◌, ℕ, zero, suc, Bool, true, false, cond, not, ◌&&◌, ◌||◌, min, List, [], ◌∷◌, length, take, drop, map, get_or, sum_by, Some, None, Ok, refl, sym, ap, subst, arith, length-append, length-drop, eqb, leb, inl, inr, ◌⊎◌}
use Rattle.std.specs.List.{list_all, list_any, onto_first, position_or_len, range_with_len}
use Rattle.std.proofs.lemmas.Bool.{and_parts, eqb-true, eqb-false, leb-true, leb-false}
use Rattle.std.proofs.lemmas.List.Folds.{length-prefix_len}
use Rattle.std.proofs.lemmas.List.FromFn.{get_or-map-range_with_len}
use Rattle.std.proofs.lemmas.List.Sums.{sum_by-cons}
use Rattle.vdr_sentence.specs.Addresses.{address_of}
use Rattle.vdr_sentence.specs.Fields.{fields}
use Rattle.vdr_values.specs.Values.{value_at}
use Rattle.vdr_values.specs.Forms.{Raw}
use Rattle.vdr_values.specs.Legality.{IsLegal}
use Rattle.vdr_values.specs.Readings.{fields_behind, fields_of, raw_size, read_by, suits_field, told}
use Rattle.vdr_values.specs.Rows.{Row, is_fit, form_at, forms_of, wanted, whole_groups, with_groups}
use Rattle.vdr_values.specs.Table.{row_for, row_named}
use Rattle.vdr_values.specs.Texts.{group_text, reading_text, text_along}
use Rattle.vdr_values.proofs.Along.{Values, length-forms_of}
use Rattle.vdr_values.proofs.Costs.{cost_in, cost-once, in_all-values, is_once, length-group_text, length-text_along, sum-parts, words}
use Rattle.vdr_values.proofs.Cuts.{comma_place, fields-first}
use Rattle.vdr_values.proofs.Legal.{AreSaid-read, part_size, text_size}
use Rattle.vdr_values.proofs.Lookups.{has_room, named-good, sound-forms}

-- The fields of a text, each with its comma, have one byte more than the text.
sum-onto_first : (b : ℕ) (parts : List (List ℕ)) → 1 ≤ length parts → sum_by part_size (onto_first b parts) ≡ sum_by part_size parts + 1
sum-onto_first b [] some = absurd (omega (arith, some))
sum-onto_first b (part ∷ parts) some = omega (arith, sum_by-cons part_size (b ∷ part) parts, sum_by-cons part_size part parts)

sum-fields : (text : List ℕ) → sum_by part_size (fields text) ≡ length text + 1
sum-fields [] = refl
sum-fields (b ∷ text) = by_test (eqb b 44) refl (sum-fields text)
  where
    by_test : (t : Bool) → eqb b 44 ≡ t → sum_by part_size (fields text) ≡ length text + 1 → sum_by part_size (fields (b ∷ text)) ≡ length (b ∷ text) + 1
    by_test true e more = rw e (omega (arith, more, sum_by-cons part_size [] (fields text)))
    by_test false e more = rw e (omega (arith, more, sum-onto_first b (fields text) (omega (arith, ap length (fields-first text)))))

-- A comma ends the address, or something before it.
address-first : (text : List ℕ) → position_or_len (λ b. (eqb b 44) || (eqb b 42)) text ≤ comma_place text
address-first [] = omega arith
address-first (b ∷ text) = by_tests (eqb b 44) (eqb b 42) (address-first text)
  where
    by_tests : (comma star : Bool) → position_or_len (λ b. (eqb b 44) || (eqb b 42)) text ≤ comma_place text
        → cond (not (comma || star)) (1 + position_or_len (λ b. (eqb b 44) || (eqb b 42)) text) 0 ≤ cond (not comma) (1 + comma_place text) 0
    by_tests true star more = omega arith
    by_tests false true more = omega arith
    by_tests false false more = omega (arith, more)

row-from_address : (address : List ℕ) (row : Row) → row_for address ≡ Some row → row_named (drop 2 address) ≡ Some row
row-from_address address row h = by_test (eqb (get_or address 0 0) 80) h
  where
    by_test : (t : Bool) → cond t None (row_named (drop 2 address)) ≡ Some row → row_named (drop 2 address) ≡ Some row
    by_test true h = absurd (cc)
    by_test false h = h

abbrev fits_with : Row → ℕ → Bool
fits_with row n = leb n (length row.fields) && leb (words row.text + 4 * (length row.fields - n)) 116

record HasRoom (row : Row) : Type 0 where
  once : is_once (length row.fields) row.text ≡ true
  shorter : list_all (fits_with row) row.shorter ≡ true
  words : leb (words row.text) (cond (eqb (length row.group) 0) 116 45) ≡ true
  code : length row.formatter ≡ 3

HasRoom-from_test : (row : Row) → has_room row ≡ true → HasRoom row
HasRoom-from_test row h =
    let once : Bool = is_once (length row.fields) row.text in
    let shorter : Bool = list_all (fits_with row) row.shorter in
    let few : Bool = leb (words row.text) (cond (eqb (length row.group) 0) 116 45) in
    let outer = and_parts (once && shorter && few) (eqb (length row.formatter) 3) h in
    let inner = and_parts (once && shorter) few outer.0 in
    let first = and_parts once shorter inner.0 in
    record { once = first.0; shorter = first.1; words = inner.1; code = eqb-true (length row.formatter) 3 outer.1 }

-- Behind an address of five characters stand 71 bytes at most.
few-behind : (content : List ℕ) (row : Row) → length content ≤ 76 → row_for (address_of content) ≡ Some row → sum_by part_size (fields_of content) ≤ 71
few-behind content row short found =
    let named = named-good _ row (row-from_address (address_of content) row found) in
    let three : length row.formatter ≡ 3 = (HasRoom-from_test row (and_parts (is_fit row) (has_room row) named.1).1).code in
    let cut = fields-first content in
    let first : List ℕ = take (comma_place content) content in
    let rest : List (List ℕ) = fields_behind (drop (comma_place content) content) in
    omega (
      arith,
      short,
      three,
      ap length named.0,
      length-drop 2 (address_of content),
      length-prefix_len (λ b. not ((eqb b 44) || (eqb b 42))) content,
      length-prefix_len (λ b. not (eqb b 44)) content,
      address-first content,
      sum-fields content,
      ap (sum_by part_size) cut,
      sum_by-cons part_size first rest,
      ap (λ parts. sum_by part_size (drop 1 parts)) cut,
    )

-- So many fields are read: a shorter count, or no fewer than stand in the row, and no more where none may stand again.
abbrev IsWanted : Row → ℕ → Type 0
IsWanted row n = (list_any (λ k. eqb k n) row.shorter ≡ true) ⊎ ((length row.fields ≤ n) × (length row.group ≡ 0 → n ≡ length row.fields))

wanted-so : (row : Row) (count : ℕ) → IsWanted row (wanted row count)
wanted-so row count = by_test (list_any (λ k. eqb k count) row.shorter) refl
  where
    grouped : (t : Bool) → eqb (length row.group) 0 ≡ t
        → (length row.fields ≤ cond t (length row.fields) (min (length row.fields + 30 * length row.group) (whole_groups (length row.fields) (length row.group) count)))
        × (length row.group ≡ 0 → cond t (length row.fields) (min (length row.fields + 30 * length row.group) (whole_groups (length row.fields) (length row.group) count)) ≡ length row.fields)
    grouped true e = (omega arith, λ none. refl)
    grouped false e = (omega (arith, whole (leb count (length row.fields)) refl), λ none. absurd (eqb-false _ _ e none))
      where
        whole : (t : Bool) → leb count (length row.fields) ≡ t
            → length row.fields ≤ cond t (length row.fields + length row.group) (count + (length row.group - 1 - (count - length row.fields - 1) % length row.group))
        whole true e = omega arith
        whole false e = omega (arith, leb-false _ _ e)

    by_test : (t : Bool) → list_any (λ k. eqb k count) row.shorter ≡ t → IsWanted row (cond t count (with_groups (length row.fields) (length row.group) count))
    by_test true e = inl e
    by_test false e = inr (grouped (eqb (length row.group) 0) refl)

-- What holds of each shorter count holds of this one.
any-passes : (q : ℕ → Bool) (ns : List ℕ) (n : ℕ) → list_all q ns ≡ true → list_any (λ k. eqb k n) ns ≡ true → q n ≡ true
any-passes q [] n all h = absurd (cc)
any-passes q (k ∷ ns) n all h = let parts = and_parts _ _ all in by_test (eqb k n) refl parts.0 h (any-passes q ns n parts.1)
  where
    by_test : (t : Bool) → eqb k n ≡ t → q k ≡ true → (t || list_any (λ j. eqb j n) ns) ≡ true → (list_any (λ j. eqb j n) ns ≡ true → q n ≡ true) → q n ≡ true
    by_test true e here h more = subst (λ j. q j ≡ true) (eqb-true k n e) here
    by_test false e here h more = more h

-- The text takes what the words, the fields and their spaces take.
text-within : (row : Row) (values : Values) → is_once (length row.fields) row.text ≡ true
    → length (reading_text (told row values)) ≤ words row.text + sum_by text_size values + 4 * (length row.fields - length values) + (length values - length row.fields)
unfolding reading_text
text-within row values once =
    let n = length row.fields in
    omega (
      arith,
      length-append (text_along row.text values) (group_text (drop n values)),
      length-text_along row.text values,
      cost-once (cost_in values) n row.text once,
      in_all-values values n,
      length-group_text (drop n values),
      length-drop n values,
      sum-parts n values,
    )

fits-parts : (row : Row) (n : ℕ) → fits_with row n ≡ true → (n ≤ length row.fields) × (words row.text + 4 * (length row.fields - n) ≤ 116)
fits-parts row n h = let parts = and_parts (leb n (length row.fields)) (leb (words row.text + 4 * (length row.fields - n)) 116) h in (leb-true _ _ parts.0, leb-true _ _ parts.1)

pub text-short : (row : Row) (values : Values) → has_room row ≡ true → IsWanted row (length values) → sum_by text_size values ≤ 284 → length values ≤ 71 → length (reading_text (told row values)) ≤ 400
text-short row values room so few counted = by_wanted so (text-within row values tests.once)
  where
    tests : HasRoom row
    tests = HasRoom-from_test row room

    by_group : (t : Bool) → eqb (length row.group) 0 ≡ t
        → length (reading_text (told row values)) ≤ words row.text + sum_by text_size values + 4 * (length row.fields - length values) + (length values - length row.fields)
        → length row.fields ≤ length values → (length row.group ≡ 0 → length values ≡ length row.fields) → leb (words row.text) (cond t 116 45) ≡ true → length (reading_text (told row values)) ≤ 400
    by_group true e within most none fits = omega (arith, within, few, none (eqb-true (length row.group) 0 e), leb-true (words row.text) 116 fits)
    by_group false e within most none fits = omega (arith, within, few, counted, most, leb-true (words row.text) 45 fits)

    by_wanted : IsWanted row (length values)
        → length (reading_text (told row values)) ≤ words row.text + sum_by text_size values + 4 * (length row.fields - length values) + (length values - length row.fields)
        → length (reading_text (told row values)) ≤ 400
    by_wanted (inl shorter) within =
        let fits = fits-parts row (length values) (any-passes (fits_with row) row.shorter (length values) tests.shorter shorter) in
        omega (arith, within, few, fits.0, fits.1)
    by_wanted (inr all) within = by_group (eqb (length row.group) 0) refl within all.0 all.1 tests.words

value-past : (values : Values) (k : ℕ) → length values ≤ k → value_at values k ≡ None
value-past [] k past = refl
value-past (value ∷ values) zero past = absurd (omega (arith, past))
value-past (value ∷ values) (suc k) past = value-past values k (omega (arith, past))

pub raw-at : (values : Values) (k : ℕ) → raw_size (value_at values k) ≤ sum_by raw_size values
raw-at [] k = omega arith
raw-at (value ∷ values) zero = omega (arith, sum_by-cons raw_size value values)
raw-at (value ∷ values) (suc k) = omega (arith, sum_by-cons raw_size value values, raw-at values k)

suits-at : (row : Row) (n : ℕ) (values : Values) (k : ℕ) → length values ≡ n → ((j : ℕ) → suits_field (get_or (map (form_at row) (range_with_len 0 n)) j Raw) (value_at values j) ≡ true)
    → suits_field (form_at row k) (value_at values k) ≡ true
suits-at row n values k counted each = by_test (leb n k) refl
  where
    by_test : (t : Bool) → leb n k ≡ t → suits_field (form_at row k) (value_at values k) ≡ true
    by_test true e = let past : length values ≤ k = omega (arith, counted, leb-true _ _ e) in ap (suits_field (form_at row k)) (value-past values k past)
    by_test false e = let here = get_or-map-range_with_len (form_at row) 0 n k k Raw (omega (arith, leb-false _ _ e)) (omega arith) in subst (λ form. suits_field form (value_at values k) ≡ true) here (each k)

-- What was read by a row of the table is legal.
pub IsLegal-read : (content : List ℕ) (row : Row) (values : Values) → length content ≤ 76 → row_for (address_of content) ≡ Some row → read_by row (fields_of content) ≡ Ok values → IsLegal (told row values)
IsLegal-read content row values short found read =
    let named = named-good _ row (row-from_address (address_of content) row found) in
    let good = and_parts (is_fit row) (has_room row) named.1 in
    let count : ℕ = length (fields_of content) in
    let said = AreSaid-read (forms_of row count) 1 (fields_of content) values (sound-forms row (range_with_len 0 (wanted row count)) good.0) read in
    let few = few-behind content row short found in
    let counted : length values ≡ wanted row count = said.counted ∙ length-forms_of row count in
    record {
      known = ap row_named named.0 ∙ row-from_address (address_of content) row found;
      suits = λ k. suits-at row (wanted row count) values k counted said.suits;
      raw = omega (arith, said.raw, few);
      short = text-short row values good.1 (subst (IsWanted row) (sym counted) (wanted-so row count)) (omega (arith, said.text, few)) (omega (arith, said.few, few));
    }
