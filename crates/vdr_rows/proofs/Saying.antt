-- What values print: words of tables, numbers and letters without quotes, and texts without control characters.
use Rattle.std.proofs.Common.{◌≡◌, ◌∙◌, ◌+◌, ◌-◌, ◌*◌, ◌/◌, ◌%◌, ℕ, Bool, true, false, cond, ◌&&◌, List, [], ◌∷◌, length, Option, Some, None, IfSome, Result, Ok, Err, codes, eqb, leb, option_map, refl, arith}
use Rattle.std.specs.Prelude.{⊤}
use Rattle.std.specs.List.{cons_option, filter_map, list_all}
use Rattle.std.proofs.lemmas.Bool.{and_parts, le-leb}
use Rattle.std.proofs.lemmas.List.Folds.{list_all-append}
use Rattle.vdr_entry.specs.Escape.{escaped, escaped_byte, hex_digit, is_plain}
use Rattle.vdr_values.specs.declared.column.Column.{Column}
use Rattle.vdr_values.specs.declared.column.Item.{Item}
use Rattle.vdr_values.specs.declared.column.Item.TheVariants as items
use Rattle.vdr_values.specs.declared.column.Measure.{Measure}
use Rattle.vdr_values.specs.declared.column.Measure.TheVariants as measures
use Rattle.vdr_values.specs.declared.column.Quantity.{Quantity}
use Rattle.vdr_values.specs.declared.column.Quantity.TheVariants as quantities
use Rattle.vdr_values.specs.declared.column.Which.{Which}
use Rattle.vdr_values.specs.declared.column.Which.TheVariants as which
use Rattle.vdr_values.specs.declared.column.Words.{Words}
use Rattle.vdr_values.specs.declared.column.Words.TheVariants as wordings
use Rattle.vdr_values.specs.Readings.{Reading, reading}
use Rattle.vdr_values.specs.Values.{Value, Number, Time, Date, Angle, Digits, Letter, Raw, digits_in, letter_in}
use Rattle.vdr_rows.specs.declared.decimal.Decimal.{Decimal}
use Rattle.vdr_rows.specs.Decimals.{of_millionths}
use Rattle.vdr_rows.specs.Names.{quantity_text, which_text}
use Rattle.vdr_rows.specs.Values.{Fields, Said, by_letter, clock_of, demand_unit, distance_unit, field_in, is_clock, item_text, number_in, part_text, said_as, said_by, shown, speed_unit, unit_text, values_where, words_in}
use Rattle.vdr_rows.proofs.Bare.{bare_decimal, bare_day, bare_fraction, bare_last, bare_none, bare_text, bare_word, both}
use Rattle.vdr_rows.proofs.Cells.{IsBare, IsPrinted, is_bare, printed_bare}
use Rattle.vdr_rows.proofs.Tellings.{AreTold, IsTold, is_told, read_told}

pub record IsSaid (s : Said) : Type 0 where
  pub item : IsBare s.item
  pub name : IsBare s.name
  pub measure : IsBare s.measure
  pub words : IsPrinted s.words

abbrev pub AreSaid : List Said → Type 0
AreSaid [] = ⊤
AreSaid (s ∷ said) = IsSaid s × AreSaid said

either : (t : Bool) (x y : List ℕ) → IsBare x → IsBare y → IsBare (cond t x y)
either true x y p q = p
either false x y p q = q

-- ---- words of tables

bare_quantity : (q : Quantity) → list_all is_bare (quantity_text q) ≡ true
bare_quantity quantities.Heading = refl
bare_quantity _ = refl

bare_which : (w : Which) → list_all is_bare (which_text w) ≡ true
bare_which which.True = refl
bare_which _ = refl

bare_by : (unit : ℕ → List ℕ) → ((letter : ℕ) → IsBare (unit letter)) → (letter : Option ℕ) → IsBare (by_letter unit letter)
bare_by unit each None = bare_none
bare_by unit each (Some letter) = each letter

bare_speed : (letter : ℕ) → IsBare (speed_unit letter)
bare_speed letter =
    either (eqb letter 75) _ _ (bare_word (codes "km/h") refl)
    (either (eqb letter 77) _ _ (bare_word (codes "m/s") refl)
    (either (eqb letter 78) _ _ (bare_word (codes "kn") refl)
    (either (eqb letter 83) _ _ (bare_word (codes "mph") refl) bare_none)))

bare_distance : (letter : ℕ) → IsBare (distance_unit letter)
bare_distance letter =
    either (eqb letter 75) _ _ (bare_word (codes "km") refl)
    (either (eqb letter 78) _ _ (bare_word (codes "nmi") refl)
    (either (eqb letter 83) _ _ (bare_word (codes "mi") refl) bare_none))

bare_demand : (letter : ℕ) → IsBare (demand_unit letter)
bare_demand letter =
    either (eqb letter 80) _ _ (bare_word (codes "%") refl)
    (either (eqb letter 82) _ _ (bare_word (codes "1/min") refl)
    (either (eqb letter 68) _ _ (bare_word (codes "deg") refl) bare_none))

bare_unit : (values : Fields) (m : Measure) → IsBare (unit_text values m)
bare_unit values (measures.SpeedBy field) = bare_by speed_unit bare_speed (letter_in (field_in values field))
bare_unit values (measures.DistanceBy field) = bare_by distance_unit bare_distance (letter_in (field_in values field))
bare_unit values (measures.DemandBy field) = bare_by demand_unit bare_demand (letter_in (field_in values field))
bare_unit values _ = record { each = refl }

-- ---- which of several

bare_part : (value : Option Value) → is_told value ≡ true → IsBare (part_text value)
bare_part None told = bare_none
bare_part (Some (Number negative n)) told = bare_text (of_millionths negative n)
bare_part (Some (Digits n)) told = bare_decimal n
bare_part (Some (Letter letter)) told = bare_word (letter ∷ []) (λ i. told i && true)
bare_part (Some (Time hour minute second n)) told = bare_none
bare_part (Some (Date year month day)) told = bare_none
bare_part (Some (Angle degrees n)) told = bare_none
bare_part (Some (Raw bytes)) told = bare_none

bare_item : (values : Fields) → IsTold values → (item : Item) → IsBare (item_text values item)
bare_item values told items.Single = bare_none
bare_item values told (items.Named w) = bare_word (which_text w) (bare_which w)
bare_item values told (items.Told field) = bare_part (field_in values field) (told.each (field - 1))
bare_item values told (items.Beside first second) = both (bare_part (field_in values first) (told.each (first - 1))) (bare_part (field_in values second) (told.each (second - 1)))
bare_item values told (items.Dotted first second) =
    both (bare_part (field_in values first) (told.each (first - 1))) (both (bare_word (codes ".") refl) (bare_part (field_in values second) (told.each (second - 1))))

-- ---- texts

printed_hex : (n : ℕ) → leb 32 (hex_digit n) ≡ true
printed_hex n = by_test (leb n 9)
  where
    by_test : (t : Bool) → leb 32 (cond t (48 + n) (87 + n)) ≡ true
    by_test true = le-leb 32 (48 + n) (omega arith)
    by_test false = le-leb 32 (87 + n) (omega arith)

printed_byte : (b : ℕ) → list_all (λ c. leb 32 c) (escaped_byte b) ≡ true
printed_byte b = by_test (is_plain b) refl
  where
    by_test : (t : Bool) → is_plain b ≡ t → list_all (λ c. leb 32 c) (cond t (b ∷ []) (60 ∷ hex_digit (b / 16) ∷ hex_digit (b % 16) ∷ 62 ∷ [])) ≡ true
    by_test true e = λ i. (and_parts (leb 32 b) (leb b 0x7E) (and_parts (leb 32 b && leb b 0x7E) _ e).0).0 i && true
    by_test false e = λ i. printed_hex (b / 16) i && (printed_hex (b % 16) i && true)

printed_escaped : (bytes : List ℕ) → list_all (λ c. leb 32 c) (escaped bytes) ≡ true
printed_escaped [] = refl
printed_escaped (b ∷ bytes) = list_all-append (λ c. leb 32 c) (escaped_byte b) (escaped bytes) ∙ (λ i. printed_byte b i && printed_escaped bytes i)

printed_shown : (value : Option Value) → is_told value ≡ true → IsPrinted (shown value)
printed_shown None told = printed_bare bare_none
printed_shown (Some (Raw bytes)) told = record { each = printed_escaped bytes }
printed_shown (Some (Letter letter)) told = printed_bare (bare_word (letter ∷ []) (λ i. told i && true))
printed_shown (Some (Number negative n)) told = printed_bare bare_none
printed_shown (Some (Digits n)) told = printed_bare bare_none
printed_shown (Some (Time hour minute second n)) told = printed_bare bare_none
printed_shown (Some (Date year month day)) told = printed_bare bare_none
printed_shown (Some (Angle degrees n)) told = printed_bare bare_none

bare_clock : (day month year : Option ℕ) (time : Option Value) → IsBare (clock_of day month year time)
bare_clock (Some day) (Some month) (Some year) (Some (Time hour minute second n)) =
    let colon = bare_word (codes ":") refl in
    let date = both (bare_day year month day) (bare_word (codes "T") refl) in
    let time = both (both (both (both (both date (bare_last 2 hour)) colon) (bare_last 2 minute)) colon) (bare_last 2 second) in
    both (both time (bare_fraction 8 (100 * n))) (bare_word (codes "Z") refl)
bare_clock _ _ _ _ = bare_none

printed_words : (values : Fields) → IsTold values → (c : Column) (w : Words) → IsPrinted (words_in values c w)
printed_words values told c wordings.Silent = printed_bare bare_none
printed_words values told c (wordings.Of field) = printed_shown (field_in values field) (told.each (field - 1))
printed_words values told c (wordings.Clock day month year) =
    printed_bare (bare_clock (digits_in (field_in values day)) (digits_in (field_in values month)) (digits_in (field_in values year)) (field_in values c.field))

-- ---- the values of a sentence

said_of : (values : Fields) → IsTold values → (c : Column) (number : Option Decimal) → IsSaid (said_as values c number)
said_of values told c number = record {
  item = bare_item values told c.item;
  name = bare_word (quantity_text c.quantity) (bare_quantity c.quantity);
  measure = bare_unit values c.measure;
  words = printed_words values told c c.words;
}

pub record IsGiven (o : Option Said) : Type 0 where
  pub said : IfSome o IsSaid

pub none_given : IsGiven None
none_given = record { said = tt }

pub some_given : {s : Said} → IsSaid s → IsGiven (Some s)
some_given p = record { said = p }

said_column : (values : Fields) → IsTold values → (c : Column) → IsGiven (said_by values c)
said_column values told c = by_clock (is_clock c.words)
  where
    by_size : (t : Bool) → IsGiven (cond t None (Some (said_as values c None)))
    by_size true = none_given
    by_size false = some_given (said_of values told c None)

    by_number : (number : Option Decimal) → IsGiven (option_map (λ n. said_as values c (Some n)) number)
    by_number None = none_given
    by_number (Some n) = some_given (said_of values told c (Some n))

    by_clock : (t : Bool) → IsGiven (cond t (cond (eqb (length (words_in values c c.words)) 0) None (Some (said_as values c None))) (option_map (λ n. said_as values c (Some n)) (number_in values c)))
    by_clock true = by_size (eqb (length (words_in values c c.words)) 0)
    by_clock false = by_number (number_in values c)

pub said_first : (o : Option Said) → IsGiven o → (said : List Said) → AreSaid said → AreSaid (cons_option o said)
said_first None p said q = q
said_first (Some s) p said q = (p.said, q)

said_columns : (values : Fields) → IsTold values → (columns : List Column) → AreSaid (filter_map (said_by values) columns)
said_columns values told [] = tt
said_columns values told (c ∷ columns) = said_first (said_by values c) (said_column values told c) (filter_map (said_by values) columns) (said_columns values told columns)

said_where : (read : Result (Option Reading) ℕ) → AreTold read → AreSaid (values_where read)
said_where (Ok (Some r)) told = said_columns r.values told r.row.columns
said_where (Ok None) told = tt
said_where (Err bad) told = tt

pub sentence_said : (content : List ℕ) → AreSaid (values_where (reading content))
sentence_said content = said_where (reading content) (read_told content)
