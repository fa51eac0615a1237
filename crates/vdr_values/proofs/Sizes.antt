-- How long the texts of values are, beside the fields that say them.
use Rattle.std.proofs.Common.{◌≡◌, ◌≤◌, ◌<◌, ◌+◌, ◌-◌, ◌*◌, ◌/◌, ◌%◌, ◌^◌, ℕ, Bool, true, false, cond, not, ◌&&◌, List, [], ◌∷◌, ◌++◌, length, take, drop, slice_range, replicate, codes, decimal, Option, Some, None, option_map, option_and_then, refl, sym, ap, subst, arith, length-append, eqb, leb}
use Rattle.std.specs.List.{before_first, after_first}
use Rattle.std.proofs.lemmas.Bool.{ltb-true, leb-true, and_parts, eqb-true}
use Rattle.std.proofs.lemmas.Fmt.{length-decimal-le}
use Rattle.std.proofs.lemmas.List.Folds.{length-prefix_len}
use Rattle.std.proofs.lemmas.List.Sums.{prefix_len-le-length}
use Rattle.vdr_bytes.specs.Digits.{number}
use Rattle.vdr_bytes.proofs.DigitLemmas.{below_more}
use Rattle.vdr_entry.specs.Escape.{escaped, escaped_byte, is_plain, hex_digit}
use Rattle.vdr_entry.specs.Utc.{last_digits}
use Rattle.vdr_values.specs.Values.{Value, Number, Time, Date, Angle, Digits, Letter, Raw}
use Rattle.vdr_values.specs.Spellings.{angle, angle_from, date, fraction, is_point, magnitude, signed_number, time_from, time_of_day}
use Rattle.vdr_values.specs.Forms.{Form, is_sound, spelled, suits}
use Rattle.vdr_values.specs.Forms as kind
use Rattle.vdr_values.specs.Texts.{billionths_text, fraction_text, millionths_text, sign_text, trimmed, value_text}
use Rattle.vdr_values.proofs.Trims.{length-trimmed}
use Rattle.vdr_values.proofs.Digits.{IsWritten-from_number, length-decimal_written}

fraction-short : (places n : ℕ) → length (fraction_text places n) ≤ 1 + length (last_digits places n)
unfolding fraction_text
fraction-short places n = by_test (eqb n 0)
  where
    by_test : (t : Bool) → length (cond t [] (46 ∷ trimmed (last_digits places n))) ≤ 1 + length (last_digits places n)
    by_test true = omega arith
    by_test false = omega (arith, length-trimmed (last_digits places n))

sign-short : (negative : Bool) (n : ℕ) → length (sign_text negative n) ≤ 1
sign-short negative n = by_test (negative && not (eqb n 0))
  where
    by_test : (t : Bool) → length (cond t (codes "-") []) ≤ 1
    by_test true = omega arith
    by_test false = omega arith

length-millionths : (n : ℕ) → length (millionths_text n) ≤ length (decimal (n / 1_000_000)) + 7
unfolding millionths_text
length-millionths n = omega (arith, length-append (decimal (n / 1_000_000)) (fraction_text 6 (n % 1_000_000)), fraction-short 6 (n % 1_000_000))

length-billionths : (n : ℕ) → length (billionths_text n) ≤ length (decimal (n / 1_000_000_000)) + 10
unfolding billionths_text
length-billionths n = omega (arith, length-append (decimal (n / 1_000_000_000)) (fraction_text 9 (n % 1_000_000_000)), fraction-short 9 (n % 1_000_000_000))

escaped_byte-short : (b : ℕ) → length (escaped_byte b) ≤ 4
escaped_byte-short b = by_test (is_plain b)
  where
    by_test : (t : Bool) → length (cond t (b ∷ []) (60 ∷ hex_digit (b / 16) ∷ hex_digit (b % 16) ∷ 62 ∷ [])) ≤ 4
    by_test true = omega arith
    by_test false = omega arith

escaped-short : (bytes : List ℕ) → length (escaped bytes) ≤ 4 * length bytes
escaped-short [] = omega arith
escaped-short (b ∷ bytes) = omega (arith, length-append (escaped_byte b) (escaped bytes), escaped_byte-short b, escaped-short bytes)

length-front : (text : List ℕ) → length (before_first is_point text) ≤ length text
length-front text = omega (arith, length-prefix_len (λ b. not (is_point b)) text, prefix_len-le-length (λ b. not (is_point b)) text)

-- A fraction of so many places.
fraction-below : (places : ℕ) (digits : List ℕ) (n : ℕ) → fraction places digits ≡ Some n → n < 10 ^ places
fraction-below places digits n h = let w = IsWritten-from_number places (digits ++ replicate (places - length digits) 48) n h in below_more n _ places w.below w.few

magnitude-short : (text : List ℕ) (m : ℕ) → magnitude text ≡ Some m → (1 ≤ length text) × (length (millionths_text m) ≤ length text + 7)
magnitude-short text m h = by_fraction (fraction 6 (after_first is_point text)) refl h
  where
    front : List ℕ
    front = before_first is_point text

    by_front : (n : ℕ) (o : Option ℕ) → n < 10 ^ 6 → number 9 front ≡ o → option_map (λ whole. 1_000_000 * whole + n) o ≡ Some m → (1 ≤ length text) × (length (millionths_text m) ≤ length text + 7)
    by_front n None below e h = absurd (cc)
    by_front n (Some whole) below e h =
        let same : 1_000_000 * whole + n ≡ m = cc in
        let w = IsWritten-from_number 9 front whole e in
        let whole_is : m / 1_000_000 ≡ whole = omega (arith, same, below) in
        let short : length (decimal (m / 1_000_000)) ≤ length front = subst (λ k. length (decimal k) ≤ length front) (sym whole_is) (length-decimal_written front 9 whole w (omega arith)) in
        (omega (arith, w.some, length-front text), omega (arith, length-millionths m, short, length-front text))

    by_fraction : (o : Option ℕ) → fraction 6 (after_first is_point text) ≡ o
        → option_and_then (λ (f, n). option_map (λ whole. 1_000_000 * whole + n) (number 9 f)) (option_map (λ n. (front, n)) o) ≡ Some m
        → (1 ≤ length text) × (length (millionths_text m) ≤ length text + 7)
    by_fraction None e h = absurd (cc)
    by_fraction (Some n) e h = by_front n (number 9 front) (fraction-below 6 (after_first is_point text) n e) refl h

-- So long may the text of a value be, beside the field that says it.
abbrev Fits : List ℕ → Value → Type 0
Fits text v = length (value_text v) ≤ 4 * length text + 4

number-fits : (text : List ℕ) (v : Value) → signed_number text ≡ Some v → Fits text v
number-fits [] v h = absurd (cc)
number-fits (b ∷ text) v h = by_test (eqb b 45) h
  where
    by_size : (negative : Bool) (digits : List ℕ) (o : Option ℕ) (room : ℕ) → magnitude digits ≡ o → option_map (Number negative) o ≡ Some v → length (b ∷ text) ≡ length digits + room
        → ((m : ℕ) → length (sign_text negative m) ≤ room) → Fits (b ∷ text) v
    by_size negative digits None room e h long sign = absurd (cc)
    by_size negative digits (Some m) room e h long sign =
        let same : Number negative m ≡ v = cc in
        let short = magnitude-short digits m e in
        subst (Fits (b ∷ text)) same (omega (arith, length-append (sign_text negative m) (millionths_text m), sign m, short.0, short.1, long))

    by_test : (t : Bool) → cond t (option_map (Number true) (magnitude text)) (option_map (Number false) (magnitude (b ∷ text))) ≡ Some v → Fits (b ∷ text) v
    by_test true h = by_size true text (magnitude text) 1 refl h (omega arith) (λ m. sign-short true m)
    by_test false h = by_size false (b ∷ text) (magnitude (b ∷ text)) 0 refl h (omega arith) (λ m. omega arith)

time-long : (text : List ℕ) (v : Value) → time_of_day text ≡ Some v → 6 ≤ length text
time-long text v h = by_fraction (fraction 6 (after_first is_point text)) h
  where
    front : List ℕ
    front = before_first is_point text

    by_test : (t : Bool) (o : Option Value) → eqb (length front) 6 ≡ t → cond t o None ≡ Some v → 6 ≤ length text
    by_test true o e h = omega (arith, eqb-true (length front) 6 e, length-front text)
    by_test false o e h = absurd (cc)

    by_fraction : (o : Option ℕ) → option_and_then (λ (f, n).
        cond (eqb (length f) 6) (time_from (number 2 (take 2 f)) (number 2 (slice_range f 2 4)) (number 2 (drop 4 f)) n) None) (option_map (λ n. (front, n)) o) ≡ Some v → 6 ≤ length text
    by_fraction None h = absurd (cc)
    by_fraction (Some n) h = by_test (eqb (length front) 6) _ refl h

date-long : (text : List ℕ) (v : Value) → date text ≡ Some v → 6 ≤ length text
date-long text v h = by_test (eqb (length text) 6) _ refl h
  where
    by_test : (t : Bool) (o : Option Value) → eqb (length text) 6 ≡ t → cond t o None ≡ Some v → 6 ≤ length text
    by_test true o e h = omega (arith, eqb-true (length text) 6 e)
    by_test false o e h = absurd (cc)

angle-long : (digits places : ℕ) (text : List ℕ) (v : Value) → angle digits places text ≡ Some v → digits + 2 ≤ length text
angle-long digits places text v h = by_fraction (fraction 9 (after_first is_point text)) h
  where
    front : List ℕ
    front = before_first is_point text

    by_test : (t : Bool) (o : Option Value) → (eqb (length front) (digits + 2) && leb (length text) (digits + 3 + places)) ≡ t → cond t o None ≡ Some v → digits + 2 ≤ length text
    by_test true o e h =
        let same : length front ≡ digits + 2 = eqb-true (length front) (digits + 2) (and_parts (eqb (length front) (digits + 2)) (leb (length text) (digits + 3 + places)) e).0 in
        omega (arith, same, length-front text)
    by_test false o e h = absurd (cc)

    by_fraction : (o : Option ℕ) → option_and_then (λ (f, n).
        cond (eqb (length f) (digits + 2) && leb (length text) (digits + 3 + places)) (angle_from (number digits (take digits f)) (number 2 (drop digits f)) n) None) (option_map (λ n. (front, n)) o) ≡ Some v
        → digits + 2 ≤ length text
    by_fraction None h = absurd (cc)
    by_fraction (Some n) h = by_test (eqb (length front) (digits + 2) && leb (length text) (digits + 3 + places)) _ refl h

digits-fit : (most : ℕ) (text : List ℕ) (n : ℕ) (o : Option ℕ) → most ≤ 9 → number most text ≡ o → option_map Digits o ≡ Some (Digits n) → Fits text (Digits n)
digits-fit most text n None few e h = absurd (cc)
digits-fit most text n (Some m) few e h =
    let same : m ≡ n = cc in
    let short : length (decimal m) ≤ length text = length-decimal_written text most m (IsWritten-from_number most text m e) (omega (arith, few)) in
    subst (λ k. Fits text (Digits k)) same (omega (arith, short))

-- The text of a value is not longer than four times the field that says it, and four bytes.
pub value-fits : (form : Form) (text : List ℕ) (v : Value) → is_sound form ≡ true → spelled form text ≡ Some v → suits form v ≡ true → Fits text v
value-fits kind.Number text v sound h t = number-fits text v h
value-fits (kind.Whole greatest) text v sound h t = number-fits text v h
value-fits kind.Time text (Time hour minute second n) sound h t =
    omega (arith, time-long text _ h, fraction-short 6 n, length-append (last_digits 2 hour ++ codes ":" ++ last_digits 2 minute ++ codes ":" ++ last_digits 2 second) (fraction_text 6 n))
value-fits kind.Date text (Date year month day) sound h t = omega (arith, date-long text _ h)
value-fits (kind.Angle digits greatest places) text (Angle degrees n) sound h t =
    let parts = and_parts _ _ t in
    let bounds = and_parts _ _ (and_parts _ _ sound).0 in
    let within : degrees ≤ greatest = leb-true _ _ parts.0 in
    let half_circle : greatest ≤ 180 = leb-true _ _ bounds.1 in
    let some : 1 ≤ digits = leb-true _ _ (and_parts _ _ bounds.0).0 in
    let below : n < 60_000_000_000 = ltb-true n 60_000_000_000 parts.1 in
    omega (
      arith,
      angle-long digits places text _ h,
      some,
      length-append (decimal degrees ++ codes " ") (billionths_text n),
      length-append (decimal degrees) (codes " "),
      length-decimal-le 3 degrees (omega arith) (omega (arith, within, half_circle)) (omega (arith, within, half_circle)),
      length-billionths n,
      length-decimal-le 2 (n / 1_000_000_000) (omega arith) (omega (arith, below)) (omega (arith, below)),
    )
value-fits (kind.Digits most least greatest) text (Digits n) sound h t =
    digits-fit most text n (number most text) (leb-true _ _ (and_parts _ _ (and_parts _ _ sound).0).1) refl h
value-fits (kind.Letter letters) text (Letter b) sound h t = omega arith
value-fits kind.Raw text (Raw bytes) sound h t = let same : text ≡ bytes = cc in omega (arith, escaped-short bytes, ap length same)
value-fits _ text _ sound h t = absurd (cc)
