-- What the values of AIS messages print.
use Rattle.std.proofs.Common.{◌≡◌, ◌+◌, ◌-◌, ◌*◌, ℕ, zero, suc, Bool, true, false, cond, ◌&&◌, ◌||◌, List, [], ◌∷◌, ◌++◌, length, map, take, replicate, Option, Some, None, IfSome, codes, decimal, eqb, leb, ltb, refl, arith}
use Rattle.std.specs.Prelude.{⊤, ℤ, pos}
use Rattle.std.specs.Ordering.{int_eq}
use Rattle.std.specs.List.{before_first, list_all, position_or_len, range_with_len}
use Rattle.std.proofs.lemmas.Bool.{and_parts, le-leb, ltb-false}
use Rattle.vdr_ais.specs.Bits.{Message, bits_of, field}
use Rattle.vdr_ais.specs.Reports.{Position, Report, aircraft, base_station, before_spaces, character, class_a, class_b, letters, long_range, name_in, report_in, report_of, trimmed, with_name, with_position}
use Rattle.vdr_ais.specs.Targets.{mmsi_text}
use Rattle.vdr_rows.specs.declared.decimal.Decimal.{Decimal}
use Rattle.vdr_rows.specs.Decimals.{of_count, of_minutes, of_tenths}
use Rattle.vdr_rows.specs.Reported.{ais_said, angle_said, both_values, given, heading_said, kind_of, message_values, name_said, no_course, no_speed, position_values, report_values, tenths_said}
use Rattle.vdr_rows.specs.Values.{Said}
use Rattle.vdr_rows.proofs.Bare.{bare_decimal, bare_none, bare_word, both}
use Rattle.vdr_rows.proofs.Cells.{IsBare, IsPrinted, printed_bare}
use Rattle.vdr_rows.proofs.Saying.{AreSaid, IsGiven, IsSaid, none_given, said_first, some_given}

bare_zeros : (n : ℕ) → IsBare (replicate n 48)
bare_zeros zero = bare_none
bare_zeros (suc n) = both (bare_word (48 ∷ []) refl) (bare_zeros n)

bare_mmsi : (mmsi : ℕ) → IsBare (mmsi_text mmsi)
bare_mmsi mmsi = both (bare_zeros (9 - length (decimal mmsi))) (bare_decimal mmsi)

printed_character : (n : ℕ) → leb 32 (character n) ≡ true
printed_character n = by_test (ltb n 32) refl
  where
    by_test : (t : Bool) → ltb n 32 ≡ t → leb 32 (cond t (n + 64) n) ≡ true
    by_test true e = le-leb 32 (n + 64) (omega arith)
    by_test false e = le-leb 32 n (ltb-false n 32 e)

printed_characters : (f : ℕ → ℕ) (places : List ℕ) → list_all (λ c. leb 32 c) (map (λ k. character (f k)) places) ≡ true
printed_characters f [] = refl
printed_characters f (k ∷ places) = λ i. printed_character (f k) i && printed_characters f places i

printed_take : (n : ℕ) (text : List ℕ) → list_all (λ c. leb 32 c) text ≡ true → list_all (λ c. leb 32 c) (take n text) ≡ true
printed_take zero text h = refl
printed_take (suc n) [] h = refl
printed_take (suc n) (b ∷ text) h = let parts = and_parts (leb 32 b) (list_all (λ c. leb 32 c) text) h in (λ i. parts.0 i && printed_take n text parts.1 i)

printed_trimmed : (text : List ℕ) → list_all (λ c. leb 32 c) text ≡ true → list_all (λ c. leb 32 c) (trimmed text) ≡ true
printed_trimmed [] h = refl
printed_trimmed (b ∷ text) h = let parts = and_parts (leb 32 b) (list_all (λ c. leb 32 c) text) h in by_rest (trimmed text) parts.0 (printed_trimmed text parts.1)
  where
    by_test : (t : Bool) → leb 32 b ≡ true → list_all (λ c. leb 32 c) (cond t [] (b ∷ [])) ≡ true
    by_test true p = refl
    by_test false p = λ i. p i && true

    by_rest : (rest : List ℕ) → leb 32 b ≡ true → list_all (λ c. leb 32 c) rest ≡ true → list_all (λ c. leb 32 c) (before_spaces b rest) ≡ true
    by_rest [] p q = by_test (eqb b 32) p
    by_rest (c ∷ rest) p q = λ i. p i && q i

printed_name : (first : ℕ) (bits : List ℕ) → IsPrinted (name_in first bits)
unfolding name_in letters
printed_name first bits =
    let text : List ℕ = map (λ k. character (field (first + 6 * k) (first + 6 * k + 5) bits)) (range_with_len 0 20) in
    record {
      each = printed_trimmed (before_first (λ c. eqb c 64) text)
          (printed_take (position_or_len (λ c. eqb c 64) text) text (printed_characters (λ k. field (first + 6 * k) (first + 6 * k + 5) bits) (range_with_len 0 20)));
    }

-- ---- the name of a report

abbrev HasName : Option Report → Type 0
HasName None = ⊤
HasName (Some r) = IfSome r.name IsPrinted

by_test : (t : Bool) (x y : Option Report) → HasName x → HasName y → HasName (cond t x y)
by_test true x y p q = p
by_test false x y p q = q

positioned : (bits : List ℕ) (p : Position) → HasName (with_position bits p)
positioned bits p = tt

named : (bits : List ℕ) (first : ℕ) → HasName (with_name bits first)
named bits first = printed_name first bits

pub report_named : (kind : ℕ) (bits : List ℕ) → HasName (report_of kind bits)
report_named kind bits =
    by_test ((eqb kind 1 || eqb kind 2 || eqb kind 3) && leb 168 (length bits)) _ _ (positioned bits (class_a bits))
    (by_test (eqb kind 4 && leb 168 (length bits)) _ _ (positioned bits (base_station bits))
    (by_test (eqb kind 5 && leb 232 (length bits)) _ _ (named bits 112)
    (by_test (eqb kind 9 && leb 168 (length bits)) _ _ (positioned bits (aircraft bits))
    (by_test (eqb kind 18 && leb 168 (length bits)) _ _ (positioned bits (class_b bits))
    (by_test (eqb kind 19 && leb 312 (length bits)) _ _ (printed_name 143 bits)
    (by_test (eqb kind 21 && leb 272 (length bits)) _ _ (printed_name 43 bits)
    (by_test (eqb kind 24 && leb 160 (length bits) && eqb (field 38 39 bits) 0) _ _ (named bits 40)
    (by_test (eqb kind 27 && leb 96 (length bits)) _ _ (positioned bits (long_range bits)) tt))))))))

-- ---- the values

said_number : (mmsi name : List ℕ) (d : Decimal) (measure : List ℕ) → IsBare mmsi → IsBare name → IsBare measure → IsSaid (ais_said mmsi name d measure)
said_number mmsi name d measure p q r = record { item = p; name = q; measure = r; words = printed_bare bare_none }

unless : (t : Bool) (s : Said) → IsSaid s → IsGiven (cond t None (Some s))
unless true s p = none_given
unless false s p = some_given p

said_angle : (mmsi name : List ℕ) (none n : ℤ) → IsBare mmsi → IsBare name → IsGiven (angle_said mmsi name none n)
said_angle mmsi name none n p q = unless (int_eq n none) _ (said_number mmsi name (of_minutes n) (codes "deg") p q (bare_word (codes "deg") refl))

said_tenths : (mmsi name : List ℕ) (none : ℕ) (measure : List ℕ) (n : Option ℕ) → IsBare mmsi → IsBare name → IsBare measure → IsGiven (tenths_said mmsi name none measure n)
said_tenths mmsi name none measure None p q r = none_given
said_tenths mmsi name none measure (Some n) p q r = unless (eqb n none) _ (said_number mmsi name (of_tenths n) measure p q r)

said_heading : (mmsi : List ℕ) (n : Option ℕ) → IsBare mmsi → IsGiven (heading_said mmsi n)
said_heading mmsi None p = none_given
said_heading mmsi (Some n) p = unless (eqb n 511) _ (said_number mmsi (codes "ais_heading") (of_count n) (codes "deg") p (bare_word (codes "ais_heading") refl) (bare_word (codes "deg") refl))

said_name : (mmsi : List ℕ) (name : Option (List ℕ)) → IsBare mmsi → IfSome name IsPrinted → IsGiven (name_said mmsi name)
said_name mmsi None p q = none_given
said_name mmsi (Some name) p q = unless (eqb (length name) 0) _ (record { item = p; name = bare_word (codes "ais_name") refl; measure = bare_none; words = q })

abbrev pub AreGiven : List (Option Said) → Type 0
AreGiven [] = ⊤
AreGiven (o ∷ said) = IsGiven o × AreGiven said

pub four_given : {a b c d : Option Said} → IsGiven a → IsGiven b → IsGiven c → IsGiven d → AreGiven (a ∷ b ∷ c ∷ d ∷ [])
four_given p q r s = (p, (q, (r, (s, tt))))

five_given : {a b c d e : Option Said} → IsGiven a → IsGiven b → IsGiven c → IsGiven d → IsGiven e → AreGiven (a ∷ b ∷ c ∷ d ∷ e ∷ [])
five_given p q r s t = (p, (q, (r, (s, (t, tt)))))

pub given_said : (said : List (Option Said)) → AreGiven said → AreSaid (given said)
given_said [] p = tt
given_said (o ∷ said) p = said_first o p.0 (given said) (given_said said p.1)

given_behind : (said : List (Option Said)) (o : Option Said) → AreGiven said → IsGiven o → AreGiven (said ++ o ∷ [])
given_behind [] o p q = (q, tt)
given_behind (s ∷ said) o p q = (p.0, given_behind said o p.1 q)

said_position : (kind : ℕ) (mmsi : List ℕ) (position : Option Position) → IsBare mmsi → AreGiven (position_values kind mmsi position)
said_position kind mmsi None p = tt
said_position kind mmsi (Some at) p =
    let degrees = bare_word (codes "deg") refl in
    five_given (said_angle mmsi (codes "ais_latitude") (pos 54_600_000) at.latitude p (bare_word (codes "ais_latitude") refl))
    (said_angle mmsi (codes "ais_longitude") (pos 108_600_000) at.longitude p (bare_word (codes "ais_longitude") refl))
    (said_tenths mmsi (codes "ais_speed") (no_speed kind) (codes "kn") at.speed p (bare_word (codes "ais_speed") refl) (bare_word (codes "kn") refl))
    (said_tenths mmsi (codes "ais_course") (no_course kind) (codes "deg") at.course p (bare_word (codes "ais_course") refl) degrees)
    (said_heading mmsi at.heading p)

said_report : (kind : ℕ) (report : Option Report) → HasName report → AreSaid (report_values kind report)
said_report kind None p = tt
said_report kind (Some r) p =
    let mmsi = bare_mmsi r.mmsi in
    given_said (both_values kind (mmsi_text r.mmsi) r)
    (given_behind (position_values kind (mmsi_text r.mmsi) r.position) (name_said (mmsi_text r.mmsi) r.name) (said_position kind (mmsi_text r.mmsi) r.position mmsi) (said_name (mmsi_text r.mmsi) r.name mmsi p))

pub message_said : (message : Option Message) → AreSaid (message_values message)
message_said None = tt
message_said (Some m) = said_report (kind_of m) (report_in (bits_of m)) (report_named (field 0 5 (bits_of m)) (bits_of m))
