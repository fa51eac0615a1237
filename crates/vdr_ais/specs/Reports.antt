-- What a message reports of a ship, an aircraft, a base station or an aid to navigation (ITU-R M.1371): its position, its name, or both.
use Rattle.std.specs.Prelude.{ℕ, ◌+◌, ◌*◌, ℤ, ◌&&◌, ◌||◌, ◌==◌, nat_le, nat_lt, List, [], ◌∷◌, length, map, Option, Some, None, if◌then◌else◌}
use Rattle.std.specs.List.{before_first, range_with_len}
use Rattle.vdr_ais.specs.Bits.{field, scaled_field, signed_field}

-- Latitude and longitude are in ten-thousandths of a minute, north and east above 0; the speed over ground is in tenths of a knot, the
-- course over ground in tenths of a degree, the heading in degrees. None is what the message has no field for.
pub record Position : Type 0 where
  pub latitude : ℤ
  pub longitude : ℤ
  pub speed : Option ℕ
  pub course : Option ℕ
  pub heading : Option ℕ

pub record Report : Type 0 where
  pub mmsi : ℕ
  pub position : Option Position
  pub name : Option (List ℕ)

-- The six-bit ASCII character of a number.
abbrev pub character : ℕ → ℕ
character n = if nat_lt n 32 then n + 64 else n

-- A text without the spaces at its end.
abbrev pub before_spaces : (first : ℕ) → (later : List ℕ) → List ℕ
before_spaces first [] = if first == 32 then [] else first ∷ []
before_spaces first (next ∷ later) = first ∷ next ∷ later

abbrev pub trimmed : List ℕ → List ℕ
trimmed [] = []
trimmed (first ∷ later) = before_spaces first (trimmed later)

-- The 20 characters of the name that begins with this bit.
unfoldable pub letters : (first : ℕ) → List ℕ → List ℕ
letters first bits = map (λ k. character (field (first + 6 * k) (first + 6 * k + 5) bits)) (range_with_len 0 20)

-- The name ends before the first `@`.
unfoldable pub name_in : (first : ℕ) → List ℕ → List ℕ
name_in first bits = trimmed (before_first (λ c. c == 64) (letters first bits))

abbrev pub mmsi_in : List ℕ → ℕ
mmsi_in bits = field 8 37 bits

-- Messages 1, 2 and 3: a ship of class A.
abbrev pub class_a : List ℕ → Position
class_a bits = record {
  latitude = signed_field 89 115 bits;
  longitude = signed_field 61 88 bits;
  speed = Some (field 50 59 bits);
  course = Some (field 116 127 bits);
  heading = Some (field 128 136 bits);
}

-- Message 4: a base station.
abbrev pub base_station : List ℕ → Position
base_station bits = record { latitude = signed_field 107 133 bits; longitude = signed_field 79 106 bits; speed = None; course = None; heading = None }

-- Message 9: an aircraft in search and rescue, whose speed is in knots.
abbrev pub aircraft : List ℕ → Position
aircraft bits = record {
  latitude = signed_field 89 115 bits;
  longitude = signed_field 61 88 bits;
  speed = Some (10 * field 50 59 bits);
  course = Some (field 116 127 bits);
  heading = None;
}

-- Messages 18 and 19: a ship of class B.
abbrev pub class_b : List ℕ → Position
class_b bits = record {
  latitude = signed_field 85 111 bits;
  longitude = signed_field 57 84 bits;
  speed = Some (field 46 55 bits);
  course = Some (field 112 123 bits);
  heading = Some (field 124 132 bits);
}

-- Message 21: an aid to navigation.
abbrev pub aid : List ℕ → Position
aid bits = record { latitude = signed_field 192 218 bits; longitude = signed_field 164 191 bits; speed = None; course = None; heading = None }

-- Message 27, for long range: in tenths of a minute, knots and degrees.
abbrev pub long_range : List ℕ → Position
long_range bits = record {
  latitude = scaled_field 1000 62 78 bits;
  longitude = scaled_field 1000 44 61 bits;
  speed = Some (10 * field 79 84 bits);
  course = Some (10 * field 85 93 bits);
  heading = None;
}

abbrev pub with_position : List ℕ → Position → Option Report
with_position bits position = Some (record { mmsi = mmsi_in bits; position = Some position; name = None })

abbrev pub with_name : List ℕ → (first : ℕ) → Option Report
with_name bits first = Some (record { mmsi = mmsi_in bits; position = None; name = Some (name_in first bits) })

abbrev pub with_both : List ℕ → Position → (first : ℕ) → Option Report
with_both bits position first = Some (record { mmsi = mmsi_in bits; position = Some position; name = Some (name_in first bits) })

-- By the number of the message, where it has the bits that it needs. Message 24 has the name in its part A, whose number is 0.
abbrev pub report_of : (kind : ℕ) → List ℕ → Option Report
report_of kind bits =
    if (kind == 1 || kind == 2 || kind == 3) && nat_le 168 (length bits) then with_position bits (class_a bits)
    else if kind == 4 && nat_le 168 (length bits) then with_position bits (base_station bits)
    else if kind == 5 && nat_le 232 (length bits) then with_name bits 112
    else if kind == 9 && nat_le 168 (length bits) then with_position bits (aircraft bits)
    else if kind == 18 && nat_le 168 (length bits) then with_position bits (class_b bits)
    else if kind == 19 && nat_le 312 (length bits) then with_both bits (class_b bits) 143
    else if kind == 21 && nat_le 272 (length bits) then with_both bits (aid bits) 43
    else if kind == 24 && nat_le 160 (length bits) && field 38 39 bits == 0 then with_name bits 40
    else if kind == 27 && nat_le 96 (length bits) then with_position bits (long_range bits)
    else None

abbrev pub report_in : List ℕ → Option Report
report_in bits = report_of (field 0 5 bits) bits
