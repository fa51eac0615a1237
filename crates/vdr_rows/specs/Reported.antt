-- The values that an AIS message reports, of the messages that the table of ships counts (ITU-R M.1371). What is sent for "not available" is none.
use Rattle.std.specs.Prelude.{ℕ, ℤ, pos, ◌==◌, List, [], ◌∷◌, ◌++◌, filter_map, length, slice_index, Option, Some, None, codes, if◌then◌else◌}
use Rattle.std.specs.Ordering.{int_eq}
use Rattle.vdr_ais.specs.Bits.{Message, bits_of}
use Rattle.vdr_ais.specs.Reports.{Position, Report, report_in}
use Rattle.vdr_ais.specs.Targets.{mmsi_text}
use Rattle.vdr_rows.specs.declared.decimal.Decimal.{Decimal}
use Rattle.vdr_rows.specs.Decimals.{of_count, of_minutes, of_tenths}
use Rattle.vdr_rows.specs.Values.{Said}

-- The number of a message, its first six bits.
abbrev pub kind_of : Message → ℕ
kind_of m = slice_index m.sixes 0

-- The speed that is not available, in tenths of a knot: 1,023 knots of an aircraft, 63 of a message for long range, else 102.3.
abbrev pub no_speed : (kind : ℕ) → ℕ
no_speed kind = if kind == 9 then 10_230 else if kind == 27 then 630 else 1_023

-- The course that is not available, in tenths of a degree: 511 of a message for long range, else 360.
abbrev pub no_course : (kind : ℕ) → ℕ
no_course kind = if kind == 27 then 5_110 else 3_600

-- Of the ship with this MMSI.
abbrev pub ais_said : (mmsi : List ℕ) (name : List ℕ) → Decimal → (measure : List ℕ) → Said
ais_said mmsi name number measure = record { item = mmsi; name = name; number = Some number; measure = measure; valid = None; words = [] }

-- A latitude or a longitude.
abbrev pub angle_said : (mmsi : List ℕ) (name : List ℕ) (none : ℤ) → ℤ → Option Said
angle_said mmsi name none n = if int_eq n none then None else Some (ais_said mmsi name (of_minutes n) (codes "deg"))

abbrev pub tenths_said : (mmsi : List ℕ) (name : List ℕ) (none : ℕ) (measure : List ℕ) → Option ℕ → Option Said
tenths_said mmsi name none measure None = None
tenths_said mmsi name none measure (Some n) = if n == none then None else Some (ais_said mmsi name (of_tenths n) measure)

abbrev pub heading_said : (mmsi : List ℕ) → Option ℕ → Option Said
heading_said mmsi None = None
heading_said mmsi (Some n) = if n == 511 then None else Some (ais_said mmsi (codes "ais_heading") (of_count n) (codes "deg"))

abbrev pub name_said : (mmsi : List ℕ) → Option (List ℕ) → Option Said
name_said mmsi None = None
name_said mmsi (Some name) = if length name == 0 then None else Some (record { item = mmsi; name = codes "ais_name"; number = None; measure = []; valid = None; words = name })

abbrev pub position_values : (kind : ℕ) (mmsi : List ℕ) → Option Position → List (Option Said)
position_values kind mmsi None = []
position_values kind mmsi (Some p) =
    angle_said mmsi (codes "ais_latitude") (pos 54_600_000) p.latitude
    ∷ angle_said mmsi (codes "ais_longitude") (pos 108_600_000) p.longitude
    ∷ tenths_said mmsi (codes "ais_speed") (no_speed kind) (codes "kn") p.speed
    ∷ tenths_said mmsi (codes "ais_course") (no_course kind) (codes "deg") p.course
    ∷ heading_said mmsi p.heading
    ∷ []

-- Those that are there.
abbrev pub given : List (Option Said) → List Said
given said = filter_map (λ o. o) said

abbrev pub both_values : (kind : ℕ) (mmsi : List ℕ) → Report → List (Option Said)
both_values kind mmsi r = position_values kind mmsi r.position ++ name_said mmsi r.name ∷ []

abbrev pub report_values : (kind : ℕ) → Option Report → List Said
report_values kind None = []
report_values kind (Some r) = given (both_values kind (mmsi_text r.mmsi) r)

abbrev pub message_values : Option Message → List Said
message_values None = []
message_values (Some m) = report_values (kind_of m) (report_in (bits_of m))
