-- The table of ships that AIS messages report (this project's profile).
use Rattle.std.specs.Prelude.{ℕ, ◌-◌, ℤ, pos, List, [], ◌∷◌, ◌++◌, length, fold, replicate, Option, Some, None, unwrap_or, codes, decimal, flat_map}
use Rattle.std.specs.Fmt.{signed_decimal}
use Rattle.std.specs.Option.{option_or}
use Rattle.std.specs.Ordering.{nat_cmp}
use Rattle.std.specs.Map.{lookup}
use Rattle.std.specs.BTreeMap.{insert_entry, is_at}
use Rattle.vdr_terms.specs.Records.{Record}
use Rattle.vdr_outside.specs.Calls.{one_more}
use Rattle.vdr_entry.specs.Utc.{utc_text}
use Rattle.vdr_ais.specs.Bits.{Message, bits_of}
use Rattle.vdr_ais.specs.Lines.{Line, lines_of}
use Rattle.vdr_ais.specs.Messages.{message_behind}
use Rattle.vdr_ais.specs.Reports.{Report, Position, report_in}

-- What is known of a ship: the utc of the record in which its last report ended, how many reports there are, its last position, and its
-- last name, empty where none came.
pub record Ship : Type 0 where
  pub utc : ℤ
  pub reports : ℕ
  pub place : Option Position
  pub name : List ℕ

-- A ship by its MMSI, in order of number.
abbrev pub Ships : Type 0
Ships = List (ℕ × Ship)

-- A ship that has not reported.
abbrev pub unknown : Ship
unknown = record { utc = pos 0; reports = 0; place = None; name = [] }

-- The ship with one more report.
abbrev pub told : (utc : ℤ) → Report → Ship → Ship
told utc report ship = record {
  utc = utc;
  reports = one_more ship.reports;
  place = option_or report.position ship.place;
  name = unwrap_or report.name ship.name;
}

abbrev pub ship_in : Ships → (mmsi : ℕ) → Ship
ship_in ships mmsi = unwrap_or (lookup (is_at (nat_cmp mmsi)) ships) unknown

abbrev pub with_report : (utc : ℤ) → Ships → Report → Ships
with_report utc ships report = insert_entry nat_cmp ships report.mmsi (told utc report (ship_in ships report.mmsi))

abbrev pub if_reported : (utc : ℤ) → Ships → Option Report → Ships
if_reported utc ships None = ships
if_reported utc ships (Some report) = with_report utc ships report

abbrev pub if_ended : (utc : ℤ) → Ships → Option Message → Ships
if_ended utc ships None = ships
if_ended utc ships (Some message) = if_reported utc ships (report_in (bits_of message))

-- The lines so far, the latest first, and the ships that they report.
pub record Seen : Type 0 where
  pub back : List Line
  pub ships : Ships

abbrev pub nothing : Seen
nothing = record { back = []; ships = [] }

abbrev pub with_line : (utc : ℤ) → Seen → Line → Seen
with_line utc seen line = record { back = line ∷ seen.back; ships = if_ended utc seen.ships (message_behind seen.back line) }

abbrev pub with_record : Seen → Record → Seen
with_record seen r = fold (with_line r.utc) seen (lines_of r.group r.content)

-- The ships that these records report.
abbrev pub targets_of : List Record → Ships
targets_of records = (fold with_record nothing records).ships

-- The MMSI in nine digits or more, with zeros before it.
abbrev pub mmsi_text : ℕ → List ℕ
mmsi_text mmsi = replicate (9 - length (decimal mmsi)) 48 ++ decimal mmsi

-- A number, or `-` where the message has no field for it.
abbrev pub number_text : Option ℕ → List ℕ
number_text None = codes "-"
number_text (Some n) = decimal n

abbrev pub place_text : Option Position → List ℕ
place_text None = codes "- - - - -"
place_text (Some p) =
    signed_decimal p.latitude ++ codes " " ++ signed_decimal p.longitude ++ codes " " ++ number_text p.speed ++ codes " " ++ number_text p.course ++ codes " " ++ number_text p.heading

abbrev pub name_text : List ℕ → List ℕ
name_text [] = codes "-"
name_text (c ∷ cs) = c ∷ cs

-- MMSI UTC REPORTS LATITUDE LONGITUDE SPEED COURSE HEADING NAME
unfoldable pub ship_text : ℕ × Ship → List ℕ
ship_text (mmsi, ship) =
    mmsi_text mmsi ++ codes " " ++ utc_text ship.utc ++ codes " " ++ decimal ship.reports ++ codes " " ++ place_text ship.place ++ codes " " ++ name_text ship.name ++ codes "\n"

abbrev pub targets_text : Ships → List ℕ
targets_text ships = flat_map ship_text ships
