-- What the lines of a record tell (this project's profile): readings of series, and names of ships.
use Rattle.std.specs.Prelude.{ℕ, ℤ, pos, Bool, List, [], ◌∷◌, ◌++◌, codes, map, Option, None, Some, option_map, option_to_list, unwrap_or, Result, Ok, Err}
use Rattle.std.specs.Fmt.{signed_decimal}
use Rattle.std.specs.Prelude.{decimal}
use Rattle.vdr_terms.specs.Groups.{group_name}
use Rattle.vdr_terms.specs.Records.{Content, Record}
use Rattle.vdr_terms.specs.Records.Content.{Start, Datagram, Gap, Stop}
use Rattle.vdr_sentence.specs.Addresses.{address_of}
use Rattle.vdr_values.specs.Readings.{Reading, reading}
use Rattle.vdr_datagram.specs.Verdicts.{LineReading, LineSpan, line_spans}
use Rattle.vdr_datagram.specs.Verdicts.LineReading.{Good, Tag, Sentence}
use Rattle.vdr_ais.specs.Bits.{Message, bits_of}
use Rattle.vdr_ais.specs.Lines.{Line}
use Rattle.vdr_ais.specs.Reports as reports
use Rattle.vdr_ais.specs.Reports.{Report, report_in}
use Rattle.vdr_rows.specs.Decimals.{decimal_text}
use Rattle.vdr_rows.specs.Numbers.{Numbered, Position, hundred_millionths_of, numbers_of, position_of}
use Rattle.vdr_rows.specs.Tables.{back_with, ended_at}
use Rattle.vdr_thin.specs.declared.kind.Kind.{Kind}
use Rattle.vdr_thin.specs.declared.kind.Kind.TheVariants.{Value as OfValue, Position as OfPosition, Ship as OfShip}
use Rattle.vdr_page.specs.Fields.{fields_text}
use Rattle.vdr_page.specs.Fields.Field.{Number, Text}

-- A reading of a series: the fields by which its rows begin, whether its sentence says that it is valid, the measures that extremes are judged by, and what is
-- shown of it.
pub record Said : Type 0 where
  pub kind : Kind
  pub key : List ℕ
  pub valid : Option Bool
  pub measure : ℤ
  pub second : ℤ
  pub text : List ℕ

pub data Telling : Type 0 where
  Says : (said : Said) → Telling
  Names : (formatter : List ℕ) → (mmsi : ℕ) → (name : List ℕ) → Telling

-- Who speaks in a line: the name of its record's group, the source of its TAG blocks, `-` where they name none, and the address of its sentence.
pub record Speaker : Type 0 where
  pub group : List ℕ
  pub source : List ℕ
  pub sentence : List ℕ

-- A number, by GROUP, SOURCE, SENTENCE, ITEM, NAME and UNIT.
abbrev pub number_told : Speaker → Numbered → Telling
number_told who n = Says (record {
  kind = OfValue;
  key = fields_text (Text who.group ∷ Text who.source ∷ Text who.sentence ∷ Text n.item ∷ Text n.name ∷ Text n.measure ∷ []);
  valid = n.valid;
  measure = hundred_millionths_of n.number;
  second = hundred_millionths_of n.number;
  text = decimal_text n.number;
})

-- A position, by GROUP, SOURCE and SENTENCE: LAT,LON in degrees.
abbrev pub position_told : Speaker → Position → Telling
position_told who p = Says (record {
  kind = OfPosition;
  key = fields_text (Text who.group ∷ Text who.source ∷ Text who.sentence ∷ []);
  valid = p.valid;
  measure = hundred_millionths_of p.latitude;
  second = hundred_millionths_of p.longitude;
  text = decimal_text p.latitude ++ 44 ∷ decimal_text p.longitude;
})

-- `null` where a message has no field for it.
abbrev pub number_or_none : Option ℕ → List ℕ
number_or_none None = codes "null"
number_or_none (Some n) = decimal n

-- LAT,LON,SPEED,COURSE,HEADING of a ship as they were sent.
abbrev pub ship_text : reports.Position → List ℕ
ship_text p =
    signed_decimal p.latitude
    ++ codes ","
    ++ signed_decimal p.longitude
    ++ codes ","
    ++ number_or_none p.speed
    ++ codes ","
    ++ number_or_none p.course
    ++ codes ","
    ++ number_or_none p.heading

-- A report of a ship's position, by GROUP, SOURCE, FORMATTER and MMSI.
abbrev pub ship_told : Speaker → (formatter : List ℕ) → (mmsi : ℕ) → reports.Position → Telling
ship_told who formatter mmsi p = Says (record {
  kind = OfShip;
  key = fields_text (Text who.group ∷ Text who.source ∷ Text formatter ∷ Number mmsi ∷ []);
  valid = None;
  measure = pos 0;
  second = pos 0;
  text = ship_text p;
})

-- A name that is not empty.
abbrev pub names_told : (formatter : List ℕ) (mmsi : ℕ) → Option (List ℕ) → List Telling
names_told formatter mmsi None = []
names_told formatter mmsi (Some []) = []
names_told formatter mmsi (Some (letter ∷ name)) = Names formatter mmsi (letter ∷ name) ∷ []

-- ---- what a line tells: its position, its numbers, and behind it what the AIS message reports that ends with it

abbrev pub report_tellings : Speaker → (formatter : List ℕ) → Report → List Telling
report_tellings who formatter r =
    option_to_list (option_map (ship_told who formatter r.mmsi) r.position) ++ names_told formatter r.mmsi r.name

abbrev pub reported : Speaker → (formatter : List ℕ) → Option Report → List Telling
reported who formatter None = []
reported who formatter (Some r) = report_tellings who formatter r

abbrev pub message_tellings : Speaker → (formatter : List ℕ) → Option Message → List Telling
message_tellings who formatter None = []
message_tellings who formatter (Some m) = reported who formatter (report_in (bits_of m))

abbrev pub reading_tellings : Speaker → Reading → (ended : Option Message) → List Telling
reading_tellings who r ended =
    option_to_list (option_map (position_told who) (position_of r)) ++ map (number_told who) (numbers_of r) ++ message_tellings who r.row.formatter ended

-- A sentence without a reading tells nothing.
abbrev pub tellings_where : Speaker → Result (Option Reading) ℕ → (ended : Option Message) → List Telling
tellings_where who (Ok (Some r)) ended = reading_tellings who r ended
tellings_where who (Ok None) ended = []
tellings_where who (Err bad) ended = []

abbrev pub line_tellings : (group : ℕ) → LineReading → (ended : Option Message) → List Telling
line_tellings group (Good tags sentence) ended =
    tellings_where (record { group = group_name group; source = unwrap_or tags.source (codes "-"); sentence = address_of sentence.content }) (reading sentence.content) ended
line_tellings group (Tag bad) ended = []
line_tellings group (Sentence tags bad) ended = []

-- The message that ends at a line is that of the lines behind which it stands, the latest first.
abbrev pub lines_tellings : (back : List Line) → (group : ℕ) → List LineSpan → List Telling
lines_tellings back group [] = []
lines_tellings back group (span ∷ spans) = line_tellings group span.verdict (ended_at back group span.verdict) ++ lines_tellings (back_with back group span.verdict) group spans

abbrev pub content_tellings : (back : List Line) → (group : ℕ) → Content → List Telling
content_tellings back group Start = []
content_tellings back group (Datagram payload) = lines_tellings back group (line_spans payload)
content_tellings back group (Gap missed) = []
content_tellings back group Stop = []

-- What a record tells, behind lines that carry parts of AIS messages.
abbrev pub tellings_of : (back : List Line) → Record → List Telling
tellings_of back r = content_tellings back r.group r.content
