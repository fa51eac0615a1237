-- Lines that carry a part of an AIS message: VDM of another ship, VDO of the own ship (IEC 61162-1).
use Rattle.std.specs.Prelude.{ℕ, ◌==◌, Bool, ◌&&◌, ◌||◌, List, [], map, Option, Some, None, unwrap_or, Result, Ok, Err, bytes_eq, codes, option_map, if◌then◌else◌, nat_eq}
use Rattle.std.specs.List.{list_all, filter_map}
use Rattle.std.specs.Option.{option_eq}
use Rattle.vdr_terms.specs.Records.{Content}
use Rattle.vdr_terms.specs.Records.Content.{Start, Datagram, Gap, Stop}
use Rattle.vdr_values.specs.Readings.{Reading, reading}
use Rattle.vdr_values.specs.Values.{value_at, digits_in, raw_in}
use Rattle.vdr_datagram.specs.Verdicts.{LineReading, line_spans}
use Rattle.vdr_datagram.specs.Verdicts.LineReading.{Good, Tag, Sentence}
use Rattle.vdr_ais.specs.Bits.{is_legal, six}

-- What the parts of one message have in common. The radio channel is the text of its field.
pub record Key : Type 0 where
  pub group : ℕ
  pub source : List ℕ
  pub formatter : List ℕ
  pub sequence : Option ℕ
  pub channel : List ℕ

unfoldable pub is_same : Key → Key → Bool
is_same a b = (a.group == b.group) && (bytes_eq a.source b.source && (bytes_eq a.formatter b.formatter && (option_eq nat_eq a.sequence b.sequence && bytes_eq a.channel b.channel)))

-- Part `number` of `total`, with the numbers of six bits that its payload stands for.
pub record Part : Type 0 where
  pub total : ℕ
  pub number : ℕ
  pub sixes : List ℕ
  pub fill : ℕ

pub record Line : Type 0 where
  pub key : Key
  pub part : Part

-- All four are there, and the payload is legal.
abbrev pub part_from : (total number : Option ℕ) → (payload : Option (List ℕ)) → (fill : Option ℕ) → Option Part
part_from (Some total) (Some number) (Some payload) (Some fill) =
    if list_all is_legal payload then Some (record { total = total; number = number; sixes = map six payload; fill = fill }) else None
part_from _ _ _ _ = None

abbrev pub carries : (formatter : List ℕ) → Bool
carries formatter = bytes_eq formatter (codes "VDM") || bytes_eq formatter (codes "VDO")

-- The line of a sentence that reads so. None where it carries no part.
abbrev pub line_of : (group : ℕ) (source : List ℕ) → Reading → Option Line
line_of group source r =
    if carries r.row.formatter
    then option_map (λ part. record {
      key = record { group = group; source = source; formatter = r.row.formatter; sequence = digits_in (value_at r.values 2); channel = unwrap_or (raw_in (value_at r.values 3)) [] };
      part = part;
    }) (part_from (digits_in (value_at r.values 0)) (digits_in (value_at r.values 1)) (raw_in (value_at r.values 4)) (digits_in (value_at r.values 5)))
    else None

-- The same of a sentence whose formatter is told besides. Where the reading has another the line carries no part.
abbrev pub line_as : (group : ℕ) (source formatter : List ℕ) → Reading → Option Line
line_as group source formatter r = if bytes_eq r.row.formatter formatter then line_of group source r else None

abbrev pub line_where : (group : ℕ) (source : List ℕ) → Result (Option Reading) ℕ → Option Line
line_where group source (Ok (Some r)) = line_of group source r
line_where group source (Ok None) = None
line_where group source (Err bad) = None

-- What a line of a datagram carries. One that names no source counts for the source `-`; one whose fields are refused carries nothing.
abbrev pub line_in : (group : ℕ) → LineReading → Option Line
line_in group (Good tags sentence) = line_where group (unwrap_or tags.source (codes "-")) (reading sentence.content)
line_in group (Tag bad) = None
line_in group (Sentence tags bad) = None

-- The lines of a datagram that carry a part.
abbrev pub lines_in : (group : ℕ) (payload : List ℕ) → List Line
lines_in group payload = filter_map (λ span. line_in group span.verdict) (line_spans payload)

-- Those of a record. Only sentence datagrams have lines.
abbrev pub lines_of : (group : ℕ) → Content → List Line
lines_of group (Datagram payload) = lines_in group payload
lines_of group (Gap missed) = []
lines_of group Start = []
lines_of group Stop = []
