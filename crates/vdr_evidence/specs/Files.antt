-- An evidence file: records as they stand on the media, what was asked of which media, and the SHA-256 of all (this project's profile). Numbers are
-- little-endian. SHA-256: FIPS 180-4.
use Rattle.std.specs.Prelude.{ℕ, ◌+◌, ◌-◌, ◌^◌, ℤ, pos, int_le, Bool, ◌&&◌, List, [], ◌∷◌, ◌++◌, length, min, codes, if◌then◌else◌}
use Rattle.std.specs.List.{flat_map, fold}
use Rattle.sha2.specs.Sha256.{sha256}
use Rattle.vdr_bytes.specs.Numbers.{le_u32, le_u64}
use Rattle.vdr_terms.specs.Records.{Record}
use Rattle.vdr_terms.specs.Stamps.{last_stamp}
use Rattle.vdr_entry.specs.Spelling.{record_bytes}
use Rattle.vdr_entry.specs.Utc.{utc_text}
use Rattle.vdr_entry.specs.declared.query.Medium.{Medium}
use Rattle.vdr_entry.specs.declared.query.Medium.TheVariants.{Capsule, LongTerm, Incident}

-- A part: how many bytes it has, and these.
unfoldable pub part : (bytes : List ℕ) → List ℕ
part bytes = le_u32 (length bytes) ++ bytes

-- ---- before the records

-- What a file tells before its records.
pub record Heading : Type 0 where
  pub text : List ℕ  -- of the configuration
  pub medium : ℕ  -- the number of the medium on which the records stand
  pub incident : ℕ  -- the id of the incident, 0 for none
  pub label : List ℕ  -- the incident's label
  pub query : List ℕ  -- as text

unfoldable pub heading_bytes : Heading → List ℕ
heading_bytes h =
    codes "VDREVID1"
    ++ part h.text
    ++ part (h.medium ∷ [])
    ++ part (le_u32 h.incident)
    ++ part h.label
    ++ part h.query

abbrev pub number_in : Medium → ℕ
number_in Capsule = 0
number_in LongTerm = 1
number_in (Incident id) = 1

abbrev pub incident_in : Medium → ℕ
incident_in Capsule = 0
incident_in LongTerm = 0
incident_in (Incident id) = id

-- The text of a stamp; `-` for a number that is none.
abbrev pub bound_text : ℤ → List ℕ
bound_text utc = if int_le (pos 0) utc && int_le utc (pos last_stamp) then utc_text utc else codes "-"

-- CHANNEL FROM TO
abbrev pub query_text : (channel : List ℕ) → (from to : ℤ) → List ℕ
query_text channel from to = channel ++ codes " " ++ bound_text from ++ codes " " ++ bound_text to

-- What is told of the records of a channel that a medium or an incident has between two stamps.
abbrev pub heading_of : (text : List ℕ) → Medium → (label channel : List ℕ) → (from to : ℤ) → Heading
heading_of text medium label channel from to = record {
  text = text;
  medium = number_in medium;
  incident = incident_in medium;
  label = label;
  query = query_text channel from to;
}

-- ---- the records, and what stands behind them

abbrev pub record_part : Record → List ℕ
record_part r = part (record_bytes r)

abbrev pub record_parts : List Record → List ℕ
record_parts = flat_map record_part

-- how many they are; the count stands still at the greatest number of 64 bits
abbrev pub one_more : ℕ → Record → ℕ
one_more n r = min (n + 1) (2 ^ 64 - 1)

abbrev pub counted : List Record → ℕ
counted records = fold one_more 0 records

-- Behind the last record: a length of 0, which no record has, and how many records there are.
abbrev pub end_mark : List Record → List ℕ
end_mark records = le_u32 0 ++ le_u64 (counted records)

-- All that the digest is of.
abbrev pub covered : (heading : List ℕ) → List Record → List ℕ
covered heading records = heading ++ record_parts records ++ end_mark records

-- The file of these records behind this heading.
abbrev pub evidence_bytes : (heading : List ℕ) → List Record → List ℕ
evidence_bytes heading records = covered heading records ++ sha256 (covered heading records)

-- ---- as records come, one after another

-- the heading stands before the first record, or before the end where there is none
abbrev pub heading_at : (heading : List ℕ) → (seen : List Record) → List ℕ
heading_at heading [] = heading
heading_at heading (r ∷ rs) = []

-- What is written of a record behind these.
abbrev pub line_at : (heading : List ℕ) → (seen : List Record) → Record → List ℕ
line_at heading seen r = heading_at heading seen ++ record_part r

-- What is written behind the last record.
abbrev pub closing : (heading : List ℕ) → (seen : List Record) → List ℕ
closing heading seen = end_mark seen ++ sha256 (covered heading seen)

abbrev pub last_lines : (heading : List ℕ) → (seen : List Record) → List ℕ
last_lines heading seen = heading_at heading seen ++ closing heading seen
