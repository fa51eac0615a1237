-- The digest of records (this project's profile): a line for each hour of recording time, and one of all these lines. SHA-256: FIPS 180-4.
use Rattle.std.specs.Prelude.{ℕ, ◌/◌, Bool, true, false, ◌==◌, List, [], ◌∷◌, ◌++◌, Option, codes, decimal, if◌then◌else◌}
use Rattle.std.specs.List.{fold}
use Rattle.hex.specs.Hex.{encode_lower}
use Rattle.sha2.specs.Sha256.{sha256}
use Rattle.vdr_terms.specs.Records.{Record}
use Rattle.vdr_entry.specs.Spelling.{records_bytes}
use Rattle.vdr_visit.specs.Prints.{text_of}
use Rattle.vdr_digest.specs.Spans.{span_of, span_text}
use Rattle.vdr_digest.specs.declared.span.Span.{Span}

-- the hour of a tick
abbrev pub hour : ℕ → ℕ
hour tick = tick / 3_600_000

-- what is printed of records by this word: their places, how many they are, and the SHA-256 of a message
abbrev pub digest_line : (word : List ℕ) → Option Span → (message : List ℕ) → List ℕ
digest_line word span message = word ++ codes " " ++ span_text span ++ codes " " ++ encode_lower (sha256 message) ++ codes "\n"

-- The line of the records of one hour: the SHA-256 of their bytes as in a batch, one behind the other.
abbrev pub hour_line : List Record → List ℕ
hour_line [] = []
hour_line (r ∷ records) = digest_line (decimal (hour r.tick)) (span_of (r ∷ records)) (records_bytes (r ∷ records))

-- ---- as records come, one after another

-- whether this is the hour of the records that are held
abbrev pub is_hour_of : List Record → ℕ → Bool
is_hour_of [] h = false
is_hour_of (r ∷ records) h = hour r.tick == h

-- the records of the last hour, with one record more
abbrev pub held_with : List Record → Record → List Record
held_with held r = if is_hour_of held (hour r.tick) then held ++ r ∷ [] else r ∷ []

abbrev pub held_behind : List Record → List Record
held_behind seen = fold held_with [] seen

-- What is printed at a record behind these: the line of the hour before, where the record is of another one.
abbrev pub line_at : List Record → Record → List ℕ
line_at seen r = if is_hour_of (held_behind seen) (hour r.tick) then [] else hour_line (held_behind seen)

-- the lines of the hours before the last one
abbrev pub lines_before : List Record → List ℕ
lines_before seen = text_of line_at seen

-- the lines of all hours
abbrev pub hour_lines : List Record → List ℕ
hour_lines records = lines_before records ++ hour_line (held_behind records)

-- What is printed behind the last record: the line of its hour, and that of all, with the SHA-256 of the lines above it.
abbrev pub last_lines : List Record → List ℕ
last_lines records = hour_line (held_behind records) ++ digest_line (codes "all") (span_of records) (hour_lines records)

-- The digest of these records.
abbrev pub digest_text : List Record → List ℕ
digest_text records = hour_lines records ++ digest_line (codes "all") (span_of records) (hour_lines records)
