-- How many bytes records and batches take on a medium (this project's profile).
use Rattle.std.specs.Prelude.{ℕ, ◌+◌, List, length, sum_by}
use Rattle.vdr_terms.specs.Records.{Content, Record}
use Rattle.vdr_terms.specs.Records.Content.{Start, Datagram, Gap, Stop}

-- A Gap's payload is five numbers of eight bytes: the first missed number and the four counts.
abbrev pub payload_size : Content → ℕ
payload_size Start = 0
payload_size (Datagram payload) = length payload
payload_size (Gap missed) = 40
payload_size Stop = 0

-- A record has 44 bytes before its payload.
abbrev pub record_size : Record → ℕ
record_size r = 44 + payload_size r.content

abbrev pub records_size : List Record → ℕ
records_size records = sum_by record_size records

-- A batch has five bytes besides its records: its gate and its length.
abbrev pub batch_size : List Record → ℕ
batch_size records = 5 + records_size records
