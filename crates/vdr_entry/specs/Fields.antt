-- The record that a value's fields are.
use Rattle.std.specs.Prelude.{◌≡◌, ℕ, List}
use Rattle.vdr_bytes.specs.Numbers.{u64_at}
use Rattle.vdr_terms.specs.declared.counts.Counts.{Counts}
use Rattle.vdr_terms.specs.Records.{Record, Content}
use Rattle.vdr_terms.specs.Records.Content.{Start, Datagram, Gap, Stop}
use Rattle.vdr_terms.specs.Legality.{IsRecord}
use Rattle.vdr_entry.specs.declared.kind.Kind.{Kind}
use Rattle.vdr_entry.specs.declared.kind.Kind.TheVariants.{Start as KindStart, Datagram as KindDatagram, Gap as KindGap, Stop as KindStop}
use Rattle.vdr_entry.specs.Spelling.{payload}

-- The counts in the payload of a Gap.
abbrev pub missed_in : List ℕ → Counts
missed_in bytes = record { full = u64_at 8 bytes; rate = u64_at 16 bytes; bad = u64_at 24 bytes; large = u64_at 32 bytes }

-- What a payload says under a kind.
abbrev pub content_of : Kind → List ℕ → Content
content_of KindStart bytes = Start
content_of KindDatagram bytes = Datagram bytes
content_of KindGap bytes = Gap (missed_in bytes)
content_of KindStop bytes = Stop

abbrev pub code_of : Kind → ℕ
code_of KindStart = 0
code_of KindDatagram = 1
code_of KindGap = 2
code_of KindStop = 3

-- The record is legal, and these bytes are its payload.
pub record Carries (r : Record) (bytes : List ℕ) : Type 0 where
  pub legal : IsRecord r
  pub payload_is : bytes ≡ payload r.number r.content
