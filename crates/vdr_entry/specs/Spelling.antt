-- The bytes of a record on the media (this project's profile). Numbers are little-endian.
use Rattle.std.specs.Prelude.{ℕ, unsigned_abs, List, [], ◌∷◌, ◌++◌, length}
use Rattle.std.specs.List.{flat_map}
use Rattle.vdr_bytes.specs.Numbers.{le_u16, le_u64s}
use Rattle.vdr_terms.specs.declared.counts.Counts.{Counts}
use Rattle.vdr_terms.specs.Records.{Record, Content}
use Rattle.vdr_terms.specs.Records.Content.{Start, Datagram, Gap, Stop}

abbrev pub kind_code : Content → ℕ
kind_code Start = 0
kind_code (Datagram payload) = 1
kind_code (Gap missed) = 2
kind_code Stop = 3

-- The payload of a Gap: the first missed number, and the counts.
abbrev pub gap_payload : ℕ → Counts → List ℕ
gap_payload first c = le_u64s (first ∷ c.full ∷ c.rate ∷ c.bad ∷ c.large ∷ [])

abbrev pub payload : (number : ℕ) → Content → List ℕ
payload number Start = []
payload number (Datagram bytes) = bytes
payload number (Gap missed) = gap_payload number missed
payload number Stop = []

-- The five numbers of a record. A stamp is never negative.
unfoldable pub numbers : Record → List ℕ
numbers r = le_u64s (r.bits ∷ r.place ∷ r.number ∷ r.tick ∷ unsigned_abs r.utc ∷ [])

-- The 44 bytes before a payload of this length.
unfoldable pub head : (len : ℕ) → Record → List ℕ
head len r = kind_code r.content ∷ r.group ∷ (le_u16 len ++ numbers r)

unfoldable pub record_bytes : Record → List ℕ
record_bytes r = head (length (payload r.number r.content)) r ++ payload r.number r.content

-- Records one after another.
abbrev pub records_bytes : List Record → List ℕ
records_bytes = flat_map record_bytes
