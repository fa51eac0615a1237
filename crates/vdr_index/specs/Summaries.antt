-- What the records of a segment have in common.
use Rattle.std.specs.Prelude.{◌≡◌, ◌-◌, ◌^◌, ℕ, true, min, int_le, List, [], length, slice_get, All, Any, option_map, Option, Some, None}
use Rattle.std.specs.List.{list_any}
use Rattle.vdr_terms.specs.Records.{Record, second, last}
use Rattle.vdr_terms.specs.Queries.{has_channel}
use Rattle.vdr_entry.specs.declared.summary.Summary.{Summary}

-- A summary has room for no greater count.
abbrev pub greatest_count : ℕ
greatest_count = 2 ^ 32 - 1

-- The summary is that of these records, at least one. Its count is theirs, as far as it has room.
pub record IsSummaryOf (records : List Record) (s : Summary) : Type 0 where
  pub count : s.count ≡ min (length records) greatest_count
  pub first_second : option_map (λ r. second r.tick) (slice_get records 0) ≡ Some s.first_second
  pub last_second : option_map (λ r. second r.tick) (last records) ≡ Some s.last_second
  pub utc : All (λ r. (int_le s.least_utc r.utc ≡ true) × (int_le r.utc s.greatest_utc ≡ true)) records
  pub least : Any (λ r. r.utc ≡ s.least_utc) records
  pub greatest : Any (λ r. r.utc ≡ s.greatest_utc) records
  pub bits : (k : ℕ) → has_channel (Some k) s.bits ≡ list_any (λ r. has_channel (Some k) r.bits) records

-- The summary of these records, None where there is none.
abbrev pub Summarises : List Record → Option Summary → Type 0
Summarises records None = records ≡ []
Summarises records (Some s) = IsSummaryOf records s
