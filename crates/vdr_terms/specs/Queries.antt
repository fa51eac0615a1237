-- What a query asks, and which segments may answer it.
use Rattle.std.specs.Prelude.{ℕ, ◌+◌, ◌/◌, ◌%◌, ◌^◌, ◌≡◌, ℤ, int_le, Bool, true, List, length, Any, All, ◌&&◌, ◌==◌, nat_lt, nat_le, slice_get, option_map, Option, Some, None}
use Rattle.std.specs.List.{list_any}
use Rattle.vdr_terms.specs.Records.{Record, second, last}
use Rattle.vdr_terms.specs.Windows.{in_window}

-- What is played: the window of a medium, or a saved incident.
pub data Medium : Type 0 where
  WindowOf : (m : ℕ) → Medium
  Incident : (id : ℕ) → Medium

-- The records of a channel, None for all, whose utc is from `from` to `to`, both included.
pub record Query : Type 0 where
  pub medium : Medium
  pub channel : Option ℕ
  pub from : ℤ
  pub to : ℤ

-- Bit k is set. No channel asks for none.
abbrev pub has_channel : Option ℕ → ℕ → Bool
has_channel None bits = true
has_channel (Some k) bits = bits / 2 ^ k % 2 == 1

abbrev pub matches : Query → Record → Bool
matches q r = has_channel q.channel r.bits && (int_le q.from r.utc && int_le r.utc q.to)

-- What a query's medium comes to: the window that ends with this second, or these places.
pub data Span : Type 0 where
  Window : (last_second seconds : ℕ) → Span
  Places : (a b : ℕ) → Span

abbrev pub in_span : Span → Record → Bool
in_span (Window last_second seconds) r = in_window (second r.tick) last_second seconds
in_span (Places a b) r = nat_le a r.place && nat_le r.place b

-- What is known of a segment without reading it.
pub record Summary : Type 0 where
  pub first : ℕ  -- the first place
  pub count : ℕ
  pub first_second : ℕ
  pub last_second : ℕ
  pub least_utc : ℤ
  pub greatest_utc : ℤ
  pub bits : ℕ

-- The summary is that of these records.
pub record IsSummary (summary : Summary) (records : List Record) : Type 0 where
  pub first : option_map (λ r. r.place) (slice_get records 0) ≡ Some summary.first
  pub count : summary.count ≡ length records
  pub first_second : option_map (λ r. second r.tick) (slice_get records 0) ≡ Some summary.first_second
  pub last_second : option_map (λ r. second r.tick) (last records) ≡ Some summary.last_second
  pub utc : All (λ r. (int_le summary.least_utc r.utc ≡ true) × (int_le r.utc summary.greatest_utc ≡ true)) records
  pub least : Any (λ r. r.utc ≡ summary.least_utc) records
  pub greatest : Any (λ r. r.utc ≡ summary.greatest_utc) records
  pub bits : (k : ℕ) → has_channel (Some k) summary.bits ≡ list_any (λ r. has_channel (Some k) r.bits) records

-- The summary's last second is in the window, or its places meet those asked for.
abbrev pub meets_span : Span → Summary → Bool
meets_span (Window last_second seconds) s = in_window s.last_second last_second seconds
meets_span (Places a b) s = nat_le s.first b && nat_lt a (s.first + s.count)

-- The summary meets the query within its span: a record that the query selects may be in the segment.
abbrev pub meets : Query → Span → Summary → Bool
meets q span s = meets_span span s && (has_channel q.channel s.bits && (int_le q.from s.greatest_utc && int_le s.least_utc q.to))
