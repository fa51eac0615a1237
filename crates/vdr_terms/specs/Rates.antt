-- The rate of a group: what is admitted in a second, and which refusals the records themselves show (this project's profile).
use Rattle.std.specs.Prelude.{ℕ, ◌+◌, Bool, true, false, List, length, map, filter, sum, ◌&&◌, ◌||◌, ◌==◌, not, nat_lt, nat_le, Option, Some, None}
use Rattle.vdr_terms.specs.Records.{Record, Item, second, payload_of, datagrams_of, last}
use Rattle.vdr_terms.specs.declared.rate.Rate.{Rate}

-- What a group may have recorded.
pub data Limit : Type 0 where
  NotConfigured : Limit  -- nothing: the group is none of the configuration's
  Unlimited : Limit  -- all: a review without rates
  AtMost : (rate : Rate) → Limit  -- so much in each second

-- The limit of a group in a configuration, where None stands for a group that is not configured.
abbrev pub limit_of : Option Rate → Limit
limit_of None = NotConfigured
limit_of (Some rate) = AtMost rate

abbrev pub is_configured : Limit → Bool
is_configured NotConfigured = false
is_configured Unlimited = true
is_configured (AtMost rate) = true

-- The lengths of a group's Datagrams in a second.
abbrev pub lengths_in : ℕ → ℕ → List Record → List ℕ
lengths_in g s records = map (λ r. length (payload_of r.content)) (filter (λ r. second r.tick == s) (datagrams_of g records))

-- A second that has Datagrams of these lengths has room for one more, of so many bytes.
abbrev pub has_room : Limit → List ℕ → ℕ → Bool
has_room NotConfigured lengths bytes = false
has_room Unlimited lengths bytes = true
has_room (AtMost rate) lengths bytes = nat_lt (length lengths) rate.datagrams && nat_le (sum lengths + bytes) rate.bytes

-- After these records the group has room in this second for one more Datagram, of so many bytes.
abbrev pub is_admitted : Limit → List Record → ℕ → ℕ → ℕ → Bool
is_admitted limit records g s bytes = has_room limit (lengths_in g s records) bytes

-- The last Datagram's second leaves no room for so many bytes, and the item came no later than in that second.
abbrev pub is_full_after : Option Record → Rate → List Record → ℕ → ℕ → ℕ → Bool
is_full_after None rate records g arrived bytes = false
is_full_after (Some d) rate records g arrived bytes =
    not (is_admitted (AtMost rate) records g (second d.tick) bytes) && nat_le arrived (second d.tick)

-- The records of a run that began at tick `base` show that the rate refused the item: it is longer than a second's bytes,
-- or the second of the group's last Datagram has no room for it and it did not come later. Of a group that is not
-- configured every item is refused.
abbrev pub is_licensed : Limit → ℕ → List Record → ℕ → Item → Bool
is_licensed NotConfigured base records g item = true
is_licensed Unlimited base records g item = false
is_licensed (AtMost rate) base records g item =
    nat_lt rate.bytes (length item.bytes)
    || is_full_after (last (datagrams_of g records)) rate records g (second (base + item.received)) (length item.bytes)
