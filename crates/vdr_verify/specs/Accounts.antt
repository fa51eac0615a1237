-- The account of the records of a file (this project's profile).
use Rattle.std.specs.Prelude.{ℕ, ◌+◌, ◌-◌, ◌^◌, min, List, Option, None, Some, IfSome}
use Rattle.std.specs.List.{fold}
use Rattle.vdr_terms.specs.Records.{Content, Record, none_missed}
use Rattle.vdr_terms.specs.Records.Content.{Start, Datagram, Gap, Stop}
use Rattle.vdr_terms.specs.Stamps.{IsStamp}
use Rattle.vdr_terms.specs.declared.counts.Counts.{Counts}
use Rattle.vdr_verify.specs.declared.account.Account.{Account}
use Rattle.vdr_verify.specs.declared.account.Spot.{Spot}

-- A sum stands still at the greatest number of 64 bits.
abbrev pub sum_with : (sum n : ℕ) → ℕ
sum_with sum n = min (sum + n) (2 ^ 64 - 1)

abbrev pub missed_with : (sum missed : Counts) → Counts
missed_with sum missed = record {
  full = sum_with sum.full missed.full;
  rate = sum_with sum.rate missed.rate;
  bad = sum_with sum.bad missed.bad;
  large = sum_with sum.large missed.large;
}

abbrev pub spot_of : Record → Spot
spot_of r = record { place = r.place; utc = r.utc }

-- the first of them stays
abbrev pub first_with : Option Spot → Spot → Spot
first_with None spot = spot
first_with (Some first) spot = first

abbrev pub no_account : Account
no_account = record { records = 0; starts = 0; datagrams = 0; gaps = 0; stops = 0; missed = none_missed; first = None; last = None }

-- with a record of this kind
abbrev pub with_kind : Account → Content → Account
with_kind a Start = record a { starts = sum_with a.starts 1 }
with_kind a (Datagram payload) = record a { datagrams = sum_with a.datagrams 1 }
with_kind a (Gap missed) = record a { gaps = sum_with a.gaps 1; missed = missed_with a.missed missed }
with_kind a Stop = record a { stops = sum_with a.stops 1 }

-- with one record more
abbrev pub account_with : Account → Record → Account
account_with a r = record (with_kind a r.content) { records = sum_with a.records 1; first = Some (first_with a.first (spot_of r)); last = Some (spot_of r) }

-- How many records there are, of each kind, what the gaps among them count, and where the first and the last of them stand.
abbrev pub account_of : List Record → Account
account_of records = fold account_with no_account records

-- Where the first and the last record stand their stamps are told.
pub record HasStamps (a : Account) : Type 0 where
  pub first : IfSome a.first (λ s. IsStamp s.utc)
  pub last : IfSome a.last (λ s. IsStamp s.utc)
