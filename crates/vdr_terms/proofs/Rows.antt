-- Worked examples, computed.
use Rattle.std.proofs.Common.{◌≡◌, ℕ, List, [], ◌∷◌, true, false, pos, ◌==◌, if◌then◌else◌, Option, Some, None, refl}
use Rattle.vdr_terms.specs.declared.rate.Rate.{Rate}
use Rattle.vdr_terms.specs.Needs.{Sizes, cost, usable, needed_slots, slots_in}
use Rattle.vdr_terms.specs.Queries.{Query, Summary, meets}
use Rattle.vdr_terms.specs.Queries.Medium.{WindowOf}
use Rattle.vdr_terms.specs.Queries.Span.{Window, Places}

-- Three groups, 48 hours and 30 days.
abbrev ship : Sizes
ship = record {
  groups = Some (record { datagrams = 20; bytes = 2000 }) ∷ Some (record { datagrams = 5; bytes = 5000 }) ∷ Some (record { datagrams = 2; bytes = 200 }) ∷ None ∷ [];
  segment = 1048576;
  batch = 65536;
  seconds = λ m. if m == 0 then 172800 else 2592000;
  incident_seconds = 43200;
  incidents = 4;
}

ship_cost : cost ship ≡ 11378
ship_cost = refl

ship_usable : usable ship ≡ 982970
ship_usable = refl

ship_capsule : needed_slots ship 0 ≡ 2004
ship_capsule = refl

ship_long : needed_slots ship 1 ≡ 32014
ship_long = refl

-- One group of two datagrams and 200 bytes a second, a minute and ten minutes, a third medium of ten minutes.
abbrev bench : List (Option Rate) → Sizes
bench groups = record { groups = groups; segment = 8192; batch = 2048; seconds = λ m. if m == 0 then 60 else 600; incident_seconds = 30; incidents = 2 }

abbrev one : Option Rate
one = Some (record { datagrams = 2; bytes = 200 })

bench_cost : cost (bench (one ∷ None ∷ [])) ≡ 698
bench_cost = refl

bench_usable : usable (bench (one ∷ [])) ≡ 6074
bench_usable = refl

bench_capsule : needed_slots (bench (one ∷ [])) 0 ≡ 11
bench_capsule = refl

bench_long : needed_slots (bench (one ∷ [])) 1 ≡ 83
bench_long = refl

bench_third : needed_slots (bench (one ∷ [])) 2 ≡ 73
bench_third = refl

two_groups : needed_slots (bench (one ∷ one ∷ [])) 0 ≡ 16
two_groups = refl

two_groups_long : needed_slots (bench (one ∷ one ∷ [])) 1 ≡ 145
two_groups_long = refl

bench_slots : slots_in (bench (one ∷ [])) 122880 ≡ 11
bench_slots = refl

long_slots : slots_in (bench (one ∷ [])) 712704 ≡ 83
long_slots = refl

-- A segment of places 10 to 19 and seconds 5 to 9, with channel 1 alone.
abbrev of_ten : Summary
of_ten = record { first = 10; count = 10; first_second = 5; last_second = 9; least_utc = pos 100; greatest_utc = pos 200; bits = 2 }

abbrev asks : Option ℕ → ℕ → ℕ → Query
asks channel from to = record { medium = WindowOf 0; channel = channel; from = pos from; to = pos to }

in_it : meets (asks (Some 1) 200 300) (Window 68 60) of_ten ≡ true
in_it = refl

too_old : meets (asks (Some 1) 200 300) (Window 69 60) of_ten ≡ false
too_old = refl

other_channel : meets (asks (Some 0) 200 300) (Window 68 60) of_ten ≡ false
other_channel = refl

too_late : meets (asks None 201 300) (Window 68 60) of_ten ≡ false
too_late = refl

at_its_end : meets (asks None 0 100) (Places 19 30) of_ten ≡ true
at_its_end = refl

behind_it : meets (asks None 0 100) (Places 20 30) of_ten ≡ false
behind_it = refl
