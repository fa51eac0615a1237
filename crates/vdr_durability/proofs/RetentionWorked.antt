-- Worked examples, computed: a minute's window, the bytes of a second, and a victim among three segments.
use Rattle.std.proofs.Common.{◌≡◌, ℕ, pos, List, [], ◌∷◌, true, false, Contains, refl, ap, ⊎_elim, arith}
use Rattle.std.proofs.lemmas.List.Elements.{All-nil, All-cons}
use Rattle.vdr_terms.specs.Records.{Record}
use Rattle.vdr_terms.specs.Records.Content.{Datagram}
use Rattle.vdr_durability.proofs.Lists.{none_contained, contains_cases, contains_here}
use Rattle.vdr_terms.specs.Sizes.{batch_size, record_size}
use Rattle.vdr_durability.specs.Layout.{Batches, batch_size_at, records_in}
use Rattle.vdr_durability.specs.Retention.{Holds, Pin, at_places}
use Rattle.vdr_durability.specs.Victims.{Extent, IsOldestCandidate, MayGo, may_go_by_numbers}
use Rattle.vdr_durability.proofs.Needed.{goes_unneeded, needed_stays, segment_among}

abbrev at : ℕ → ℕ → Record
at place tick = record { content = Datagram (65 ∷ 98 ∷ 67 ∷ 100 ∷ 69 ∷ 0 ∷ []); group = 3; bits = 0; place = place; number = 0; tick = tick; utc = pos 0 }

abbrev all : List Record
all = at 0 0 ∷ at 1 999 ∷ at 2 1000 ∷ at 3 60000 ∷ []

abbrev held : List Record
held = at 1 999 ∷ at 2 1000 ∷ at 3 60000 ∷ []

-- A medium that dropped the first record of second 0 holds the minute; one that lacks second 1 does not.
holds : Holds 60 all held
holds = record {
  own = All-cons (Contains all) (at 1 999) (at 2 1000 ∷ at 3 60000 ∷ []) (1, omega arith, refl)
      (All-cons (Contains all) (at 2 1000) (at 3 60000 ∷ []) (2, omega arith, refl) (All-cons (Contains all) (at 3 60000) [] (3, omega arith, refl) (All-nil (Contains all))));
  newest = refl;
  recent = All-cons (Contains held) (at 2 1000) (at 3 60000 ∷ []) (1, omega arith, refl) (All-cons (Contains held) (at 3 60000) [] (2, omega arith, refl) (All-nil (Contains held)));
}

lost : Holds 60 all (at 3 60000 ∷ []) → ⊥
lost h = none (h.recent 0 (at 0 0) (omega arith))
  where
    none : Contains (at 3 60000 ∷ []) (at 2 1000) → ⊥
    none c = ⊎_elim
        (λ (e : at 3 60000 ≡ at 2 1000). let d = ap (λ (r : Record). r.place) e in omega (arith, d))
        (λ (k : Contains [] (at 2 1000)). none_contained (at 2 1000) k)
        (contains_cases (at 3 60000) [] (at 2 1000) c)

places : at_places 1 2 all ≡ at 1 999 ∷ at 2 1000 ∷ []
places = refl

-- 44 bytes and the payload; five bytes for a batch. Its head counts to the second of its first record.
one : record_size (at 0 0) ≡ 50
one = refl

batch : batch_size (at 0 0 ∷ at 1 999 ∷ []) ≡ 105
batch = refl

first_second : batch_size_at 0 (at 1 999 ∷ at 2 1000 ∷ []) ≡ 55
first_second = refl

next_second : batch_size_at 1 (at 1 999 ∷ at 2 1000 ∷ []) ≡ 50
next_second = refl

-- Three segments of a medium with a window of a minute. The first two are outside it, and a save pins place 1.
abbrev oldest : Batches
oldest = (at 0 0 ∷ at 1 999 ∷ []) ∷ []

abbrev middle : Batches
middle = (at 2 1000 ∷ []) ∷ (at 3 2000 ∷ []) ∷ []

abbrev newest : Batches
newest = (at 4 62000 ∷ []) ∷ []

abbrev medium : List Batches
medium = oldest ∷ middle ∷ newest ∷ []

abbrev save : Pin
save = record { a = 1; b = 1 }

stays : MayGo 60 (save ∷ []) (records_in medium) oldest → ⊥
stays = needed_stays 60 (save ∷ []) (records_in medium) oldest (segment_among medium oldest (contains_here oldest (middle ∷ newest ∷ []))) refl

-- The oldest segment is pinned, so the victim is the second; without the save it is the oldest.
victim : IsOldestCandidate 60 (save ∷ []) medium (oldest ∷ []) middle (newest ∷ [])
victim = record {
  split = refl;
  may_go = goes_unneeded 60 (save ∷ []) (records_in medium) middle refl;
  oldest = All-cons (λ s. MayGo 60 (save ∷ []) (records_in medium) s → ⊥) oldest [] stays (All-nil (λ s. MayGo 60 (save ∷ []) (records_in medium) s → ⊥));
}

unpinned : IsOldestCandidate 60 [] medium [] oldest (middle ∷ newest ∷ [])
unpinned = record {
  split = refl;
  may_go = goes_unneeded 60 [] (records_in medium) oldest refl;
  oldest = All-nil (λ s. MayGo 60 [] (records_in medium) s → ⊥);
}

-- The same by numbers: the medium's last record is of second 62.
abbrev extent : ℕ → ℕ → ℕ → Extent
extent first next last_second = record { has_records = true; first = first; next = next; last_second = last_second }

pinned_by_numbers : may_go_by_numbers 60 (save ∷ []) 62 (extent 0 2 0) ≡ false
pinned_by_numbers = refl

middle_by_numbers : may_go_by_numbers 60 (save ∷ []) 62 (extent 2 4 2) ≡ true
middle_by_numbers = refl

in_a_longer_window : may_go_by_numbers 61 (save ∷ []) 62 (extent 2 4 2) ≡ false
in_a_longer_window = refl

newest_by_numbers : may_go_by_numbers 60 (save ∷ []) 62 (extent 4 5 62) ≡ false
newest_by_numbers = refl

-- A segment without records goes whatever is pinned, and a pin whose places end before they begin pins nothing.
empty_by_numbers : may_go_by_numbers 60 (save ∷ []) 62 (record { has_records = false; first = 1; next = 1; last_second = 62 }) ≡ true
empty_by_numbers = refl

no_pin : may_go_by_numbers 60 (record { a = 1; b = 0 } ∷ []) 62 (extent 0 2 0) ≡ true
no_pin = refl
