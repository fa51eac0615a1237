-- Worked examples: what is acknowledged, a stop between two media, ends that do not meet, and a save that is released.
use Rattle.std.proofs.Common.{◌≡◌, ◌<◌, ◌-◌, ℕ, List, [], ◌∷◌, ◌++◌, true, false, pos, ◌==◌, if◌then◌else◌, All, Contains, refl, ap, sym, inl, inr, ⊎_elim, arith, true≢false, Option, Some, None}
use Rattle.std.proofs.lemmas.List.Elements.{All-nil, All-cons}
use Rattle.vdr_terms.specs.Records.{Record}
use Rattle.vdr_terms.specs.Records.Content.{Stop}
use Rattle.vdr_terms.specs.Channels.{no_channels}
use Rattle.vdr_terms.specs.Rates.Limit.{Unlimited}
use Rattle.vdr_core.specs.Histories.{Event, Opening, PendingEnds, Settings, incidents}
use Rattle.vdr_core.specs.Histories.Act.{Commit, Save, Release, Look}
use Rattle.vdr_core.proofs.Checks.{at, pending}
use Rattle.vdr_durability.specs.Layout.{Batches}
use Rattle.vdr_durability.proofs.Lists.{contains_cases, contains_here, contains_there, none_contained}
use Rattle.vdr_durability.specs.Keeping.{RiseTo, acknowledged, moment_of, moments}
use Rattle.vdr_durability.specs.Readings.{EndsMeet, EndsOff, Reading, ends_before, records_on, restored}
use Rattle.vdr_durability.specs.Shown.{RetainsOn, Shows, given_with, opened, pins_of}
use Rattle.vdr_durability.proofs.Shows.{retains_itself}

-- Acknowledged at a time: the events up to the last that had returned.
two_by_nine : acknowledged (at 7 Look ∷ at 9 Look ∷ at 12 Look ∷ []) 9 ≡ 2
two_by_nine = refl

none_by_six : acknowledged (at 7 Look ∷ at 9 Look ∷ []) 6 ≡ 0
none_by_six = refl

not_the_pending : acknowledged (at 7 Look ∷ pending ∷ []) 20 ≡ 1
not_the_pending = refl

its_moments : moments (at 7 Look ∷ at 9 Look ∷ pending ∷ []) ≡ 7 ∷ 9 ∷ []
its_moments = refl

its_moment : moment_of false 9 ≡ Some 9
its_moment = refl

no_moment : moment_of true 9 ≡ None
no_moment = refl

-- Moments neither fall nor are still to come.
falling : RiseTo 20 0 (moments (at 9 Look ∷ at 7 Look ∷ [])) → ⊥
falling h = omega (arith, h.1)

to_come : RiseTo 8 0 (moments (at 9 Look ∷ [])) → ⊥
to_come h = omega (arith, h.1)

-- Behind a pending event there are looks alone, and none has a moment: no second event may be pending.
moment_behind : PendingEnds (pending ∷ at 9 Look ∷ []) → ⊥
moment_behind h = clash 9 h.1.1
  where
    clash : (m : ℕ) → Some m ≡ None → ⊥
    clash m e = cc

two_pending : PendingEnds (pending ∷ pending ∷ []) → ⊥
two_pending h = clash h.1.0
  where
    clash : Commit [] [] ≡ Look → ⊥
    clash e = cc

-- Three records in two batches, and a medium that has the first batch alone.
abbrev stop_at : ℕ → ℕ → Record
stop_at place tick = record { content = Stop; group = 255; bits = 0; place = place; number = 0; tick = tick; utc = pos 0 }

abbrev first_batch : List Record
first_batch = stop_at 0 0 ∷ stop_at 1 0 ∷ []

abbrev second_batch : List Record
second_batch = stop_at 2 1000 ∷ []

abbrev one : Batches
one = first_batch ∷ []

abbrev two : Batches
two = first_batch ∷ second_batch ∷ []

-- The media of a list, by number.
abbrev read_as : List Batches → Reading
read_as [] = record { batches = λ m. []; table = None ∷ []; text = [] }
read_as (b ∷ bs) = record { batches = λ m. if m == 0 then b else (read_as bs).batches (m - 1); table = None ∷ []; text = [] }

abbrev two_media : List ℕ
two_media = 0 ∷ 1 ∷ []

abbrev three_media : List ℕ
three_media = 0 ∷ 1 ∷ 2 ∷ []

-- A stop between the media: the second one gets the batch as it is restored, and the first one stays.
the_second_gets_it : (restored two_media (read_as (two ∷ one ∷ []))).batches 1 ≡ two
the_second_gets_it = refl

the_first_stays : (restored two_media (read_as (two ∷ one ∷ []))).batches 0 ≡ two
the_first_stays = refl

the_third_gets_it : (restored three_media (read_as (two ∷ two ∷ one ∷ []))).batches 2 ≡ two
the_third_gets_it = refl

meet : EndsMeet three_media (read_as (two ∷ two ∷ one ∷ []))
meet = inl (refl, inl (refl, inr (All-cons (λ m. ends_before (Some second_batch) ((read_as (two ∷ two ∷ one ∷ [])).batches m) ≡ true) 2 [] refl (All-nil (λ m. ends_before (Some second_batch) ((read_as (two ∷ two ∷ one ∷ [])).batches m) ≡ true)))))

abbrev place_of : Option (List Record) → ℕ
place_of None = 0
place_of (Some []) = 0
place_of (Some (r ∷ rs)) = r.place

abbrev tick_of : Option (List Record) → ℕ
tick_of None = 0
tick_of (Some []) = 0
tick_of (Some (r ∷ rs)) = r.tick

-- Two, one, two: what has the batch may not follow what lacks it.
cross : EndsMeet three_media (read_as (two ∷ one ∷ two ∷ [])) → ⊥
cross (inl (e, inl (f, more))) = omega (arith, ap place_of f)
cross (inl (e, inr all)) = true≢false (sym (all 1 2 (omega arith)))
cross (inr all) = true≢false (sym (all 0 0 (omega arith)))

-- One, two: the second medium does not lead.
led_by_the_second : EndsMeet two_media (read_as (one ∷ two ∷ [])) → ⊥
led_by_the_second (inl (e, inl (f, more))) = omega (arith, ap place_of f)
led_by_the_second (inl (e, inr all)) = true≢false (sym (all 0 1 (omega arith)))
led_by_the_second (inr all) = true≢false (sym (all 0 0 (omega arith)))

-- Ends at the same place that are not the same batch do not meet.
abbrev another : Batches
another = first_batch ∷ (stop_at 2 2000 ∷ []) ∷ []

same_place : EndsMeet two_media (read_as (two ∷ another ∷ [])) → ⊥
same_place (inl (e, inl (f, more))) = omega (arith, ap tick_of f)
same_place (inl (e, inr all)) = true≢false (sym (all 0 1 (omega arith)))
same_place (inr all) = true≢false (sym (all 0 0 (omega arith)))

-- Nor do they where the second medium lacks the batch but ends later than it begins.
abbrev later : Batches
later = (stop_at 0 0 ∷ stop_at 1 2000 ∷ []) ∷ []

too_late : EndsMeet two_media (read_as (two ∷ later ∷ [])) → ⊥
too_late (inl (e, inl (f, more))) = omega (arith, ap place_of f)
too_late (inl (e, inr all)) = true≢false (sym (all 0 1 (omega arith)))
too_late (inr all) = true≢false (sym (all 0 0 (omega arith)))

-- With an empty first medium the first one that is not empty is off.
empty_first : EndsOff three_media (read_as ([] ∷ [] ∷ one ∷ [])) 2
empty_first = record { before = two_media; after = []; split = refl; meet = inl (refl, inl (refl, tt)); off = off }
  where
    some : (b : List Record) → Some b ≡ None → ⊥
    some b e = cc

    off : EndsMeet three_media (read_as ([] ∷ [] ∷ one ∷ [])) → ⊥
    off (inl (e, inl (f, inl (g, more)))) = some first_batch g
    off (inl (e, inl (f, inr all))) = true≢false (sym (all 0 2 (omega arith)))
    off (inl (e, inr all)) = true≢false (sym (all 0 1 (omega arith)))
    off (inr all) = true≢false (sym (all 0 0 (omega arith)))

-- A history of two commits, from empty media with a window of a minute on each.
abbrev settings : Settings
settings = record { limits = λ g. Unlimited; channels = no_channels; seconds = λ m. 60; incident_seconds = 30; incident_slots = 1; text = [] }

abbrev fresh : Opening
fresh = record { settings = settings; records = λ m. []; table = None ∷ []; next_place = 0; last = None }

abbrev first_commit : Event
first_commit = at 7 (Commit first_batch [])

abbrev second_commit : Event
second_commit = at 9 (Commit second_batch [])

abbrev Retained : List Event → Reading → ℕ → Type 0
Retained events reading = RetainsOn settings (incidents fresh events) (given_with fresh events) (λ m. records_on (restored two_media reading) m)

both : (P : ℕ → Type 0) → P 0 → P 1 → All P two_media
both P a b = All-cons P 0 (1 ∷ []) a (All-cons P 1 [] b (All-nil P))

-- After a stop between the media they show both commits; after one before both, the first alone.
shows_both : Shows two_media fresh (first_commit ∷ second_commit ∷ []) (read_as (two ∷ one ∷ []))
shows_both = record {
  media = record {
    are_members = record { some = omega arith; ascend = (All-cons (λ k. 0 < k) 1 [] (omega arith) (All-nil (λ k. 0 < k)), (All-nil (λ k. 1 < k), tt)) };
    text = refl;
    ends = inl (refl, inr (All-cons (λ m. ends_before (Some second_batch) ((read_as (two ∷ one ∷ [])).batches m) ≡ true) 1 [] refl (All-nil (λ m. ends_before (Some second_batch) ((read_as (two ∷ one ∷ [])).batches m) ≡ true))));
    media = both (Retained (first_commit ∷ second_commit ∷ []) (read_as (two ∷ one ∷ []))) (retains_itself 60 [] (first_batch ++ second_batch)) (retains_itself 60 [] (first_batch ++ second_batch));
  };
  saves = record { long_term = contains_there 0 (1 ∷ []) 1 (contains_here 1 []); table = refl };
}

-- The capsule alone shows no history: the saves stand on the long-term medium.
capsule_alone : Shows (0 ∷ []) fresh (first_commit ∷ []) (read_as (one ∷ one ∷ [])) → ⊥
capsule_alone h = ⊎_elim (λ (e : 0 ≡ 1). omega (arith, e)) (λ (k : Contains [] 1). none_contained 1 k) (contains_cases 0 [] 1 h.saves.long_term)

-- Media that lack what the window has do not show it.
lost : Shows two_media fresh (first_commit ∷ second_commit ∷ []) (read_as ((second_batch ∷ []) ∷ (second_batch ∷ []) ∷ [])) → ⊥
lost h = gone ((h.media.media 0 0 (omega arith)).window.recent 0 (stop_at 0 0) (omega arith))
  where
    gone : Contains second_batch (stop_at 0 0) → ⊥
    gone c = ⊎_elim
        (λ (e : stop_at 2 1000 ≡ stop_at 0 0). let d = ap (λ (r : Record). r.place) e in omega (arith, d))
        (λ (k : Contains [] (stop_at 0 0)). none_contained (stop_at 0 0) k)
        (contains_cases (stop_at 2 1000) [] (stop_at 0 0) c)

-- A save pins its places until it is released.
abbrev saved : List Event
saved = first_commit ∷ second_commit ∷ at 11 (Save 1 (65 ∷ []) 1 2) ∷ []

abbrev released : List Event
released = first_commit ∷ second_commit ∷ at 11 (Save 1 (65 ∷ []) 1 2) ∷ at 13 (Release 1) ∷ []

pinned : pins_of (incidents fresh saved) ≡ record { a = 1; b = 2 } ∷ []
pinned = refl

not_pinned : pins_of (incidents fresh released) ≡ []
not_pinned = refl

-- What a further run begins with after the stop.
next_place : (opened two_media settings (read_as (two ∷ one ∷ []))).next_place ≡ 3
next_place = refl

next_tick : (opened two_media settings (read_as (two ∷ one ∷ []))).last ≡ Some (record { tick = 1000; utc = pos 0 })
next_tick = refl
