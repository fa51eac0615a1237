-- Worked examples: a run at two datagrams a second, its batches, and what they take of each second.
use mathlib.Core.List.Sublist
use Rattle.std.specs.Prelude.{slice_index_or}
use Rattle.std.proofs.Common.{◌≡◌, ◌/◌, ℕ, suc, List, [], ◌∷◌, map, sum_by, All, Option, Some, None, inl, inr, refl, ap, arith}
use Rattle.std.proofs.lemmas.List.Elements.{All-cons, All-nil}
use Rattle.vdr_terms.specs.declared.rate.Rate.{Rate}
use Rattle.vdr_terms.specs.Records.{Record}
use Rattle.vdr_terms.specs.Needs.{Sizes, cost}
use Rattle.vdr_terms.specs.Rates.{limit_of}
use Rattle.vdr_terms.specs.Sizes.{records_size}
use Rattle.vdr_terms.specs.Channels.{no_channels}
use Rattle.vdr_core.specs.Runs.{RunStart}
use Rattle.vdr_core.specs.Taken.{Captured}
use Rattle.vdr_core.specs.Histories.{Act, records_of_act}
use Rattle.vdr_core.specs.Histories.Act.{Commit, Save}
use Rattle.vdr_core.proofs.HistoryRows.{small, start, data_at, gap_at}
use Rattle.vdr_core.proofs.StateChecks.{one_refused}
use Rattle.vdr_core.proofs.RunChecks.{popped_at}
use Rattle.vdr_durability.specs.Layout.{Batches, batch_size_at}
use Rattle.vdr_durability.specs.Commits.{IsFit, TakesItems, AreDoneFrom, largest_item}
use Rattle.vdr_durability.specs.Media.{IsOpened, IsMediumOf, state_after}

-- One group, number 3, with two datagrams and 200 bytes a second.
abbrev groups : List (Option Rate)
groups = None ∷ None ∷ None ∷ Some (record { datagrams = 2; bytes = 200 }) ∷ []

abbrev sizes : Sizes
sizes = record { groups = groups; segment = 32768; batch = 8192; seconds = λ m. 60; incident_seconds = 30; incidents = 2 }

abbrev first : RunStart
first = record { limits = λ g. limit_of (slice_index_or groups g None); channels = no_channels; place = 0; last = None }

a_second : cost sizes ≡ 698
a_second = refl

-- A batch of so many bytes has room for five items of any length, and for a close.
five_items : 8192 / largest_item ≡ 5
five_items = refl

-- Start; two items; a save; a third item, which the rate refuses; a fourth in the next second, with the Gap before it; the close.
abbrev open_acts : List Act
open_acts = Commit (start ∷ []) [] ∷ Commit (data_at 1 0 0 small ∷ data_at 2 1 0 small ∷ []) (popped_at 0 0 ∷ popped_at 1 0 ∷ []) ∷ Save 1 (65 ∷ []) 0 2 ∷ Commit [] (popped_at 2 999 ∷ [])
    ∷ Commit (gap_at 3 2 1000 one_refused ∷ data_at 4 3 1000 small ∷ []) (popped_at 3 1000 ∷ []) ∷ []

abbrev fourth : Batches
fourth = (gap_at 3 2 1000 one_refused ∷ data_at 4 3 1000 small ∷ []) ∷ []

fits : (number received : ℕ) → IsFit first.limits (popped_at number received)
fits number received = record { configured = refl; short = omega arith }

one_fits : (number received : ℕ) → All (IsFit first.limits) (popped_at number received ∷ [])
one_fits number received = All-cons (IsFit first.limits) (popped_at number received) [] (fits number received) (All-nil (IsFit first.limits))

are_done : AreDoneFrom first.limits 8192 (state_after first []) open_acts
are_done = (
  inr (inl (record { is_closed = refl; made = refl; none = refl })),
  (
    inl (record { made = record { is_open = refl; made = refl }; fit = All-cons (IsFit first.limits) (popped_at 0 0) (popped_at 1 0 ∷ []) (fits 0 0) (one_fits 1 0); short = omega arith }),
    (
      tt,
      (
        inl (record { made = record { is_open = refl; made = refl }; fit = one_fits 2 999; short = omega arith }),
        (inl (record { made = record { is_open = refl; made = refl }; fit = one_fits 3 1000; short = omega arith }), tt),
      ),
    ),
  ),
)

-- What these batches take of the two seconds.
first_second : sum_by (batch_size_at 0) (map records_of_act open_acts) ≡ 154
first_second = refl

next_second : sum_by (batch_size_at 1) (map records_of_act open_acts) ≡ 139
next_second = refl

-- A medium that was opened empty and now has the fourth item's batch alone.
was_empty : IsOpened (cost sizes) first ([] ∷ [])
was_empty = record { order = tt; ends = tt; paced = λ s. omega arith }

has_the_last : IsMediumOf sizes first ([] ∷ []) open_acts ([] ∷ fourth ∷ [])
has_the_last = record {
  limits = λ g. refl;
  was_opened = was_empty;
  done = are_done;
  some = Sublist.cons (start ∷ []) (Sublist.cons (data_at 1 0 0 small ∷ data_at 2 1 0 small ∷ []) (Sublist.cons [] (Sublist.cons [] (Sublist.refl fourth))));
  newest = refl;
}

-- A medium that kept the records of the first second and lost the last ones is none of this recorder.
lost_the_last : IsMediumOf sizes first ([] ∷ []) open_acts (((start ∷ []) ∷ []) ∷ []) → ⊥
lost_the_last h = omega (arith, ap place_of h.newest)
  where
    place_of : Option Record → ℕ
    place_of None = 0
    place_of (Some r) = suc r.place

-- Items whose records are a byte longer than a batch are not taken.
byte_too_long : (records : List Record) (taken : List Captured) → records_size records ≡ 8193 → TakesItems first.limits 8192 (state_after first []) records taken → ⊥
byte_too_long records taken size t = omega (arith, size, t.short)
