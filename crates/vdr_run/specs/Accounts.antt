-- What a run has counted of a transmission group, and the records of the group's items.
use Rattle.std.specs.Prelude.{ℕ, zero, suc, ◌+◌, ℤ, List, [], ◌∷◌, ◌++◌, length, Option, Some, None}
use Rattle.vdr_terms.specs.declared.counts.Counts.{Counts}
use Rattle.vdr_terms.specs.Records.{Record, total}
use Rattle.vdr_terms.specs.Records.Content.{Datagram, Gap}
use Rattle.vdr_terms.specs.Channels.{Channels}
use Rattle.vdr_terms.specs.Counting.{Pending, no_pending, with_missed, past_gap, past_datagram, past_refusal}
use Rattle.vdr_core.specs.Recorder.{make}

-- What is pending of a group, how many of its items the run has recorded, and how many its rate refused.
pub record Counted : Type 0 where
  pub pending : Pending
  pub recorded : ℕ
  pub refused : ℕ

abbrev pub nothing_counted : Counted
nothing_counted = record { pending = no_pending; recorded = 0; refused = 0 }

-- Its port missed these, and then an item came that is recorded.
abbrev pub with_recorded : Counts → Counted → Counted
with_recorded missed c = record { pending = past_datagram (with_missed missed c.pending); recorded = suc c.recorded; refused = c.refused }

-- Its port missed these, and then an item came that the rate refuses.
abbrev pub with_refused : Counts → Counted → Counted
with_refused missed c = record { pending = past_refusal (with_missed missed c.pending); recorded = c.recorded; refused = suc c.refused }

-- Its port missed these at the end, and what is pending has its closing gap.
abbrev pub with_rest : Counts → Counted → Counted
with_rest missed c = record { pending = past_gap (with_missed missed c.pending); recorded = c.recorded; refused = c.refused }

-- The first missed number and the counts, unless they are all 0.
abbrev pub gap_unless_empty : ℕ → Counts → ℕ → Option (ℕ × Counts)
gap_unless_empty first missed zero = None
gap_unless_empty first missed (suc some) = Some (first, missed)

-- What the gap says before which a port missed these, if anything is pending then.
abbrev pub gap_after : Counts → Pending → Option (ℕ × Counts)
gap_after missed p = let q = with_missed missed p in gap_unless_empty q.first q.missed (total q.missed)

-- The record of a gap.
abbrev pub gap_records : Channels → ℕ → ℕ → ℕ → ℤ → Option (ℕ × Counts) → List Record
gap_records channels group place tick utc None = []
gap_records channels group place tick utc (Some gap) = make channels group place gap.0 tick utc (Gap gap.1) ∷ []

-- The record of a datagram, the item of this number.
abbrev pub datagram_record : Channels → ℕ → ℕ → ℕ → ℕ → ℤ → List ℕ → Record
datagram_record channels group place number tick utc bytes = make channels group place number tick utc (Datagram bytes)

-- The gap, if there is one, and then the datagram.
abbrev pub item_records : Channels → ℕ → ℕ → ℕ → ℕ → ℤ → List ℕ → Option (ℕ × Counts) → List Record
item_records channels group place number tick utc bytes gap =
    let before = gap_records channels group place tick utc gap in
    before ++ datagram_record channels group (place + length before) number tick utc bytes ∷ []
