-- Counts of missed items, as a worker and the recorder keep them (this project's profile).
use Rattle.std.specs.Prelude.{ℕ, suc, ◌+◌}
use Rattle.vdr_terms.specs.declared.counts.Counts.{Counts}
use Rattle.vdr_terms.specs.Records.{none_missed, total}

abbrev pub one_full : Counts → Counts
one_full c = record c { full = suc c.full }

abbrev pub one_rate : Counts → Counts
one_rate c = record c { rate = suc c.rate }

abbrev pub one_bad : Counts → Counts
one_bad c = record c { bad = suc c.bad }

abbrev pub one_large : Counts → Counts
one_large c = record c { large = suc c.large }

abbrev pub merged : Counts → Counts → Counts
merged c d = record { full = c.full + d.full; rate = c.rate + d.rate; bad = c.bad + d.bad; large = c.large + d.large }

-- A port's count in a run.
pub record Tally : Type 0 where
  pub taken : ℕ  -- items counted or pushed
  pub missed : Counts  -- since the last push
  pub totals : Counts  -- since the run began

abbrev pub no_tally : Tally
no_tally = record { taken = 0; missed = none_missed; totals = none_missed }

-- One more item, counted by one of the four.
abbrev pub tallied : (Counts → Counts) → Tally → Tally
tallied one t = record { taken = suc t.taken; missed = one t.missed; totals = one t.totals }

abbrev pub pushed : Tally → Tally
pushed t = record { taken = suc t.taken; missed = none_missed; totals = t.totals }

-- A group's count in the recorder: what was missed since the group's last Datagram, and the number of the first of it.
pub record Pending : Type 0 where
  pub first : ℕ
  pub missed : Counts

abbrev pub no_pending : Pending
no_pending = record { first = 0; missed = none_missed }

abbrev pub with_missed : Counts → Pending → Pending
with_missed c p = record p { missed = merged p.missed c }

-- The number of the next item.
abbrev pub next_number : Pending → ℕ
next_number p = p.first + total p.missed

-- What was missed has its Gap.
abbrev pub past_gap : Pending → Pending
past_gap p = record { first = next_number p; missed = none_missed }

-- The next item is recorded, or refused by the rate.
abbrev pub past_datagram : Pending → Pending
past_datagram p = record { first = suc (next_number p); missed = none_missed }

abbrev pub past_refusal : Pending → Pending
past_refusal p = record p { missed = one_rate p.missed }
