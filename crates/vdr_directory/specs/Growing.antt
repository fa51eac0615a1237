-- How a medium goes on: a segment without records, a batch that is added, and which records come next.
use Rattle.std.specs.Prelude.{◌≡◌, ◌≢◌, ℕ, suc, List, [], Option, Some, None}
use Rattle.vdr_terms.specs.Records.{Record, last}
use Rattle.vdr_terms.specs.Order.{RunOn, NeverFalls}
use Rattle.vdr_segment.specs.Segments.{with_batch}
use Rattle.vdr_directory.specs.Sequence.{Placed, seq_of, all_records}
use Rattle.vdr_directory.specs.Order.{next_place}

-- One above the greatest sequence number, 0 where there is no segment.
abbrev pub next_seq : Option Placed → ℕ
next_seq None = 0
next_seq (Some p) = suc (seq_of p)

-- A segment without records in a slot.
abbrev pub new_segment : (slot seq first : ℕ) → Placed
new_segment slot seq first = record { slot = slot; segment = record { header = record { seq = seq; first = first; summary = None }; batches = [] } }

abbrev pub with_batch_in : Placed → List Record → Placed
with_batch_in p records = record { slot = p.slot; segment = with_batch p.segment records }

-- The records that a medium goes on with.
abbrev pub next_of : Option Placed → ℕ
next_of None = 0
next_of (Some p) = next_place p

abbrev pub tick_of : Option Record → ℕ
tick_of None = 0
tick_of (Some r) = r.tick

-- The records go on where the medium ends, from this place on. On a medium without a segment they may begin anywhere.
pub record Continues (placed : List Placed) (first : ℕ) (records : List Record) : Type 0 where
  pub some : records ≢ []
  pub from : (p : Placed) → last placed ≡ Some p → first ≡ next_place p
  pub places : RunOn first records
  pub ticks : NeverFalls (tick_of (last (all_records placed))) records
