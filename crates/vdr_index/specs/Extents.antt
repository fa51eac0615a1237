-- From where to where the records of some batches reach.
use Rattle.std.specs.Prelude.{List, take, slice_get, Option, Some, None}
use Rattle.std.specs.List.{flat_map}
use Rattle.vdr_terms.specs.Records.{Record, last}
use Rattle.vdr_index.specs.declared.extent.Extent.{Extent}

-- The records of batches, in order.
abbrev pub records_in : List (List Record) → List Record
records_in batches = flat_map (λ b. b) batches

-- The first record of each batch.
abbrev pub first_records : List (List Record) → List Record
first_records batches = flat_map (λ b. take 1 b) batches

-- The extent from this first record to this last one, which is in the batch that begins with `begins`.
abbrev pub extent_between : (first newest begins : Option Record) → Option Extent
extent_between (Some first) (Some newest) (Some begins) =
    Some (record { first_tick = first.tick; last_place = newest.place; last_tick = newest.tick; last_utc = newest.utc; last_batch = begins.place })
extent_between _ _ _ = None

-- None where there is no record.
abbrev pub extent_of : List (List Record) → Option Extent
extent_of batches = extent_between (slice_get (records_in batches) 0) (last (records_in batches)) (last (first_records batches))
