-- A medium by its segments, in order of sequence number: each is a list of batches, and a batch a list of records.
use Rattle.std.specs.Prelude.{ℕ, ◌+◌, List, [], ◌∷◌, flat_map, sum_by, ◌==◌, if◌then◌else◌}
use Rattle.vdr_terms.specs.Records.{Record, second}
use Rattle.vdr_terms.specs.Sizes.{record_size, batch_size}

-- The batches of one segment.
abbrev pub Batches : Type 0
Batches = List (List Record)

abbrev pub segment_records : Batches → List Record
segment_records batches = flat_map (λ batch. batch) batches

abbrev pub records_in : List Batches → List Record
records_in segments = flat_map segment_records segments

-- All batches of segments, in order.
abbrev pub batches_in : List Batches → Batches
batches_in segments = flat_map (λ segment. segment) segments

-- The bytes of batches.
abbrev pub batches_size : Batches → ℕ
batches_size batches = sum_by batch_size batches

-- The bytes of batches that fall into a second. A batch's own five count to the second of its first record (this
-- project's profile).
abbrev pub record_size_at : ℕ → Record → ℕ
record_size_at s r = if second r.tick == s then record_size r else 0

abbrev pub head_size_at : ℕ → List Record → ℕ
head_size_at s [] = 0
head_size_at s (r ∷ rs) = if second r.tick == s then 5 else 0

abbrev pub batch_size_at : ℕ → List Record → ℕ
batch_size_at s batch = head_size_at s batch + sum_by (record_size_at s) batch

abbrev pub batches_size_at : ℕ → Batches → ℕ
batches_size_at s batches = sum_by (batch_size_at s) batches
