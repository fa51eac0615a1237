-- Batches of records (this project's profile).
use Rattle.std.specs.Prelude.{◌≡◌, ◌<◌, ◌+◌, ◌^◌, ℕ, List, ◌∷◌, ◌++◌, length, drop, All}
use Rattle.vdr_bytes.specs.Numbers.{le_u32}
use Rattle.vdr_terms.specs.Records.{Record}
use Rattle.vdr_terms.specs.Legality.{IsRecord}
use Rattle.vdr_terms.specs.Sizes.{records_size, batch_size}
use Rattle.vdr_entry.specs.Spelling.{records_bytes}
use Rattle.vdr_segment.specs.Gates.{open_gate}

-- The bytes are legal records, one after another.
pub record AreRecords (bytes : List ℕ) (records : List Record) : Type 0 where
  pub legal : All IsRecord records
  pub spelled : bytes ≡ records_bytes records

-- What may be written as a batch: legal records, at least one, whose length four bytes hold.
pub record IsBatch (records : List Record) : Type 0 where
  pub legal : All IsRecord records
  pub some : 0 < length records
  pub short : records_size records < 2 ^ 32

-- A batch that counts: an open gate, the length of the records, and the records.
unfoldable pub batch_bytes : List Record → List ℕ
batch_bytes records = open_gate ∷ (le_u32 (records_size records) ++ records_bytes records)

-- A batch of these records stands at an offset of a segment, and one more gate fits behind it.
pub record HasBatchAt (segment : List ℕ) (at : ℕ) (records : List Record) : Type 0 where
  pub legal : IsBatch records
  pub spelled : drop at segment ≡ batch_bytes records ++ drop (at + batch_size records) segment
  pub room : at + batch_size records < length segment
