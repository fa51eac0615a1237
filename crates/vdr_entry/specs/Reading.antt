-- The record at the front of some bytes.
use Rattle.std.specs.Prelude.{◌≡◌, List, ℕ, ◌++◌}
use Rattle.vdr_terms.specs.Records.{Record}
use Rattle.vdr_terms.specs.Legality.{IsRecord}
use Rattle.vdr_entry.specs.Spelling.{record_bytes}

-- The bytes begin with this legal record, and these bytes stand behind it.
pub record Begins (bytes : List ℕ) (r : Record) (rest : List ℕ) : Type 0 where
  pub legal : IsRecord r
  pub spelled : bytes ≡ record_bytes r ++ rest
