-- What a table of ships keeps, and that it shows what was seen.
use Rattle.std.specs.Prelude.{◌≡◌}
use Rattle.std.specs.Ordering.{nat_cmp}
use Rattle.std.specs.Map.{keys_of}
use Rattle.std.specs.List.Sorted.{IsStrictlySortedBy}
use Rattle.vdr_ais.specs.Pending.{Entries, HasRead, begun}
use Rattle.vdr_ais.specs.Targets.{Seen, Ships}

-- The messages that have begun, each by its key, and the ships.
pub record Table : Type 0 where
  pub begun : Entries
  pub ships : Ships

-- No MMSI stands twice, and they rise.
abbrev pub AreShips : Ships → Type 0
AreShips ships = IsStrictlySortedBy nat_cmp (keys_of ships)

-- It has read the lines and has the ships.
pub record Shows (seen : Seen) (table : Table) : Type 0 where
  pub read : HasRead seen.back table.begun
  pub ships : table.ships ≡ seen.ships

abbrev pub table_of : Entries → Ships → Table
table_of entries ships = record { begun = begun entries; ships = ships }
