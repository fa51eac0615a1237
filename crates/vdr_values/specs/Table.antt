-- The table of sentences (IEC 61162-1): of each formatter the forms of its fields, and the text that it is printed as (this project's profile).
use Rattle.std.specs.Prelude.{ℕ, ◌==◌, List, ◌++◌, drop, slice_index, Option, None, bytes_eq, find, if◌then◌else◌}
use Rattle.vdr_values.specs.Rows.{Row}
use Rattle.vdr_values.specs.Navigation.{navigation}
use Rattle.vdr_values.specs.Machinery.{machinery}
use Rattle.vdr_values.specs.Alerts.{alerts}
use Rattle.vdr_values.specs.Traffic.{traffic}

unfoldable pub table : List Row
table = navigation ++ machinery ++ alerts ++ traffic

-- The row of a formatter. None where the table has none.
abbrev pub row_named : (formatter : List ℕ) → Option Row
row_named formatter = find (λ r. bytes_eq r.formatter formatter) table

-- The row of an address is that of what stands behind the talker. A proprietary address, which begins with `P`, has none.
abbrev pub row_for : (address : List ℕ) → Option Row
row_for address = if slice_index address 0 == 80 then None else row_named (drop 2 address)
