-- What is kept of the records that were visited.
use Rattle.std.specs.Prelude.{◌≡◌, Bool, true, false, List, [], ◌∷◌}
use Rattle.vdr_terms.specs.Records.{Record}
use Rattle.vdr_ais.specs.Pending.{HasRead}
use Rattle.vdr_rows.specs.Tables.{back_of}
use Rattle.vdr_rows.specs.declared.rows.Rows.{Rows}

abbrev pub is_some_seen : List Record → Bool
is_some_seen [] = false
is_some_seen (r ∷ seen) = true

-- It has visited these records: whether it has printed the header, and the parts of messages that have begun.
pub record HasVisited (rows : Rows) (seen : List Record) : Type 0 where
  pub begun : rows.begun ≡ is_some_seen seen
  pub read : HasRead (back_of seen) rows.unfinished
