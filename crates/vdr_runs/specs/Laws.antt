-- What holds of the runs that are printed.
use Rattle.std.specs.Prelude.{◌≡◌, List}
use Rattle.vdr_terms.specs.Records.{Record}
use Rattle.vdr_visit.specs.Prints.{whole_text}
use Rattle.vdr_runs.specs.Runs.{last_lines, line_at, runs_text}

-- What is printed of records as they come is the text of their runs.
abbrev pub RunsArePrinted : Type 0
RunsArePrinted = (records : List Record) → whole_text line_at last_lines records ≡ runs_text records
