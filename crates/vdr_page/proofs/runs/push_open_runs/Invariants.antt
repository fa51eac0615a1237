use Rattle.std.proofs.Common.{◌≡◌, ◌++◌, take}
use Rattle.vdr_page.specs.Runs.{open_rows}
use Rattle.vdr_page.proofs.runs.push_open_runs.Given as goal

abbrev pub invariant-loop-row : goal.invariant-loop-row
invariant-loop-row l = l.text.items ≡ l.initial.text.items ++ open_rows (take l.row-index l.rows)
