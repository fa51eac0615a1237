use Rattle.std.proofs.Common.{◌≡◌, ◌++◌, drop, false}
use Rattle.vdr_page.specs.Watched.{rows_within}
use Rattle.vdr_page.proofs.draft.push_lines.Given as goal

abbrev pub invariant-loop-byte : goal.invariant-loop-byte
invariant-loop-byte l = l.text.items ++ rows_within l.within (drop l.byte-index l.lines) ≡ l.initial.text.items ++ rows_within false l.lines
