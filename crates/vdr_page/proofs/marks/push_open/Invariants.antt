use Rattle.std.proofs.Common.{◌≡◌, ◌++◌, None, get_or, take}
use Rattle.std.specs.List.{flat_map}
use Rattle.vdr_page.specs.Gaps.{gap_row_if}
use Rattle.vdr_page.proofs.marks.push_open.Given as goal

abbrev pub invariant-loop-group : goal.invariant-loop-group
invariant-loop-group l = l.text.items ≡ l.initial.text.items ++ flat_map (λ g. gap_row_if g (get_or l.slots g None)) (take l.group-index l.groups)
