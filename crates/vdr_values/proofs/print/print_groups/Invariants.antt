use Rattle.std.proofs.Common.{◌≡◌, ◌++◌, take}
use Rattle.vdr_values.specs.Texts.{group_text}
use Rattle.vdr_values.specs.Views.{values_of}
use Rattle.vdr_values.proofs.print.print_groups.Given as goal

abbrev pub invariant-loop-value : goal.invariant-loop-value
invariant-loop-value l = l.out.items ≡ l.fn.out.items ++ group_text (values_of (take l.value-index l.values))
