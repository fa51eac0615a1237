use Rattle.std.proofs.Common.{◌≡◌, ◌++◌, take}
use Rattle.vdr_values.specs.Texts.{text_along}
use Rattle.vdr_values.specs.Views.{values_of}
use Rattle.vdr_values.proofs.print.print_along.Given as goal

abbrev pub invariant-loop-byte : goal.invariant-loop-byte
invariant-loop-byte l = l.out.items ≡ l.fn.out.items ++ text_along (take l.byte-index l.text) (values_of l.values)
