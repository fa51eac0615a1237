use Rattle.std.proofs.Common.{◌≡◌, length}
use Rattle.vdr_values.specs.Texts.{trimmed}
use Rattle.vdr_values.proofs.text.trimmed.Given as goal

abbrev pub invariant-loop-shown : goal.invariant-loop-shown
invariant-loop-shown l = trimmed l.shown ≡ trimmed l.digits

abbrev pub decreases-loop-shown : goal.decreases-loop-shown
decreases-loop-shown l = length l.shown
