use Rattle.std.proofs.Common.{length}
use Rattle.vdr_review.proofs.Olds.{Gone}
use Rattle.vdr_review.proofs.window.Window.drop_before.Given as goal

abbrev pub invariant-loop : goal.invariant-loop
invariant-loop l = Gone l.last l.initial.self l.self

abbrev pub decreases-loop : goal.decreases-loop
decreases-loop l = length l.self
