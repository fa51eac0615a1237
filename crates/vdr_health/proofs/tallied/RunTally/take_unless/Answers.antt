use Rattle.std.proofs.Common.{◌≡◌, ◌++◌, Bool, List, [], sym, subst}
use Rattle.std.specs.Prelude.{if◌then◌else◌}
use Rattle.vdr_core.specs.Taken.{Captured}
use Rattle.vdr_health.specs.Tallies.{Tallies}
use Rattle.vdr_health.proofs.tallied.RunTally.take_unless.Goals as goal

pub returns-then-not-failed : goal.returns-then-not-failed
returns-then-not-failed c = λ begun popped h.
    subst (λ (b : Bool). Tallies begun (popped ++ (if b then [] else c.args.items.now)) c.take_all.new.tally) (sym c.if-not-failed.true) (c.take_all.ensures begun popped h)
