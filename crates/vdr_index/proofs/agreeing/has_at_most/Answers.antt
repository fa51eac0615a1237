use Rattle.std.proofs.Common.{arith, refl}
use Rattle.std.proofs.lemmas.Bool.{ltb-true, lt-ltb}
use Rattle.vdr_index.proofs.AuditLemmas.{none_counted, some_counted}
use Rattle.vdr_index.proofs.agreeing.has_at_most.Goals as goal

pub returns-in-None : goal.returns-in-None
returns-in-None c = λ batches v runs. (λ b. let none = none_counted c.args.first batches c.args.found.now v c.in-None.is in omega (arith, none), λ most. refl)

pub returns-in-Some : goal.returns-in-Some
returns-in-Some c = λ batches v runs.
    let count = some_counted c.args.first batches c.args.found.now _ v c.in-Some.is runs in (
      λ b. let below = ltb-true c.saturating_sub.result c.args.count b in omega (arith, count, below, c.saturating_sub.ensures),
      λ most. lt-ltb c.saturating_sub.result c.args.count (omega (arith, count, most, c.saturating_sub.ensures)),
    )
