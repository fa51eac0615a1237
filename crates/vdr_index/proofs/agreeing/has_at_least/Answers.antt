use Rattle.std.proofs.Common.{arith, eq-eqb}
use Rattle.std.proofs.lemmas.Bool.{eqb-true, leb-true, le-leb}
use Rattle.vdr_index.proofs.AuditLemmas.{none_counted, some_counted}
use Rattle.vdr_index.proofs.agreeing.has_at_least.Goals as goal

pub returns-in-None : goal.returns-in-None
returns-in-None c = λ batches v runs.
    let none = none_counted c.args.first batches c.args.found.now v c.in-None.is in (
      λ b. let zero = eqb-true c.args.count 0 b in omega (arith, none, zero),
      λ enough. eq-eqb c.args.count 0 (omega (arith, none, enough)),
    )

pub returns-in-Some : goal.returns-in-Some
returns-in-Some c = λ batches v runs.
    let count = some_counted c.args.first batches c.args.found.now _ v c.in-Some.is runs in (
      λ b. let enough = leb-true c.args.count c.saturating_add.result b in omega (arith, count, enough, c.saturating_sub.ensures, c.saturating_add.ensures),
      λ enough. le-leb c.args.count c.saturating_add.result (omega (arith, count, enough, c.saturating_sub.ensures, c.saturating_add.ensures, c.ranges.count)),
    )
