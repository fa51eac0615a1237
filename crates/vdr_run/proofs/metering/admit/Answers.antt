use Rattle.std.proofs.Common.{Option, subst}
use Rattle.vdr_meter.specs.Metering.{Metering}
use Rattle.vdr_run.specs.Meters.{IsMetered, IsMeterOf}
use Rattle.vdr_run.proofs.Meters.{decided, measured}
use Rattle.vdr_run.proofs.metering.admit.Goals as goal

pub returns-in-Some-clause-decides : goal.returns-in-Some-clause-decides
returns-in-Some-clause-decides c = λ start r x known group tick len.
    let before : IsMeterOf start.limits c.in-Some.meter r.made = subst (λ (m : Option Metering). IsMetered start.limits m r.made) c.in-Some.is known in
    decided start r x c.in-Some.meter c.admit.new.self c.admit.result c.args.tick c.args.len
    (rw group (record { exact = c.admit.ensures.exact; refused = c.admit.ensures.refused; rates = c.admit.ensures.rates; recorded = c.admit.ensures.recorded }))
    before (rw group c.requires.group) tick len

pub returns-in-Some-clause-measures : goal.returns-in-Some-clause-measures
returns-in-Some-clause-measures c = λ start r x known group tick len.
    let before : IsMeterOf start.limits c.in-Some.meter r.made = subst (λ (m : Option Metering). IsMetered start.limits m r.made) c.in-Some.is known in
    measured start r x c.in-Some.meter c.admit.new.self c.admit.result c.args.tick c.args.len
    (rw group (record { exact = c.admit.ensures.exact; refused = c.admit.ensures.refused; rates = c.admit.ensures.rates; recorded = c.admit.ensures.recorded }))
    before (rw group c.requires.group) tick len
