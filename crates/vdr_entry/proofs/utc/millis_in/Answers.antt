use Rattle.std.proofs.Common.{Some, ap, ◌∙◌, arith}
use Rattle.vdr_entry.proofs.StampLemmas.{millis_are, nothing, reads_time}
use Rattle.vdr_entry.proofs.utc.millis_in.Goals as goal

pub returns-in_err-hour-clause-exact : goal.returns-in_err-hour-clause-exact
returns-in_err-hour-clause-exact c = λ millis few is.
    nothing _ _ _ c.in_err-hour.was (c.number.ensures.number ∙ (reads_time c.args.time.now millis few is).hour)

pub returns-in_err-minute-clause-exact : goal.returns-in_err-minute-clause-exact
returns-in_err-minute-clause-exact c = λ millis few is.
    nothing _ _ _ c.in_err-minute.was (c.number-2.ensures.number ∙ (reads_time c.args.time.now millis few is).minute)

pub returns-in_err-second-clause-exact : goal.returns-in_err-second-clause-exact
returns-in_err-second-clause-exact c = λ millis few is.
    nothing _ _ _ c.in_err-second.was (c.number-3.ensures.number ∙ (reads_time c.args.time.now millis few is).second)

pub returns-in_err-milli-clause-exact : goal.returns-in_err-milli-clause-exact
returns-in_err-milli-clause-exact c = λ millis few is.
    nothing _ _ _ c.in_err-milli.was (c.number-4.ensures.number ∙ (reads_time c.args.time.now millis few is).milli)

pub returns-then-millis-lt-DAY-clause-exact : goal.returns-then-millis-lt-DAY-clause-exact
returns-then-millis-lt-DAY-clause-exact c = λ millis few is.
    ap Some (millis_are c.args.time.now millis _ _ _ _ (reads_time c.args.time.now millis few is) c.in_ok-hour.ensures.number c.in_ok-minute.ensures.number c.in_ok-second.ensures.number c.in_ok-milli.ensures.number)

pub returns-else-millis-lt-DAY-clause-exact : goal.returns-else-millis-lt-DAY-clause-exact
returns-else-millis-lt-DAY-clause-exact c = λ millis few is.
    let same = millis_are c.args.time.now millis _ _ _ _ (reads_time c.args.time.now millis few is) c.in_ok-hour.ensures.number c.in_ok-minute.ensures.number c.in_ok-second.ensures.number c.in_ok-milli.ensures.number in
    let bad : ⊥ = omega (arith, same, few, c.if-millis-lt-DAY.false) in
    absurd bad
