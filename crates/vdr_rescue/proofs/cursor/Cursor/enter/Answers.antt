use Rattle.std.proofs.Common.{arith}
use Rattle.std.proofs.lemmas.Result.{err_from_is_err_and}
use Rattle.vdr_directory.proofs.CostLemmas.{reads_counted}
use Rattle.vdr_rescue.proofs.CursorLemmas.{budget_least, entered_behind, entered_budget, entered_onward}
use Rattle.vdr_rescue.proofs.cursor.Cursor.enter.Goals as goal

pub returns-in_err-load-clause-spends : goal.returns-in_err-load-clause-spends
returns-in_err-load-clause-spends g c =
    let p = err_from_is_err_and c.from_residual.result c.from_residual.ensures.1 in
    let read = (reads_counted _ _ _ _ c.load.ensures.counts).own in
    let least = budget_least c.args.self.now c.in-Some.head c.requires.out c.in-Some.ensures.some.0 in
    record { within = omega (arith, read, least); left = rw p.1 tt }

pub returns-clause-onward : goal.returns-clause-onward
returns-clause-onward g c more = entered_onward c.args.self.now c.load.new.self c.begin.new.self c.in-Some.head c.requires.out c.in-Some.ensures.some.0 c.load.ensures.state c.begin.ensures

pub returns-clause-spends : goal.returns-clause-spends
returns-clause-spends g c =
    let read = (reads_counted _ _ _ _ c.load.ensures.counts).own in
    let spent = entered_budget c.args.self.now c.load.new.self c.begin.new.self c.in-Some.head c.requires.out c.in-Some.ensures.some.0 c.load.ensures.state c.begin.ensures in
    record { within = omega (arith, read, spent); left = omega (arith, read, spent) }

pub returns-clause-gives : goal.returns-clause-gives
returns-clause-gives g c told given all =
    entered_behind c.args.self.now c.load.new.self c.begin.new.self c.in-Some.head c.requires.out c.in-Some.ensures.some.0 c.load.ensures.state c.begin.ensures
    _ given all (c.in_ok-load.ensures.bytes told)
