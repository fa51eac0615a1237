use Rattle.std.proofs.Common.{◌≡◌, arith}
use Rattle.vdr_teller.proofs.Rows.{front_of_all, incidents_all, incidents_front}
use Rattle.vdr_teller.proofs.incidents.print_incidents.Goals as goal

pub returns-in_err-print_row-clause-front : goal.returns-in_err-print_row-clause-front
returns-in_err-print_row-clause-front g c =
    incidents_front c.loop-before.before _ c.args.recorder.now.vault.table _ _ _ (omega (arith, c.loop-before-test.true)) (omega arith) c.loop-before.invariant.printed c.in_err-print_row.ensures.front

pub returns-clause-all : goal.returns-clause-all
returns-clause-all g c =
    let end : c.loop-before.before ≡ 32 = omega (arith, c.loop-before-test.false, c.loop-before.auto.before-end) in
    incidents_all c.loop-before.before c.args.recorder.now.vault.table _ _ end c.loop-before.invariant.printed

pub returns-clause-front : goal.returns-clause-front
returns-clause-front g c =
    let end : c.loop-before.before ≡ 32 = omega (arith, c.loop-before-test.false, c.loop-before.auto.before-end) in
    front_of_all _ _ _ (incidents_all c.loop-before.before c.args.recorder.now.vault.table _ _ end c.loop-before.invariant.printed)
