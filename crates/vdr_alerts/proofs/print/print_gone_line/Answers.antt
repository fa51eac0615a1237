use Rattle.std.proofs.Common.{List, ℕ, codes, refl}
use Rattle.vdr_alerts.specs.Boards.{alert_front}
use Rattle.vdr_alerts.proofs.Writing.{both_all, both_front, first_front}
use Rattle.vdr_alerts.proofs.print.print_gone_line.Goals as goal

pub returns-in_err-print_front-clause-front : goal.returns-in_err-print_front-clause-front
returns-in_err-print_front-clause-front g c =
    let state : List ℕ = alert_front c.args.mark.now c.args.alert.now (codes "gone") in
    first_front (g.O.Sink.taken c.args.out.now) _ (g.O.Sink.taken c.args.out.now) state (codes "null\n") _ refl c.in_err-print_front.ensures.front

pub returns-clause-all : goal.returns-clause-all
returns-clause-all g c =
    let state : List ℕ = alert_front c.args.mark.now c.args.alert.now (codes "gone") in
    both_all _ _ _ state (codes "null\n") _ refl c.in_ok-print_front.ensures.all c.write_all.result c.write_all.ensures.all

pub returns-clause-front : goal.returns-clause-front
returns-clause-front g c =
    let state : List ℕ = alert_front c.args.mark.now c.args.alert.now (codes "gone") in
    both_front _ _ _ state (codes "null\n") _ refl c.in_ok-print_front.ensures.all c.write_all.ensures.front
