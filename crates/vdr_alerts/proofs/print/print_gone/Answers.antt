use Rattle.std.proofs.Common.{◌+◌, List, ℕ, drop, get_or, subst, take}
use Rattle.std.specs.List.{flat_map}
use Rattle.vdr_outside.specs.Writes.{AppendsFront}
use Rattle.vdr_outside.proofs.Known.{front-more, pieces-at}
use Rattle.vdr_alerts.specs.Alerts.{Alert}
use Rattle.vdr_alerts.specs.Boards.{gone_text}
use Rattle.vdr_alerts.proofs.print.print_gone.Goals as goal

pub returns-in_err-print_if_gone-clause-front : goal.returns-in_err-print_if_gone-clause-front
returns-in_err-print_if_gone-clause-front g c =
    let alerts : List Alert = c.args.alerts.now in
    let text : Alert → List ℕ = gone_text c.args.mark.now c.args.is_ended c.args.part.now c.args.reading.now.values in
    let i : ℕ = c.loop-alert.alert-index in
    front-more (g.O.Sink.taken c.args.out.now) (g.O.Sink.taken c.loop-alert.out) (g.O.Sink.taken c.print_if_gone.new.out) (flat_map text (take i alerts)) (text (get_or alerts i c.alert-item.result))
    (flat_map text (drop (i + 1) alerts)) (flat_map text alerts) (pieces-at text alerts i c.alert-item.result c.loop-alert-test.true) c.loop-alert.invariant.written
    (subst (λ (a : Alert). AppendsFront (g.O.Sink.taken c.loop-alert.out) (g.O.Sink.taken c.print_if_gone.new.out) (text a)) c.alert-item.is c.in_err-print_if_gone.ensures.front)
