use Rattle.std.proofs.Common.{◌≡◌, ◌++◌, List, ℕ, codes, rules, subst}
use Rattle.vdr_outside.specs.Writes.{AppendsFront}
use Rattle.vdr_alerts.specs.Boards.{alert_front, gone_text}
use Rattle.vdr_alerts.proofs.print.print_if_gone.Goals as goal

pub returns-clause-front : goal.returns-clause-front
returns-clause-front g c =
    let text : List ℕ = alert_front c.args.mark.now c.args.alert.now (codes "gone") ++ codes "null\n" in
    let same : text ≡ gone_text c.args.mark.now c.args.is_ended c.args.part.now c.args.reading.now.values c.args.alert.now = search rules in
    let front : AppendsFront (g.O.Sink.taken c.args.out.now) (g.O.Sink.taken c.print_gone_line.new.out) text = c.print_gone_line.ensures.front in
    subst (λ (xs : List ℕ). AppendsFront (g.O.Sink.taken c.args.out.now) (g.O.Sink.taken c.print_gone_line.new.out) xs) same front
