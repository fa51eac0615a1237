use Rattle.std.proofs.Common.{◌≡◌, List, ℕ, rules, subst}
use Rattle.std.specs.Prelude.{option_copied}
use Rattle.vdr_outside.specs.Writes.{AppendsFront}
use Rattle.vdr_alerts.specs.Boards.{alert_line, change_text}
use Rattle.vdr_alerts.proofs.print.print_change.Goals.{in_default-via-in-Some+else-is_known, in_default-via-in_default}
use Rattle.vdr_alerts.proofs.print.print_change.Goals as goal

pub returns-in_default-clause-front : goal.returns-in_default-clause-front
returns-in_default-clause-front g c =
    let text : List ℕ = alert_line c.args.mark.now c.args.alert.now c.args.title.now c.args.rest.now in
    let same : text ≡ change_text c.args.mark.now (option_copied c.args.before) c.args.alert.now c.args.title.now c.args.rest.now = elim c.in_default.branch [
      | in_default-via-in-Some+else-is_known w ↦ search rules
      | in_default-via-in_default w ↦ search rules
    ] in
    let front : AppendsFront (g.O.Sink.taken c.args.out.now) (g.O.Sink.taken c.print_alert_line.new.out) text = c.print_alert_line.ensures.front in
    subst (λ (xs : List ℕ). AppendsFront (g.O.Sink.taken c.args.out.now) (g.O.Sink.taken c.print_alert_line.new.out) xs) same front
