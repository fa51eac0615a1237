use Rattle.std.proofs.Common.{◌≡◌, List, ℕ, rules, subst}
use Rattle.std.specs.Prelude.{option_copied}
use Rattle.vdr_outside.specs.Writes.{AppendsFront}
use Rattle.vdr_watch.specs.Texts.{alarm_line, alarm_text}
use Rattle.vdr_watch.proofs.print.print_alarm.Goals.{in_default-via-in-Some+else-is_in_state, in_default-via-in_default}
use Rattle.vdr_watch.proofs.print.print_alarm.Goals as goal

pub returns-in_default-clause-front : goal.returns-in_default-clause-front
returns-in_default-clause-front g c =
    let text : List ℕ = alarm_line c.args.mark.now c.args.alarm.now (option_copied c.args.text) in
    let same : text ≡ alarm_text c.args.mark.now (option_copied c.args.before) c.args.alarm.now (option_copied c.args.text) = elim c.in_default.branch [
      | in_default-via-in-Some+else-is_in_state w ↦ search rules
      | in_default-via-in_default w ↦ search rules
    ] in
    let front : AppendsFront (g.O.Sink.taken c.args.out.now) (g.O.Sink.taken c.print_alarm_line.new.out) text = c.print_alarm_line.ensures.front in
    subst (λ (xs : List ℕ). AppendsFront (g.O.Sink.taken c.args.out.now) (g.O.Sink.taken c.print_alarm_line.new.out) xs) same front
