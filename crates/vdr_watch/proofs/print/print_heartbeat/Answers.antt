use Rattle.std.proofs.Common.{Option, Bor, ap}
use Rattle.std.specs.Prelude.{option_copied}
use Rattle.vdr_watch.specs.Signs.{Heartbeat}
use Rattle.vdr_watch.specs.Texts.{beat_text}
use Rattle.vdr_alerts.proofs.Writing.{both_all, both_front, first_front}
use Rattle.vdr_watch.proofs.print.print_heartbeat.Goals as goal

pub returns-in_err-print_silent-clause-front : goal.returns-in_err-print_silent-clause-front
returns-in_err-print_silent-clause-front g c =
    first_front (g.O.Sink.taken c.args.out.now) _ (g.O.Sink.taken c.args.out.now) _ _ _ (ap (λ (o : Option (Bor Heartbeat)). beat_text c.args.mark.now (option_copied o) c.args.sequence) c.in-Some.is) c.in_err-print_silent.ensures.front

pub returns-clause-all : goal.returns-clause-all
returns-clause-all g c =
    both_all _ _ _ _ _ _ (ap (λ (o : Option (Bor Heartbeat)). beat_text c.args.mark.now (option_copied o) c.args.sequence) c.in-Some.is) c.in_ok-print_silent.ensures.all c.print_jump.result c.print_jump.ensures.all

pub returns-clause-front : goal.returns-clause-front
returns-clause-front g c =
    both_front _ _ _ _ _ _ (ap (λ (o : Option (Bor Heartbeat)). beat_text c.args.mark.now (option_copied o) c.args.sequence) c.in-Some.is) c.in_ok-print_silent.ensures.all c.print_jump.ensures.front
