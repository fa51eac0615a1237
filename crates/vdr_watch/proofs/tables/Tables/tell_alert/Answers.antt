use Rattle.std.proofs.Common.{◌∙◌, ap, arith, subst, sym}
use Rattle.std.specs.Io.KnownBytes.{Appends}
use Rattle.vdr_outside.specs.Writes.{AppendsFront}
use Rattle.vdr_alerts.specs.Boards.{Board, board_behind, saying_text}
use Rattle.vdr_alerts.specs.Views.{IsOrdered, saying_value}
use Rattle.vdr_watch.proofs.Orders.{board_ordered}
use Rattle.vdr_watch.proofs.tables.Tables.tell_alert.Goals as goal

pub tell-requires-clause-ordered : goal.tell-requires-clause-ordered
tell-requires-clause-ordered g c = subst IsOrdered (sym c.requires.kept.1.alerts) (board_ordered c.requires.kept.0)

pub returns-in_err-tell-clause-front : goal.returns-in_err-tell-clause-front
returns-in_err-tell-clause-front g c met keeps =
    subst (λ (b : Board). AppendsFront (g.O.Sink.taken c.args.out.now) (g.O.Sink.taken c.tell.new.out) (saying_text c.args.mark.now b (saying_value c.args.saying))) keeps.alerts c.in_err-tell.ensures.front

pub returns-clause-kept : goal.returns-clause-kept
returns-clause-kept g c met keeps = record {
  beats = keeps.beats;
  states = keeps.states;
  alerts = c.in_ok-tell.ensures.kept ∙ ap (λ (b : Board). board_behind b (saying_value c.args.saying)) keeps.alerts;
}

pub returns-clause-all : goal.returns-clause-all
returns-clause-all g c met keeps =
    subst (λ (b : Board). Appends (g.O.Sink.taken c.args.out.now) (g.O.Sink.taken c.tell.new.out) (saying_text c.args.mark.now b (saying_value c.args.saying))) keeps.alerts c.in_ok-tell.ensures.all

pub returns-clause-front : goal.returns-clause-front
returns-clause-front g c met keeps =
    subst (λ (b : Board). AppendsFront (g.O.Sink.taken c.args.out.now) (g.O.Sink.taken c.tell.new.out) (saying_text c.args.mark.now b (saying_value c.args.saying))) keeps.alerts c.in_ok-tell.ensures.front

pub returns-clause-room : goal.returns-clause-room
returns-clause-room g c n room = record { beats = omega (arith, room.beats); alarms = omega (arith, room.alarms); board = c.tell.ensures.room n room.board }
