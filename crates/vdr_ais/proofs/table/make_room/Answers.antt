use Rattle.std.proofs.Common.{◌∙◌, option_map, ap, sym, filter_map}
use Rattle.vdr_datagram.specs.Verdicts.{LineSpan}
use Rattle.vdr_ais.specs.Lines.{line_in, lines_in}
use Rattle.vdr_ais.specs.Views.{line_said}
use Rattle.vdr_ais.proofs.Begun.{no_fewer, no_fewer_twice}
use Rattle.vdr_ais.proofs.Shown.{left, left_first, left_other, room_all, room_more, room_none, room_same}
use Rattle.vdr_ais.proofs.table.make_room.Goals as goal

pub loop-line-init : goal.loop-line-init
loop-line-init c =
    record {
      same = no_fewer c.args.unfinished.now;
      room = room_none c.args.unfinished.now (lines_in c.args.group c.args.payload.now) (left c.args.group c.into_iter-line-iterator.result)
          (ap (left c.args.group) c.into_iter-line-iterator.ensures.into_iter_gives ∙ ap (filter_map (λ (s : LineSpan). line_in c.args.group s.verdict)) c.lines-line-items.ensures);
    }

pub loop-line-preserved-in-Some-line_in : goal.loop-line-preserved-in-Some-line_in
loop-line-preserved-in-Some-line_in c =
    record {
      same = no_fewer_twice c.args.unfinished.now c.loop-line.unfinished c.make_room.new.self c.loop-line.invariant.same c.make_room.ensures.same;
      room = room_more c.loop-line.unfinished c.make_room.new.self (lines_in c.args.group c.args.payload.now) (left c.args.group c.loop-line.line-iterator) (left c.args.group c.next.new.self)
          (line_said c.in-Some-line_in.line) c.loop-line.count _
          (left_first c.args.group c.loop-line.line-iterator c.next.new.self c.in-Some.line (line_said c.in-Some-line_in.line) c.in-Some.ensures.steps (sym c.line_in.ensures ∙ ap (option_map line_said) c.in-Some-line_in.is))
          c.make_room.ensures.same.places c.in_ok-make_room.ensures.room c.in-Some-checked_add.ensures.1 c.loop-line.invariant.room;
    }

pub loop-line-preserved : goal.loop-line-preserved
loop-line-preserved c =
    record {
      same = c.loop-line.invariant.same;
      room = room_same c.loop-line.unfinished (lines_in c.args.group c.args.payload.now) (left c.args.group c.loop-line.line-iterator) (left c.args.group c.next.new.self) c.loop-line.count
          (left_other c.args.group c.loop-line.line-iterator c.next.new.self c.in-Some.line c.in-Some.ensures.steps (sym c.line_in.ensures ∙ ap (option_map line_said) c.in_default.is)) c.loop-line.invariant.room;
    }

pub returns-clause-room : goal.returns-clause-room
returns-clause-room c =
    (room_all c.loop-line.unfinished (lines_in c.args.group c.args.payload.now) (left c.args.group c.loop-line.line-iterator) c.loop-line.count
    (ap (filter_map (λ (s : LineSpan). line_in c.args.group s.verdict)) c.in-None.ensures.steps.0) c.loop-line.invariant.room).0

pub returns-clause-count : goal.returns-clause-count
returns-clause-count c =
    (room_all c.loop-line.unfinished (lines_in c.args.group c.args.payload.now) (left c.args.group c.loop-line.line-iterator) c.loop-line.count
    (ap (filter_map (λ (s : LineSpan). line_in c.args.group s.verdict)) c.in-None.ensures.steps.0) c.loop-line.invariant.room).1
