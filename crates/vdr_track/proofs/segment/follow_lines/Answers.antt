use Rattle.std.proofs.Common.{◌∙◌, List, ℕ, [], map, ap, sym, subst, arith}
use Rattle.std.specs.Io.KnownBytes.{Appends}
use Rattle.std.proofs.lemmas.Iterator.Consumers.{YieldsList-from_first, YieldsList-so_far, YieldsList-turn, YieldsList-end}
use Rattle.std.proofs.lemmas.List.{append-nil}
use Rattle.vdr_datagram.specs.Verdicts.{LineSpan, line_spans}
use Rattle.vdr_datagram.specs.Views.{lines_left, span_of}
use Rattle.vdr_track.specs.Segments.{open_after}
use Rattle.vdr_track.specs.Texts.{steps_text}
use Rattle.vdr_track.proofs.Turning.{along, front_next, opened_next, written_next}
use Rattle.vdr_track.proofs.segment.follow_lines.Goals as goal

pub returns-in_err-follow-clause-front : goal.returns-in_err-follow-clause-front
returns-in_err-follow-clause-front g c =
    let all : List LineSpan = line_spans c.args.payload.now in
    let road = YieldsList-from_first span_of lines_left all (ap lines_left c.into_iter-line-iterator.ensures.into_iter_gives ∙ c.lines-line-items.ensures) in
    let before = YieldsList-so_far road c.loop-line.yielded _ c.loop-line.yielded_by in
    let turn = YieldsList-turn road c.loop-line.yielded _ c.loop-line.yielded_by c.next.result c.next.new.self c.in-Some.line c.in-Some.is c.next.ensures.steps in
    front_next c.args.source.now c.args.item.now c.loop-line.yielded c.in-Some.line c.args.last.now c.loop-line.last c.loop-line.last c.line_step.result c.loop-line.invariant.opened c.line_step.ensures.step
    (g.O.Sink.taken c.args.out.now) (g.O.Sink.taken c.loop-line.out) (g.O.Sink.taken c.follow.new.out) all before turn c.loop-line.invariant.written c.in_err-follow.ensures.front

pub loop-line-preserved : goal.loop-line-preserved
loop-line-preserved g c =
    let before = c.loop-line.invariant in
    let told = c.in_ok-follow.ensures in
    let cause = c.follow.ensures.cause.later in
    record {
      opened = opened_next c.args.source.now c.args.item.now c.loop-line.yielded c.in-Some.line c.args.last.now c.loop-line.last c.follow.new.last c.line_step.result before.opened c.line_step.ensures.step told.opened;
      written = written_next c.args.source.now c.args.item.now c.loop-line.yielded c.in-Some.line c.args.last.now c.loop-line.last c.follow.new.last c.line_step.result before.opened c.line_step.ensures.step
          (g.O.Sink.taken c.args.out.now) (g.O.Sink.taken c.loop-line.out) (g.O.Sink.taken c.follow.new.out) before.written told.all;
      later = omega (arith, before.later, cause);
    }

pub returns-clause-opened : goal.returns-clause-opened
returns-clause-opened g c =
    let all : List LineSpan = line_spans c.args.payload.now in
    let road = YieldsList-from_first span_of lines_left all (ap lines_left c.into_iter-line-iterator.ensures.into_iter_gives ∙ c.lines-line-items.ensures) in
    let end = YieldsList-end road c.loop-line.yielded _ c.loop-line.yielded_by c.next.result c.next.new.self c.in-None.is c.next.ensures.steps in
    c.loop-line.invariant.opened ∙ ap (λ (spans : List LineSpan). open_after c.args.last.now (along c.args.source.now c.args.item.now spans)) end.0

pub returns-clause-all : goal.returns-clause-all
returns-clause-all g c =
    let all : List LineSpan = line_spans c.args.payload.now in
    let road = YieldsList-from_first span_of lines_left all (ap lines_left c.into_iter-line-iterator.ensures.into_iter_gives ∙ c.lines-line-items.ensures) in
    let end = YieldsList-end road c.loop-line.yielded _ c.loop-line.yielded_by c.next.result c.next.new.self c.in-None.is c.next.ensures.steps in
    subst (λ (spans : List LineSpan). Appends (g.O.Sink.taken c.args.out.now) (g.O.Sink.taken c.loop-line.out) (steps_text c.args.last.now (along c.args.source.now c.args.item.now spans))) end.0
    c.loop-line.invariant.written

pub returns-clause-front : goal.returns-clause-front
returns-clause-front g c =
    let all : List LineSpan = line_spans c.args.payload.now in
    let road = YieldsList-from_first span_of lines_left all (ap lines_left c.into_iter-line-iterator.ensures.into_iter_gives ∙ c.lines-line-items.ensures) in
    let end = YieldsList-end road c.loop-line.yielded _ c.loop-line.yielded_by c.next.result c.next.new.self c.in-None.is c.next.ensures.steps in
    let text : List ℕ = steps_text c.args.last.now (along c.args.source.now c.args.item.now (map span_of c.loop-line.yielded)) in
    (text, [], ap (λ (spans : List LineSpan). steps_text c.args.last.now (along c.args.source.now c.args.item.now spans)) (sym end.0) ∙ sym (append-nil text), c.loop-line.invariant.written)
