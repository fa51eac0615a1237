use Rattle.std.proofs.Common.{◌≤◌, ◌∙◌, List, fold, length, map, sym, ap, subst, arith}
use Rattle.std.proofs.lemmas.Int.{to_z-of_z}
use Rattle.std.proofs.lemmas.Iterator.Consumers.{YieldsList-from_first, YieldsList-turn, YieldsList-end}
use Rattle.vdr_datagram.specs.Verdicts.{LineSpan, line_spans}
use Rattle.vdr_datagram.specs.Views.{lines_left, span_of}
use Rattle.vdr_durability.specs.Sources.{Line, Reading, with_line}
use Rattle.vdr_sources.proofs.Lines.{all_counted, counted_as, span_short, spans_few}
use Rattle.vdr_sources.proofs.Placing.{table_more}
use Rattle.vdr_sources.proofs.table.count_all.Goals as goal

pub count-requires-clause-room : goal.count-requires-clause-room
count-requires-clause-room c =
    let all : List LineSpan = line_spans c.args.payload.now in
    let road = YieldsList-from_first span_of lines_left all (ap lines_left c.into_iter-line-iterator.ensures.into_iter_gives ∙ c.lines-line-items.ensures) in
    let turn = YieldsList-turn road c.loop-line.yielded _ c.loop-line.yielded_by c.next.result c.next.new.self c.in-Some.line c.in-Some.is c.next.ensures.steps in
    let few = spans_few c.args.payload.now in
    omega (arith, turn.0, few, c.requires.room, c.loop-line.invariant.room, c.loop-line.invariant.capacity)

pub count-requires-clause-short : goal.count-requires-clause-short
count-requires-clause-short c =
    let all : List LineSpan = line_spans c.args.payload.now in
    let road = YieldsList-from_first span_of lines_left all (ap lines_left c.into_iter-line-iterator.ensures.into_iter_gives ∙ c.lines-line-items.ensures) in
    let turn = YieldsList-turn road c.loop-line.yielded _ c.loop-line.yielded_by c.next.result c.next.new.self c.in-Some.line c.in-Some.is c.next.ensures.steps in
    subst (λ (r : Reading). length r.name ≤ 15) (sym c.told_by.ensures) (span_short c.args.payload.now (length c.loop-line.yielded) (span_of c.in-Some.line) turn.0 turn.1)

pub count-requires-clause-few : goal.count-requires-clause-few
count-requires-clause-few c =
    let all : List LineSpan = line_spans c.args.payload.now in
    let road = YieldsList-from_first span_of lines_left all (ap lines_left c.into_iter-line-iterator.ensures.into_iter_gives ∙ c.lines-line-items.ensures) in
    let turn = YieldsList-turn road c.loop-line.yielded _ c.loop-line.yielded_by c.next.result c.next.new.self c.in-Some.line c.in-Some.is c.next.ensures.steps in
    let few = spans_few c.args.payload.now in
    omega (arith, turn.0, few, c.requires.few, c.loop-line.invariant.counted)

pub overflow_add-counted : goal.overflow_add-counted
overflow_add-counted c =
    let all : List LineSpan = line_spans c.args.payload.now in
    let road = YieldsList-from_first span_of lines_left all (ap lines_left c.into_iter-line-iterator.ensures.into_iter_gives ∙ c.lines-line-items.ensures) in
    let turn = YieldsList-turn road c.loop-line.yielded _ c.loop-line.yielded_by c.next.result c.next.new.self c.in-Some.line c.in-Some.is c.next.ensures.steps in
    let few = spans_few c.args.payload.now in
    omega (arith, turn.0, few, c.requires.few, c.loop-line.invariant.counted)

pub returns-clause-rows : goal.returns-clause-rows
returns-clause-rows c =
    let all : List LineSpan = line_spans c.args.payload.now in
    let road = YieldsList-from_first span_of lines_left all (ap lines_left c.into_iter-line-iterator.ensures.into_iter_gives ∙ c.lines-line-items.ensures) in
    let end = YieldsList-end road c.loop-line.yielded _ c.loop-line.yielded_by c.next.result c.next.new.self c.in-None.is c.next.ensures.steps in
    (simp (to_z-of_z, c.ranges.utc) at c.loop-line.invariant.rows)
    ∙ ap (λ (spans : List LineSpan). fold with_line c.args.rows.now.items (map (counted_as c.args.group c.args.utc) spans)) end.0
    ∙ ap (λ (lines : List Line). fold with_line c.args.rows.now.items lines) (all_counted c.args.group c.args.utc c.args.payload.now)

pub returns-clause-table : goal.returns-clause-table
returns-clause-table c =
    let all : List LineSpan = line_spans c.args.payload.now in
    let road = YieldsList-from_first span_of lines_left all (ap lines_left c.into_iter-line-iterator.ensures.into_iter_gives ∙ c.lines-line-items.ensures) in
    let end = YieldsList-end road c.loop-line.yielded _ c.loop-line.yielded_by c.next.result c.next.new.self c.in-None.is c.next.ensures.steps in
    let few = spans_few c.args.payload.now in
    table_more _ _ _ (omega (arith, end.1, few, c.loop-line.invariant.counted)) c.loop-line.invariant.table
