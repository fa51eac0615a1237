use Rattle.std.proofs.Common.{◌≡◌, ◌∙◌, All, List, option_map, filter_map, length, ap, sym, subst, arith}
use Rattle.std.proofs.lemmas.Int.{to_z-of_z}
use Rattle.std.proofs.lemmas.List.Elements.{All-head, All-tail}
use Rattle.vdr_datagram.specs.Verdicts.{LineSpan}
use Rattle.vdr_ais.specs.Lines.{Line, line_in, lines_in}
use Rattle.vdr_ais.specs.Tables.{table_of}
use Rattle.vdr_ais.specs.Views.{line_said}
use Rattle.vdr_ais.proofs.Shown.{PlaceFor, left, left_first, left_other, way_end, way_more, way_same, way_start}
use Rattle.vdr_ais.proofs.table.take_lines.Goals as goal

pub loop-line-init : goal.loop-line-init
loop-line-init c =
    let all = lines_in c.args.group c.args.payload.now in
    let is : left c.args.group c.into_iter-line-iterator.result ≡ all =
    ap (left c.args.group) c.into_iter-line-iterator.ensures.into_iter_gives ∙ ap (filter_map (λ (s : LineSpan). line_in c.args.group s.verdict)) c.lines-line-items.ensures in
    record {
      way = way_start _ (table_of c.args.unfinished.now c.args.ships.now.items) all (left c.args.group c.into_iter-line-iterator.result) is;
      places = subst (λ (ls : List Line). All (PlaceFor c.args.unfinished.now) ls) (sym is) c.requires.places;
      ships = c.requires.ships;
      room = let n = ap length is in omega (arith, n, c.requires.room);
    }

pub take_line-requires : goal.take_line-requires
take_line-requires c =
    let first : left c.args.group c.loop-line.line-iterator ≡ _ =
    left_first c.args.group c.loop-line.line-iterator c.next.new.self c.in-Some.line (line_said c.in-Some-line_in.line) c.in-Some.ensures.steps (sym c.line_in.ensures ∙ ap (option_map line_said) c.in-Some-line_in.is) in
    let n = ap length first in
    record {
      place = All-head (PlaceFor c.loop-line.unfinished) (line_said c.in-Some-line_in.line) (left c.args.group c.next.new.self)
          (subst (λ (ls : List Line). All (PlaceFor c.loop-line.unfinished) ls) first c.loop-line.invariant.places);
      ships = c.loop-line.invariant.ships;
      room = omega (arith, n, c.loop-line.invariant.room);
      stamp = simp (to_z-of_z, c.ranges.utc) c.requires.stamp;
    }

pub loop-line-preserved-in-Some-line_in : goal.loop-line-preserved-in-Some-line_in
loop-line-preserved-in-Some-line_in c =
    let all = lines_in c.args.group c.args.payload.now in
    let first =
    left_first c.args.group c.loop-line.line-iterator c.next.new.self c.in-Some.line (line_said c.in-Some-line_in.line) c.in-Some.ensures.steps (sym c.line_in.ensures ∙ ap (option_map line_said) c.in-Some-line_in.is) in
    let n = ap length first in
    record {
      way = way_more _ (table_of c.args.unfinished.now c.args.ships.now.items) (table_of c.loop-line.unfinished c.loop-line.ships.items) (table_of c.take_line.new.unfinished c.take_line.new.ships.items) all
          (left c.args.group c.loop-line.line-iterator) (left c.args.group c.next.new.self) (line_said c.in-Some-line_in.line) first c.take_line.ensures.shows c.loop-line.invariant.way;
      places = λ k d lt. c.take_line.ensures.places _ (All-tail (PlaceFor c.loop-line.unfinished) (line_said c.in-Some-line_in.line) (left c.args.group c.next.new.self)
          (subst (λ (ls : List Line). All (PlaceFor c.loop-line.unfinished) ls) first c.loop-line.invariant.places) k d lt);
      ships = c.take_line.ensures.ships;
      room = omega (arith, n, c.loop-line.invariant.room, c.take_line.ensures.more, c.take_line.ensures.capacity);
    }

pub loop-line-preserved : goal.loop-line-preserved
loop-line-preserved c =
    let all = lines_in c.args.group c.args.payload.now in
    let other = left_other c.args.group c.loop-line.line-iterator c.next.new.self c.in-Some.line c.in-Some.ensures.steps (sym c.line_in.ensures ∙ ap (option_map line_said) c.in_default.is) in
    let n = ap length other in
    record {
      way = way_same _ (table_of c.args.unfinished.now c.args.ships.now.items) (table_of c.loop-line.unfinished c.loop-line.ships.items) all (left c.args.group c.loop-line.line-iterator) (left c.args.group c.next.new.self) other
          c.loop-line.invariant.way;
      places = subst (λ (ls : List Line). All (PlaceFor c.loop-line.unfinished) ls) other c.loop-line.invariant.places;
      ships = c.loop-line.invariant.ships;
      room = omega (arith, n, c.loop-line.invariant.room);
    }

pub returns-clause-shows : goal.returns-clause-shows
returns-clause-shows c =
    let shown = way_end _ (table_of c.args.unfinished.now c.args.ships.now.items) (table_of c.loop-line.unfinished c.loop-line.ships.items) (lines_in c.args.group c.args.payload.now) (left c.args.group c.loop-line.line-iterator)
    (ap (filter_map (λ (s : LineSpan). line_in c.args.group s.verdict)) c.in-None.ensures.steps.0) c.loop-line.invariant.way in
    simp (to_z-of_z, c.ranges.utc) at shown
