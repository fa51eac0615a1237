use Rattle.std.proofs.Common.{List, refl, ap, arith, length, length-append}
use Rattle.vdr_datagram.specs.Channels.{channels_of}
use Rattle.vdr_terms.specs.Records.{Record}
use Rattle.vdr_terms.specs.Records.Content.{Stop}
use Rattle.vdr_run.specs.Making.{rest_of, gaps_made}
use Rattle.vdr_terms.proofs.Stamping.{stamp_kept}
use Rattle.vdr_run.proofs.Closing.{few_gaps, same_makes, closed, closed_sums, kept_sums}
use Rattle.vdr_run.proofs.maker.Maker.close.Goals as goal

pub push_stop-requires-clause-room : goal.push_stop-requires-clause-room
push_stop-requires-clause-room c =
    let room = c.push_closing_gaps.ensures.room in
    let few = few_gaps 16 (channels_of c.args.config.now) c.args.self.now c.args.rest.now in
    let none = ap (λ (xs : List Record). length xs) c.clear.ensures.empty in
    let more = ap (λ (xs : List Record). length xs) c.push_closing_gaps.ensures.records in
    let sum = length-append c.clear.new.self.items (gaps_made 16 (channels_of c.args.config.now) c.args.self.now c.args.rest.now) in
    omega (arith, room, few, none, more, sum, c.clear.ensures.capacity, c.args.self.now.room)

pub push_stop-requires-clause-place : goal.push_stop-requires-clause-place
push_stop-requires-clause-place c =
    let here = c.push_closing_gaps.ensures.place in
    let few = few_gaps 16 (channels_of c.args.config.now) c.args.self.now c.args.rest.now in
    omega (arith, c.requires.place, here, few)

pub overflow_add-self : goal.overflow_add-self
overflow_add-self c =
    let here = c.push_closing_gaps.ensures.place in
    let few = few_gaps 16 (channels_of c.args.config.now) c.args.self.now c.args.rest.now in
    omega (arith, c.requires.place, here, few)

pub returns-clause-records : goal.returns-clause-records
returns-clause-records c start popped m = closed c.args.config.now start popped _ c.args.rest.now (same_makes m refl refl refl refl refl refl) c.push_closing_gaps.new.self _ c.push_stop.new.self.items
    c.clear.ensures.empty
    (λ i. record {
      content = Stop;
      group = 255;
      bits = c.marker_bits.ensures.stop i;
      place = c.push_closing_gaps.new.self.place;
      number = 0;
      tick = c.tick-tick.ensures.tick i;
      utc = stamp_kept c.push_closing_gaps.new.self.utc c.push_closing_gaps.new.self.stamp i;
    })
    c.push_stop.ensures.items c.push_closing_gaps.ensures

pub returns-clause-counts : goal.returns-clause-counts
returns-clause-counts c start popped m = kept_sums c.args.config.now start popped c.args.self.now c.args.rest.now m _ (λ g l. c.push_closing_gaps.ensures.closed g l)

pub returns-clause-closed : goal.returns-clause-closed
returns-clause-closed c start popped g m l none =
    closed_sums c.args.config.now start popped c.args.self.now c.args.rest.now m g l _ (c.push_closing_gaps.ensures.closed g l) none (c.law_of_sums.ensures.close start popped (rest_of c.args.rest.now) g l)
