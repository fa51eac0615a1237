use Rattle.std.proofs.Common.{◌≡◌, ◌<◌, List, get_or, ap, ◌∙◌, arith, length, length-append}
use Rattle.std.proofs.lemmas.List.{get_or_default}
use Rattle.vdr_datagram.specs.Channels.{channels_of}
use Rattle.vdr_terms.specs.Records.{Record}
use Rattle.vdr_terms.specs.declared.counts.Counts.{Counts}
use Rattle.vdr_run.specs.Accounts.{Counted, nothing_counted, with_rest, gap_after}
use Rattle.vdr_run.specs.Making.{counted_of, rest_of, gaps_made}
use Rattle.vdr_run.proofs.Closing.{few_gaps, closes_more}
use Rattle.vdr_run.proofs.maker.Maker.push_closing_gaps.Goals as goal

pub push_gap-requires-clause-place : goal.push_gap-requires-clause-place
push_gap-requires-clause-place c =
    let here = c.loop-group.invariant.closes.place in
    let few = few_gaps c.loop-group.group (channels_of c.args.config.now) c.args.self.now c.args.rest.now in
    omega (arith, c.requires.place, here, few)

pub push_gap-requires-clause-room : goal.push_gap-requires-clause-room
push_gap-requires-clause-room c =
    let room = c.loop-group.invariant.closes.room in
    let few = few_gaps c.loop-group.group (channels_of c.args.config.now) c.args.self.now c.args.rest.now in
    let more = ap (λ (xs : List Record). length xs) c.loop-group.invariant.closes.records in
    let sum = length-append c.args.self.now.records.items (gaps_made c.loop-group.group (channels_of c.args.config.now) c.args.self.now c.args.rest.now) in
    omega (arith, room, few, more, sum, c.requires.room)

pub loop-group-preserved : goal.loop-group-preserved
loop-group-preserved c =
    let all = c.loop-group.invariant.closes.sixteen in
    let within : c.loop-group.group < length c.loop-group.self.accounts = omega arith in
    let same : get_or c.loop-group.self.accounts c.loop-group.group c.index-self-group.result ≡ counted_of c.loop-group.self c.loop-group.group =
    get_or_default c.loop-group.self.accounts c.loop-group.group c.index-self-group.result nothing_counted within in
    let rest : Counts = rest_of c.args.rest.now c.loop-group.group in
    record {
      closes = closes_more c.loop-group.group (channels_of c.args.config.now) c.args.rest.now c.args.self.now c.loop-group.self c.push_gap.new.self c.close-gap.result c.close-gap.new.self
          c.loop-group.invariant.closes within
          (c.close-gap.ensures.gap ∙ ap (λ (k : Counted). gap_after rest k.pending) same) (c.close-gap.ensures.after ∙ ap (with_rest rest) same)
          c.push_gap.ensures.accounts c.push_gap.ensures.base c.push_gap.ensures.greatest c.push_gap.ensures.utc c.push_gap.ensures.place c.push_gap.ensures.meter
          c.push_gap.ensures.records c.push_gap.ensures.room;
    }
