use Rattle.std.proofs.Common.{arith}
use Rattle.vdr_recorder.proofs.Batches.{makes_all, number_fits, room_left, taken_more}
use Rattle.vdr_recorder.proofs.making.make.Goals as goal

pub take-requires-clause-room : goal.take-requires-clause-room
take-requires-clause-room c =
    room_left c.args.config.now c.loop-item.item-index c.args.items.now c.args.maker.now c.loop-item.maker c.loop-item.invariant c.requires.short c.requires.room

pub take-requires-clause-number : goal.take-requires-clause-number
take-requires-clause-number c within =
    number_fits c.args.config.now c.loop-item.item-index c.args.items.now c.item-item.result c.args.maker.now c.loop-item.maker c.loop-item.invariant c.loop-item-test.true c.item-item.is within (c.requires.numbers _ within)

pub loop-item-preserved : goal.loop-item-preserved
loop-item-preserved c =
    taken_more c.args.config.now c.loop-item.item-index c.args.items.now c.item-item.result c.args.maker.now c.loop-item.maker c.loop-item.invariant c.loop-item-test.true c.item-item.is
    c.take.new.maker c.take.ensures.one c.take.ensures.making

pub returns-clause-makes : goal.returns-clause-makes
returns-clause-makes c start popped m =
    let all = c.loop-item-test.false in
    makes_all c.args.config.now c.loop-item.item-index c.args.items.now c.args.maker.now c.loop-item.maker (omega (arith, all)) c.loop-item.invariant start popped m
