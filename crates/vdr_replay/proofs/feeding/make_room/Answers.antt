use Rattle.std.proofs.Common.{sym, ◌∙◌, true≢false}
use Rattle.vdr_replay.proofs.Charged.{both_ok, room_for_any}
use Rattle.vdr_replay.proofs.Passing.{takes_none}
use Rattle.vdr_replay.proofs.feeding.make_room.Goals as goal

pub returns-then-has_room-clause-taken : goal.returns-then-has_room-clause-taken
returns-then-has_room-clause-taken g c = λ opening feed events t0 told h. takes_none opening feed c.args.lanes.now.batch.items events t0 _ _ g.W.Watch.hears _ h

pub returns-then-has_room-clause-room : goal.returns-then-has_room-clause-room
returns-then-has_room-clause-room g c = λ limits popped feed counts charged. (c.has_room.ensures.room limits popped feed counts charged).0 c.if-has_room.true

pub returns-clause-room : goal.returns-clause-room
returns-clause-room g c =
    both_ok c.record.result c.record.ensures.held c.record.ensures.empty
    (λ held empty limits popped feed counts charged. room_for_any limits popped feed c.args.item.now c.record.new.self c.has_room.ensures.small (held c.requires.held.0 c.requires.held.1).batch.sized empty)

pub returns-clause-full : goal.returns-clause-full
returns-clause-full g c limits popped feed counts charged room = absurd (true≢false (sym ((c.has_room.ensures.room limits popped feed counts charged).1 room) ∙ c.if-has_room.false))

pub has_room-requires-clause-sized : goal.has_room-requires-clause-sized
has_room-requires-clause-sized g c = c.requires.held.1.batch.sized
