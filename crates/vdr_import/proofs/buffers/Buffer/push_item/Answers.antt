use Rattle.std.proofs.Common.{refl}
use Rattle.vdr_feed.specs.Feed.{head}
use Rattle.vdr_pcap.specs.Taken.{item_lent}
use Rattle.vdr_import.specs.Relayed.{held_in}
use Rattle.vdr_import.proofs.Relaying.{gathers_item}
use Rattle.vdr_import.proofs.buffers.Buffer.push_item.Goals as goal

pub returns-clause-all : goal.returns-clause-all
returns-clause-all g c =
    gathers_item (g.O.Sink.taken c.args.output.now) (g.O.Sink.taken c.make_room.new.output) (held_in c.args.self.now) (held_in c.make_room.new.self) (head (item_lent c.args.item.now)) c.args.item.now.body.now
    c.head_of.result c.args.item.now.body.now (held_in c.gather.new.self) (held_in c.gather-2.new.self) c.in_ok-make_room.ensures.handed c.head_of.ensures refl c.gather.ensures.held c.gather-2.ensures.held
