use Rattle.std.proofs.Common.{rules, ◌≡◌, ◌<◌, ◌+◌, ◌^◌}
use Rattle.vdr_pcap.specs.Packets.{Packet}
use Rattle.vdr_pcap.proofs.StepLemmas.{room_for, too_many}
use Rattle.vdr_pcap.proofs.steps.settle_packet.Goals as goal

pub returns-in-TooMany : goal.returns-in-TooMany
returns-in-TooMany c =
    (search rules, too_many c.args.limit c.args.offset.now c.args.account.now.items c.args.size (Packet (record { link = c.args.link; stamp = c.args.stamp; front = c.args.front.now })) c.in-TooMany.ensures.0 c.in-TooMany.ensures.1, search rules)

pub returns-in-Item : goal.returns-in-Item
returns-in-Item c =
    let fits : c.args.offset.now + c.args.size < 2 ^ 64 = search rules in
    let end : c.in-Some.end ≡ c.args.offset.now + c.args.size = search rules in (
      room_for c.args.limit c.args.offset.now c.args.account.now.items c.args.size (Packet (record { link = c.args.link; stamp = c.args.stamp; front = c.args.front.now })) fits c.in-Item.ensures.0,
      end,
      c.in-Item.ensures.1,
      c.in-Item.ensures.2,
    )
