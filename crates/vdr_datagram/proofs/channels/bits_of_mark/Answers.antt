use Rattle.std.proofs.Common.{◌&&◌, ◌==◌, arith}
use Rattle.vdr_datagram.specs.Marks.{shows}
use Rattle.vdr_datagram.proofs.BitLemmas.{bits_room, byte_le}
use Rattle.vdr_datagram.proofs.channels.bits_of_mark.Goals as goal

pub overflow_mul-bits : goal.overflow_mul-bits
overflow_mul-bits c =
    let room = bits_room (λ s. (s.group == c.args.group) && shows c.args.mark.now s.kind) c.args.channels.now c.loop-k.k (omega (arith, c.loop-k-test.true)) c.requires in
    omega (arith, c.loop-k.invariant, room)

pub overflow_add-bits : goal.overflow_add-bits
overflow_add-bits c =
    let room = bits_room (λ s. (s.group == c.args.group) && shows c.args.mark.now s.kind) c.args.channels.now c.loop-k.k (omega (arith, c.loop-k-test.true)) c.requires in
    omega (arith, c.loop-k.invariant, c.from.ensures, byte_le c.if-channel-group.is_selecting, room)
