use Rattle.std.proofs.Common.{◌==◌, length, ap, arith}
use Rattle.vdr_config.specs.Configuration.{Configuration}
use Rattle.vdr_datagram.proofs.BitLemmas.{byte_le}
use Rattle.vdr_run.proofs.BitLemmas.{bits_room}
use Rattle.vdr_run.proofs.bits.gap_bits.Goals as goal

pub overflow_mul-bits : goal.overflow_mul-bits
overflow_mul-bits c =
    let few = ap (λ (x : Configuration). length x.channels) c.config.view_is in
    let room = bits_room c.args.config.now.channels c.args.group c.loop-k.k (omega (arith, c.loop-k-test.true)) (omega (arith, few, c.config.invariant.few)) in
    omega (arith, c.loop-k.invariant, room)

pub overflow_add-bits : goal.overflow_add-bits
overflow_add-bits c =
    let few = ap (λ (x : Configuration). length x.channels) c.config.view_is in
    let room = bits_room c.args.config.now.channels c.args.group c.loop-k.k (omega (arith, c.loop-k-test.true)) (omega (arith, few, c.config.invariant.few)) in
    omega (arith, c.loop-k.invariant, c.from.ensures, byte_le (c.behind-config.inside.group == c.args.group), room)
