use Rattle.std.proofs.Common.{ap, arith, length, length-append, take}
use Rattle.vdr_entry.specs.Escape.{escaped, escaped_byte}
use Rattle.vdr_values.proofs.Pieces.{room-at}
use Rattle.vdr_values.proofs.escape.print_escaped.Goals as goal

pub print_escaped_byte-requires : goal.print_escaped_byte-requires
print_escaped_byte-requires c =
    omega (
      arith,
      c.requires,
      ap length c.loop-byte.invariant,
      length-append c.args.out.now.items (escaped (take c.loop-byte.byte-index c.args.bytes.now)),
      room-at escaped_byte c.args.bytes.now c.loop-byte.byte-index c.loop-byte-test.true,
    )
