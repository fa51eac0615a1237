use Rattle.std.proofs.Common.{ap, arith, length, length-append, take}
use Rattle.vdr_values.specs.Texts.{piece, text_along}
use Rattle.vdr_values.specs.Views.{values_of}
use Rattle.vdr_values.proofs.Pieces.{room-at}
use Rattle.vdr_values.proofs.print.print_along.Goals as goal

pub print_piece-requires : goal.print_piece-requires
print_piece-requires c =
    let values = values_of c.args.values.now in
    omega (
      arith,
      c.requires,
      ap length c.loop-byte.invariant,
      length-append c.args.out.now.items (text_along (take c.loop-byte.byte-index c.args.text.now) values),
      room-at (piece values) c.args.text.now c.loop-byte.byte-index c.loop-byte-test.true,
    )
