use Rattle.std.proofs.Common.{arith, ap, length, length-append, codes}
use Rattle.std.proofs.lemmas.Fmt.{length-decimal-le}
use Rattle.vdr_values.proofs.print.print_bad.Goals as goal

pub print_decimal-requires : goal.print_decimal-requires
print_decimal-requires c =
    omega (arith, ap length c.append.ensures, length-append c.args.out.now.items (codes "field "), c.requires, length-decimal-le 20 c.from.result (omega arith) (omega arith) (omega arith))
