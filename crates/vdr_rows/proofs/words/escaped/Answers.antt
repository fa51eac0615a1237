use Rattle.std.proofs.Common.{ap, arith, length}
use Rattle.vdr_rows.proofs.RowLemmas.{length-escaped}
use Rattle.vdr_rows.proofs.words.escaped.Goals as goal

pub print_escaped-requires : goal.print_escaped-requires
print_escaped-requires c = omega (arith, c.requires, ap length c.new-text.ensures, length-escaped c.args.bytes.now)
