use Rattle.std.proofs.Common.{sym}
use Rattle.vdr_bytes.proofs.DigitLemmas.{below_more, length-are_digits}
use Rattle.vdr_bytes.proofs.decimal.number.Goals as goal

pub returns-then-are_digits-clause-below : goal.returns-then-are_digits-clause-below
returns-then-are_digits-clause-below c =
    below_more _ _ _ c.decimal_value.ensures.below (length-are_digits c.args.most c.args.bytes.now (sym c.if-are_digits.ensures))
