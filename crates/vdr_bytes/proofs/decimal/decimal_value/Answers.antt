-- The number so far has at most seventeen digits, so one more fits.
use Rattle.std.proofs.Common.{◌≤◌, arith}
use Rattle.vdr_bytes.proofs.DigitLemmas.{digit_among, below_more}
use Rattle.vdr_bytes.proofs.decimal.decimal_value.Goals as goal

pub overflow_mul-value : goal.overflow_mul-value
overflow_mul-value c = let few : c.loop-digit.digit-index ≤ 17 = omega arith in omega (arith, below_more _ _ 17 c.loop-digit.invariant.1 few)

pub overflow_add-value : goal.overflow_add-value
overflow_add-value c =
    let few : c.loop-digit.digit-index ≤ 17 = omega arith in
    let digit = digit_among c.args.digits.now c.loop-digit.digit-index c.loop-digit-test.true c.requires.digits in
    omega (arith, digit.high, below_more _ _ 17 c.loop-digit.invariant.1 few)
