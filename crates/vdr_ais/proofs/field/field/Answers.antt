use Rattle.std.proofs.Common.{◌≡◌, ◌∙◌, ◌-◌, ◌+◌, ◌*◌, ◌<◌, ◌≤◌, ◌^◌, slice_range, sym, ap, subst, arith}
use Rattle.vdr_ais.specs.Bits.{bits_of, field, number_of}
use Rattle.vdr_ais.specs.Views.{message_of}
use Rattle.vdr_ais.proofs.BitLemmas.{below_29, below_more, one_bit}
use Rattle.vdr_ais.proofs.field.field.Goals as goal

pub overflow_mul-number : goal.overflow_mul-number
overflow_mul-number c = let b = below_29 (c.loop-at.at - c.args.first) c.loop-at.number (omega (arith, c.loop-at-test.true, c.requires.short)) c.loop-at.invariant.below in omega (arith, b)

pub overflow_add-number : goal.overflow_add-number
overflow_add-number c = let b = below_29 (c.loop-at.at - c.args.first) c.loop-at.number (omega (arith, c.loop-at-test.true, c.requires.short)) c.loop-at.invariant.below in omega (arith, b, c.bit.ensures.one)

pub loop-at-preserved : goal.loop-at-preserved
loop-at-preserved c =
    let k = c.loop-at.at - c.args.first in
    let le : c.args.first ≤ c.loop-at.at = omega arith in
    let n : k + 1 ≡ c.loop-at.at + 1 - c.args.first = omega (arith, le) in
    record {
      value = (λ i. 2 * c.loop-at.invariant.value i + c.bit.ensures.value i) ∙ sym (one_bit (bits_of (message_of c.args.message.now)) c.args.first c.loop-at.at le (omega (arith, c.loop-at-test.true, c.requires.within)));
      below = subst (λ j. 2 * c.loop-at.number + c.bit.result < 2 ^ j) n (below_more k c.loop-at.number c.bit.result c.loop-at.invariant.below c.bit.ensures.one);
    }

pub returns-clause-value : goal.returns-clause-value
unfolding field
returns-clause-value c = c.loop-at.invariant.value ∙ ap (λ j. number_of (slice_range (bits_of (message_of c.args.message.now)) c.args.first j)) (omega (arith, c.requires.order, c.loop-at-test.false))
