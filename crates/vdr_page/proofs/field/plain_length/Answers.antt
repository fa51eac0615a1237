use Rattle.std.proofs.Common.{◌∙◌, arith, sym}
use Rattle.vdr_page.proofs.Plain.{one_more_plain}
use Rattle.vdr_page.proofs.field.plain_length.Goals as goal

pub loop-count-preserved : goal.loop-count-preserved
loop-count-preserved c = record {
  within = let below = c.loop-count-test.true in omega (arith, below);
  plain = one_more_plain c.args.bytes.now c.loop-count.count c.loop-count-test.true c.loop-count.invariant.plain (sym c.is_plain.ensures ∙ c.if-is_plain.true);
}
