use Rattle.std.proofs.Common.{◌∙◌, ◌||◌, ◌+◌, Bool, arith, ap, drop}
use Rattle.vdr_rows.specs.Seeking.{mentions}
use Rattle.vdr_rows.proofs.Carried.{found_all, found_more}
use Rattle.vdr_rows.proofs.seeking.mentions.Goals as goal

pub loop-at-preserved : goal.loop-at-preserved
loop-at-preserved c = record {
  same =
      ap (λ (b : Bool). (c.loop-at.found || b) || mentions c.args.sought (drop (c.loop-at.at + 1) c.args.text.now)) c.is_sought-found.ensures
      ∙ found_more c.args.sought c.args.text.now c.loop-at.at (c.loop-at.at + 1) (c.loop-at.at + 2) c.loop-at.found (omega (arith, c.loop-at-test.true, c.saturating_sub-at-end.ensures)) (omega arith) (omega arith) c.loop-at.invariant.same;
}

pub returns : goal.returns
returns c = found_all c.args.sought c.args.text.now c.loop-at.at c.loop-at.found (omega (arith, c.loop-at-test.false, c.saturating_sub-at-end.ensures)) c.loop-at.invariant.same
