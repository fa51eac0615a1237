use Rattle.std.proofs.Common.{◌∙◌, None, sym, arith}
use Rattle.vdr_export.proofs.Joining.{kept_at}
use Rattle.vdr_export.proofs.Placing.{is_missing, missing_here, missing_on, not_missing}
use Rattle.vdr_export.proofs.parts.Parts.missing.Goals as goal

pub returns-then-is_none : goal.returns-then-is_none
returns-then-is_none c =
    let at = kept_at c.self.inside.bodies.items c.deref-part-items.result.now c.args.self.now c.self.view_is c.deref-part-items.ensures.value
    c.loop-part.part-index c.part-item.result c.loop-part-test.true c.part-item.is in
    sym (c.loop-part.invariant.none
    ∙ missing_here c.loop-part.number c.args.self.now c.loop-part.part-index None at.0 (is_missing c.part-item.result c.is_none.result _ at.1 c.is_none.ensures c.if-is_none.true))

pub loop-part-preserved : goal.loop-part-preserved
loop-part-preserved c =
    let at = kept_at c.self.inside.bodies.items c.deref-part-items.result.now c.args.self.now c.self.view_is c.deref-part-items.ensures.value
    c.loop-part.part-index c.part-item.result c.loop-part-test.true c.part-item.is in
    record {
      number = let n = c.loop-part.invariant.number in omega (arith, n);
      none = c.loop-part.invariant.none
          ∙ missing_on c.loop-part.number c.args.self.now c.loop-part.part-index None at.0 (not_missing c.part-item.result c.is_none.result _ at.1 c.is_none.ensures c.if-is_none.false);
    }
