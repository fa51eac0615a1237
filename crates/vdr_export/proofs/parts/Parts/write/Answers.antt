use Rattle.std.proofs.Common.{rules}
use Rattle.vdr_export.specs.Kept.{kept}
use Rattle.vdr_export.proofs.Joining.{kept_at, part_front, part_next}
use Rattle.vdr_export.proofs.parts.Parts.write.Goals as goal

pub returns-in_err-write_part-clause-front : goal.returns-in_err-write_part-clause-front
returns-in_err-write_part-clause-front g c =
    let at = kept_at c.self.inside.bodies.items c.deref-part-items.result.now c.args.self.now c.self.view_is c.deref-part-items.ensures.value
    c.loop-part.part-index c.part-item.result c.loop-part-test.true c.part-item.is in
    part_front _ _ _ c.args.self.now c.loop-part.part-index (kept c.part-item.result) at.0 at.1 c.loop-part.invariant.written c.write_part.ensures.front

pub loop-part-preserved : goal.loop-part-preserved
loop-part-preserved g c =
    let at = kept_at c.self.inside.bodies.items c.deref-part-items.result.now c.args.self.now c.self.view_is c.deref-part-items.ensures.value
    c.loop-part.part-index c.part-item.result c.loop-part-test.true c.part-item.is in
    record {
      written = part_next _ _ _ c.args.self.now c.loop-part.part-index (kept c.part-item.result) at.0 at.1 c.loop-part.invariant.written c.in_ok-write_part.ensures.all;
      later = search rules;
    }
