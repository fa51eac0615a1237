use Rattle.std.proofs.Common.{inl, true, false, length, refl}
use Rattle.vdr_memory.specs.declared.call.Work.TheVariants.{Write}
use Rattle.vdr_memory.specs.Media.{with_change, with_fault}
use Rattle.vdr_memory.specs.Traces.{step_of}
use Rattle.vdr_memory.proofs.Changes.{either, fails_moves, on_failure, tears, torn, whole_write}
use Rattle.vdr_memory.proofs.media.MemoryMediaMedia.write.Goals as goal

pub returns-clause-images : goal.returns-clause-images
returns-clause-images c =
    let old = c.args.self.now in
    let new = c.change.new.self in
    let m = c.args.m in
    let work = Write c.args.at (length c.args.bytes.now) in
    either c.change.result c.change.ensures.done c.change.ensures.failed
    (λ r. tears old new m c.args.at c.args.bytes.now true (whole_write old new m c.args.at c.args.bytes.now true (inl r.grows)))
    (λ f. tears old new m c.args.at c.args.bytes.now false (whole_write old new m c.args.at c.args.bytes.now false (fails_moves old (with_fault m (with_change work old)) new (step_of m work c.args.bytes.now false) refl f)))

pub returns-clause-torn : goal.returns-clause-torn
returns-clause-torn c =
    let old = c.args.self.now in
    let new = c.change.new.self in
    let m = c.args.m in
    let work = Write c.args.at (length c.args.bytes.now) in
    on_failure c.change.result c.change.ensures.failed
    (λ f. torn old new m c.args.at c.args.bytes.now (whole_write old new m c.args.at c.args.bytes.now false (fails_moves old (with_fault m (with_change work old)) new (step_of m work c.args.bytes.now false) refl f)))
