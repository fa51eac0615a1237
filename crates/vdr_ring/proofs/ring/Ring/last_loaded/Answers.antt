use Rattle.std.proofs.Common.{sym, arith, rules}
use Rattle.vdr_directory.proofs.Surveying.{breaks_inside, place_small}
use Rattle.vdr_ring.proofs.LastBatch.{batches_read, batch_fits}
use Rattle.vdr_ring.proofs.ring.Ring.last_loaded.Goals as goal

pub overflow_add-result : goal.overflow_add-result
overflow_add-result c =
    let inside = breaks_inside _ _ c.in-Err.ensures.broken in
    let area = c.self.inside.area in
    let small = place_small area.segment c.args.slot area.slots c.in-Err.at area.segment_high (rw (sym c.self.view_is) at c.requires) area.slots_high (omega (arith, inside, c.deref.ensures.len, c.self.invariant.1)) in
    omega arith

pub returns-in-Ok-read_all-clause-batch : goal.returns-in-Ok-read_all-clause-batch
returns-in-Ok-read_all-clause-batch c gate batches stand =
    let k = c.in-Ok.ensures.legal in
    batches_read c.deref.result.now c.in-Ok.bytes.now c.in-Ok-read_all.records.items k.0 batches k.1 k.2 c.in-Ok-read_all.ensures.all (search rules)

pub returns-in-Ok-read_all-clause-fits : goal.returns-in-Ok-read_all-clause-fits
returns-in-Ok-read_all-clause-fits c some = rw (sym c.self.view_is) (
    let fits = c.in-Ok.ensures.fits in
    batch_fits c.in-Ok.bytes.now c.in-Ok-read_all.records.items c.self.inside.area.segment (λ more. let high = fits more in omega (arith, high, c.deref.ensures.len, c.self.invariant.1)) c.in-Ok-read_all.ensures.size some)
