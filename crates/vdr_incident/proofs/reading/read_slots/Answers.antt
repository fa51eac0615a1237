use Rattle.std.proofs.Common.{length, sym, ap, subst, arith}
use Rattle.std.proofs.lemmas.List.{length_push}
use Rattle.std.proofs.lemmas.Result.{err_from_is_err_and}
use Rattle.vdr_outside.specs.Disk.{Image, content}
use Rattle.vdr_outside.specs.Parts.{part}
use Rattle.vdr_outside.proofs.Counts.{none_falls_join}
use Rattle.vdr_outside.proofs.Moments.{unchanged_join}
use Rattle.vdr_terms.proofs.Results.{same_err}
use Rattle.vdr_incident.specs.Saves.{IsIncidentSlot}
use Rattle.vdr_incident.specs.Tables.{place_of}
use Rattle.vdr_incident.proofs.Holding.{refuses_here}
use Rattle.vdr_incident.proofs.SlotBySlot.{counted_more, reads_more, slot_read}
use Rattle.vdr_incident.proofs.reading.read_slots.Goals as goal

pub returns-in_err-saved-clause-damaged : goal.returns-in_err-saved-clause-damaged
returns-in_err-saved-clause-damaged g c =
    let p = err_from_is_err_and c.from_residual.result c.from_residual.ensures.1 in
    rw (p.1, p.2) (λ m offset e.
    let h = c.in_err-saved.ensures.damaged m offset (same_err _ _ e) in (
      h.0,
      λ told. refuses_here c.args.slots c.loop-slot.slot offset _ _ (c.loop-slot.invariant.told told) (omega arith) h.1
          (λ saved is. h.2 told saved (subst (λ (image : Image). IsIncidentSlot (part (content image 1) (place_of c.loop-slot.slot) 256) saved) (sym (c.loop-slot.invariant.unchanged.reads told)) is)),
    ))

pub returns-in_err-saved-clause-counts : goal.returns-in_err-saved-clause-counts
returns-in_err-saved-clause-counts g c = reads_more c.args.slots c.loop-slot.slot _ _ _ (omega arith) c.loop-slot.invariant.counts c.read_save.ensures.counts

pub loop-slot-preserved : goal.loop-slot-preserved
loop-slot-preserved g c = record {
  unchanged = unchanged_join _ _ _ c.loop-slot.invariant.unchanged c.read_save.ensures.unchanged;
  later = none_falls_join _ _ _ c.loop-slot.invariant.later c.read_save.ensures.cause.later;
  size = omega (arith, ap length c.push.ensures.items, length_push c.loop-slot.saves.items c.in_ok-saved.saved, c.loop-slot.invariant.size);
  counts = counted_more _ _ _ c.loop-slot.slot c.loop-slot.invariant.counts c.read_save.ensures.counts;
  told = λ told. slot_read (g.M.Media.disk c.args.media.now) c.requires.incidents told c.loop-slot.slot _ _ _ (omega arith) c.push.ensures.items (c.loop-slot.invariant.told told)
      (subst (λ (image : Image). IsIncidentSlot (part (content image 1) (place_of c.loop-slot.slot) 256) c.in_ok-saved.saved) (c.loop-slot.invariant.unchanged.reads told) (c.in_ok-saved.ensures.found told));
}
