use Rattle.std.proofs.Common.{ℕ, sym, subst, arith}
use Rattle.std.proofs.lemmas.Result.{err_from_is_err_and}
use Rattle.vdr_outside.specs.Disk.{Image, content}
use Rattle.vdr_outside.proofs.Counts.{none_falls_join}
use Rattle.vdr_outside.proofs.Moments.{unchanged_join}
use Rattle.vdr_segment.specs.Slots.{IsFront}
use Rattle.vdr_terms.proofs.Results.{same_err}
use Rattle.vdr_directory.specs.Opening.{front_bytes}
use Rattle.vdr_directory.specs.Fronts.{TellFronts}
use Rattle.vdr_directory.proofs.CostLemmas.{reads_counted, reads_join}
use Rattle.vdr_directory.proofs.FrontLemmas.{slots_added, ascends_added, fronts_added, refuses_header}
use Rattle.vdr_directory.proofs.fronts.read_fronts.Goals as goal

pub returns-in_err-header-clause-damaged : goal.returns-in_err-header-clause-damaged
returns-in_err-header-clause-damaged g c =
    let p = err_from_is_err_and c.from_residual.result c.from_residual.ensures.1 in
    rw (p.1, p.2) (λ k offset e.
    let h = c.in_err-header.ensures.damaged k offset (same_err _ _ e) in (
      h.0,
      λ told. refuses_header _ _ _ _ (c.loop-slot.invariant.told told) _ _ (omega arith) h.1
          (λ front is. h.2 told front (subst (λ (image : Image). IsFront (front_bytes c.args.area.segment c.loop-slot.slot (content image c.args.area.medium)) front) (sym (c.loop-slot.invariant.unchanged.reads told)) is)),
    ))

pub loop-slot-preserved : goal.loop-slot-preserved
loop-slot-preserved g c = record {
  unchanged = unchanged_join _ _ _ c.loop-slot.invariant.unchanged c.header_in.ensures.unchanged;
  later = none_falls_join _ _ _ c.loop-slot.invariant.later c.header_in.ensures.cause.later;
  counts = reads_join _ _ _ _ _ _ _ (omega arith) c.loop-slot.invariant.counts (reads_counted _ _ _ _ c.header_in.ensures.counts);
  slots = slots_added _ _ _ _ c.in-Ok-add.ensures c.loop-slot.invariant.slots;
  ascends = ascends_added _ _ _ _ c.in-Ok-add.ensures c.loop-slot.invariant.slots c.loop-slot.invariant.ascends;
  told = λ told. fronts_added _ _ _ _ _ _ c.in-Ok-add.ensures (c.loop-slot.invariant.told told)
      (subst (λ (image : Image). IsFront (front_bytes c.args.area.segment c.loop-slot.slot (content image c.args.area.medium)) c.in_ok-header.header) (c.loop-slot.invariant.unchanged.reads told) (c.in_ok-header.ensures.front told));
}

pub returns-clause-told : goal.returns-clause-told
returns-clause-told g c told =
    subst (λ (n : ℕ). TellFronts c.args.area.segment n (content (g.M.Media.disk c.args.media.now).reads c.args.area.medium) c.loop-slot.opened.items)
    (omega arith) (c.loop-slot.invariant.told told)

pub returns-in_err-header-clause-counts : goal.returns-in_err-header-clause-counts
returns-in_err-header-clause-counts g c = reads_join _ _ _ _ _ _ _ (omega arith) c.loop-slot.invariant.counts (reads_counted _ _ _ _ c.header_in.ensures.counts)
