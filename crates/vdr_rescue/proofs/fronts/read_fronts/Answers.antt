use Rattle.std.proofs.Common.{◌<◌, ◌≤◌, ◌+◌, ◌*◌, All, subst, sym, arith}
use Rattle.std.proofs.lemmas.Result.{err_from_is_err_and}
use Rattle.vdr_terms.proofs.Results.{same_err}
use Rattle.vdr_outside.specs.Disk.{Image, content}
use Rattle.vdr_outside.proofs.Counts.{none_falls_join}
use Rattle.vdr_outside.proofs.Moments.{unchanged_join}
use Rattle.vdr_directory.specs.Opening.{front_bytes}
use Rattle.vdr_directory.proofs.CostLemmas.{reads_counted, reads_join}
use Rattle.vdr_rescue.specs.Fronts.{FrontsState, ShowsFront}
use Rattle.vdr_rescue.proofs.FrontLemmas.{closed_more, fronts_more, heads_more}
use Rattle.vdr_rescue.proofs.fronts.read_fronts.Goals as goal

pub returns-in_err-front-clause-damaged : goal.returns-in_err-front-clause-damaged
returns-in_err-front-clause-damaged g c =
    let p = err_from_is_err_and c.from_residual.result c.from_residual.ensures.1 in
    rw (p.1, p.2) (λ k offset e. absurd (c.in_err-front.ensures.damaged k offset (same_err _ _ e)))

pub loop-slot-preserved : goal.loop-slot-preserved
loop-slot-preserved g c =
    let is = c.in-Ok-add.ensures in
    record {
      unchanged = unchanged_join _ _ _ c.loop-slot.invariant.unchanged c.read_one.ensures.unchanged;
      later = none_falls_join _ _ _ c.loop-slot.invariant.later c.read_one.ensures.cause.later;
      counts = reads_join c.args.area.medium (64 * c.loop-slot.slot) 64 _ _ _ _ (omega arith) c.loop-slot.invariant.counts (reads_counted _ _ _ _ c.read_one.ensures.counts);
      slots = subst (λ (f : FrontsState). All (λ h. h.slot < c.args.area.slots) f.heads) (sym is) (heads_more c.loop-slot.slot c.args.area.slots c.in_ok-front.front c.loop-slot.fronts c.loop-slot-test.true c.loop-slot.invariant.slots);
      few = subst (λ (f : FrontsState). f.closed ≤ c.loop-slot.slot + 1) (sym is) (closed_more c.loop-slot.slot c.in_ok-front.front c.loop-slot.fronts c.loop-slot.invariant.few);
      shown = λ told. fronts_more _ _ _ _ c.loop-slot.fronts c.in_ok-front.front (c.loop-slot.invariant.shown told)
          (subst (λ (image : Image). ShowsFront (front_bytes c.args.area.segment c.loop-slot.slot (content image c.args.area.medium)) c.in_ok-front.front) (c.loop-slot.invariant.unchanged.reads told) (c.in_ok-front.ensures.shows told)) is;
    }
