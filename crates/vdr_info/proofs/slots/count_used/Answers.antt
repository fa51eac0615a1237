use Rattle.std.proofs.Common.{◌≤◌, ◌*◌, ◌+◌, ℕ, List, sym, subst, arith}
use Rattle.std.specs.Prelude.{◌↔◌, IsTrue}
use Rattle.vdr_outside.specs.Disk.{Image, content}
use Rattle.vdr_outside.proofs.Counts.{none_falls_join}
use Rattle.vdr_outside.proofs.Moments.{unchanged_join}
use Rattle.vdr_segment.specs.Areas.{HasRoom}
use Rattle.vdr_directory.specs.Opening.{front_bytes}
use Rattle.vdr_directory.proofs.CostLemmas.{reads_counted, reads_join}
use Rattle.vdr_info.specs.Used.{AreUsed, IsUsed}
use Rattle.vdr_info.proofs.InfoLemmas.{few_more, used_more}
use Rattle.vdr_info.proofs.slots.count_used.Goals as goal

pub is_used-requires-clause-room : goal.is_used-requires-clause-room
is_used-requires-clause-room g c = subst (λ (sizes : List ℕ). HasRoom c.args.area sizes) (sym c.loop-slot.invariant.unchanged.sizes) c.requires.room

pub loop-slot-preserved : goal.loop-slot-preserved
loop-slot-preserved g c = record {
  unchanged = unchanged_join _ _ _ c.loop-slot.invariant.unchanged c.is_used.ensures.unchanged;
  later = none_falls_join _ _ _ c.loop-slot.invariant.later c.is_used.ensures.cause.later;
  counts = reads_join c.args.area.medium (64 * c.loop-slot.slot) 64 _ _ _ _ (omega arith) c.loop-slot.invariant.counts (reads_counted _ _ _ _ c.is_used.ensures.counts);
  few = subst (λ (n : ℕ). n ≤ c.loop-slot.slot + 1) (sym c.with_slot-used.ensures) (few_more c.in_ok-here.here c.loop-slot.used c.loop-slot.slot c.loop-slot.invariant.few);
  shown = λ told.
      subst (λ (n : ℕ). AreUsed c.args.area.segment (content (g.M.Media.disk c.args.media.now).reads c.args.area.medium) (c.loop-slot.slot + 1) n) (sym c.with_slot-used.ensures)
      (used_more c.args.area.segment c.loop-slot.slot c.loop-slot.used (content (g.M.Media.disk c.args.media.now).reads c.args.area.medium) c.in_ok-here.here (c.loop-slot.invariant.shown told)
      (subst (λ (image : Image). IsTrue c.in_ok-here.here ↔ IsUsed (front_bytes c.args.area.segment c.loop-slot.slot (content image c.args.area.medium))) (c.loop-slot.invariant.unchanged.reads told) (c.in_ok-here.ensures.used told)));
}
