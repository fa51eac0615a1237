use Rattle.std.proofs.Common.{◌≡◌, ℕ, ◌+◌, ◌*◌, ◌<◌, ◌≤◌, List, [], ◌∷◌, get_or, sym, ◌∙◌, ap, subst, arith}
use Rattle.std.proofs.Math.Nat.{mul-le-mul_right}
use Rattle.vdr_outside.specs.Disk.{Disk, Image, InRange, content, written}
use Rattle.vdr_outside.proofs.Counts.{none_falls_join}
use Rattle.vdr_outside.proofs.Images.{content_written}
use Rattle.vdr_outside.proofs.Moments.{size_read}
use Rattle.vdr_media.specs.Writing.{ClosesGates}
use Rattle.vdr_media.proofs.Behind.{behind_join, behind_write}
use Rattle.vdr_media.proofs.Closing.{closes_more}
use Rattle.vdr_media.proofs.gates.close_gates.Goals as goal

gate_in_range : (first now : List ℕ) (m from step count k at : ℕ) → InRange first m from (count * step) → now ≡ first → at ≡ from + k * step → k < count → 1 ≤ step → InRange now m at 1
gate_in_range first now m from step count k at range same is lt apart =
    let le : (k + 1) * step ≤ count * step = mul-le-mul_right step (omega (arith, lt)) in
    subst (λ (sizes : List ℕ). InRange sizes m at 1) (sym same) (range.0, omega (arith, le, range.1, is, apart))

closed_more : {tells tells_images : Type 0} (old mid new : Disk tells tells_images) (m from step k at : ℕ) → 1 ≤ step → at ≡ from + k * step → at + 1 ≤ get_or mid.sizes m 0
    → (tells → ClosesGates from step k (content old.reads m) (content mid.reads m)) → (tells → new.reads ≡ written mid.reads m at (0 ∷ [])) → tells → ClosesGates from step (k + 1) (content old.reads m) (content new.reads m)
closed_more old mid new m from step k at apart is within so_far reads told =
    let b : content new.reads m ≡ content (written mid.reads m at (0 ∷ [])) m = ap (λ (l : Image). content l m) (reads told) in
    subst (λ (l : List ℕ). ClosesGates from step (k + 1) (content old.reads m) l) (sym (b ∙ content_written mid.reads m at (0 ∷ [])))
    (closes_more from step k at (content old.reads m) (content mid.reads m) apart is (omega (arith, within, size_read mid m told)) (so_far told))

pub returns-in_err-write-clause-writes : goal.returns-in_err-write-clause-writes
returns-in_err-write-clause-writes g c =
    let range = gate_in_range _ _ _ _ _ _ _ _ c.requires.room c.loop.invariant.writes.sizes c.loop.invariant.place c.loop-test.true c.requires.apart in
    behind_join _ _ _ _ c.loop.invariant.writes
    (behind_write c.write.result _ _ _ _ _ range (omega (arith, c.requires.behind, c.loop.invariant.place)) c.write.ensures.time c.write.ensures.images c.write.ensures.reads c.write.ensures.torn c.write.ensures.sizes)

pub loop-preserved : goal.loop-preserved
loop-preserved g c =
    let range = gate_in_range _ _ _ _ _ _ _ _ c.requires.room c.loop.invariant.writes.sizes c.loop.invariant.place c.loop-test.true c.requires.apart in
    record {
      place = omega (arith, c.loop.invariant.place);
      writes =
          behind_join _ _ _ _ c.loop.invariant.writes
          (behind_write c.write.result _ _ _ _ _ range (omega (arith, c.requires.behind, c.loop.invariant.place)) c.write.ensures.time c.write.ensures.images c.write.ensures.reads c.write.ensures.torn c.write.ensures.sizes);
      closed =
          closed_more (g.M.Media.disk c.args.media.now) (g.M.Media.disk c.loop.media) (g.M.Media.disk c.write.new.self) _ _ _ _ _ c.requires.apart c.loop.invariant.place range.1 c.loop.invariant.closed c.in_ok-write.ensures.reads;
      counts = c.write.ensures.counts ∙ c.loop.invariant.counts;
      cause = none_falls_join _ _ _ c.loop.invariant.cause c.write.ensures.cause.later;
    }
