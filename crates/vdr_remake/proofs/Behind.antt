-- Writes behind the gate of a medium, and reads between them.
use Rattle.std.proofs.Common.{ℕ, refl, ap}
use Rattle.vdr_outside.specs.Disk.{Disk, Image, Unchanged, content}
use Rattle.vdr_outside.proofs.Moments.{moments_still}
use Rattle.vdr_media.specs.Writing.{WritesBehindGate}

-- calls that read alone
pub behind_still : {tells tells_images : Type 0} (m : ℕ) (old new : Disk tells tells_images) → Unchanged old new → WritesBehindGate m old new
behind_still m old new same = record {
  moments = moments_still old new _ same (λ i now. record { image = i; was = now; others = λ k ne. refl; gate = refl });
  others = λ told k ne. ap (λ (l : Image). content l k) (same.reads told);
  sizes = same.sizes;
}
