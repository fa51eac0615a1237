-- A medium that is laid out, and then filled.
use Rattle.std.proofs.Common.{◌≡◌, ℕ, ◌+◌, ◌*◌, ◌≤◌, List, [], ◌∷◌, length, get_or, replicate, None, sym, ◌∙◌, ap, subst, arith}
use Rattle.vdr_terms.specs.Slots.{slot_count}
use Rattle.vdr_outside.specs.Disk.{Disk, content, over}
use Rattle.vdr_outside.proofs.Bytes.{length-over}
use Rattle.vdr_outside.proofs.Moments.{size_read}
use Rattle.vdr_config.specs.Configuration.{Configuration}
use Rattle.vdr_segment.specs.declared.area.Area.{Area}
use Rattle.vdr_segment.specs.Areas.{HasRoom}
use Rattle.vdr_segment.specs.Gates.{open_gate}
use Rattle.vdr_segment.specs.Slots.{HoldsSlots}
use Rattle.vdr_media.specs.Medium.{AreClosed}
use Rattle.vdr_media.specs.Writing.{IsLaidOut}
use Rattle.vdr_remake.proofs.Fronts.{none_held}

pub laid_empty : (m segment count size : ℕ) (c : Configuration) (text b : List ℕ) → 1 ≤ segment → segment ≡ c.segment → count ≡ slot_count c.segment size → length b ≡ size → 32768 + count * segment ≤ size
    → IsLaidOut m c text b → HoldsSlots segment (replicate count None) b
laid_empty m segment count size c text b some same slots long room laid =
    let counts : slot_count c.segment (length (over b 0 (open_gate ∷ []))) ≡ count = ap (λ (n : ℕ). slot_count c.segment n) (length-over b 0 (open_gate ∷ []) ∙ long) ∙ sym slots in
    none_held segment count b some (omega (arith, room, long))
    (subst (λ (n : ℕ). AreClosed 32768 n count (over b 0 (open_gate ∷ []))) (sym same) (subst (λ (n : ℕ). AreClosed 32768 c.segment n (over b 0 (open_gate ∷ []))) counts laid.segments))

-- sizes do not change
pub room_still : (area : Area) (first now : List ℕ) → now ≡ first → HasRoom area first → HasRoom area now
room_still area first now same room = subst (HasRoom area) (sym same) room

pub size_still : {tells tells_images : Type 0} (old mid : Disk tells tells_images) (m : ℕ) → mid.sizes ≡ old.sizes → tells → length (content mid.reads m) ≡ get_or old.sizes m 0
size_still old mid m same told = size_read mid m told ∙ ap (λ (s : List ℕ). get_or s m 0) same
