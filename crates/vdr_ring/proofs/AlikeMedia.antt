-- A medium that is brought up: with the same records in the same places, and with its front.
use Rattle.std.proofs.Common.{◌≡◌, ℕ, List, sym, ap, subst}
use Rattle.vdr_durability.specs.Layout.{records_in}
use Rattle.vdr_outside.specs.Disk.{Disk, Image, content}
use Rattle.vdr_outside.proofs.Moments.{settled_image}
use Rattle.vdr_segment.specs.Slots.{SameFront}
use Rattle.vdr_segment.proofs.Fronts.{front_same}
use Rattle.vdr_directory.specs.Sequence.{Placed, all_records}
use Rattle.vdr_directory.specs.Holds.{HoldsPlaced}
use Rattle.vdr_directory.specs.Lookup.{HoldAll}
use Rattle.vdr_directory.specs.Bringing.{AreAlike}
use Rattle.vdr_directory.proofs.Bringing.{alike_places, alike_segments, alike_self}
use Rattle.vdr_ring.specs.Rings.{Reads, RingState}
use Rattle.vdr_ring.specs.Bringing.{HoldsAlike}

module _ (placed now : List Placed) (alike : AreAlike placed now) where
  pub alike_records : all_records now ≡ all_records placed
  alike_records = ap records_in (alike_segments placed now alike)

  pub alike_holds : (a b : ℕ) → HoldAll a b placed → HoldAll a b now
  alike_holds a b hold place from to = alike_places place placed now alike (hold place from to)

-- Before a segment gets its summary.
pub alike_image : {tells tells_images : Type 0} (ring : RingState) (placed : List Placed) (d : Disk tells tells_images) → Reads ring placed d → (i : Image) → d.now i
    → HoldsAlike ring.segment ring.slots placed (content i ring.medium) × SameFront (content d.reads ring.medium) (content i ring.medium)
alike_image ring placed d reads i now = (
  record { now = placed; holds = settled_image ring.medium (HoldsPlaced ring.segment ring.slots placed) d reads.settled i now; alike = alike_self placed; order = reads.order },
  subst (SameFront (content d.reads ring.medium)) (sym (reads.settled.durable.each i now)) (front_same (content d.reads ring.medium)),
)
