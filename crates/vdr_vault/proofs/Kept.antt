-- What each medium keeps, by its ring and by what the media hold.
use Rattle.std.proofs.Common.{◌≡◌, ◌+◌, ℕ, List, length, get_or, sym, ap, ◌∙◌, subst}
use Rattle.std.proofs.lemmas.Bool.{leb-false, lt-leb}
use Rattle.vdr_terms.specs.Needs.{slots_in}
use Rattle.vdr_terms.specs.Slots.{slot_count}
use Rattle.vdr_outside.specs.Disk.{Disk, content}
use Rattle.vdr_outside.proofs.Moments.{size_read}
use Rattle.vdr_config.specs.Configuration.{Configuration}
use Rattle.vdr_config.specs.Sizes.{sizes_of, window_of}
use Rattle.vdr_segment.specs.Slots.{SameFront}
use Rattle.vdr_directory.specs.Sequence.{Placed}
use Rattle.vdr_ring.specs.Openings.{IsRingOf}
use Rattle.vdr_ring.specs.Rings.{RingState}
use Rattle.vdr_ring.specs.Whole.{KeepsAll, is_filled}
use Rattle.vdr_opening.specs.Media.{Contents}
use Rattle.vdr_vault.specs.Regularity.{LacksNothing}

-- Of contents, with so many slots

module _ (x : Contents) (m count : ℕ) (same : x.filled m ≡ is_filled count (x.placed m)) where
  pub lacks_nothing : KeepsAll (window_of x.config m) count (x.placed m) → LacksNothing x m
  lacks_nothing k = record { unbroken = k.unbroken; whole = λ e. k.whole (leb-false count (length (x.placed m) + 1) (sym same ∙ e)) }

  pub keeps_all : LacksNothing x m → KeepsAll (window_of x.config m) count (x.placed m)
  keeps_all h = record { unbroken = h.unbroken; whole = λ lt. h.whole (same ∙ lt-leb count (length (x.placed m) + 1) lt) }

-- By a ring

pub slots_there : (c : Configuration) (sizes : List ℕ) (m : ℕ) (ring : RingState) (bytes : List ℕ) → IsRingOf c sizes m ring → length bytes ≡ get_or sizes m 0 → ring.slots ≡ slot_count c.segment (length bytes)
slots_there c sizes m ring bytes its size = its.slots ∙ ap (λ (n : ℕ). slots_in (sizes_of c) n) (sym size)

pub filled_there : (c : Configuration) (sizes : List ℕ) (m : ℕ) (ring : RingState) (placed : List Placed) (bytes : List ℕ) → IsRingOf c sizes m ring → length bytes ≡ get_or sizes m 0
    → is_filled ring.slots placed ≡ is_filled (slot_count c.segment (length bytes)) placed
filled_there c sizes m ring placed bytes its size = ap (λ (n : ℕ). is_filled n placed) (slots_there c sizes m ring bytes its size)

-- in the window that the configuration says
pub keeps_window : (c : Configuration) (sizes : List ℕ) (m : ℕ) (ring : RingState) (placed : List Placed) → IsRingOf c sizes m ring → KeepsAll ring.seconds ring.slots placed → KeepsAll (window_of c m) ring.slots placed
keeps_window c sizes m ring placed its k = subst (λ (n : ℕ). KeepsAll n ring.slots placed) its.seconds k

-- and by the ring that stands there after a call
pub keeps_after : {tells tells_images : Type 0} (c : Configuration) (m : ℕ) (ring now : RingState) (placed : List Placed) (old new : Disk tells tells_images) → tells → IsRingOf c old.sizes m ring → IsRingOf c new.sizes m now
    → SameFront (content old.reads m) (content new.reads m) → KeepsAll ring.seconds ring.slots placed → KeepsAll now.seconds now.slots placed
keeps_after c m ring now placed old new told its is front k =
    let slots : ring.slots ≡ now.slots = slots_there c old.sizes m ring (content old.reads m) its (size_read old m told) ∙ ap (slot_count c.segment) (sym front.size) ∙ sym (slots_there c new.sizes m now (content new.reads m) is (size_read new m told)) in
    let seconds : ring.seconds ≡ now.seconds = its.seconds ∙ sym is.seconds in
    subst (λ (p : ℕ × ℕ). KeepsAll p.0 p.1 placed) (λ i. (seconds i, slots i)) k
