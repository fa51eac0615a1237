-- Reads of a ring, one after another.
use Rattle.std.proofs.Common.{◌≡◌, ℕ, List, refl, sym, ap, ◌∙◌, subst}
use Rattle.vdr_outside.specs.Disk.{Disk, Image, Unchanged, content}
use Rattle.vdr_outside.proofs.Counts.{none_falls_join}
use Rattle.vdr_outside.proofs.Moments.{unchanged_join}
use Rattle.vdr_ring.specs.Rings.{RingState, HasMedium}
use Rattle.vdr_ring.specs.Damage.{IsIntact}
use Rattle.vdr_directory.specs.Opening.{slot_bytes}
use Rattle.vdr_ring.specs.Walks.{CountsOn, HasRead, slots_read}
use Rattle.vdr_ring.proofs.Still.{reads_still}

pub counts_join : (m : ℕ) (r s t f g h : List ℕ) → CountsOn m r s f g → CountsOn m s t g h → CountsOn m r t f h
counts_join m r s t f g h first then = record {
  others = λ k other. then.others k other ∙ first.others k other;
  later = none_falls_join f g h first.later then.later;
}

-- the buffer alone differs
same_but_buffer : (a b c : RingState) → b ≡ record a { buffer = b.buffer; loaded = b.loaded } → c ≡ record b { buffer = c.buffer; loaded = c.loaded } → c ≡ record a { buffer = c.buffer; loaded = c.loaded }
same_but_buffer a b c e f = f ∙ ap (λ (r : RingState). record r { buffer = c.buffer; loaded = c.loaded }) e

module _ {tells tells_images : Type 0} where
  pub read_join : (a b c : RingState) (d e f : Disk tells tells_images) → HasRead a b d e → HasRead b c e f → HasRead a c d f
  read_join a b c d e f first then = record {
    ring = same_but_buffer a b c first.ring then.ring;
    unchanged = unchanged_join d e f first.unchanged then.unchanged;
    bytes = λ h. then.bytes (first.bytes h);
    judged = λ h. then.judged (first.judged h);
    reads = λ placed h. then.reads placed (first.reads placed h);
  }

  -- each slot reads as before
  pub same_slots : (old new : RingState) (before now : Disk tells tells_images) → HasRead old new before now → tells → slots_read new now ≡ slots_read old before
  same_slots old new before now read told =
      let reads = read.unchanged.reads told in
      ap (λ (i : Image). λ (slot : ℕ). slot_bytes new.segment slot (content i new.medium)) reads
      ∙ ap (λ (r : RingState). λ (slot : ℕ). slot_bytes r.segment slot (content before.reads r.medium)) read.ring

  pub room_kept : (old new : RingState) (before now : Disk tells tells_images) → HasRead old new before now → HasMedium old before.sizes → HasMedium new now.sizes
  room_kept old new before now read room =
      subst (HasMedium new) (sym read.unchanged.sizes)
      (subst (λ (r : RingState). HasMedium r before.sizes) (sym read.ring) (record { there = room.there; room = room.room }))

  -- the ring of the other medium
  pub other_read : (ring : RingState) (before now : Disk tells tells_images) → Unchanged before now → HasRead ring ring before now
  other_read ring before now same = record {
    ring = refl;
    unchanged = same;
    bytes = λ held slot at told. subst (λ (i : Image). ring.buffer ≡ slot_bytes ring.segment slot (content i ring.medium)) (sym (same.reads told)) (held slot at told);
    judged = λ held slot at told.
        subst (λ (i : Image). (ring.buffer ≡ slot_bytes ring.segment slot (content i ring.medium)) × IsIntact (slot_bytes ring.segment slot (content i ring.medium))) (sym (same.reads told)) (held slot at told);
    reads = λ placed h. reads_still ring placed before now same h;
  }
