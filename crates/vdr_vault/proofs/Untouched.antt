-- A ring below those that are given a batch reads its medium as before.
use Rattle.std.proofs.Common.{◌≡◌, ◌⊎◌, ◌<◌, ◌≤◌, ℕ, List, inl, sym, ap, ◌∙◌, subst}
use Rattle.vdr_outside.specs.Disk.{Disk, content}
use Rattle.vdr_outside.specs.Parts.{part}
use Rattle.vdr_outside.specs.Moments.{AtEachMoment}
use Rattle.vdr_outside.proofs.Moments.{now_after}
use Rattle.vdr_segment.specs.Slots.{place_of}
use Rattle.vdr_directory.specs.Holds.{HoldsPlaced}
use Rattle.vdr_directory.specs.Sequence.{Placed}
use Rattle.vdr_ring.specs.Rings.{RingState}
use Rattle.vdr_ring.specs.Rings as rings
use Rattle.vdr_vault.specs.Passes.{Passes}

pub reads_below : {tells tells_images : Type 0} {LacksIt HasIt : ℕ → List ℕ → Type 0} (from count : ℕ) (ring : RingState) (placed : List Placed) (old new : Disk tells tells_images) → ring.medium < from
    → AtEachMoment old new (Passes LacksIt HasIt from count old.now) → (tells → (k : ℕ) → (k < from) ⊎ (count ≤ k) → content new.reads k ≡ content old.reads k) → rings.Reads ring placed old → rings.Reads ring placed new
reads_below from count ring placed old new lt moments others h = record {
  settled = record {
    durable = record {
      each = λ i now.
          let p = now_after old new _ moments i now in
          p.others ring.medium (inl lt) ∙ h.settled.durable.each p.image p.was ∙ sym (others (new.shown (new.told i now)).0 ring.medium (inl lt));
    };
    reads = λ told. subst (HoldsPlaced ring.segment ring.slots placed) (sym (others told ring.medium (inl lt))) (h.settled.reads told);
  };
  order = h.order;
  directory = h.directory;
  loaded = λ j is told. h.loaded j is told ∙ ap (λ (b : List ℕ). part b (place_of ring.segment j) ring.segment) (sym (others told ring.medium (inl lt)));
  bare = h.bare;
}
