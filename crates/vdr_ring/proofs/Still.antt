-- What a ring reads, and what it knows, stays where nothing is written.
use Rattle.std.proofs.Common.{◌≡◌, List, sym, subst}
use Rattle.vdr_outside.specs.Disk.{Disk, Image, Unchanged, content}
use Rattle.vdr_outside.specs.Parts.{part}
use Rattle.vdr_outside.proofs.Moments.{settled_still}
use Rattle.vdr_segment.specs.Slots.{place_of}
use Rattle.vdr_directory.specs.Sequence.{Placed}
use Rattle.vdr_directory.specs.Holds.{HoldsPlaced}
use Rattle.vdr_directory.specs.Opening.{AreKnown}
use Rattle.vdr_ring.specs.Rings.{RingState, Knows, Reads}

module _ {tells tells_images : Type 0} where
  pub reads_still : (ring : RingState) (placed : List Placed) (before now : Disk tells tells_images) → Unchanged before now → Reads ring placed before → Reads ring placed now
  reads_still ring placed before now same reads = record {
    settled = settled_still ring.medium (HoldsPlaced ring.segment ring.slots placed) before now same reads.settled;
    order = reads.order;
    directory = reads.directory;
    loaded = λ j at told.
        subst (λ (i : Image). ring.buffer ≡ part (content i ring.medium) (place_of ring.segment j) ring.segment) (sym (same.reads told)) (reads.loaded j at told);
    bare = reads.bare;
  }

  pub knows_still : (ring : RingState) (known : List Placed) (before now : Disk tells tells_images) → Unchanged before now → Knows ring known before → Knows ring known now
  knows_still ring known before now same knows = record {
    are = λ told. subst (λ (i : Image). AreKnown ring.segment ring.slots (content i ring.medium) known) (sym (same.reads told)) (knows.are told);
    order = knows.order;
    directory = knows.directory;
    loaded = λ j at told.
        subst (λ (i : Image). ring.buffer ≡ part (content i ring.medium) (place_of ring.segment j) ring.segment) (sym (same.reads told)) (knows.loaded j at told);
  }
