-- A ring made of what was found on its medium.
use Rattle.std.proofs.Common.{◌≡◌, ◌≤◌, ◌+◌, ◌*◌, ℕ, List, Some, inr, sym, subst, arith}
use Rattle.vdr_terms.specs.Needs.{Sizes, Fits, slots_in}
use Rattle.vdr_outside.specs.Disk.{Disk, Image, Durable, Unchanged, content}
use Rattle.vdr_outside.specs.Moments.{Settled}
use Rattle.vdr_outside.specs.Parts.{part}
use Rattle.vdr_outside.proofs.Moments.{settled_still}
use Rattle.vdr_segment.specs.Slots.{place_of}
use Rattle.vdr_directory.specs.declared.entry.Entry.{Entry}
use Rattle.vdr_directory.specs.Sequence.{Placed}
use Rattle.vdr_directory.specs.Order.{AreInOrder}
use Rattle.vdr_directory.specs.Knowns.{AreInOrderBy}
use Rattle.vdr_directory.specs.Costs.{ReadsAtMost, bytes_to_open, lacking}
use Rattle.vdr_directory.proofs.CostLemmas.{lacking_described}
use Rattle.vdr_directory.specs.Holds.{HoldsPlaced, Tells}
use Rattle.vdr_directory.specs.Entries.{Describe}
use Rattle.vdr_directory.specs.Telling.{TellsBy}
use Rattle.vdr_directory.specs.Bringing.{bare_of}
use Rattle.vdr_ring.specs.Rings.{Knows, RingState, Reads}
use Rattle.vdr_directory.specs.Opening.{AreKnown, Refuses, slot_bytes}

-- A medium that fits has four slots at least.
pub four_slots : (sizes : Sizes) (m size : ℕ) → Fits sizes m size → 4 ≤ slots_in sizes size
four_slots sizes m size fits = omega (arith, fits)

-- the same refusal by other names of its medium, segments and slots
pub refused_by : (segment segment' count count' m m' : ℕ) (image : Image) (offset : ℕ) → segment ≡ segment' → count ≡ count' → m ≡ m' → Refuses segment count (content image m) offset → Refuses segment' count' (content image m') offset
refused_by segment segment' count count' m m' image offset e f g h = subst (λ (p : ℕ × ℕ × ℕ). Refuses p.0 p.1 (content image p.2) offset) (λ i. (e i, f i, g i)) h

-- as many bytes were read, by another name of the medium and by the parts
pub counts_by : (segment count m m' : ℕ) (before now : List ℕ) (known : List Placed) (opened : List Entry) → m ≡ m' → Describe known opened → ReadsAtMost m (bytes_to_open segment count opened) before now
    → ReadsAtMost m' (1 + 64 * count + segment * lacking known) before now
counts_by segment count m m' before now known opened e describe counts =
    subst (λ (k : ℕ). ReadsAtMost k (1 + 64 * count + segment * lacking known) before now) e
    (subst (λ (n : ℕ). ReadsAtMost m (1 + 64 * count + segment * n) before now) (lacking_described known opened describe) counts)

-- and segments
pub holds_by : (segment segment' count count' m m' : ℕ) (image : Image) (placed : List Placed) → segment ≡ segment' → count ≡ count' → m ≡ m' → HoldsPlaced segment' count' placed (content image m') → HoldsPlaced segment count placed (content image m)
holds_by segment segment' count count' m m' image placed e f g h = subst (λ (p : ℕ × ℕ × ℕ). HoldsPlaced p.0 p.1 placed (content image p.2)) (λ i. (sym e i, sym f i, sym g i)) h

module _ {tells tells_images : Type 0} where
  pub ring_knows : (old new : Disk tells tells_images) (ring : RingState) → ((j : ℕ) → ring.loaded ≡ Some j → ring.buffer ≡ slot_bytes ring.segment j (content old.reads ring.medium)) → Unchanged old new → tells
      → (known : List Placed) → AreKnown ring.segment ring.slots (content old.reads ring.medium) known → AreInOrderBy known → TellsBy ring.slots known ring.directory → Knows ring known new
  ring_knows old new ring held same told known are order directory = record {
    are = λ _. subst (λ (i : Image). AreKnown ring.segment ring.slots (content i ring.medium) known) (sym (same.reads told)) are;
    order = order;
    directory = directory;
    loaded = λ j loaded _. subst (λ (i : Image). ring.buffer ≡ slot_bytes ring.segment j (content i ring.medium)) (sym (same.reads told)) (held j loaded);
  }

  pub ring_reads : (old new : Disk tells tells_images) (ring : RingState) (m : ℕ) → ring.medium ≡ m → ((j : ℕ) → ring.loaded ≡ Some j → ring.buffer ≡ slot_bytes ring.segment j (content old.reads m)) → Unchanged old new → Durable m old → tells
      → (placed : List Placed) → HoldsPlaced ring.segment ring.slots placed (content old.reads m) → AreInOrder placed → Tells ring.slots placed ring.directory → ring.bare ≡ bare_of placed
      → Reads ring placed new × (ring.bare ≡ bare_of placed)
  ring_reads old new ring m is held same durable told placed holds order directory bare = (
    record {
      settled = subst (λ (k : ℕ). Settled k (HoldsPlaced ring.segment ring.slots placed) new) (sym is)
          (settled_still m (HoldsPlaced ring.segment ring.slots placed) old new same (record { durable = durable; reads = λ _. holds }));
      order = order;
      directory = directory;
      loaded = λ j loaded _.
          subst (λ (i : Image). ring.buffer ≡ part (content i ring.medium) (place_of ring.segment j) ring.segment) (sym (same.reads told))
          (subst (λ (k : ℕ). ring.buffer ≡ part (content old.reads k) (place_of ring.segment j) ring.segment) (sym is) (held j loaded));
      bare = inr bare;
    },
    bare,
  )
