-- A medium at every moment until a segment is begun.
use Rattle.std.proofs.Common.{◌≡◌, ◌≢◌, ◌<◌, ◌≤◌, ℕ, List, [], ◌∷◌, ◌++◌, length, slice_get, All, Contains, Option, Some, None, inl, inr, ⊎_elim, refl, sym, ap, ◌∙◌, subst, arith, length-set}
use Rattle.std.proofs.lemmas.List.Elements.{All-contains, Contains-append_left, Contains-append_right, Contains-append_cases}
use Rattle.vdr_terms.specs.Records.{Record, last}
use Rattle.vdr_terms.proofs.Somewhere.{any_left, any_right}
use Rattle.vdr_outside.specs.Disk.{Disk}
use Rattle.vdr_outside.specs.Moments.{ChangesOnly, Settled}
use Rattle.vdr_outside.proofs.Moments.{changes_weaken, changes_join}
use Rattle.vdr_segment.specs.Batches.{IsBatch}
use Rattle.vdr_segment.specs.Segments.{Segment}
use Rattle.vdr_segment.specs.Slots.{HoldsSlots, HoldsEither, slots_begun}
use Rattle.vdr_segment.proofs.Holding.{slot_of}
use Rattle.vdr_durability.specs.Retention.{Pin}
use Rattle.vdr_durability.proofs.Lists.{all_from, contains_here, contains_there, none_contained}
use Rattle.vdr_directory.specs.declared.newest.Newest.{Newest}
use Rattle.vdr_directory.specs.Sequence.{Placed, seq_of, batches_of, AreInSequence}
use Rattle.vdr_directory.specs.Order.{AreInOrder}
use Rattle.vdr_directory.specs.Directories.{DirectoryState}
use Rattle.vdr_directory.specs.Holds.{HoldsPlaced, HoldsAny, Tells}
use Rattle.vdr_ring.specs.Rings.{RingState, IsSameRing}
use Rattle.vdr_directory.specs.Growing.{next_seq, new_segment, with_batch_in}
use Rattle.vdr_ring.specs.Stages.{Stages, BeginsAnew}
use Rattle.vdr_ring.specs.Appends.{MayCome, HasNoRoom, LeavesFree, IsFree, IsReady}
use Rattle.vdr_directory.proofs.Placing.{begin_in_sequence, slot_closed}
use Rattle.vdr_directory.proofs.Numbering.{seqs_below}
use Rattle.vdr_ring.proofs.Staging.{victim_split, Finds, begins_anew}
use Rattle.vdr_directory.proofs.Telling.{tells_begun}
use Rattle.vdr_ring.proofs.Freeing.{holds_either, settled_slots, settled_placed}

-- Some of more

-- The batches that a medium holds are legal.
pub legal_batches : (segment count : ℕ) (placed : List Placed) (b : List ℕ) → HoldsPlaced segment count placed b → All (λ p. All IsBatch (batches_of p)) placed
legal_batches segment count placed b h = all_from (λ p. All IsBatch (batches_of p)) placed (λ p m.
    let at = All-contains (λ p. slice_get h.slots p.slot ≡ Some (Some p.segment)) placed p h.sequence.there m in
    (slot_of segment p.slot h.slots (Some p.segment) b h.holds at).1.batches.legal)

-- What is left stood there before.
left_among : (count seconds : ℕ) (pins : List Pin) (placed : List Placed) (slot : ℕ) (closed : List Placed) → LeavesFree count seconds pins placed slot closed → (p : Placed) → Contains closed p → Contains placed p
left_among count seconds pins placed slot closed (inl h) p m = subst (λ (ps : List Placed). Contains ps p) h.1 m
left_among count seconds pins placed slot closed (inr h) p m =
    let split = victim_split seconds pins placed h.1 h.2 h.3 h.4 in
    subst (λ (ps : List Placed). Contains ps p) (sym split)
    (⊎_elim
    (λ (k : Contains h.1 p). Contains-append_left h.1 (h.2 ∷ h.3) p k)
    (λ (k : Contains h.3 p). Contains-append_right h.1 (h.2 ∷ h.3) p (contains_there h.2 h.3 p k))
    (Contains-append_cases h.1 h.3 p (subst (λ (ps : List Placed). Contains ps p) h.6 m)))

pub left_below : (count seconds : ℕ) (pins : List Pin) (placed : List Placed) (slot : ℕ) (closed : List Placed) → LeavesFree count seconds pins placed slot closed → AreInOrder placed
    → All (λ p. seq_of p < next_seq (last placed)) closed
left_below count seconds pins placed slot closed leaves order =
    all_from (λ p. seq_of p < next_seq (last placed)) closed (λ p m. All-contains (λ p. seq_of p < next_seq (last placed)) placed p (seqs_below placed order) (left_among count seconds pins placed slot closed leaves p m))

-- The stages of an append that begins this segment.
abbrev pub stages_begun : (closed : List Placed) (new : Placed) (records : List Record) → Stages
stages_begun closed new records = record { closed = closed; begun = closed ++ new ∷ []; done = closed ++ with_batch_in new records ∷ []; left = closed ++ with_batch_in new records ∷ [] }

abbrev pub next_segment : (placed : List Placed) (slot first : ℕ) → Placed
next_segment placed slot first = new_segment slot (next_seq (last placed)) first

pub begins : (size count seconds : ℕ) (pins : List Pin) (placed : List Placed) (first : ℕ) (records : List Record) (slot : ℕ) (closed : List Placed) → LeavesFree count seconds pins placed slot closed
    → HasNoRoom size placed records → BeginsAnew size count seconds pins placed first records (stages_begun closed (next_segment placed slot first) records)
begins size count seconds pins placed first records slot closed leaves no_room = record { no_room = no_room; slot = slot; place = leaves; begun = refl; done = refl }

-- What the directory keeps of a segment that is begun.
pub begun_table : (t u : DirectoryState) (n : Newest) (slot slot' seq first : ℕ) → u ≡ record t { newest = Some n } → n ≡ record { slot = slot; seq = seq; first = first; end = 64 } → slot ≡ slot'
    → u ≡ record t { newest = Some (record { slot = slot'; seq = seq; first = first; end = 64 }) }
begun_table t u n slot slot' seq first is begun same =
    is ∙ ap (λ (m : Newest). record t { newest = Some m }) (begun ∙ ap (λ (j : ℕ). record { slot = j; seq = seq; first = first; end = 64 }) same)

module _ {tells tells_images : Type 0} where
  pub settled_at : (m n segment segment' count count' : ℕ) (placed : List Placed) (d : Disk tells tells_images) → n ≡ m → segment' ≡ segment → count' ≡ count
      → Settled n (HoldsPlaced segment' count' placed) d → Settled m (HoldsPlaced segment count placed) d
  settled_at m n segment segment' count count' placed d e f g s =
      subst (λ (k : ℕ × ℕ × ℕ). Settled k.0 (HoldsPlaced k.1 k.2 placed) d) (λ i. (e i, f i, g i)) s

  -- until the slot is free
  pub begun_before : (m segment count : ℕ) (placed closed begun : List Placed) (old mid : Disk tells tells_images) → ChangesOnly m (HoldsAny segment count (placed ∷ closed ∷ [])) old mid
      → ChangesOnly m (HoldsAny segment count (placed ∷ closed ∷ begun ∷ [])) old mid
  begun_before m segment count placed closed begun old mid moments =
      changes_weaken m _ (HoldsAny segment count (placed ∷ closed ∷ begun ∷ [])) old mid moments (λ b h. any_left (λ (ps : List Placed). HoldsPlaced segment count ps b) (placed ∷ closed ∷ []) (begun ∷ []) h)

  -- The segment is begun.
  module _ (m segment count seconds : ℕ) (pins : List Pin) (placed : List Placed) (slot seq first : ℕ) (closed : List Placed) (t : DirectoryState) (old mid new : Disk tells tells_images) (told : tells)
      (s : Settled m (HoldsPlaced segment count closed) mid) (tell : Tells count closed t) (within : slot < count) (apart : All (λ p. p.slot ≢ slot) closed) (leaves : LeavesFree count seconds pins placed slot closed)
      (order : AreInOrder placed) (seq_is : seq ≡ next_seq (last placed)) where
    abbrev slots : List (Option Segment)
    slots = (s.reads told).slots

    every : length slots ≡ count
    every = (s.reads told).all_slots

    free : slice_get slots slot ≡ Some None
    free = slot_closed slots closed slot (s.reads told).sequence (omega (arith, within, every)) apart

    sequence : AreInSequence (slots_begun slots slot seq first) (closed ++ new_segment slot seq first ∷ [])
    sequence = begin_in_sequence slots closed slot seq first (s.reads told).sequence free
        (subst (λ (n : ℕ). All (λ p. seq_of p < n) closed) (sym seq_is) (left_below count seconds pins placed slot closed leaves order))

    every_begun : length (slots_begun slots slot seq first) ≡ count
    every_begun = length-set slots slot (Some (new_segment slot seq first).segment) ∙ every

    abbrev begun : List Placed
    begun = closed ++ next_segment placed slot first ∷ []

    pub begun_moments : ChangesOnly m (HoldsAny segment count (placed ∷ closed ∷ [])) old mid
        → ((slots : List (Option Segment)) → Settled m (HoldsSlots segment slots) mid → slice_get slots slot ≡ Some None → ChangesOnly m (HoldsEither segment slots (slots_begun slots slot seq first)) mid new)
        → ChangesOnly m (HoldsAny segment count (placed ∷ closed ∷ (closed ++ next_segment placed slot first ∷ []) ∷ [])) old new
    begun_moments before moments =
        changes_join m (HoldsAny segment count (placed ∷ closed ∷ begun ∷ [])) old mid new (begun_before m segment count placed closed begun old mid before)
        (subst (λ (n : ℕ). ChangesOnly m (HoldsAny segment count (placed ∷ closed ∷ (closed ++ new_segment slot n first ∷ []) ∷ [])) mid new) seq_is
        (changes_weaken m _ (HoldsAny segment count (placed ∷ closed ∷ (closed ++ new_segment slot seq first ∷ []) ∷ [])) mid new (moments slots (settled_slots m segment count closed mid s told) free)
        (λ b h. any_right (λ (ps : List Placed). HoldsPlaced segment count ps b) (placed ∷ []) (closed ∷ (closed ++ new_segment slot seq first ∷ []) ∷ [])
        (holds_either segment count slots (slots_begun slots slot seq first) closed (closed ++ new_segment slot seq first ∷ []) b (s.reads told).sequence sequence every every_begun h))))

    pub begun_stands : (u : DirectoryState) → u ≡ record t { newest = Some (record { slot = slot; seq = seq; first = first; end = 64 }) }
        → ((slots : List (Option Segment)) → Settled m (HoldsSlots segment slots) mid → slice_get slots slot ≡ Some None → Settled m (HoldsSlots segment (slots_begun slots slot seq first)) new)
        → Settled m (HoldsPlaced segment count (closed ++ next_segment placed slot first ∷ [])) new × Tells count (closed ++ next_segment placed slot first ∷ []) u
    begun_stands u directory settled =
        subst (λ (n : ℕ). Settled m (HoldsPlaced segment count (closed ++ new_segment slot n first ∷ [])) new × Tells count (closed ++ new_segment slot n first ∷ []) u) seq_is (
          settled_placed m segment count (slots_begun slots slot seq first) (closed ++ new_segment slot seq first ∷ []) new sequence every_begun (settled slots (settled_slots m segment count closed mid s told) free),
          tells_begun count closed slot seq first t u tell apart directory,
        )

  -- What a batch finds that may come.
  pub finds : (m segment count seconds : ℕ) (placed : List Placed) (first : ℕ) (records : List Record) (d : Disk tells tells_images) (told : tells) (s : Settled m (HoldsPlaced segment count placed) d) → AreInOrder placed
      → MayCome segment placed first records → 1 ≤ seconds → 4 ≤ count → Finds segment count seconds (s.reads told).slots placed first records
  finds m segment count seconds placed first records d told s order may some four =
      let h = s.reads told in
      record {
        sequence = h.sequence;
        every = h.all_slots;
        order = order;
        batches = legal_batches segment count placed _ h;
        goes_on = may.goes_on;
        legal = may.legal;
        fits = may.fits;
        some = omega (arith, some);
        two = omega (arith, four);
      }

  -- With the batch it is in order, and before, where it isn't the only one.
  pub begun_in_order : (m segment count seconds : ℕ) (pins : List Pin) (placed : List Placed) (first : ℕ) (records : List Record) (slot : ℕ) (closed : List Placed) (d : Disk tells tells_images) → tells
      → Settled m (HoldsPlaced segment count placed) d → AreInOrder placed → MayCome segment placed first records → HasNoRoom segment placed records → LeavesFree count seconds pins placed slot closed → 1 ≤ seconds → 4 ≤ count
      → AreInOrder (closed ++ with_batch_in (next_segment placed slot first) records ∷ []) × (1 < length (closed ++ next_segment placed slot first ∷ []) → AreInOrder (closed ++ next_segment placed slot first ∷ []))
  begun_in_order m segment count seconds pins placed first records slot closed d told s order may no_room leaves some four =
      let h = s.reads told in
      let stages : Stages = stages_begun closed (next_segment placed slot first) records in
      let b : BeginsAnew segment count seconds pins placed first records stages = begins segment count seconds pins placed first records slot closed leaves no_room in
      let k = begins_anew segment count seconds pins h.slots placed first records stages (finds m segment count seconds placed first records d told s order may some four) b in
      (k.done_order, λ two. k.begun_order (λ none. alone closed (left_among count seconds pins placed slot closed leaves) none two))
    where
      alone : (closed : List Placed) → ((p : Placed) → Contains closed p → Contains placed p) → placed ≡ [] → 1 < length (closed ++ next_segment placed slot first ∷ []) → first ≡ 0
      alone [] among none two = absurd (omega (arith, two))
      alone (p ∷ ps) among none two = absurd (none_contained p (subst (λ (xs : List Placed). Contains xs p) none (among p (contains_here p ps))))

module _ {tells tells_images : Type 0} where
  -- What a free slot tells, of the ring before.
  pub free_at : (r q : RingState) (slot : ℕ) (closed : List Placed) (d : Disk tells tells_images) → IsSameRing r q → IsFree q slot closed d
      → Settled r.medium (HoldsPlaced r.segment r.slots closed) d × Tells r.slots closed q.directory × (slot < r.slots) × All (λ p. p.slot ≢ slot) closed
  free_at r q slot closed d same free = (
    settled_at r.medium q.medium r.segment q.segment r.slots q.slots closed d same.medium same.segment same.slots free.stands.settled,
    subst (λ (n : ℕ). Tells n closed q.directory) same.slots free.stands.directory,
    subst (λ (n : ℕ). slot < n) same.slots free.within,
    free.free,
  )

  pub ready_at : (r q : RingState) (closed : List Placed) (new : Placed) (records : List Record) (d : Disk tells tells_images) → IsSameRing r q
      → Settled r.medium (HoldsPlaced r.segment r.slots (closed ++ new ∷ [])) d × Tells r.slots (closed ++ new ∷ []) q.directory → AreInOrder (closed ++ with_batch_in new records ∷ []) × (1 < length (closed ++ new ∷ []) → AreInOrder (closed ++ new ∷ []))
      → IsReady q records (stages_begun closed new records) d
  ready_at r q closed new records d same stands order = record {
    older = closed;
    newest = new;
    begun = refl;
    done = refl;
    stands = record {
      settled = settled_at q.medium r.medium q.segment r.segment q.slots r.slots (closed ++ new ∷ []) d (sym same.medium) (sym same.segment) (sym same.slots) stands.0;
      directory = subst (λ (n : ℕ). Tells n (closed ++ new ∷ []) q.directory) (sym same.slots) stands.1;
    };
    order = order.0;
    begun_order = order.1;
  }
