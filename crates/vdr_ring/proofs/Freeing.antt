-- A medium at every moment until a slot is free.
use Rattle.std.proofs.Common.{◌≡◌, ◌≢◌, ◌<◌, ◌≤◌, ℕ, List, [], ◌∷◌, ◌++◌, length, set, slice_get, All, Option, Some, None, inl, inr, ⊎_elim, refl, sym, ap, ◌∙◌, subst, arith, length-set}
use Rattle.std.proofs.lemmas.Option.{none-some, same_Some}
use Rattle.std.proofs.lemmas.List.Elements.{All-append, All-contains, Contains-append_right}
use Rattle.vdr_outside.specs.Disk.{Disk}
use Rattle.vdr_outside.specs.Moments.{ChangesOnly, Settled}
use Rattle.vdr_outside.proofs.Moments.{changes_none, changes_weaken, settled_image}
use Rattle.vdr_segment.specs.Segments.{Segment}
use Rattle.vdr_segment.specs.Slots.{HoldsSlots, HoldsEither, slots_closed}
use Rattle.vdr_durability.specs.Retention.{Pin}
use Rattle.vdr_durability.proofs.Lists.{contains_here}
use Rattle.vdr_terms.proofs.Somewhere.{any_here, any_there}
use Rattle.vdr_directory.specs.Sequence.{Placed, AreInSequence}
use Rattle.vdr_directory.specs.Order.{AreInOrder}
use Rattle.vdr_directory.specs.Directories.{DirectoryState}
use Rattle.vdr_directory.specs.Holds.{HoldsPlaced, HoldsAny, Tells}
use Rattle.vdr_ring.specs.Rings.{RingState, Reads}
use Rattle.vdr_directory.specs.Closed.{IsFull, IsLeastClosed}
use Rattle.vdr_ring.specs.Stages.{IsVictim}
use Rattle.vdr_ring.specs.Appends.{LeavesFree, IsFree}
use Rattle.vdr_directory.proofs.Placing.{close_in_sequence, distinct_slots}
use Rattle.vdr_directory.proofs.Ordering.{NewestHasRecords}
use Rattle.vdr_ring.proofs.Staging.{victim_not_newest, victim_split}
use Rattle.vdr_directory.proofs.Telling.{tells_closed}

pub holds_either : (segment count : ℕ) (slots slots' : List (Option Segment)) (placed placed' : List Placed) (b : List ℕ) → AreInSequence slots placed → AreInSequence slots' placed' → length slots ≡ count → length slots' ≡ count
    → HoldsEither segment slots slots' b → HoldsAny segment count (placed ∷ placed' ∷ []) b
holds_either segment count slots slots' placed placed' b is is' every every' h =
    ⊎_elim
    (λ (k : HoldsSlots segment slots b). any_here (λ (ps : List Placed). HoldsPlaced segment count ps b) placed (placed' ∷ []) (record { slots = slots; all_slots = every; holds = k; sequence = is }))
    (λ (k : HoldsSlots segment slots' b). any_there (λ (ps : List Placed). HoldsPlaced segment count ps b) placed (placed' ∷ [])
    (any_here (λ (ps : List Placed). HoldsPlaced segment count ps b) placed' [] (record { slots = slots'; all_slots = every'; holds = k; sequence = is' })))
    h

-- The victim in its slot.
abbrev pub VictimAt : (seconds : ℕ) (pins : List Pin) (placed : List Placed) (n : ℕ) → Type 0
VictimAt seconds pins placed n = (before : List Placed) × (victim : Placed) × (after : List Placed) × IsVictim seconds pins placed before victim after × (n ≡ victim.slot)

pub frees : (count seconds : ℕ) (pins : List Pin) (placed : List Placed) (n : ℕ) (v : VictimAt seconds pins placed n) → IsFull count placed → LeavesFree count seconds pins placed n (v.0 ++ v.2)
frees count seconds pins placed n v full = inr (full, v.0, v.1, v.2, v.3, v.4, refl)

-- The ring keeps its number of slots.
pub closed_count : (t u : DirectoryState) (n : ℕ) → u ≡ record t { index = set t.index n None } → length u.index ≡ length t.index
closed_count t u n is = ap (λ (x : DirectoryState). length x.index) is ∙ length-set t.index n None

module _ {tells tells_images : Type 0} where
  pub settled_slots : (m segment count : ℕ) (placed : List Placed) (d : Disk tells tells_images) (s : Settled m (HoldsPlaced segment count placed) d) (told : tells) → Settled m (HoldsSlots segment (s.reads told).slots) d
  settled_slots m segment count placed d s told = record { durable = s.durable; reads = λ again. (s.reads told).holds }

  pub settled_placed : (m segment count : ℕ) (slots : List (Option Segment)) (placed : List Placed) (d : Disk tells tells_images) → AreInSequence slots placed → length slots ≡ count → Settled m (HoldsSlots segment slots) d
      → Settled m (HoldsPlaced segment count placed) d
  settled_placed m segment count slots placed d is every s = record { durable = s.durable; reads = λ told. record { slots = slots; all_slots = every; holds = s.reads told; sequence = is } }

  -- A slot is closed already.
  pub freed_already : (r : RingState) (pins : List Pin) (placed : List Placed) (slot : ℕ) (d : Disk tells tells_images) → Reads r placed d → IsLeastClosed r.slots placed slot
      → (n : ℕ) × (closed : List Placed) × LeavesFree r.slots r.seconds pins placed n closed × ChangesOnly r.medium (HoldsAny r.segment r.slots (placed ∷ closed ∷ [])) d d × ((slot ≡ n) × IsFree r n closed d)
  freed_already r pins placed slot d reads least = (
    slot,
    placed,
    inl (least, refl),
    changes_none r.medium (HoldsAny r.segment r.slots (placed ∷ placed ∷ [])) d
        (λ i now. any_here (λ (ps : List Placed). HoldsPlaced r.segment r.slots ps _) placed (placed ∷ []) (settled_image r.medium (HoldsPlaced r.segment r.slots placed) d reads.settled i now)),
    (refl, record { stands = record { settled = reads.settled; directory = reads.directory }; within = least.within; free = least.closed }),
  )

  -- The victim's slot is closed.
  module _ (m segment count seconds : ℕ) (pins : List Pin) (placed : List Placed) (t : DirectoryState) (n : ℕ) (v : VictimAt seconds pins placed n) (old new : Disk tells tells_images) (told : tells)
      (s : Settled m (HoldsPlaced segment count placed) old) (tell : Tells count placed t) where
    abbrev pub left : List Placed
    left = v.0 ++ v.2

    split : placed ≡ v.0 ++ v.1 ∷ v.2
    split = victim_split seconds pins placed v.0 v.1 v.2 v.3

    abbrev slots : List (Option Segment)
    slots = (s.reads told).slots

    every : length slots ≡ count
    every = (s.reads told).all_slots

    sequence : AreInSequence slots (v.0 ++ v.1 ∷ v.2)
    sequence = subst (λ (ps : List Placed). AreInSequence slots ps) split (s.reads told).sequence

    there : slice_get slots n ≡ Some (Some v.1.segment)
    there = ap (λ (j : ℕ). slice_get slots j) v.4
        ∙ All-contains (λ p. slice_get slots p.slot ≡ Some (Some p.segment)) (v.0 ++ v.1 ∷ v.2) v.1 sequence.there (Contains-append_right v.0 (v.1 ∷ v.2) v.1 (contains_here v.1 v.2))

    closed : AreInSequence (set slots n None) left
    closed = subst (λ (j : ℕ). AreInSequence (set slots j None) left) (sym v.4) (close_in_sequence slots v.0 v.1 v.2 sequence).0

    every_closed : length (set slots n None) ≡ count
    every_closed = length-set slots n None ∙ every

    pub freed_moments : ((slots : List (Option Segment)) → Settled m (HoldsSlots segment slots) old → slice_get slots n ≢ Some None → ChangesOnly m (HoldsEither segment slots (slots_closed slots n)) old new)
        → ChangesOnly m (HoldsAny segment count (placed ∷ left ∷ [])) old new
    freed_moments moments =
        changes_weaken m _ (HoldsAny segment count (placed ∷ left ∷ [])) old new
        (moments slots (settled_slots m segment count placed old s told) (λ bad. none-some v.1.segment (same_Some None (Some v.1.segment) (sym bad ∙ there))))
        (λ b. holds_either segment count slots (set slots n None) placed left b (s.reads told).sequence closed every every_closed)

    pub freed_stands : (r : RingState) → r.medium ≡ m → r.segment ≡ segment → r.slots ≡ count → r.directory ≡ record t { index = set t.index n None } → n < count → 0 < seconds → 2 ≤ count → AreInOrder placed → NewestHasRecords placed → IsFull count placed
        → ((slots : List (Option Segment)) → Settled m (HoldsSlots segment slots) old → Settled m (HoldsSlots segment (slots_closed slots n)) new)
        → IsFree r n left new
    freed_stands r medium size slots_are is within some two order newest full settled =
        let behind = victim_not_newest count seconds pins placed v.0 v.1 v.2 some two order newest full v.3 in
        let apart = distinct_slots slots v.0 v.1 v.2 sequence in
        let tells_left : Tells count left r.directory = tells_closed count slots v.0 v.1 v.2 t r.directory (subst (λ (ps : List Placed). Tells count ps t) split tell) sequence behind (subst NewestHasRecords split newest)
        (is ∙ ap (λ (j : ℕ). record t { index = set t.index j None }) v.4) in
        record {
          stands = record {
            settled = subst (λ (k : ℕ × ℕ × ℕ). Settled k.0 (HoldsPlaced k.1 k.2 left) new) (λ i. (sym medium i, sym size i, sym slots_are i))
                (settled_placed m segment count (set slots n None) left new closed every_closed (settled slots (settled_slots m segment count placed old s told)));
            directory = subst (λ (k : ℕ). Tells k left r.directory) (sym slots_are) tells_left;
          };
          within = omega (arith, within, slots_are);
          free = subst (λ (j : ℕ). All (λ p. p.slot ≢ j) left) (sym v.4) (All-append (λ p. p.slot ≢ v.1.slot) v.0 v.2 apart.0 apart.1);
        }
