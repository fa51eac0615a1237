-- An append that a configuration allows keeps the window and the pinned records at every moment.
use Rattle.std.proofs.Common.{◌≡◌, inl, inr, ⊎_elim, ℕ, ◌+◌, ◌≤◌, List, [], ◌∷◌, ◌++◌, Result, Ok, Err, OnOk, refl, sym, ◌∙◌, subst, arith}
use Rattle.std.specs.Prelude.{⊤}
use Rattle.vdr_terms.specs.Records.{Record}
use Rattle.vdr_terms.specs.Needs.{Sizes, cost, usable}
use Rattle.vdr_outside.specs.Disk.{Disk}
use Rattle.vdr_terms.specs.Sizes.{batch_size}
use Rattle.vdr_terms.proofs.Somewhere.{any_cases, any_none}
use Rattle.vdr_segment.specs.Batches.{IsBatch}
use Rattle.vdr_durability.specs.Retention.{Pin, Retains}
use Rattle.vdr_directory.specs.Sequence.{Placed, all_records, batches_in}
use Rattle.vdr_directory.specs.Order.{AreInOrder}
use Rattle.vdr_directory.specs.Holds.{HoldsPlaced, HoldsAny}
use Rattle.vdr_ring.specs.Rings.{RingState, Reads}
use Rattle.vdr_directory.specs.Growing.{Continues}
use Rattle.vdr_ring.specs.Stages.{AreStages, Stages}
use Rattle.vdr_ring.specs.Regularity.{AreRegular, IsAllowed, MissOneAtMost}
use Rattle.vdr_ring.specs.Keeping.{IsKept, HasKept}
use Rattle.vdr_ring.proofs.Staging.{stages_in_order}
use Rattle.vdr_ring.proofs.Beginning.{legal_batches}

-- What each stage keeps of the batches and of the records.
pub record Keeps (seconds : ℕ) (pins : List Pin) (placed : List Placed) (all records : List Record) (stages : Stages) : Type 0 where
  pub batches : MissOneAtMost stages.closed placed × (batches_in stages.begun ≡ batches_in stages.closed) × (batches_in stages.done ≡ batches_in stages.closed ++ records ∷ []) × (batches_in stages.left ≡ batches_in stages.done)
  pub before : Retains seconds pins all (all_records placed)
  pub closed : Retains seconds pins all (all_records stages.closed)
  pub begun : Retains seconds pins all (all_records stages.begun)
  pub done : Retains seconds pins (all ++ records) (all_records stages.done)
  pub left : Retains seconds pins (all ++ records) (all_records stages.left)

module _ (size count seconds : ℕ) (pins : List Pin) (placed : List Placed) (all records : List Record) (stages : Stages) (keeps : Keeps seconds pins placed all records stages)
    (order : AreInOrder placed) (orders : AreInOrder stages.closed × AreInOrder stages.begun × AreInOrder stages.done × AreInOrder stages.left) (bytes : List ℕ) where
  pub kept_at_each : HoldsAny size count (placed ∷ stages.closed ∷ stages.begun ∷ stages.done ∷ stages.left ∷ []) bytes → IsKept size count seconds pins placed all records bytes
  kept_at_each h =
      ⊎_elim
      (λ (k : Holds placed). record { now = placed; holds = k; order = order; whole = record { kept = placed; missing = inl refl; batches = inl refl }; retains = inl keeps.before })
      (λ h. ⊎_elim
      (λ (k : Holds stages.closed). record { now = stages.closed; holds = k; order = orders.0; whole = record { kept = stages.closed; missing = keeps.batches.0; batches = inl refl }; retains = inl keeps.closed })
      (λ h. ⊎_elim
      (λ (k : Holds stages.begun). record { now = stages.begun; holds = k; order = orders.1; whole = record { kept = stages.closed; missing = keeps.batches.0; batches = inl keeps.batches.1 }; retains = inl keeps.begun })
      (λ h. ⊎_elim
      (λ (k : Holds stages.done). record { now = stages.done; holds = k; order = orders.2; whole = record { kept = stages.closed; missing = keeps.batches.0; batches = inr keeps.batches.2 }; retains = inr keeps.done })
      (λ h. ⊎_elim
      (λ (k : Holds stages.left). record { now = stages.left; holds = k; order = orders.3; whole = record { kept = stages.closed; missing = keeps.batches.0; batches = inr (keeps.batches.3 ∙ keeps.batches.2) }; retains = inr keeps.left })
      (λ h. absurd (any_none Holds h))
      (any_cases Holds stages.left [] h))
      (any_cases Holds stages.done (stages.left ∷ []) h))
      (any_cases Holds stages.begun (stages.done ∷ stages.left ∷ []) h))
      (any_cases Holds stages.closed (stages.begun ∷ stages.done ∷ stages.left ∷ []) h))
      (any_cases Holds placed (stages.closed ∷ stages.begun ∷ stages.done ∷ stages.left ∷ []) h)
    where
      Holds : List Placed → Type 0
      Holds ps = HoldsPlaced size count ps bytes

-- The stages of an append that a configuration allows are in order.
pub orders_of : (sizes : Sizes) (m size count seconds : ℕ) (pins : List Pin) (placed : List Placed) (first : ℕ) (records : List Record) (stages : Stages) (bytes : List ℕ)
    → HoldsPlaced size count placed bytes → AreInOrder placed → Continues placed first records → IsBatch records → 64 + batch_size records + 1 ≤ size
    → IsAllowed sizes m size count seconds pins placed records → AreStages size count seconds pins placed first records stages → (placed ≡ [] → first ≡ 0)
    → AreInOrder stages.closed × AreInOrder stages.begun × AreInOrder stages.done × AreInOrder stages.left
orders_of sizes m size count seconds pins placed first records stages bytes holds order goes_on legal fits allowed are start =
    let enough = allowed.slots in
    let some = allowed.some in
    let found = stages_in_order size count seconds pins holds.slots placed first records stages (record {
      sequence = holds.sequence;
      every = holds.all_slots;
      order = order;
      batches = legal_batches size count placed bytes holds;
      goes_on = goes_on;
      legal = legal;
      fits = fits;
      some = some;
      two = omega (arith, enough);
    }) are in
    (found.0, found.1 start, found.2, found.3)

module _ {tells tells_images : Type 0} where
  -- Once the batch is appended.
  pub has_kept : {E : Type 0} (sizes : Sizes) (pins : List Pin) (placed : List Placed) (all records : List Record) (stages : Stages) (old new : RingState) → new.seconds ≡ old.seconds
      → Keeps old.seconds pins placed all records stages → AreRegular (cost sizes) (usable sizes) sizes.batch stages.left → (disk : Disk tells tells_images) (result : Result ⊤ E)
      → OnOk result (Reads new stages.left disk) → OnOk result (HasKept sizes pins (all ++ records) new disk)
  has_kept sizes pins placed all records stages old new same keeps regular disk (Ok x) reads = record {
    placed = stages.left;
    reads = reads;
    retains = subst (λ (n : ℕ). Retains n pins (all ++ records) (all_records stages.left)) (sym same) keeps.left;
    regular = regular;
  }
  has_kept sizes pins placed all records stages old new same keeps regular disk (Err e) done = tt
