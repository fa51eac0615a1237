-- What an append says, of one medium.
use Rattle.std.proofs.Common.{◌≡◌, ◌≢◌, ◌⊎◌, inl, inr, ⊎_elim, ℕ, zero, suc, List, refl, sym, ◌∙◌, subst, arith, Bool, true, false, [], ◌∷◌, ◌++◌, Result, OnOk, ap}
use Rattle.vdr_outside.specs.Disk.{Disk, Image, SameBut, content, Durable}
use Rattle.vdr_outside.specs.Moments.{Changed, ChangesOnly, Settled}
use Rattle.vdr_outside.proofs.Moments.{settled_other, changes_weaken}
use Rattle.vdr_ring.specs.Taking.{AreStagesOn, Has, IsAppendedTo, IsGiven, Lacks, Waits}
use Rattle.std.specs.Prelude.{Any, ⊤}
use Rattle.std.proofs.lemmas.Result.{on_ok_weaker}
use Rattle.vdr_terms.specs.Needs.{Sizes}
use Rattle.vdr_terms.specs.Records.{Record}
use Rattle.vdr_durability.specs.Retention.{Pin, Retains}
use Rattle.vdr_outside.specs.Parts.{part}
use Rattle.vdr_outside.specs.declared.fault.Fault.{Fault}
use Rattle.vdr_segment.specs.Slots.{SameFront, place_of}
use Rattle.vdr_segment.proofs.Fronts.{front_same}
use Rattle.vdr_directory.specs.Sequence.{Placed, all_records}
use Rattle.vdr_directory.specs.Order.{AreInOrder}
use Rattle.vdr_directory.specs.Holds.{HoldsAny, HoldsPlaced}
use Rattle.vdr_ring.specs.Rings.{RingState}
use Rattle.vdr_ring.specs.Rings as rings
use Rattle.vdr_ring.specs.Regularity.{IsAllowed}
use Rattle.vdr_ring.specs.Keeping.{HasKept, IsKept}
use Rattle.vdr_directory.specs.Growing.{Continues}
use Rattle.vdr_ring.specs.Stages.{Stages}
use Rattle.vdr_ring.proofs.Lacking.{one_placed}

-- One of five stages.
any_of_five : {X : Type 0} (P : X → Type 0) (R : Type 0) (a b c d e : X) → (P a → R) → (P b → R) → (P c → R) → (P d → R) → (P e → R) → Any P (a ∷ b ∷ c ∷ d ∷ e ∷ []) → R
any_of_five P R a b c d e p q r s t (zero, y, lt, is, h) = p (subst P (sym is) h)
any_of_five P R a b c d e p q r s t (suc zero, y, lt, is, h) = q (subst P (sym is) h)
any_of_five P R a b c d e p q r s t (suc (suc zero), y, lt, is, h) = r (subst P (sym is) h)
any_of_five P R a b c d e p q r s t (suc (suc (suc zero)), y, lt, is, h) = s (subst P (sym is) h)
any_of_five P R a b c d e p q r s t (suc (suc (suc (suc zero))), y, lt, is, h) = t (subst P (sym is) h)
any_of_five P R a b c d e p q r s t (suc (suc (suc (suc (suc k)))), y, lt, is, h) = absurd (omega (arith, lt))

module _ (ordered : Bool) (ring : RingState) (pins : List Pin) (placed : List Placed) (first : ℕ) (records : List Record) (was : List ℕ) (stages : Stages) (are : AreStagesOn ring pins placed first records stages) where
  -- A medium at one of the stages.
  at_stage : (bytes : List ℕ) → HoldsAny ring.segment ring.slots (placed ∷ stages.closed ∷ stages.begun ∷ stages.done ∷ stages.left ∷ []) bytes → (ordered ≡ true → (ps : List Placed) → HoldsPlaced ring.segment ring.slots ps bytes → AreInOrder ps)
      → SameFront was bytes → Lacks ordered ring pins placed first records was bytes ⊎ Has ordered ring pins placed first records was bytes
  at_stage bytes any order front = any_of_five (λ ps. HoldsPlaced ring.segment ring.slots ps bytes) _ placed stages.closed stages.begun stages.done stages.left
      (λ h. inl (record { now = placed; holds = h; stage = inl refl; order = λ o. order o placed h; front = front }))
      (λ h. inl (record { now = stages.closed; holds = h; stage = inr (stages, are, inl refl); order = λ o. order o stages.closed h; front = front }))
      (λ h. inl (record { now = stages.begun; holds = h; stage = inr (stages, are, inr refl); order = λ o. order o stages.begun h; front = front }))
      (λ h. inr (record { stages = stages; are = are; now = stages.done; stage = inl refl; holds = h; order = λ o. order o stages.done h; front = front }))
      (λ h. inr (record { stages = stages; are = are; now = stages.left; stage = inr refl; holds = h; order = λ o. order o stages.left h; front = front }))
      any

module _ {tells tells_images : Type 0} where
  -- A medium that changes to what P says alone, and to what Q says alone, changes to what both say.
  pub changes_both : (m : ℕ) (P Q : List ℕ → Type 0) (old new : Disk tells tells_images) → ChangesOnly m P old new → ChangesOnly m Q old new → ChangesOnly m (λ bytes. P bytes × Q bytes) old new
  changes_both m P Q old new first second = record {
    later = first.later;
    each = λ i left. joined i (first.each i left) (second.each i left);
    before = λ t i le left. ⊎_elim (λ since. inl since) (λ p. ⊎_elim (λ since. inl since) (λ q. inr (joined i p q)) (second.before t i le left)) (first.before t i le left);
    past = first.past;
  }
    where
      joined : (i : Image) → Changed m P old.now i → Changed m Q old.now i → Changed m (λ bytes. P bytes × Q bytes) old.now i
      joined i p q = record { image = p.image; was = p.was; others = p.others; has = (p.has, q.has) }

  -- What `Ring::append` says.
  abbrev pub GoesByStages : (ring now : RingState) (pins : List Pin) (records : List Record) (old new : Disk tells tells_images) → Result ⊤ Fault → Type 0
  GoesByStages ring now pins records old new result = (placed : List Placed) (first : ℕ) → tells → rings.Reads ring placed old → Continues placed first records
      → (stages : Stages) × AreStagesOn ring pins placed first records stages
      × ChangesOnly ring.medium (HoldsAny ring.segment ring.slots (placed ∷ stages.closed ∷ stages.begun ∷ stages.done ∷ stages.left ∷ [])) old new
      × OnOk result (rings.Reads now stages.left new)

  abbrev pub Keeps : (ring now : RingState) (pins : List Pin) (records : List Record) (old new : Disk tells tells_images) → Result ⊤ Fault → Type 0
  Keeps ring now pins records old new result = (sizes : Sizes) (placed : List Placed) (first : ℕ) (all : List Record) → tells → rings.Reads ring placed old → Continues placed first records
      → (placed ≡ [] → first ≡ 0) → IsAllowed sizes ring.medium ring.segment ring.slots ring.seconds pins placed records → Retains ring.seconds pins all (all_records placed)
      → ChangesOnly ring.medium (IsKept ring.segment ring.slots ring.seconds pins placed all records) old new × OnOk result (HasKept sizes pins (all ++ records) now new)

  -- The stages of an append, and that they are in order where that is told.
  pub appended_to : (ordered : Bool) (sizes : Sizes) (m : ℕ) (ring now : RingState) (pins passed : List Pin) (placed : List Placed) (first : ℕ) (all records : List Record) (old new : Disk tells tells_images) (result : Result ⊤ Fault)
      → ring.medium ≡ m → passed ≡ pins → tells → Waits ordered sizes ring pins placed first all records old
      → GoesByStages ring now passed records old new result → Keeps ring now passed records old new result
      → (Durable ring.medium old → ChangesOnly ring.medium (SameFront (content old.reads ring.medium)) old new)
      → IsAppendedTo ordered m ring now pins placed first records old new result
  appended_to ordered sizes m ring now pins passed placed first all records old new result on same told waits appended kept front =
      subst (λ (x : ℕ × List Pin). IsAppendedTo ordered x.0 ring now x.1 placed first records old new result) (λ i. (on i, same i)) (go ordered waits_here)
    where
      waits_here : Waits ordered sizes ring passed placed first all records old
      waits_here = subst (λ (ps : List Pin). Waits ordered sizes ring ps placed first all records old) (sym same) waits

      go : (ordered : Bool) → Waits ordered sizes ring passed placed first all records old → IsAppendedTo ordered ring.medium ring now passed placed first records old new result
      go ordered waits =
          let made = appended placed first told waits.reads waits.goes_on in
          record {
            moments = told_of ordered waits made.0 made.1 (changes_both ring.medium _ _ old new made.2 (front waits.reads.settled.durable));
            done = on_ok_weaker result (λ reads. record { stages = made.0; are = made.1; reads = reads }) made.3;
          }
        where
          told_of : (ordered : Bool) → Waits ordered sizes ring passed placed first all records old → (stages : Stages) → AreStagesOn ring passed placed first records stages
              → ChangesOnly ring.medium (λ b. HoldsAny ring.segment ring.slots (placed ∷ stages.closed ∷ stages.begun ∷ stages.done ∷ stages.left ∷ []) b × SameFront (content old.reads ring.medium) b) old new
              → ChangesOnly ring.medium (λ b. Lacks ordered ring passed placed first records (content old.reads ring.medium) b ⊎ Has ordered ring passed placed first records (content old.reads ring.medium) b) old new
          told_of false waits stages are changes = changes_weaken ring.medium _ _ old new changes
              (λ b p. at_stage false ring passed placed first records (content old.reads ring.medium) stages are b p.0 (λ o. absurd (let none : ⊥ = cc in none)) p.1)
          told_of true waits stages are changes =
              let may = waits.may refl in
              changes_weaken ring.medium _ _ old new (changes_both ring.medium _ _ old new changes (kept sizes placed first all told waits.reads waits.goes_on may.begins may.allowed may.retains).0)
              (λ b p. at_stage true ring passed placed first records (content old.reads ring.medium) stages are b p.0.0
              (λ o ps h. subst AreInOrder (one_placed ring.segment ring.slots b p.1.now ps p.1.holds h) p.1.order) p.0.1)

  -- A medium that waits lacks it.
  pub waits_settled : (ordered : Bool) (sizes : Sizes) (m : ℕ) (ring : RingState) (pins : List Pin) (placed : List Placed) (first : ℕ) (all records : List Record) (old : Disk tells tells_images)
      → ring.medium ≡ m → Waits ordered sizes ring pins placed first all records old → Settled m (Lacks ordered ring pins placed first records (content old.reads m)) old
  waits_settled ordered sizes m ring pins placed first all records old on waits =
      subst (λ (k : ℕ). Settled k (Lacks ordered ring pins placed first records (content old.reads k)) old) on (record {
        durable = waits.reads.settled.durable;
        reads = λ told. record { now = placed; holds = waits.reads.settled.reads told; stage = inl refl; order = λ o. waits.reads.order; front = front_same _ };
      })

  -- One that was given it has it.
  pub given_settled : (ordered : Bool) (m : ℕ) (ring now : RingState) (pins : List Pin) (placed : List Placed) (first : ℕ) (records : List Record) (was : List ℕ) (new : Disk tells tells_images)
      → now.medium ≡ m → now.segment ≡ ring.segment → now.slots ≡ ring.slots → (tells → SameFront was (content new.reads m)) → IsGiven ring now pins placed first records new
      → Settled m (Has ordered ring pins placed first records was) new
  given_settled ordered m ring now pins placed first records was new on segment slots front given = record {
    durable = subst (λ (k : ℕ). Durable k new) on given.reads.settled.durable;
    reads = λ told. record {
      stages = given.stages;
      are = given.are;
      now = given.stages.left;
      stage = inr refl;
      holds = subst (λ (x : ℕ × ℕ × ℕ). HoldsPlaced x.0 x.1 given.stages.left (content new.reads x.2)) (λ i. (segment i, slots i, on i)) (given.reads.settled.reads told);
      order = λ o. given.reads.order;
      front = front told;
    };
  }

  -- A ring reads its medium as before while another one changes.
  pub reads_beside : (ring : RingState) (placed : List Placed) (m : ℕ) (P : List ℕ → Type 0) (old new : Disk tells tells_images) → ring.medium ≢ m → ChangesOnly m P old new → (tells → SameBut m old.reads new.reads)
      → rings.Reads ring placed old → rings.Reads ring placed new
  reads_beside ring placed m P old new other changes same h = record {
    settled = settled_other m ring.medium P (HoldsPlaced ring.segment ring.slots placed) old new other changes same h.settled;
    order = h.order;
    directory = h.directory;
    loaded = λ j is told. h.loaded j is told ∙ ap (λ (b : List ℕ). part b (place_of ring.segment j) ring.segment) (sym (same told ring.medium other));
    bare = h.bare;
  }
