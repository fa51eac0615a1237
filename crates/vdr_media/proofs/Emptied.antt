-- One medium after the other is made empty, while those before the first of them and behind the last stay as they are.
use Rattle.std.proofs.Common.{◌≡◌, ◌≢◌, ◌⊎◌, ◌<◌, ◌≤◌, ◌+◌, inl, inr, ℕ, List, refl, sym, ◌∙◌, subst, arith}
use Rattle.std.proofs.lemmas.Bool.{cases_eq}
use Rattle.vdr_outside.specs.Disk.{Disk, SameBut, content}
use Rattle.vdr_outside.specs.Moments.{AtEachMoment, ChangesOnly, Settled}
use Rattle.vdr_outside.proofs.Moments.{moments_join, moments_none, moments_weaken, now_after, settled_other}
use Rattle.vdr_media.specs.Writing.{SameBesides}

pub apart : (first count m k : ℕ) → first ≤ m → m < count → (k < first) ⊎ (count ≤ k) → k ≢ m
apart first count m k low high out e = grind (arith, low, high, out, e)

module _ {tells tells_images : Type 0} (first count : ℕ) where
  pub besides_none : (disk : Disk tells tells_images) → AtEachMoment disk disk (SameBesides first count disk.now)
  besides_none disk = moments_none disk _ (λ i now. record { image = i; was = now; others = λ k out. refl })

  -- One more
  module _ (m : ℕ) (low : first ≤ m) (high : m < count) (P : List ℕ → Type 0) (old mid new : Disk tells tells_images) (so_far : AtEachMoment old mid (SameBesides first count old.now)) (changes : ChangesOnly m P mid new) where
    pub besides_on : AtEachMoment old new (SameBesides first count old.now)
    besides_on = moments_join old mid new _ so_far (moments_weaken mid new _ _ changes (λ i c.
        let b : SameBesides first count old.now c.image = now_after old mid _ so_far c.image c.was in
        record { image = b.image; was = b.was; others = λ k out. c.others k (apart first count m k low high out) ∙ b.others k out }))

    pub others_on : tells → (tells → (k : ℕ) → (k < first) ⊎ (count ≤ k) → content mid.reads k ≡ content old.reads k) → (tells → SameBut m mid.reads new.reads)
        → (k : ℕ) → (k < first) ⊎ (count ≤ k) → content new.reads k ≡ content old.reads k
    others_on told before same k out = same told k (apart first count m k low high out) ∙ before told k out

    -- Those from a number on are made, and so is this one.
    pub made_on : (Q : ℕ → List ℕ → Type 0) (done : ℕ) → done ≡ m + 1 → ((k : ℕ) → done ≤ k → k < count → Settled k (Q k) mid) → (tells → SameBut m mid.reads new.reads) → Settled m (Q m) new
        → (k : ℕ) → m ≤ k → k < count → Settled k (Q k) new
    made_on Q done next made same here k at lt = elim (cases_eq k m) [
      | inl is ↦ subst (λ (j : ℕ). Settled j (Q j) new) (sym is) here
      | inr other ↦
          let differs : k ≢ m = λ is. let none : ⊥ = grind (arith, is, other) in none in
          settled_other m k P (Q k) mid new differs changes same (made k (grind (arith, at, other, next)) lt)
    ]

  -- One that they are not stays settled.
  pub settled_besides : (k : ℕ) (Q : List ℕ → Type 0) (old new : Disk tells tells_images) → (k < first) ⊎ (count ≤ k) → AtEachMoment old new (SameBesides first count old.now)
      → (tells → (k : ℕ) → (k < first) ⊎ (count ≤ k) → content new.reads k ≡ content old.reads k) → Settled k Q old → Settled k Q new
  settled_besides k Q old new out moments same settled = record {
    durable = record {
      each = λ i now.
          let b : SameBesides first count old.now i = now_after old new _ moments i now in
          b.others k out ∙ settled.durable.each b.image b.was ∙ sym (same (new.shown (new.told i now)).0 k out);
    };
    reads = λ told. subst Q (sym (same told k out)) (settled.reads told);
  }
