-- `format`, from the moment on at which the gate of medium 0 is closed.
use Rattle.std.proofs.Common.{◌≢◌, ◌⊎◌, ◌<◌, ◌≤◌, ◌+◌, inl, inr, ⊎_elim, ℕ, zero, suc, List, refl, sym, ◌∙◌, subst, arith}
use Rattle.std.proofs.lemmas.Bool.{cases_lt}
use Rattle.std.specs.Prelude.{All, Result, IsErr}
use Rattle.vdr_outside.specs.Disk.{Disk, Image, SameBut, Unchanged, content}
use Rattle.vdr_outside.specs.Moments.{AtEachMoment, Changed, ChangesOnly, Settled}
use Rattle.vdr_outside.proofs.Images.{others_written}
use Rattle.vdr_outside.proofs.Moments.{now_after, moments_weaken, moments_join, moments_after_reads, unchanged_now, settled_image, settled_meanwhile, settled_other}
use Rattle.vdr_config.specs.Configuration.{Configuration}
use Rattle.vdr_media.specs.Medium.{IsEmptyMedium}
use Rattle.vdr_media.specs.Formatted.{IsUnformatted, IsEmptyHistoryOf, SameBeside, members_with}
use Rattle.vdr_media.specs.Formatting.{ClosedAlone, GoesOnSynced, FormatsAtEachMoment}
use Rattle.vdr_media.specs.Writing.{ClosedOrEmpty, HasClosedGate, SameBesides}
use Rattle.vdr_media.proofs.Members.{of_all, of_each}
use Rattle.vdr_media.proofs.Unformatted.{closed_after_reads, unchanged_moments}

module _ {tells tells_images : Type 0} (n : ℕ) (c : Configuration) (text : List ℕ) (synced mid : Disk tells tells_images) (closed : Settled 0 HasClosedGate synced) (first : AtEachMoment synced mid (SameBesides 1 (2 + n) synced.now)) where
  -- while the media behind the first are laid out, its gate is closed
  pub first_moments : AtEachMoment synced mid (λ i. IsUnformatted i ⊎ IsEmptyHistoryOf (members_with n) text i)
  first_moments = moments_weaken synced mid _ _ first (λ i b. inl (inr (subst HasClosedGate (sym (b.others 0 (inl (omega arith)))) (settled_image 0 HasClosedGate synced closed b.image b.was))))

  module _ (empty : (k : ℕ) → 1 ≤ k → k < 2 + n → Settled k (IsEmptyMedium k c text) mid) (new : Disk tells tells_images) where
    closed_or_empty : (i : Image) → Changed 0 (ClosedOrEmpty 0 c text) mid.now i → IsUnformatted i ⊎ IsEmptyHistoryOf (members_with n) text i
    closed_or_empty i changed = ⊎_elim (λ shut. inl (inr shut)) (λ made. inr (c, record { each = of_all (λ m. IsEmptyMedium m c text (content i m)) n (each made) })) changed.has
      where
        each : IsEmptyMedium 0 c text (content i 0) → (k : ℕ) → k < 2 + n → IsEmptyMedium k c text (content i k)
        each made zero lt = made
        each made (suc k) lt = settled_meanwhile 0 (suc k) _ _ mid (λ is. omega (arith, is)) (empty (suc k) (omega arith) lt) i changed

    -- and then it is made
    pub all_moments : ChangesOnly 0 (ClosedOrEmpty 0 c text) mid new → AtEachMoment synced new (λ i. IsUnformatted i ⊎ IsEmptyHistoryOf (members_with n) text i)
    all_moments last = moments_join synced mid new _ first_moments (moments_weaken mid new _ _ last closed_or_empty)

    pub all_made : (P : List ℕ → Type 0) → ChangesOnly 0 P mid new → (tells → SameBut 0 mid.reads new.reads) → Settled 0 (IsEmptyMedium 0 c text) new → All (λ m. Settled m (IsEmptyMedium m c text) new) (members_with n)
    all_made P changes same here = of_all (λ m. Settled m (IsEmptyMedium m c text) new) n each
      where
        each : (k : ℕ) → k < 2 + n → Settled k (IsEmptyMedium k c text) new
        each zero lt = here
        each (suc k) lt = settled_other 0 (suc k) P _ mid new (λ is. omega (arith, is)) changes same (empty (suc k) (omega arith) lt)

module _ {tells tells_images : Type 0} (old synced new : Disk tells tells_images) (IsNew : Image → Type 0) where
  pub goes_on : AtEachMoment old synced (λ i. old.now i ⊎ ClosedAlone old.now i) → AtEachMoment synced new (λ i. IsUnformatted i ⊎ IsNew i) → GoesOnSynced old new IsNew
  goes_on before after = record {
    synced = synced.clock;
    after_entry = before.later;
    before_exit = after.later;
    moments = moments_join old synced new _
        (moments_weaken old synced _ _ before (λ i p. ⊎_elim (λ now. inl now) (λ closed. inr (inl closed.unformatted)) p))
        (moments_weaken synced new _ _ after (λ i p. inr p));
    since = after.each;
  }

module _ {tells tells_images T E T' E' : Type 0} (old mid new : Disk tells tells_images) (same : Unchanged old mid) (r : Result T E) (r' : Result T' E') (IsNew : Image → Type 0) where
  -- what holds since a reading holds since before it
  synced_after_reads : GoesOnSynced mid new IsNew → GoesOnSynced old new IsNew
  synced_after_reads on = record {
    synced = on.synced;
    after_entry = omega (arith, same.clock, on.after_entry);
    before_exit = on.before_exit;
    moments =
        moments_weaken old new _ _ (moments_after_reads old mid new _ same on.moments)
        (λ i p. ⊎_elim (λ now. inl (unchanged_now old mid same i now)) (λ later. inr later) p);
    since = on.since;
  }

  pub formats_after_reads : (IsErr r → IsErr r') → FormatsAtEachMoment mid new r IsNew → FormatsAtEachMoment old new r' IsNew
  formats_after_reads failed formats = ⊎_elim
      (λ ends. inl (record { failed = failed ends.failed; moments = closed_after_reads old mid new same ends.moments }))
      (λ on. inr (synced_after_reads on))
      formats

-- a refusal that changed nothing
pub formats_unchanged : {tells tells_images T E : Type 0} (old new : Disk tells tells_images) (r : Result T E) (IsNew : Image → Type 0) → Unchanged old new → IsErr r → FormatsAtEachMoment old new r IsNew
formats_unchanged old new r IsNew same failed = inl (record { failed = failed; moments = moments_weaken old new _ _ (unchanged_moments old new same) (λ i now. inl now) })

-- Media that are not formatted.

beside_none : (members : List ℕ) (from : Image → Type 0) (i : Image) → from i → SameBeside members from i
beside_none members from i was = record { image = i; was = was; same = λ k others. refl }

beside_again : (members : List ℕ) (from mid : Image → Type 0) → ((j : Image) → mid j → SameBeside members from j) → (i : Image) → SameBeside members mid i → SameBeside members from i
beside_again members from mid back i s =
    let b : SameBeside members from s.image = back s.image s.was in
    record { image = b.image; was = b.was; same = λ k others. s.same k others ∙ b.same k others }

module _ {tells tells_images : Type 0} (members : List ℕ) where
  pub beside_unchanged : (old new : Disk tells tells_images) → AtEachMoment old new old.now → AtEachMoment old new (SameBeside members old.now)
  beside_unchanged old new moments = moments_weaken old new _ _ moments (beside_none members old.now)

  pub beside_join : (old mid new : Disk tells tells_images) → AtEachMoment old mid (SameBeside members old.now) → AtEachMoment mid new (SameBeside members mid.now) → AtEachMoment old new (SameBeside members old.now)
  beside_join old mid new first second =
      moments_join old mid new _ first (moments_weaken mid new _ _ second (beside_again members old.now mid.now (now_after old mid _ first)))

  pub beside_closed : (old new : Disk tells tells_images) → ((k : ℕ) → All (λ m. k ≢ m) members → k ≢ 0) → AtEachMoment old new (λ i. old.now i ⊎ ClosedAlone old.now i) → AtEachMoment old new (SameBeside members old.now)
  beside_closed old new apart moments = moments_weaken old new _ _ moments (λ i p. ⊎_elim (beside_none members old.now i) (written_beside i) p)
    where
      written_beside : (i : Image) → ClosedAlone old.now i → SameBeside members old.now i
      written_beside i c =
          let o = c.overwritten in
          record { image = o.image; was = o.was; same = λ k others. others_written o.image i 0 0 o.bytes o.is k (apart k others) }

  pub beside_changed : (m : ℕ) (P : List ℕ → Type 0) (old new : Disk tells tells_images) → ((k : ℕ) → All (λ m. k ≢ m) members → k ≢ m) → ChangesOnly m P old new → AtEachMoment old new (SameBeside members old.now)
  beside_changed m P old new apart moments =
      moments_weaken old new _ _ moments (λ i c. record { image = c.image; was = c.was; same = λ k others. c.others k (apart k others) })

-- What is none of the media that there are is before the first or behind the last of the others.
pub beyond : (n k : ℕ) → All (λ m. k ≢ m) (members_with n) → (k < 1) ⊎ (2 + n ≤ k)
beyond n k others = elim (cases_lt k (2 + n)) [
  | inl lt ↦ absurd (of_each (λ m. k ≢ m) n others k lt refl)
  | inr above ↦ inr above
]

pub beside_others : {tells tells_images : Type 0} (n : ℕ) (old new : Disk tells tells_images) → AtEachMoment old new (SameBesides 1 (2 + n) old.now) → AtEachMoment old new (SameBeside (members_with n) old.now)
beside_others n old new moments = moments_weaken old new _ _ moments (λ i b. record { image = b.image; was = b.was; same = λ k others. b.others k (beyond n k others) })
