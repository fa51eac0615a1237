-- The gate of a medium that is laid out is opened.
use Rattle.std.proofs.Common.{◌≡◌, ◌≢◌, inl, inr, ℕ, List, [], ◌∷◌, length, sym, subst, arith}
use Rattle.std.specs.Prelude.{⊤}
use Rattle.std.proofs.lemmas.Bool.{cases_eq}
use Rattle.std.proofs.lemmas.Option.{same_Some}
use Rattle.vdr_segment.specs.Gates.{open_gate}
use Rattle.vdr_outside.specs.Disk.{Disk, Durable, Overwritten, content, over}
use Rattle.vdr_outside.specs.Moments.{AtEachMoment, ChangesOnly, Settled}
use Rattle.vdr_outside.proofs.Images.{changed_overwritten}
use Rattle.vdr_outside.proofs.Moments.{moments_weaken, changes_join, changes_through, settled_image, settled_through}
use Rattle.vdr_config.specs.Configuration.{Configuration}
use Rattle.vdr_media.specs.Layout.{IsClosedAt}
use Rattle.vdr_media.specs.Medium.{IsEmptyMedium}
use Rattle.vdr_media.specs.Writing.{WritesBehindGate, IsLaidOut, ClosedOrEmpty, HasClosedGate}
use Rattle.vdr_media.proofs.Closing.{closed_by}

-- any other byte closes the gate
pub closed_first : (b : List ℕ) (y : ℕ) → y ≢ open_gate → IsClosedAt (over b 0 (y ∷ [])) 0
closed_first [] y ne opened = let none : ⊥ = cc in absurd none
closed_first (a ∷ []) y ne opened = ne (same_Some y open_gate opened)
closed_first (a ∷ c ∷ b) y ne opened = ne (same_Some y open_gate opened)

-- whatever the gate's byte is
pub either : (m : ℕ) (c : Configuration) (text b x : List ℕ) → length x ≡ 1 → IsLaidOut m c text b → ClosedOrEmpty m c text (over b 0 x)
either m c text b [] one laid = absurd (omega (arith, one))
either m c text b (y ∷ []) one laid = elim (cases_eq y open_gate) [
  | inl is ↦ inr (subst (λ (z : ℕ). IsEmptyMedium m c text (over b 0 (z ∷ []))) (sym is) laid)
  | inr ne ↦ inl (closed_first b y ne)
]
either m c text b (y ∷ z ∷ x) one laid = absurd (omega (arith, one))

module _ {tells tells_images : Type 0} (m : ℕ) (old mid : Disk tells tells_images) (behind : WritesBehindGate m old mid) where
  pub behind_meanwhile : ChangesOnly m (λ b. ⊤) old mid
  behind_meanwhile = moments_weaken old mid _ _ behind.moments (λ i s. record { image = s.image; was = s.was; others = s.others; has = tt })

  pub behind_closed : (c : Configuration) (text : List ℕ) → Settled m HasClosedGate old → ChangesOnly m (ClosedOrEmpty m c text) old mid
  behind_closed c text closed = moments_weaken old mid _ _ behind.moments (λ i s. record {
    image = s.image;
    was = s.was;
    others = s.others;
    has = inl (closed_by (content s.image m) (content i m) 0 s.gate (settled_image m HasClosedGate old closed s.image s.was));
  })

  module _ (new : Disk tells tells_images) (second : AtEachMoment mid new (Overwritten m 0 1 mid.now)) where
    pub opening_meanwhile : ChangesOnly m (λ b. ⊤) old new
    opening_meanwhile = changes_join m _ old mid new behind_meanwhile (moments_weaken mid new _ _ second (changed_overwritten m 0 1 (λ b. ⊤) mid.now (λ j x now size. tt)))

    module _ (c : Configuration) (text : List ℕ) (laid : Settled m (IsLaidOut m c text) mid) where
      pub opening_moments : Settled m HasClosedGate old → ChangesOnly m (ClosedOrEmpty m c text) old new
      opening_moments closed = changes_join m _ old mid new (behind_closed c text closed) (changes_through m 0 1 _ _ mid new laid second (λ b x is size one. either m c text b x one is))

      pub opening_done : Durable m new → (tells → content new.reads m ≡ over (content mid.reads m) 0 (open_gate ∷ [])) → Settled m (IsEmptyMedium m c text) new
      opening_done durable reads = settled_through m 0 (open_gate ∷ []) _ _ mid new laid durable reads (λ b is size. is)
