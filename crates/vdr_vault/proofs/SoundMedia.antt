-- Soundness of media that were just formatted, and of the contents of one image.
use Rattle.std.proofs.Common.{◌≡◌, ◌≤◌, ◌<◌, ◌+◌, inl, ℕ, zero, suc, List, [], replicate, false, None, refl, sym, ap, ◌∙◌, subst, arith}
use Rattle.std.specs.Prelude.{All}
use Rattle.std.proofs.lemmas.List.Elements.{All-nil}
use Rattle.vdr_terms.specs.Records.{last}
use Rattle.vdr_terms.specs.Order.{AreInOrder, RunOn}
use Rattle.vdr_terms.specs.Needs.{cost, usable}
use Rattle.vdr_durability.specs.Layout.{batches_size_at, segment_records}
use Rattle.vdr_durability.specs.Retention.{Pin}
use Rattle.vdr_durability.specs.Victims.{ArePinsOf}
use Rattle.vdr_durability.specs.Soundness.{IsUnbroken}
use Rattle.vdr_durability.proofs.Lists.{none_contained}
use Rattle.vdr_durability.specs.Readings.{EndsMeet, with_next}
use Rattle.vdr_durability.specs.Shown.{pins_of, pins_on}
use Rattle.vdr_outside.specs.Disk.{Image}
use Rattle.vdr_config.specs.Configuration.{Configuration}
use Rattle.vdr_config.specs.Sizes.{sizes_of, window_of}
use Rattle.vdr_media.proofs.Members.{of_all, of_each}
use Rattle.vdr_media.proofs.Two.{all_two}
use Rattle.vdr_directory.specs.Sequence.{all_records, batches_in}
use Rattle.vdr_directory.specs.Leaving.{IsExactlySummarized}
use Rattle.vdr_ring.specs.Regularity.{AreRegular}
use Rattle.vdr_opening.specs.Media.{further_in, members_with, Contents, HoldsContents, nothing_on, reading_of}
use Rattle.vdr_opening.proofs.ContentsHeld.{are_legal, one_config, one_filled, one_incidents, one_placed_at}
use Rattle.vdr_opening.proofs.SameEnds.{EndsAlike, same_end, same_ends}
use Rattle.vdr_vault.specs.Regularity.{AreSound, IsRegularMedium, IsUnbrokenMedium, LacksNothing}

-- Media that were just formatted

none_pinned : (n : ℕ) → pins_of (replicate n None) ≡ []
none_pinned zero = refl
none_pinned (suc n) = none_pinned n

no_pins_on : (c : Configuration) (m : ℕ) (pins : List Pin) → pins ≡ [] → ArePinsOf (sizes_of c) m [] pins
no_pins_on c m pins none = subst (ArePinsOf (sizes_of c) m []) (sym none) (record { few = omega arith; short = λ pin there. absurd (none_contained pin there) })

regular_nothing : (c : Configuration) (text : List ℕ) (m : ℕ) → pins_on m (replicate c.incident_slots None) ≡ [] → IsRegularMedium (nothing_on 0 c text) m
regular_nothing c text m none = record {
  segments = record { layout = inl refl; exact = All-nil IsExactlySummarized };
  order = tt;
  paced = λ s. omega arith;
  pins = no_pins_on c m (pins_on m (replicate c.incident_slots None)) none;
}

pub sound_nothing : (c : Configuration) (text : List ℕ) → AreSound (nothing_on 0 c text)
sound_nothing c text = record {
  regular = all_two (IsRegularMedium (nothing_on 0 c text)) (regular_nothing c text 0 refl) (regular_nothing c text 1 (none_pinned c.incident_slots));
  unbroken = all_two (IsUnbrokenMedium (nothing_on 0 c text)) (0, tt) (0, tt);
  kept = all_two (LacksNothing (nothing_on 0 c text)) (record { unbroken = (0, tt); whole = λ _. tt }) (record { unbroken = (0, tt); whole = λ _. tt });
}

-- One image: the contents of each medium are one, and soundness speaks of these alone.

module _ {image : Image} {x y : Contents} (h : HoldsContents image x) (k : HoldsContents image y) where
  config : x.config ≡ y.config
  config = one_config (are_legal h) (are_legal k)

  placed_at : (m : ℕ) → m < 2 + further_in image → x.placed m ≡ y.placed m
  placed_at m lt = one_placed_at (are_legal h) (are_legal k) m lt

  table : x.table ≡ y.table
  table = one_incidents (are_legal h) (are_legal k) h.table k.table

  module _ (m : ℕ) (lt : m < 2 + further_in image) where
    leads : x.placed 0 ≡ y.placed 0
    leads = placed_at 0 (omega arith)

    here : x.placed m ≡ y.placed m
    here = placed_at m lt

    regular_as : IsRegularMedium x m → IsRegularMedium y m
    regular_as r = record {
      segments = subst (λ (P : Type 0). P) (λ i. AreRegular (cost (sizes_of (config i))) (usable (sizes_of (config i))) (config i).batch (here i)) r.segments;
      order = subst (λ (P : Type 0). P) (λ i. AreInOrder (segment_records (with_next (last (batches_in (leads i))) (batches_in (here i))))) r.order;
      paced = λ s. subst (λ (P : Type 0). P) (λ i. batches_size_at s (with_next (last (batches_in (leads i))) (batches_in (here i))) ≤ cost (sizes_of (config i))) (r.paced s);
      pins = subst (λ (P : Type 0). P) (λ i. ArePinsOf (sizes_of (config i)) m (segment_records (with_next (last (batches_in (leads i))) (batches_in (here i)))) (pins_on m (table i))) r.pins;
    }

    unbroken_as : IsUnbrokenMedium x m → IsUnbrokenMedium y m
    unbroken_as u = subst (λ (P : Type 0). P) (λ i. IsUnbroken (window_of (config i) m) (segment_records (with_next (last (batches_in (leads i))) (batches_in (here i))))) u

    kept_as : LacksNothing x m → LacksNothing y m
    kept_as l = record {
      unbroken = subst (λ (P : Type 0). P) (λ i. IsUnbroken (window_of (config i) m) (all_records (here i))) l.unbroken;
      whole = subst (λ (P : Type 0). P) (λ i. one_filled h k m lt i ≡ false → RunOn 0 (all_records (here i))) l.whole;
    }

  -- A medium of the one is one of the image, and so of the other.
  of_image : (m : ℕ) → m < 2 + y.further → m < 2 + further_in image
  of_image m lt = subst (λ (n : ℕ). m < 2 + n) k.further lt

  of_other : (m : ℕ) → m < 2 + further_in image → m < 2 + x.further
  of_other m lt = subst (λ (n : ℕ). m < 2 + n) (sym h.further) lt

  each_as : (P Q : ℕ → Type 0) → ((m : ℕ) → m < 2 + further_in image → P m → Q m) → All P (members_with x.further) → All Q (members_with y.further)
  each_as P Q each all = of_all Q y.further (λ m lt. each m (of_image m lt) (of_each P x.further all m (of_other m (of_image m lt))))

  sound : AreSound x → AreSound y
  sound s = record {
    regular = each_as (IsRegularMedium x) (IsRegularMedium y) regular_as s.regular;
    unbroken = each_as (IsUnbrokenMedium x) (IsUnbrokenMedium y) unbroken_as s.unbroken;
    kept = each_as (LacksNothing x) (LacksNothing y) kept_as s.kept;
  }

  alike : All (EndsAlike (reading_of x) (reading_of y)) (members_with x.further)
  alike = of_all (EndsAlike (reading_of x) (reading_of y)) x.further (λ m lt. same_end (ap batches_in (placed_at m (subst (λ (n : ℕ). m < 2 + n) h.further lt))))

  meet_as : EndsMeet (members_with x.further) (reading_of x) → EndsMeet (members_with y.further) (reading_of y)
  meet_as meet = subst (λ (n : ℕ). EndsMeet (members_with n) (reading_of y)) (h.further ∙ sym k.further) (same_ends (reading_of x) (reading_of y) (members_with x.further) alike meet)

pub sound_as : (image : Image) (x y : Contents) → HoldsContents image x → HoldsContents image y
    → EndsMeet (members_with x.further) (reading_of x) × AreSound x → EndsMeet (members_with y.further) (reading_of y) × AreSound y
sound_as image x y h k (meet, is) = (meet_as h k meet, sound h k is)
