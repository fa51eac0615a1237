-- Regular contents are regular media by the segments of each.
use Rattle.std.proofs.Common.{◌≡◌, inl, inr, ℕ, Bool, ◌<◌, ◌≤◌, List, [], length, true, All, Some, sym, ap, ◌∙◌, subst, arith, ◌++◌, Contains, Option, refl, ◌+◌, get_or}
use Rattle.std.proofs.lemmas.List.Elements.{All-nil, All-cons, All-weaker, All-contains, Contains-append_cases, Contains-append_right, Contains-get_or}
use Rattle.vdr_terms.specs.Records.{Record, last}
use Rattle.vdr_terms.specs.Sizes.{records_size}
use Rattle.vdr_terms.specs.Order.{RunOn, AreInOrder as RecordsAreInOrder}
use Rattle.vdr_terms.specs.Needs.{cost, usable}
use Rattle.vdr_durability.specs.Layout.{Batches, batches_in as all_batches, batches_size, records_in, segment_records}
use Rattle.vdr_durability.specs.Regular.{IsPaced, IsRegular, FollowOn}
use Rattle.vdr_durability.specs.Victims.{ArePinsOf}
use Rattle.vdr_durability.specs.Readings.{ends_before, leading_batch, AreLevel, IsPassedOn, records_on, restored, with_next}
use Rattle.vdr_durability.specs.Regularity.{IsRegularMember, Layout, segments_of, IsRegularAsRead}
use Rattle.vdr_durability.specs.Regularity as layouts
use Rattle.vdr_durability.specs.Shown.{pins_on}
use Rattle.vdr_durability.proofs.Regular.{lacked_is_paced, pins_allowed, level_regular, passed_regular}
use Rattle.vdr_config.specs.Sizes.{sizes_of, window_of}
use Rattle.vdr_directory.specs.Sequence.{Placed, all_records, batches_in, segments_in}
use Rattle.vdr_ring.specs.Regularity.{AreLaidOut, AreRegular}
use Rattle.vdr_opening.specs.Media.{members_with, Contents, reading_of, AreThere, HoldsContents, opening_of}
use Rattle.vdr_vault.specs.Regularity.{AreRegularMedia, IsRegularMedium, AreSound, IsUnbrokenMedium, LacksNothing}
use Rattle.vdr_ring.specs.Whole.{KeepsAll, is_filled}
use Rattle.vdr_vault.proofs.Kept.{lacks_nothing}
use Rattle.vdr_ring.proofs.Allowed.{segments_batches}
use Rattle.vdr_ring.proofs.Records.{records_are}
use Rattle.vdr_vault.proofs.ShownImages.{has_capsule, has_long_term, are_members, is_member}
use Rattle.vdr_media.proofs.Members.{of_all, of_each}
use Rattle.vdr_durability.specs.Retention.{Retains, Pin}
use Rattle.vdr_durability.proofs.Restored.{ends_not_before, level_restored, next_added, next_kept, passed_leads}
use Rattle.vdr_durability.proofs.Shows.{reconciled_shows, reconciling_shows, retains_itself}
use Rattle.vdr_outside.specs.Disk.{Image}
use Rattle.vdr_directory.specs.Order.{AreInOrder}
use Rattle.vdr_ring.proofs.Medium.{in_order_records}
use Rattle.vdr_opening.specs.Settings.{settings_of}
use Rattle.vdr_vault.proofs.Members.{chosen, chosen_is}
use Rattle.vdr_vault.specs.Vaults.{ShowsHistory, reading_with}
use Rattle.vdr_core.specs.Histories.{Incident}
use Rattle.vdr_durability.proofs.Following.{follow_in_order, follow_no_earlier}
use Rattle.vdr_durability.proofs.Lists.{none_contained}
use Rattle.vdr_durability.proofs.Retained.{append_keeps}
use Rattle.vdr_config.specs.Configuration.{Configuration}
use Rattle.vdr_durability.specs.Soundness.{IsUnbroken}
use Rattle.vdr_durability.proofs.Unbroken.{unbroken_held}

-- The layout of a regular medium. One without a segment has an empty newest one.
abbrev pub layout_of : {c u b : ℕ} {placed : List Placed} → AreLaidOut c u b placed → Layout
layout_of (inl none) = record { older = []; newest = [] }
layout_of (inr (older, newest, split, regular)) = record { older = older; newest = newest }

module _ (c u b : ℕ) (placed : List Placed) where
  pub laid_out : (r : AreLaidOut c u b placed) → batches_in placed ≡ all_batches (segments_of (layout_of r))
  laid_out (inl none) = ap batches_in none
  laid_out (inr (older, newest, split, regular)) = sym (segments_batches placed) ∙ ap all_batches split

  pub as_laid_out : (r : AreLaidOut c u b placed) → IsRegular c u b (layout_of r).older (layout_of r).newest
  as_laid_out (inl none) = record {
    order = tt;
    filled = All-nil (λ segment. u < batches_size segment);
    batches = All-cons (λ (segment : Batches). All (λ batch. (0 < length batch) × (records_size batch ≤ b)) segment) [] [] (All-nil (λ batch. (0 < length batch) × (records_size batch ≤ b)))
        (All-nil (λ (segment : Batches). All (λ batch. (0 < length batch) × (records_size batch ≤ b)) segment));
    paced = λ s. omega arith;
  }
  as_laid_out (inr (older, newest, split, regular)) = regular

  paced_there : (r : AreLaidOut c u b placed) (records : List Record) → IsPaced c b (segments_of (layout_of r)) records → IsPaced c b (segments_in placed) records
  paced_there (inl none) records h = subst (λ (ps : List Placed). IsPaced c b (segments_in ps) records) (sym none) (record { some = h.some; short = h.short; order = h.order; paced = λ s. h.paced s })
  paced_there (inr (older, newest, split, regular)) records h = subst (λ (segments : List Batches). IsPaced c b segments records) (sym split) h

  -- and the other way
  pub paced_laid_out : (r : AreLaidOut c u b placed) (records : List Record) → IsPaced c b (segments_in placed) records → IsPaced c b (segments_of (layout_of r)) records
  paced_laid_out (inl none) records h =
      let k : IsPaced c b [] records = subst (λ (ps : List Placed). IsPaced c b (segments_in ps) records) none h in
      record { some = k.some; short = k.short; order = k.order; paced = λ s. k.paced s }
  paced_laid_out (inr (older, newest, split, regular)) records h = subst (λ (segments : List Batches). IsPaced c b segments records) split h

  records_there : (r : AreLaidOut c u b placed) → records_in (segments_of (layout_of r)) ≡ all_records placed
  records_there (inl none) = ap all_records (sym none)
  records_there (inr (older, newest, split, regular)) = ap records_in (sym split)

-- A layout of medium m that is regular, as it reads.
record IsLaidOutBy (x : Contents) (m : ℕ) (layout : Layout) : Type 0 where
  pub member : IsRegularMember (sizes_of x.config) (members_with x.further) (reading_of x) m layout
  pub records : records_in (segments_of layout) ≡ all_records (x.placed m)
  pub paced : (records : List Record) → IsPaced (cost (sizes_of x.config)) x.config.batch (segments_of layout) records → IsPaced (cost (sizes_of x.config)) x.config.batch (segments_in (x.placed m)) records

pub empty_layout : Layout
empty_layout = record { older = []; newest = [] }

module _ (x : Contents) (regular : AreRegularMedia x) where
  regular_at : (k : ℕ) → k < 2 + x.further → IsRegularMedium x k
  regular_at = of_each (IsRegularMedium x) x.further regular

  laid_at : (k : ℕ) → k < 2 + x.further → (layout : Layout) × IsLaidOutBy x k layout
  laid_at k lt =
      let h = regular_at k lt in (
        layout_of h.segments.layout,
        record {
          member = record {
            as_read = record { laid_out = laid_out _ _ _ (x.placed k) h.segments.layout; segments = as_laid_out _ _ _ (x.placed k) h.segments.layout };
            order = h.order;
            paced = h.paced;
            pins = h.pins;
          };
          records = records_there _ _ _ (x.placed k) h.segments.layout;
          paced = paced_there _ _ _ (x.placed k) h.segments.layout;
        },
      )

  abbrev layout_at : ℕ → Layout
  layout_at = chosen empty_layout (IsLaidOutBy x) (2 + x.further) laid_at

  laid_is : (k : ℕ) → k < 2 + x.further → IsLaidOutBy x k (layout_at k)
  laid_is = chosen_is empty_layout (IsLaidOutBy x) (2 + x.further) laid_at

  are_regular : layouts.AreRegular (sizes_of x.config) (members_with x.further) layout_at (reading_of x)
  are_regular = of_all (λ m. IsRegularMember (sizes_of x.config) (members_with x.further) (reading_of x) m (layout_at m)) x.further (λ k lt. (laid_is k lt).member)

  -- The pins of each medium as it reads are those that its configuration allows.
  pub pins_read : All (λ m. ArePinsOf (sizes_of x.config) m (all_records (x.placed m)) (pins_on m x.table)) (members_with x.further)
  pins_read = of_all (λ m. ArePinsOf (sizes_of x.config) m (all_records (x.placed m)) (pins_on m x.table)) x.further
      (λ k lt. subst (λ (rs : List Record). ArePinsOf (sizes_of x.config) k rs (pins_on k x.table)) (laid_is k lt).records
      (pins_allowed (sizes_of x.config) (members_with x.further) layout_at (reading_of x) are_regular k (is_member x.further k lt)))

  pub segments_read : All (λ m. AreRegular (cost (sizes_of x.config)) (usable (sizes_of x.config)) x.config.batch (x.placed m)) (members_with x.further)
  segments_read = of_all (λ m. AreRegular (cost (sizes_of x.config)) (usable (sizes_of x.config)) x.config.batch (x.placed m)) x.further (λ k lt. (regular_at k lt).segments)

  -- The batch that medium m lacks may come next on it.
  pub missing_is_paced : (m : ℕ) → m < 2 + x.further → (batch : List Record) (place : ℕ) → leading_batch (members_with x.further) (reading_of x) ≡ Some batch → ends_before (Some batch) (batches_in (x.placed m)) ≡ true → RunOn place batch
      → IsPaced (cost (sizes_of x.config)) x.config.batch (segments_in (x.placed m)) batch
  missing_is_paced m lt batch place leads waits run = (laid_is m lt).paced batch
      (lacked_is_paced (sizes_of x.config) (members_with x.further) layout_at (reading_of x) m batch place are_regular (is_member x.further m lt) (has_capsule x.further) leads waits run)

-- What media show while they are opened, by the segments that they have.

-- These contents with other segments.
abbrev pub with_placed : Contents → (filled : ℕ → Bool) → (ℕ → List Placed) → Contents
with_placed x filled placed = record { further = x.further; config = x.config; text = x.text; placed = placed; table = x.table; filled = filled }

-- The media have these segments once they are opened: they are level, regular, and retain what they are restored to.
pub record AreOpened (x : Contents) (placed : ℕ → List Placed) : Type 0 where
  pub batch : last (batches_in (placed 0)) ≡ last (batches_in (x.placed 0))
  pub level : AreLevel (members_with x.further) (reading_with x.text placed x.table)
  pub order : All (λ m. AreInOrder (placed m)) (members_with x.further)
  pub retains : All (λ m. Retains (window_of x.config m) (pins_on m x.table) (records_on (restored (members_with x.further) (reading_of x)) m) (all_records (placed m))) (members_with x.further)
  pub regular : All (λ m. AreRegular (cost (sizes_of x.config)) (usable (sizes_of x.config)) x.config.batch (placed m)) (members_with x.further)
  pub pins : All (λ m. ArePinsOf (sizes_of x.config) m (all_records (placed m)) (pins_on m x.table)) (members_with x.further)
  pub there : AreThere x.table (placed 1)

in_order : (ms : List ℕ) (placed : ℕ → List Placed) → All (λ m. AreInOrder (placed m)) ms → All (λ m. RecordsAreInOrder (segment_records (batches_in (placed m)))) ms
in_order ms placed h = All-weaker (λ m. AreInOrder (placed m)) (λ m. RecordsAreInOrder (segment_records (batches_in (placed m))))
    (λ m k. subst RecordsAreInOrder (sym (records_are (placed m))) (in_order_records (placed m) k)) ms h

-- They show what was opened.
pub opened_shown : (x : Contents) (filled : ℕ → Bool) (placed : ℕ → List Placed) (image : Image) → AreOpened x placed → AreSound (with_placed x filled placed) → HoldsContents image (with_placed x filled placed) → ShowsHistory (opening_of x) [] image
opened_shown x filled placed image opened sound holds = (
  members_with x.further,
  reading_of (with_placed x filled placed),
  record { reads = record { members_are = refl; contents = with_placed x filled placed; holds = holds; is = refl }; sound = sound },
  reconciled_shows (members_with x.further) (settings_of x.config x.text) (reading_of x) (reading_of (with_placed x filled placed)) (are_members x.further) (has_long_term x.further) refl
      (record {
        text = refl;
        table = refl;
        batch = opened.batch;
        level = opened.level;
        media = All-weaker (λ m. Retains (window_of x.config m) (pins_on m x.table) (records_on (restored (members_with x.further) (reading_of x)) m) (all_records (placed m)))
            (λ m. Retains (window_of x.config m) (pins_on m x.table) (records_on (restored (members_with x.further) (reading_of x)) m) (segment_records (batches_in (placed m))))
            (λ m h. subst (Retains (window_of x.config m) (pins_on m x.table) (records_on (restored (members_with x.further) (reading_of x)) m)) (sym (records_are (placed m))) h) (members_with x.further) opened.retains;
      })
      (in_order (members_with x.further) placed opened.order),
)

-- Level media are opened as they are.
pub level_opened : (x : Contents) → AreRegularMedia x → All (λ m. AreInOrder (x.placed m)) (members_with x.further) → AreThere x.table (x.placed 1) → AreLevel (members_with x.further) (reading_of x) → AreOpened x x.placed
level_opened x regular order there level = record {
  batch = refl;
  level = level;
  order = order;
  retains = of_all (λ m. Retains (window_of x.config m) (pins_on m x.table) (records_on (restored (members_with x.further) (reading_of x)) m) (all_records (x.placed m))) x.further (λ k lt. retained k (is_member x.further k lt));
  regular = segments_read x regular;
  pins = pins_read x regular;
  there = there;
}
  where
    retained : (m : ℕ) → Contains (members_with x.further) m → Retains (window_of x.config m) (pins_on m x.table) (records_on (restored (members_with x.further) (reading_of x)) m) (all_records (x.placed m))
    retained m has = subst (λ (rs : List Record). Retains (window_of x.config m) (pins_on m x.table) rs (all_records (x.placed m)))
        (sym (level_restored (members_with x.further) (reading_of x) level (in_order (members_with x.further) x.placed order) m has ∙ records_are (x.placed m)))
        (retains_itself (window_of x.config m) (pins_on m x.table) (all_records (x.placed m)))

-- The first media have a batch that the others lack.
module _ (x : Contents) (given waiting : List ℕ) (batch : List Record) (passed : IsPassedOn (members_with x.further) given waiting batch (reading_of x)) (ordered : RecordsAreInOrder batch) where
  pub leads : leading_batch (members_with x.further) (reading_of x) ≡ Some batch
  leads = passed_leads (members_with x.further) given waiting batch (reading_of x) passed

  waits_at : (m : ℕ) → Contains waiting m → ends_before (Some batch) (batches_in (x.placed m)) ≡ true
  waits_at m there = All-contains (λ k. ends_before (Some batch) (batches_in (x.placed k)) ≡ true) waiting m passed.waiting_end there

  -- what they are restored to
  pub given_restored : (m : ℕ) → Contains given m → records_on (restored (members_with x.further) (reading_of x)) m ≡ all_records (x.placed m)
  given_restored m there =
      ap (λ (o : Option (List Record)). segment_records (with_next o (batches_in (x.placed m)))) leads
      ∙ ap segment_records (next_kept (batches_in (x.placed m)) batch (ends_not_before (batches_in (x.placed m)) batch ordered (All-contains (λ k. last (batches_in (x.placed k)) ≡ Some batch) given m passed.given_end there)))
      ∙ records_are (x.placed m)

  pub waiting_restored : (m : ℕ) → Contains waiting m → records_on (restored (members_with x.further) (reading_of x)) m ≡ all_records (x.placed m) ++ batch
  waiting_restored m there =
      ap (λ (o : Option (List Record)). segment_records (with_next o (batches_in (x.placed m)))) leads
      ∙ next_added (batches_in (x.placed m)) batch (waits_at m there) ∙ ap (λ (rs : List Record). rs ++ batch) (records_are (x.placed m))

  -- Segments of which the first media have the batch by now, and the others retain what they had: they show what was opened too.
  module _ (filled : ℕ → Bool) (now : ℕ → List Placed) (has lacks : List ℕ) (still : IsPassedOn (members_with x.further) has lacks batch (reading_of (with_placed x filled now)))
      (here : All (λ m. Retains (window_of x.config m) (pins_on m x.table) (records_on (restored (members_with x.further) (reading_of x)) m) (all_records (now m))) has)
      (follows : All (λ m. (ends_before (Some batch) (batches_in (x.placed m)) ≡ true) × FollowOn (last (all_records (x.placed m))) batch) lacks)
      (there : All (λ m. Retains (window_of x.config m) (pins_on m x.table) (all_records (x.placed m)) (all_records (now m))) lacks) where
    pub passing_shown : (image : Image) → AreSound (with_placed x filled now) → HoldsContents image (with_placed x filled now) → ShowsHistory (opening_of x) [] image
    passing_shown image sound holds = (
      members_with x.further,
      reading_of (with_placed x filled now),
      record { reads = record { members_are = refl; contents = with_placed x filled now; holds = holds; is = refl }; sound = sound },
      reconciling_shows (members_with x.further) (settings_of x.config x.text) (reading_of x) (reading_of (with_placed x filled now)) has lacks batch (are_members x.further) (has_long_term x.further) refl refl leads
          still ordered
          (λ i d lt. let f = follows i d lt in (f.0, subst (λ (rs : List Record). FollowOn (last rs) batch) (sym (records_are (x.placed (get_or lacks i d)))) f.1))
          (λ i d lt.
          let m = get_or has i d in
          subst (Retains (window_of x.config m) (pins_on m x.table) (records_on (restored (members_with x.further) (reading_of x)) m)) (sym (records_are (now m))) (here i d lt))
          (λ i d lt.
          let m = get_or lacks i d in
          subst (λ (p : List Record × List Record). Retains (window_of x.config m) (pins_on m x.table) p.0 p.1) (λ i. (sym (records_are (x.placed m)) i, sym (records_are (now m)) i)) (there i d lt)),
    )

-- Media of which each is regular are sound, as they are and while a batch is on its way.

-- A medium with the segments of a configuration.
abbrev pub IsRegularOn : Configuration → List Placed → Type 0
IsRegularOn c placed = AreRegular (cost (sizes_of c)) (usable (sizes_of c)) c.batch placed

-- A layout of medium m that is regular, by its segments.
pub record IsLaidOutOn (x : Contents) (m : ℕ) (layout : Layout) : Type 0 where
  pub as_read : IsRegularAsRead (sizes_of x.config) (reading_of x) m layout
  pub paced : (records : List Record) → IsPaced (cost (sizes_of x.config)) x.config.batch (segments_in (x.placed m)) records → IsPaced (cost (sizes_of x.config)) x.config.batch (segments_of layout) records

abbrev pub Pinned : Contents → ℕ → Type 0
Pinned x m = ArePinsOf (sizes_of x.config) m (records_on (restored (members_with x.further) (reading_of x)) m) (pins_on m x.table)

module _ (x : Contents) (on : (k : ℕ) → k < 2 + x.further → IsRegularOn x.config (x.placed k)) where
  pub laid_on_at : (k : ℕ) → k < 2 + x.further → (layout : Layout) × IsLaidOutOn x k layout
  laid_on_at k lt =
      let r = (on k lt).layout in (
        layout_of r,
        record { as_read = record { laid_out = laid_out _ _ _ (x.placed k) r; segments = as_laid_out _ _ _ (x.placed k) r }; paced = paced_laid_out _ _ _ (x.placed k) r },
      )

  abbrev pub layout_on : ℕ → Layout
  layout_on = chosen empty_layout (IsLaidOutOn x) (2 + x.further) laid_on_at

  laid_on : (k : ℕ) → k < 2 + x.further → IsLaidOutOn x k (layout_on k)
  laid_on = chosen_is empty_layout (IsLaidOutOn x) (2 + x.further) laid_on_at

  abbrev AsRead : ℕ → Type 0
  AsRead m = IsRegularAsRead (sizes_of x.config) (reading_of x) m (layout_on m)

  as_read : All AsRead (members_with x.further)
  as_read = of_all AsRead x.further (λ k lt. (laid_on k lt).as_read)

  media_of : layouts.AreRegular (sizes_of x.config) (members_with x.further) layout_on (reading_of x) → AreRegularMedia x
  media_of h = of_all (IsRegularMedium x) x.further (λ k lt.
      let at = of_each (λ m. IsRegularMember (sizes_of x.config) (members_with x.further) (reading_of x) m (layout_on m)) x.further h k lt in
      record { segments = on k lt; order = at.order; paced = at.paced; pins = at.pins })

  pub level_is_regular : AreLevel (members_with x.further) (reading_of x) → All (Pinned x) (members_with x.further) → AreRegularMedia x
  level_is_regular level pins = media_of (level_regular (sizes_of x.config) (members_with x.further) layout_on (reading_of x) level as_read pins)

  pub passed_is_regular : (given waiting : List ℕ) (batch : List Record) → IsPassedOn (members_with x.further) given waiting batch (reading_of x)
      → All (λ m. IsPaced (cost (sizes_of x.config)) x.config.batch (segments_of (layout_on m)) batch) waiting → All (Pinned x) (members_with x.further) → AreRegularMedia x
  passed_is_regular given waiting batch passed paced pins = media_of (passed_regular (sizes_of x.config) (members_with x.further) layout_on (reading_of x) given waiting batch passed as_read pins paced)

-- What is known of a medium of so many slots by itself, which is restored to these records.
pub record IsSoundAlone (c : Configuration) (m count : ℕ) (placed : List Placed) (table : List (Option Incident)) (records : List Record) : Type 0 where
  pub regular : IsRegularOn c placed
  pub pins : ArePinsOf (sizes_of c) m records (pins_on m table)
  pub unbroken : IsUnbroken (window_of c m) records
  pub keeps : KeepsAll (window_of c m) count placed

-- The media have so many slots.
abbrev pub AreFilled : Contents → (count : ℕ → ℕ) → Type 0
AreFilled x count = All (λ m. x.filled m ≡ is_filled (count m) (x.placed m)) (members_with x.further)

-- The media as they are restored, each of which is sound by itself, where they are regular then.
sound_by : (x : Contents) (count : ℕ → ℕ) (records : ℕ → List Record) → AreFilled x count → All (λ m. records_on (restored (members_with x.further) (reading_of x)) m ≡ records m) (members_with x.further)
    → (alone : (k : ℕ) → k < 2 + x.further → IsSoundAlone x.config k (count k) (x.placed k) x.table (records k)) → (All (Pinned x) (members_with x.further) → AreRegularMedia x) → AreSound x
sound_by x count records filled are alone regular = record {
  regular = regular (of_all (Pinned x) x.further (λ k lt. subst (λ (rs : List Record). ArePinsOf (sizes_of x.config) k rs (pins_on k x.table)) (sym (is_at k lt)) (alone k lt).pins));
  unbroken = of_all (IsUnbrokenMedium x) x.further (λ k lt. subst (IsUnbroken (window_of x.config k)) (sym (is_at k lt)) (alone k lt).unbroken);
  kept = of_all (LacksNothing x) x.further (λ k lt. lacks_nothing x k (count k) (of_each (λ m. x.filled m ≡ is_filled (count m) (x.placed m)) x.further filled k lt) (alone k lt).keeps);
}
  where
    is_at : (k : ℕ) → k < 2 + x.further → records_on (restored (members_with x.further) (reading_of x)) k ≡ records k
    is_at = of_each (λ m. records_on (restored (members_with x.further) (reading_of x)) m ≡ records m) x.further are

-- Level media.
pub sound_level : (x : Contents) (count : ℕ → ℕ) → AreFilled x count → AreLevel (members_with x.further) (reading_of x) → All (λ m. AreInOrder (x.placed m)) (members_with x.further)
    → ((k : ℕ) → k < 2 + x.further → IsSoundAlone x.config k (count k) (x.placed k) x.table (all_records (x.placed k))) → AreSound x
sound_level x count filled level order alone = sound_by x count (λ m. all_records (x.placed m)) filled (of_all (λ m. records_on (restored (members_with x.further) (reading_of x)) m ≡ all_records (x.placed m)) x.further as_it_is) alone
    (level_is_regular x (λ k lt. (alone k lt).regular) level)
  where
    as_it_is : (m : ℕ) → m < 2 + x.further → records_on (restored (members_with x.further) (reading_of x)) m ≡ all_records (x.placed m)
    as_it_is m lt = level_restored (members_with x.further) (reading_of x) level (in_order (members_with x.further) x.placed order) m (is_member x.further m lt) ∙ records_are (x.placed m)

-- The first media have a batch that may come next on the others.
pub sound_passed : (x : Contents) (count : ℕ → ℕ) (given waiting : List ℕ) (batch : List Record) → AreFilled x count → IsPassedOn (members_with x.further) given waiting batch (reading_of x) → RecordsAreInOrder batch
    → All (λ m. IsPaced (cost (sizes_of x.config)) x.config.batch (segments_in (x.placed m)) batch) waiting
    → ((m : ℕ) → Contains given m → IsSoundAlone x.config m (count m) (x.placed m) x.table (all_records (x.placed m)))
    → ((m : ℕ) → Contains waiting m → IsSoundAlone x.config m (count m) (x.placed m) x.table (all_records (x.placed m) ++ batch)) → AreSound x
sound_passed x count given waiting batch filled passed ordered paced has lacks = sound_by x count (λ m. records_on (restored (members_with x.further) (reading_of x)) m) filled (λ k d lt. refl) alone
    (passed_is_regular x regular given waiting batch passed (λ i d lt. (laid_on x regular (get_or waiting i d) (below i d lt)).paced batch (paced i d lt)))
  where
    alone : (k : ℕ) → k < 2 + x.further → IsSoundAlone x.config k (count k) (x.placed k) x.table (records_on (restored (members_with x.further) (reading_of x)) k)
    alone k lt = elim (Contains-append_cases given waiting k (subst (λ (ms : List ℕ). Contains ms k) passed.split (is_member x.further k lt))) [
      | inl there ↦ subst (λ (rs : List Record). IsSoundAlone x.config k (count k) (x.placed k) x.table rs) (sym (given_restored x given waiting batch passed ordered k there)) (has k there)
      | inr there ↦ subst (λ (rs : List Record). IsSoundAlone x.config k (count k) (x.placed k) x.table rs) (sym (waiting_restored x given waiting batch passed ordered k there)) (lacks k there)
    ]

    regular : (k : ℕ) → k < 2 + x.further → IsRegularOn x.config (x.placed k)
    regular k lt = (alone k lt).regular

    below : (i d : ℕ) → i < length waiting → get_or waiting i d < 2 + x.further
    below i d lt =
        All-contains (λ k. k < 2 + x.further) (members_with x.further) (get_or waiting i d) (of_all (λ k. k < 2 + x.further) x.further (λ k lt. lt))
        (subst (λ (ms : List ℕ). Contains ms (get_or waiting i d)) (sym passed.split) (Contains-append_right given waiting (get_or waiting i d) (Contains-get_or waiting i d lt)))

-- A medium without pins allows none.
pub no_pins : (c : Configuration) (records : List Record) → ArePinsOf (sizes_of c) 0 records []
no_pins c records = record { few = omega arith; short = λ pin there. absurd (none_contained pin there) }

-- Of a medium that lacks the batch, and retains what it had, no place is skipped with it.
pub unbroken_waiting : (seconds : ℕ) (all held batch : List Record) → RecordsAreInOrder all → RecordsAreInOrder held → FollowOn (last all) batch → FollowOn (last held) batch
    → (pins : List Pin) → Retains seconds pins all held → IsUnbroken seconds (all ++ batch) → IsUnbroken seconds (held ++ batch)
unbroken_waiting seconds all held batch order order' follow follow' pins retains h =
    unbroken_held seconds (all ++ batch) (held ++ batch) (follow_in_order all batch order follow) (follow_in_order held batch order' follow') (append_keeps seconds all held batch (follow_no_earlier all batch follow) retains.window) h
