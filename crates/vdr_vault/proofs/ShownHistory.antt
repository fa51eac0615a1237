-- A vault at rest: what it shows, and how it stands on.
use Rattle.std.proofs.Common.{◌≡◌, ℕ, ◌+◌, List, [], ◌∷◌, ◌++◌, length, Option, option_map, refl, sym, ap, ◌∙◌, subst, arith, append-nil}
use Rattle.std.proofs.lemmas.List.Elements.{All-weaker}
use Rattle.vdr_terms.specs.Order.{AreInOrder}
use Rattle.vdr_terms.specs.Records.{Record}
use Rattle.vdr_core.specs.Histories.{Event, Incident, Opening, Settings, all_records, incidents, last_stamp, next_place, recorded, records_of_act, stamp_of, table_after}
use Rattle.vdr_terms.specs.Records as terms
use Rattle.vdr_durability.specs.Retention.{Retains}
use Rattle.vdr_durability.specs.Victims.{ArePinsOf}
use Rattle.vdr_durability.specs.Shown.{given_with, pins_on}
use Rattle.vdr_durability.proofs.Shows.{incidents_with, recorded_with}
use Rattle.vdr_outside.specs.Disk.{Disk, Durable, Image, Unchanged, content}
use Rattle.vdr_outside.proofs.Moments.{size_read}
use Rattle.vdr_config.specs.Configuration.{Configuration}
use Rattle.vdr_config.specs.Sizes.{sizes_of, window_of}
use Rattle.vdr_directory.specs.Sequence.{Placed}
use Rattle.vdr_directory.specs.Sequence as sequence
use Rattle.vdr_directory.specs.Holds.{HoldsPlaced}
use Rattle.vdr_ring.specs.Rings.{RingState}
use Rattle.vdr_incident.specs.Tables.{HoldsTable}
use Rattle.vdr_ring.specs.Whole.{is_filled}
use Rattle.vdr_opening.specs.Answers.{further_on, members_on}
use Rattle.vdr_media.proofs.Members.{of_all, of_each}
use Rattle.vdr_opening.specs.Media.{HasFront, HoldsContents, IsMedium, slots_on}
use Rattle.vdr_vault.specs.Vaults.{VaultState, HoldsHistory, ShowsHistory, Stands, contents_of, of_stamp, ring_of}
use Rattle.vdr_vault.proofs.Kept.{filled_there, keeps_window}
use Rattle.vdr_durability.specs.Soundness.{IsUnbroken}
use Rattle.vdr_vault.specs.Regularity.{AreSound}
use Rattle.vdr_vault.proofs.ShownImages.{placed_there, shown_level}
use Rattle.vdr_ring.proofs.CursorReading.{other_read}
use Rattle.vdr_vault.proofs.Playing.{stands_over}
use Rattle.vdr_vault.proofs.Sounding.{IsSoundAlone, sound_level}
use Rattle.vdr_durability.proofs.Unbroken.{unbroken_held}
use Rattle.vdr_directory.specs.Order.{AreInOrder as InOrder}
use Rattle.vdr_ring.proofs.Medium.{in_order_records}

module _ {tells tells_images : Type 0} where
  module _ (opening : Opening) (events : List Event) (c : Configuration) (m : ℕ) (ring : RingState) (placed : List Placed) (disk : Disk tells tells_images) (h : HoldsHistory opening events c m ring placed disk) where
    pub durable_at : Durable m disk
    durable_at = subst (λ (k : ℕ). Durable k disk) h.is_its.medium h.reads.settled.durable

    pub held_at : tells → HoldsPlaced ring.segment ring.slots placed (content disk.reads m)
    held_at told = subst (λ (k : ℕ). HoldsPlaced ring.segment ring.slots placed (content disk.reads k)) h.is_its.medium (h.reads.settled.reads told)

    -- Each image has what the medium reads as.
    pub legible_at : (image : Image) → disk.now image → IsMedium m c opening.settings.text placed (content image m)
    legible_at image now =
        let told = (disk.shown (disk.told image now)).0 in
        let same : content image m ≡ content disk.reads m = durable_at.each image now in
        record {
          front = subst (HasFront m c opening.settings.text) (sym same) (h.front told);
          segments = record {
            holds = placed_there c disk.sizes m ring placed (content image m) h.is_its (ap length same ∙ size_read disk m told)
                (subst (HoldsPlaced ring.segment ring.slots placed) (sym same) (held_at told));
            order = h.reads.order;
          };
        }

  -- A medium at rest is sound by itself.
  pub sound_alone : (opening : Opening) (events : List Event) (c : Configuration) (m : ℕ) (ring : RingState) (placed : List Placed) (table : List (Option Incident)) (disk : Disk tells tells_images)
      → HoldsHistory opening events c m ring placed disk → opening.settings.seconds m ≡ window_of c m → table ≡ incidents opening events
      → IsSoundAlone c m ring.slots placed table (sequence.all_records placed)
  sound_alone opening events c m ring placed table disk h window is = record {
    regular = h.regular;
    pins = subst (λ (t : List (Option Incident)). ArePinsOf (sizes_of c) m (sequence.all_records placed) (pins_on m t)) (sym is) h.pins;
    unbroken = subst (λ (n : ℕ). IsUnbroken n (sequence.all_records placed)) window
        (unbroken_held (opening.settings.seconds m) (given_with opening events m) (sequence.all_records placed) h.order (in_order_records placed h.reads.order) h.retains.window h.unbroken);
    keeps = keeps_window c disk.sizes m ring placed h.is_its h.keeps;
  }

  pub stands_sound : (opening : Opening) (events : List Event) (vault : VaultState) (placed : ℕ → List Placed) (disk : Disk tells tells_images) → Stands opening events vault placed disk
      → AreSound (contents_of opening vault placed vault.table)
  stands_sound opening events vault placed disk stands =
      sound_level (contents_of opening vault placed vault.table) (λ m. (ring_of vault m).slots)
      (of_all (λ m. is_filled (ring_of vault m).slots (placed m) ≡ is_filled (ring_of vault m).slots (placed m)) (further_on vault.rings) (λ k lt. refl)) stands.level
      (All-weaker (λ m. HoldsHistory opening events vault.config m (ring_of vault m) (placed m) disk) (λ m. InOrder (placed m)) (λ m h. h.reads.order) (members_on vault.rings) stands.media)
      (λ k lt. sound_alone opening events vault.config k (ring_of vault k) (placed k) vault.table disk (of_each (λ m. HoldsHistory opening events vault.config m (ring_of vault m) (placed m) disk) (further_on vault.rings) stands.media k lt)
      (ap (λ (s : Settings). s.seconds k) stands.settings) stands.incidents_are)

  -- What a stop may leave of a vault at rest shows all its events.
  pub stand_shows : (opening : Opening) (events : List Event) (vault : VaultState) (placed : ℕ → List Placed) (disk : Disk tells tells_images) → Stands opening events vault placed disk
      → (image : Image) → disk.now image → ShowsHistory opening events image
  stand_shows opening events vault placed disk stands image now =
      shown_level opening events (contents_of opening vault placed vault.table) image holds
      (stands_sound opening events vault placed disk stands) refl stands.incidents_are stands.level
      (All-weaker (λ m. HoldsHistory opening events vault.config m (ring_of vault m) (placed m) disk)
      (λ m. Retains (opening.settings.seconds m) (pins_on m (incidents opening events)) (given_with opening events m) (sequence.all_records (placed m))) (λ m h. h.retains) (members_on vault.rings) stands.media)
    where
      told : tells
      told = (disk.shown (disk.told image now)).0

      long : Durable 1 disk
      long = durable_at opening events vault.config 1 (ring_of vault 1) (placed 1) disk (stands.media 1 1 (omega arith))

      holds : HoldsContents image (contents_of opening vault placed vault.table)
      holds = record {
        further = stands.version image now;
        media = All-weaker (λ m. HoldsHistory opening events vault.config m (ring_of vault m) (placed m) disk)
            (λ m. IsMedium m vault.config opening.settings.text (placed m) (content image m))
            (λ m h. legible_at opening events vault.config m (ring_of vault m) (placed m) disk h image now) (members_on vault.rings) stands.media;
        table = subst (HoldsTable vault.config.incident_slots vault.table) (sym (long.each image now)) (stands.table told);
        there = stands.there;
        filled = All-weaker (λ m. HoldsHistory opening events vault.config m (ring_of vault m) (placed m) disk)
            (λ m. is_filled (ring_of vault m).slots (placed m) ≡ is_filled (slots_on vault.config image m) (placed m))
            (λ m h. filled_there vault.config disk.sizes m (ring_of vault m) (placed m) (content image m) h.is_its
            (ap length ((durable_at opening events vault.config m (ring_of vault m) (placed m) disk h).each image now) ∙ size_read disk m told)) (members_on vault.rings) stands.media;
      }

  -- It stands on over calls that only read.
  pub stands_still : (opening : Opening) (events : List Event) (vault : VaultState) (placed : ℕ → List Placed) (old new : Disk tells tells_images) → Unchanged old new
      → Stands opening events vault placed old → Stands opening events vault placed new
  stands_still opening events vault placed old new same = stands_over opening events placed vault vault old new refl refl (λ k. other_read (ring_of vault k) old new same)

-- And with an event that records nothing.
module _ (opening : Opening) (events : List Event) (e : Event) (none : records_of_act e.act ≡ []) where
  no_more : recorded (events ++ e ∷ []) ≡ recorded events
  no_more = recorded_with events e ∙ ap (λ (rs : List Record). recorded events ++ rs) none ∙ append-nil (recorded events)

  pub same_given : (m : ℕ) → all_records opening m (events ++ e ∷ []) ≡ all_records opening m events
  same_given m = ap (λ (rs : List Record). opening.records m ++ rs) no_more

  pub same_next : next_place opening (events ++ e ∷ []) ≡ next_place opening events
  same_next = ap (λ (rs : List Record). opening.next_place + length rs) no_more

  pub same_stamp : last_stamp opening (events ++ e ∷ []) ≡ last_stamp opening events
  same_stamp = ap (λ (rs : List Record). stamp_of (terms.last rs) opening.last) no_more

  -- It changes no incident either.
  module _ (kept : table_after (all_records opening 1 events) (incidents opening events) e.act ≡ incidents opening events) where
    same_table : incidents opening (events ++ e ∷ []) ≡ incidents opening events
    same_table = incidents_with opening events e ∙ kept

    history_silent : {tells tells_images : Type 0} (c : Configuration) (m : ℕ) (ring : RingState) (placed : List Placed) (disk : Disk tells tells_images)
        → HoldsHistory opening events c m ring placed disk → HoldsHistory opening (events ++ e ∷ []) c m ring placed disk
    history_silent c m ring placed disk h = record {
      is_its = h.is_its;
      reads = h.reads;
      front = h.front;
      regular = h.regular;
      order = subst AreInOrder (sym (same_given m)) h.order;
      retains = subst (λ (all : List Record). Retains (opening.settings.seconds m) (pins_on m (incidents opening (events ++ e ∷ []))) all (sequence.all_records placed)) (sym (same_given m))
          (subst (λ (t : List (Option Incident)). Retains (opening.settings.seconds m) (pins_on m t) (all_records opening m events) (sequence.all_records placed)) (sym same_table) h.retains);
      pins = subst (λ (t : List (Option Incident)). ArePinsOf (sizes_of c) m (sequence.all_records placed) (pins_on m t)) (sym same_table) h.pins;
      unbroken = subst (IsUnbroken (opening.settings.seconds m)) (sym (same_given m)) h.unbroken;
      keeps = h.keeps;
    }

    pub stands_silent : {tells tells_images : Type 0} (vault : VaultState) (placed : ℕ → List Placed) (disk : Disk tells tells_images) → Stands opening events vault placed disk → Stands opening (events ++ e ∷ []) vault placed disk
    stands_silent vault placed disk stands = record {
      settings = stands.settings;
      working = stands.working;
      media = All-weaker (λ m. HoldsHistory opening events vault.config m (ring_of vault m) (placed m) disk) (λ m. HoldsHistory opening (events ++ e ∷ []) vault.config m (ring_of vault m) (placed m) disk)
          (λ m h. history_silent vault.config m (ring_of vault m) (placed m) disk h) (members_on vault.rings) stands.media;
      level = stands.level;
      incidents_are = stands.incidents_are ∙ sym same_table;
      slots = stands.slots;
      version = stands.version;
      read_version = stands.read_version;
      table = stands.table;
      there = stands.there;
      goes_on = stands.goes_on ∙ sym same_next;
      newest = stands.newest ∙ ap (option_map of_stamp) (sym same_stamp);
      place = same_next ∙ stands.place;
      stamp = same_stamp ∙ stands.stamp;
    }
