-- What stays on the long-term medium while one incident slot is written.
use Rattle.std.proofs.Common.{Bool, ◌≡◌, inl, inr, ◌<◌, ◌≤◌, ℕ, List, length, get_or, [], ◌∷◌, sym, ap, ◌∙◌, subst, arith, zero, suc, ◌++◌, Option, Some, None, refl, ⊎_elim, Result, OnOk, All, option_map, ◌+◌, if◌then◌else◌, ◌≢◌}
use Rattle.vdr_outside.specs.Parts.{part}
use Rattle.vdr_config.specs.Configuration.{Configuration, IsConfiguration}
use Rattle.vdr_config.specs.Sizes.{sizes_of}
use Rattle.vdr_terms.specs.Slots.{slot_count}
use Rattle.vdr_directory.specs.Sequence.{Placed, all_records}
use Rattle.vdr_directory.specs.Holds.{HoldsPlaced}
use Rattle.vdr_incident.specs.Tables.{SameBesideSlot, HoldsBeside, HoldsEither, HoldsTable}
use Rattle.vdr_incident.proofs.Beside.{segments_beside}
use Rattle.vdr_ring.specs.Whole.{is_filled}
use Rattle.vdr_opening.specs.Media.{HasFront, IsMedium, AreThere, HoldsContents, slots_on}
use Rattle.vdr_vault.proofs.ShownImages.{front_as, RetainsGiven, shown_level}
use Rattle.std.specs.Prelude.{IfSome, ⊤}
use Rattle.std.proofs.Math.ListN.{length-set}
use Rattle.std.proofs.lemmas.Option.{none-some}
use Rattle.std.proofs.lemmas.List.Elements.{All-contains, All-set}
use Rattle.vdr_core.specs.Histories.{Event, Incident, Opening, incidents, live, records_of_act, with_slot, Settings, table_after}
use Rattle.vdr_durability.specs.Retention.{HoldsPlaces, Pin, at_places, Retains}
use Rattle.vdr_durability.specs.Victims.{SpansAtMost, ArePinsOf}
use Rattle.vdr_durability.proofs.Lists.{all_from}
use Rattle.vdr_durability.specs.Shown.{given_with, pins_of, pins_on}
use Rattle.vdr_durability.proofs.Shows.{OnSlot, slot_written as pins_written, incidents_with}
use Rattle.vdr_outside.specs.Disk.{Disk, Image, SameBut, content}
use Rattle.vdr_directory.specs.Lookup.{HoldAll}
use Rattle.vdr_vault.specs.Vaults.{VaultState, Stands, contents_of, ring_of, HoldsHistory, ShowsHistory, of_stamp}
use Rattle.vdr_vault.proofs.Kept.{filled_there}
use Rattle.vdr_terms.proofs.Results.{on_ok_both}
use Rattle.vdr_vault.specs.Saves.{Does}
use Rattle.vdr_terms.specs.Records.{Record}
use Rattle.vdr_terms.specs.Order.{AreInOrder}
use Rattle.vdr_durability.specs.Keeping.{ShowsEither}
use Rattle.vdr_outside.specs.Moments.{AtEachMoment, Changed, ChangesOnly, Settled}
use Rattle.vdr_outside.proofs.Moments.{now_after, moments_weaken, size_read}
use Rattle.vdr_media.proofs.Members.{of_all, of_each}
use Rattle.vdr_opening.specs.Answers.{further_on}
use Rattle.vdr_vault.proofs.Members.{at_one}
use Rattle.std.proofs.lemmas.Bool.{ne_eqb}
use Rattle.vdr_segment.specs.Slots.{place_of}
use Rattle.vdr_ring.specs.Rings.{RingState}
use Rattle.vdr_ring.specs.Openings.{IsRingOf}
use Rattle.vdr_vault.proofs.CommitAll.{history_meanwhile}
use Rattle.vdr_vault.proofs.ShownHistory.{durable_at, held_at, legible_at, same_given, same_next, same_stamp, sound_alone, stands_sound}
use Rattle.vdr_vault.proofs.Sounding.{IsSoundAlone, sound_level}
use Rattle.vdr_durability.specs.Soundness.{IsUnbroken}
use Rattle.vdr_vault.specs.Regularity.{AreSound}
use Rattle.vdr_directory.specs.Order.{AreInOrder as InOrder}
use Rattle.vdr_core.specs.Histories.Act.{Release}

module _ (slot : ℕ) (low : slot < 32) (old new : List ℕ) (beside : SameBesideSlot slot old new) where
  pub front_beside : (m : ℕ) (c : Configuration) (text : List ℕ) → HasFront m c text old → HasFront m c text new
  front_beside = front_as old new beside.size (λ from n le. beside.same from n (inl (omega (arith, le)))) (λ from n behind le. beside.same from n (inr (omega (arith, low, behind))))

  pub placed_beside : (segment count : ℕ) (placed : List Placed) → HoldsPlaced segment count placed old → HoldsPlaced segment count placed new
  placed_beside segment count placed h = record {
    slots = h.slots;
    all_slots = h.all_slots;
    holds = segments_beside slot segment h.slots old new low beside h.holds;
    sequence = h.sequence;
  }

  pub medium_beside : (m : ℕ) (c : Configuration) (text : List ℕ) (placed : List Placed) → IsMedium m c text placed old → IsMedium m c text placed new
  medium_beside m c text placed h = record {
    front = front_beside m c text h.front;
    segments = record {
      holds = subst (λ (n : ℕ). HoldsPlaced c.segment (slot_count c.segment n) placed new) (sym beside.size) (placed_beside c.segment (slot_count c.segment (length old)) placed h.segments.holds);
      order = h.segments.order;
    };
  }

  -- A segment's slot reads as it did.
  pub slot_beside : (from n : ℕ) → 32768 ≤ from → part new from n ≡ part old from n
  slot_beside from n behind = beside.same from n (inr (omega (arith, low, behind)))

-- A table with one slot written anew keeps what holds of each save.

there_written : (placed : List Placed) (table : List (Option Incident)) (id : ℕ) (slot : Option Incident) → IfSome slot (λ x. HoldAll x.a x.b placed) → AreThere table placed → AreThere (with_slot table id slot) placed
there_written placed table zero slot here h = h
there_written placed table (suc i) slot here h = All-set (λ slot. IfSome slot (λ x. HoldAll x.a x.b placed)) table i slot here h

size_written : (table : List (Option Incident)) (id : ℕ) (slot : Option Incident) → length (with_slot table id slot) ≡ length table
size_written table zero slot = refl
size_written table (suc i) slot = length-set table i slot

few_pins : (table : List (Option Incident)) → length (pins_of table) ≤ length table
few_pins [] = omega arith
few_pins (None ∷ table) = let a = few_pins table in omega (arith, a)
few_pins (Some x ∷ table) = let a = few_pins table in omega (arith, a)

-- The slot of a live save is one of the table.
pub live_within : (table : List (Option Incident)) (slot : ℕ) (x : Incident) → live table (suc slot) ≡ Some x → slot < length table
live_within [] slot x is = absurd (none-some x is)
live_within (s ∷ table) zero x is = omega arith
live_within (s ∷ table) (suc slot) x is = let a = live_within table slot x is in omega (arith, a)

-- An event that records nothing and leaves this table, and what the long-term medium has of it.
pub record IsWritten (opening : Opening) (events : List Event) (e : Event) (c : Configuration) (placed : List Placed) (after : List (Option Incident)) : Type 0 where
  pub silent : records_of_act e.act ≡ []
  pub table : incidents opening (events ++ e ∷ []) ≡ after
  pub size : length after ≡ c.incident_slots
  pub there : AreThere after placed
  pub places : All (λ pin. HoldsPlaces (given_with opening events 1) (all_records placed) pin.a pin.b) (pins_of after)
  pub pins : ArePinsOf (sizes_of c) 1 (all_records placed) (pins_of after)

-- What is asked of a slot that is written anew: nothing of a free one.
pub record MayStand (opening : Opening) (events : List Event) (seconds : ℕ) (placed : List Placed) (slot : Option Incident) : Type 0 where
  pub there : IfSome slot (λ x. HoldAll x.a x.b placed)
  pub places : OnSlot (λ pin. HoldsPlaces (given_with opening events 1) (all_records placed) pin.a pin.b) slot
  pub short : OnSlot (λ pin. SpansAtMost seconds (at_places pin.a pin.b (all_records placed))) slot

pub slot_written : {tells tells_images : Type 0} (opening : Opening) (events : List Event) (e : Event) (vault : VaultState) (placed : ℕ → List Placed) (disk : Disk tells tells_images)
    → Stands opening events vault placed disk → (id : ℕ) (slot : Option Incident) → records_of_act e.act ≡ [] → incidents opening (events ++ e ∷ []) ≡ with_slot (incidents opening events) id slot
    → MayStand opening events vault.config.incident_seconds (placed 1) slot
    → IsWritten opening events e vault.config (placed 1) (with_slot vault.table id slot)
slot_written opening events e vault placed disk stands id slot silent table may =
    let long_term = stands.media 1 1 (omega arith) in
    let same : with_slot vault.table id slot ≡ with_slot (incidents opening events) id slot = ap (λ (t : List (Option Incident)). with_slot t id slot) stands.incidents_are in
    subst (λ (t : List (Option Incident)). IsWritten opening events e vault.config (placed 1) t) (sym same) (record {
      silent = silent;
      table = table;
      size = size;
      there = there_written (placed 1) (incidents opening events) id slot may.there (subst (λ (t : List (Option Incident)). AreThere t (placed 1)) stands.incidents_are stands.there);
      places = pins_written Placed_there (incidents opening events) id slot may.places long_term.retains.places;
      pins = record {
        few = let few = few_pins (with_slot (incidents opening events) id slot) in omega (arith, few, size);
        short = λ pin there. All-contains Short (pins_of (with_slot (incidents opening events) id slot)) pin
            (pins_written Short (incidents opening events) id slot may.short (all_from Short (pins_of (incidents opening events)) (λ pin there. long_term.pins.short pin there))) there;
      };
    })
  where
    Placed_there : Pin → Type 0
    Placed_there pin = HoldsPlaces (given_with opening events 1) (all_records (placed 1)) pin.a pin.b

    Short : Pin → Type 0
    Short pin = SpansAtMost vault.config.incident_seconds (at_places pin.a pin.b (all_records (placed 1)))

    size : length (with_slot (incidents opening events) id slot) ≡ vault.config.incident_slots
    size = size_written (incidents opening events) id slot ∙ ap length (sym stands.incidents_are) ∙ stands.slots

-- A vault of which one incident slot is written: what each image shows, and how it stands then.

abbrev with_table : VaultState → List (Option Incident) → VaultState
with_table vault after = record vault { table = after }

-- A medium that is not the long-term one keeps no pins.
pins_none : (m : ℕ) → m ≢ 1 → (table : List (Option Incident)) → pins_on m table ≡ []
pins_none m apart table = ap (λ (b : Bool). if b then pins_of table else []) (ne_eqb m 1 apart)

module _ {tells tells_images : Type 0} (opening : Opening) (events : List Event) (e : Event) (vault : VaultState) (placed : ℕ → List Placed) (old : Disk tells tells_images)
    (stands : Stands opening events vault placed old) (after : List (Option Incident)) (written : IsWritten opening events e vault.config (placed 1) after) where
  abbrev with_event : List Event
  with_event = events ++ e ∷ []

  abbrev n : ℕ
  n = further_on vault.rings

  history : (k : ℕ) → k < 2 + n → HoldsHistory opening events vault.config k (ring_of vault k) (placed k) old
  history = of_each (λ k. HoldsHistory opening events vault.config k (ring_of vault k) (placed k) old) n stands.media

  long_term : HoldsHistory opening events vault.config 1 (ring_of vault 1) (placed 1) old
  long_term = stands.media 1 1 (omega arith)

  -- What each medium retains with the event.
  long_term_retains : RetainsGiven opening with_event (given_with opening with_event) placed 1
  long_term_retains = subst (λ (p : List Record × List (Option Incident)). Retains (opening.settings.seconds 1) (pins_of p.1) p.0 (all_records (placed 1)))
      (λ i. (sym (same_given opening events e written.silent 1) i, sym written.table i)) (record { window = long_term.retains.window; places = written.places })

  no_others : (m : ℕ) → m ≢ 1 → (one other : List (Option Incident)) → pins_on m one ≡ pins_on m other
  no_others m apart one other = pins_none m apart one ∙ sym (pins_none m apart other)

  retains_with : (m : ℕ) → m < 2 + n → RetainsGiven opening with_event (given_with opening with_event) placed m
  retains_with = at_one (λ m. m < 2 + n → RetainsGiven opening with_event (given_with opening with_event) placed m) 1 (λ _. long_term_retains)
      (λ m apart lt. subst (λ (p : List Record × List Pin). Retains (opening.settings.seconds m) p.1 p.0 (all_records (placed m)))
      (λ i. (sym (same_given opening events e written.silent m) i, no_others m apart (incidents opening events) (incidents opening with_event) i)) (history m lt).retains)

  pins_with : (m : ℕ) → m ≢ 1 → m < 2 + n → (table : List (Option Incident)) → ArePinsOf (sizes_of vault.config) m (all_records (placed m)) (pins_on m table)
  pins_with m apart lt table = subst (ArePinsOf (sizes_of vault.config) m (all_records (placed m))) (no_others m apart (incidents opening events) table) (history m lt).pins

  -- With the other table the media are as sound.
  written_sound : AreSound (contents_of opening vault placed after)
  written_sound = sound_level (contents_of opening vault placed after) (λ m. (ring_of vault m).slots)
      (of_all (λ m. is_filled (ring_of vault m).slots (placed m) ≡ is_filled (ring_of vault m).slots (placed m)) n (λ k lt. refl)) stands.level
      (of_all (λ m. InOrder (placed m)) n (λ k lt. (history k lt).reads.order))
      (at_one (λ k. k < 2 + n → IsSoundAlone vault.config k (ring_of vault k).slots (placed k) after (all_records (placed k))) 1
      (λ lt. record { regular = long_term.regular; pins = written.pins; unbroken = (alone 1 lt).unbroken; keeps = (alone 1 lt).keeps })
      (λ k apart lt. record { regular = (history k lt).regular; pins = pins_with k apart lt after; unbroken = (alone k lt).unbroken; keeps = (alone k lt).keeps }))
    where
      alone : (k : ℕ) → k < 2 + n → IsSoundAlone vault.config k (ring_of vault k).slots (placed k) vault.table (all_records (placed k))
      alone k lt = sound_alone opening events vault.config k (ring_of vault k) (placed k) vault.table old (history k lt) (ap (λ (s : Settings). s.seconds k) stands.settings) stands.incidents_are

  -- What an image holds of which the slot alone was written.
  module _ (slot : ℕ) (low : slot < 32) (P : List ℕ → Type 0) (i : Image) (changed : Changed 1 P old.now i) where
    told : tells
    told = (old.shown (old.told changed.image changed.was)).0

    holds : (table : List (Option Incident)) → AreThere table (placed 1) → HoldsBeside slot vault.config.incident_slots table (content old.reads 1) (content i 1)
        → HoldsContents i (contents_of opening vault placed table)
    holds table there h = record {
      further = stands.version changed.image changed.was;
      media = of_all (λ m. IsMedium m vault.config opening.settings.text (placed m) (content i m)) n (at_one (λ m. m < 2 + n → IsMedium m vault.config opening.settings.text (placed m) (content i m)) 1
          (λ _. medium_beside slot low (content old.reads 1) (content i 1) h.beside 1 vault.config opening.settings.text (placed 1)
          (subst (IsMedium 1 vault.config opening.settings.text (placed 1)) ((durable_at opening events vault.config 1 (ring_of vault 1) (placed 1) old long_term).each changed.image changed.was)
          (legible_at opening events vault.config 1 (ring_of vault 1) (placed 1) old long_term changed.image changed.was)))
          (λ m apart lt. subst (IsMedium m vault.config opening.settings.text (placed m)) (sym (changed.others m apart))
          (legible_at opening events vault.config m (ring_of vault m) (placed m) old (history m lt) changed.image changed.was)));
      table = h.holds;
      there = there;
      filled = of_all (λ m. is_filled (ring_of vault m).slots (placed m) ≡ is_filled (slots_on vault.config i m) (placed m)) n
          (λ k lt. filled_there vault.config old.sizes k (ring_of vault k) (placed k) (content i k) (history k lt).is_its (size_there k lt));
    }
      where
        size_there : (k : ℕ) → k < 2 + n → length (content i k) ≡ get_or old.sizes k 0
        size_there = at_one (λ k. k < 2 + n → length (content i k) ≡ get_or old.sizes k 0) 1 (λ _. h.beside.size ∙ size_read old 1 told)
            (λ k apart lt. ap length (changed.others k apart ∙ (durable_at opening events vault.config k (ring_of vault k) (placed k) old (history k lt)).each changed.image changed.was) ∙ size_read old k told)

    shows_before : HoldsBeside slot vault.config.incident_slots vault.table (content old.reads 1) (content i 1) → ShowsHistory opening events i
    shows_before h =
        shown_level opening events (contents_of opening vault placed vault.table) i (holds vault.table stands.there h)
        (stands_sound opening events vault placed old stands) refl
        stands.incidents_are stands.level (of_all (RetainsGiven opening events (given_with opening events) placed) n (λ k lt. (history k lt).retains))

    shows_after : HoldsBeside slot vault.config.incident_slots after (content old.reads 1) (content i 1) → ShowsHistory opening with_event i
    shows_after h =
        shown_level opening with_event (contents_of opening vault placed after) i (holds after written.there h)
        written_sound refl
        (sym written.table) stands.level (of_all (RetainsGiven opening with_event (given_with opening with_event) placed) n retains_with)

  written_moments : (slot : ℕ) → slot < 32 → (new : Disk tells tells_images)
      → ChangesOnly 1 (HoldsEither slot vault.config.incident_slots vault.table after (content old.reads 1)) old new
      → AtEachMoment old new (ShowsEither (ShowsHistory opening) events e old.now)
  written_moments slot low new moments = moments_weaken old new _ _ moments (λ i changed.
      inr (⊎_elim
      (λ (h : HoldsBeside slot vault.config.incident_slots vault.table (content old.reads 1) (content i 1)). inl (shows_before slot low _ i changed h))
      (λ (h : HoldsBeside slot vault.config.incident_slots after (content old.reads 1) (content i 1)). inr (shows_after slot low _ i changed h))
      changed.has))

  -- A medium with the event.
  with_history : (m : ℕ) (ring : RingState) (disk : Disk tells tells_images) → HoldsHistory opening events vault.config m ring (placed m) disk
      → RetainsGiven opening with_event (given_with opening with_event) placed m → ArePinsOf (sizes_of vault.config) m (all_records (placed m)) (pins_on m (incidents opening with_event))
      → HoldsHistory opening with_event vault.config m ring (placed m) disk
  with_history m ring disk h retains pins = record {
    is_its = h.is_its;
    reads = h.reads;
    front = h.front;
    regular = h.regular;
    order = subst AreInOrder (sym (same_given opening events e written.silent m)) h.order;
    retains = retains;
    pins = pins;
    unbroken = subst (IsUnbroken (opening.settings.seconds m)) (sym (same_given opening events e written.silent m)) h.unbroken;
    keeps = h.keeps;
  }

  -- Once it is written.
  module _ (slot : ℕ) (low : slot < 32) (P : List ℕ → Type 0) (new : Disk tells tells_images) (moments : ChangesOnly 1 P old new) (others : tells → SameBut 1 old.reads new.reads)
      (sizes : new.sizes ≡ old.sizes) (settled : Settled 1 (HoldsBeside slot vault.config.incident_slots after (content old.reads 1)) new) where
    its : (ring_of vault 1).medium ≡ 1
    its = long_term.is_its.medium

    long_term_now : HoldsHistory opening events vault.config 1 (ring_of vault 1) (placed 1) new
    long_term_now = record {
      is_its = subst (λ (s : List ℕ). IsRingOf vault.config s 1 (ring_of vault 1)) (sym sizes) long_term.is_its;
      reads = record {
        settled = subst (λ (k : ℕ). Settled k (HoldsPlaced (ring_of vault 1).segment (ring_of vault 1).slots (placed 1)) new) (sym its) (record {
          durable = settled.durable;
          reads = λ told. placed_beside slot low (content old.reads 1) (content new.reads 1) (settled.reads told).beside (ring_of vault 1).segment (ring_of vault 1).slots (placed 1)
              (held_at opening events vault.config 1 (ring_of vault 1) (placed 1) old long_term told);
        });
        order = long_term.reads.order;
        directory = long_term.reads.directory;
        loaded = λ j is told.
            long_term.reads.loaded j is told
            ∙ subst (λ (k : ℕ). part (content old.reads k) (place_of (ring_of vault 1).segment j) (ring_of vault 1).segment ≡ part (content new.reads k) (place_of (ring_of vault 1).segment j) (ring_of vault 1).segment)
            (sym its)
            (sym (slot_beside slot low (content old.reads 1) (content new.reads 1) (settled.reads told).beside (place_of (ring_of vault 1).segment j) (ring_of vault 1).segment (omega arith)));
        bare = long_term.reads.bare;
      };
      front = λ told. front_beside slot low (content old.reads 1) (content new.reads 1) (settled.reads told).beside 1 vault.config opening.settings.text (long_term.front told);
      regular = long_term.regular;
      order = long_term.order;
      retains = long_term.retains;
      pins = long_term.pins;
      unbroken = long_term.unbroken;
      keeps = long_term.keeps;
    }

    written_stands : Stands opening with_event (with_table vault after) placed new
    written_stands = record {
      settings = stands.settings;
      working = stands.working;
      media = of_all (λ m. HoldsHistory opening with_event vault.config m (ring_of vault m) (placed m) new) n (at_one (λ m. m < 2 + n → HoldsHistory opening with_event vault.config m (ring_of vault m) (placed m) new) 1
          (λ lt. with_history 1 (ring_of vault 1) new long_term_now long_term_retains
          (subst (λ (t : List (Option Incident)). ArePinsOf (sizes_of vault.config) 1 (all_records (placed 1)) (pins_of t)) (sym written.table) written.pins))
          (λ m apart lt. with_history m (ring_of vault m) new (history_meanwhile opening events vault.config 1 m (ring_of vault m) (placed m) P old new apart moments others sizes (history m lt)) (retains_with m lt)
          (pins_with m apart lt (incidents opening with_event))));
      level = stands.level;
      incidents_are = sym written.table;
      slots = written.size;
      version = λ i there. let changed = now_after old new _ moments i there in stands.version changed.image changed.was;
      read_version = λ told. stands.read_version told;
      table = λ told. (settled.reads told).holds;
      there = written.there;
      goes_on = stands.goes_on ∙ sym (same_next opening events e written.silent);
      newest = stands.newest ∙ ap (option_map of_stamp) (sym (same_stamp opening events e written.silent));
      place = same_next opening events e written.silent ∙ stands.place;
      stamp = same_stamp opening events e written.silent ∙ stands.stamp;
    }

  -- What a call has done that writes it.
  pub written_does : {T E : Type 0} (slot : ℕ) → slot < 32 → (new : Disk tells tells_images) (result : Result T E) (now : List (Option Incident))
      → ChangesOnly 1 (HoldsEither slot vault.config.incident_slots vault.table after (content old.reads 1)) old new → (tells → SameBut 1 old.reads new.reads) → new.sizes ≡ old.sizes
      → OnOk result (Settled 1 (HoldsBeside slot vault.config.incident_slots after (content old.reads 1)) new) → OnOk result (now ≡ after)
      → Does opening events e placed (record vault { table = now }) old new result
  written_does slot low new result now changes others sizes settled is_table = record {
    moments = written_moments slot low new changes;
    done = on_ok_both result
        (λ held same. subst (λ (t : List (Option Incident)). Stands opening with_event (record vault { table = t }) placed new) (sym same) (written_stands slot low _ new changes others sizes held)) settled is_table;
  }

-- A save is released.

module _ {tells tells_images : Type 0} (opening : Opening) (events : List Event) (vault : VaultState) (placed : ℕ → List Placed) (old : Disk tells tells_images)
    (stands : Stands opening events vault placed old) (legal : IsConfiguration vault.config) where
  -- The table stands on the long-term medium.
  pub table_settled : Settled 1 (HoldsTable vault.config.incident_slots vault.table) old
  table_settled = record {
    durable = durable_at opening events vault.config 1 (ring_of vault 1) (placed 1) old (stands.media 1 1 (omega arith));
    reads = stands.table;
  }

  module _ (e : Event) (id : ℕ) (saved : Incident) (lives : live vault.table id ≡ Some saved) (is : e.act ≡ Release id) where
    silent : records_of_act e.act ≡ []
    silent = ap records_of_act is

    table : incidents opening (events ++ e ∷ []) ≡ with_slot (incidents opening events) id None
    table = incidents_with opening events e ∙ ap (table_after (given_with opening events 1) (incidents opening events)) is

    written : IsWritten opening events e vault.config (placed 1) (with_slot vault.table id None)
    written = slot_written opening events e vault placed old stands id None silent table (record { there = tt; places = tt; short = tt })

    slot_of : (n : ℕ) → live vault.table n ≡ Some saved → (slot : ℕ) × (n ≡ suc slot) × (slot < 32)
    slot_of zero is = absurd (none-some saved is)
    slot_of (suc slot) is =
        let within = live_within vault.table slot saved is in
        let all = stands.slots in
        let few = legal.slots_high in
        (slot, refl, omega (arith, within, all, few))

    -- What `Table::release` says of it.
    pub released : (new : Disk tells tells_images) {E : Type 0} (result : Result ⊤ E) (now : List (Option Incident))
        → ((slots slot : ℕ) (x : Incident) → Settled 1 (HoldsTable slots vault.table) old → id ≡ suc slot → live vault.table id ≡ Some x
        → ChangesOnly 1 (HoldsEither slot slots vault.table (with_slot vault.table id None) (content old.reads 1)) old new)
        → ((slots slot : ℕ) (x : Incident) → Settled 1 (HoldsTable slots vault.table) old → id ≡ suc slot → live vault.table id ≡ Some x
        → OnOk result (Settled 1 (HoldsBeside slot slots (with_slot vault.table id None) (content old.reads 1)) new))
        → (tells → SameBut 1 old.reads new.reads) → new.sizes ≡ old.sizes
        → OnOk result (now ≡ with_slot vault.table id None)
        → Does opening events e placed (record vault { table = now }) old new result
    released new result now moments settled others sizes is_table =
        let s = slot_of id lives in
        written_does opening events e vault placed old stands (with_slot vault.table id None) written s.0 s.2 new result now (moments vault.config.incident_slots s.0 saved table_settled s.1 lives) others sizes
        (settled vault.config.incident_slots s.0 saved table_settled s.1 lives) is_table
