-- What each image shows while a batch goes to one medium after the other.
use Rattle.std.proofs.Common.{◌≡◌, ◌⊎◌, inl, inr, ◌<◌, ℕ, List, [], ◌∷◌, length, All, Option, sym, ◌∙◌, subst, true, refl, ◌≤◌, Contains, ◌++◌, Some, ap, arith, take, drop, ◌+◌}
use Rattle.vdr_terms.specs.Needs.{Sizes}
use Rattle.vdr_terms.specs.Order.{RunOn}
use Rattle.vdr_terms.specs.Records.{Record, last}
use Rattle.vdr_core.specs.Histories.{Event, Opening, next_place, Incident, incidents}
use Rattle.vdr_durability.specs.Regular.{FollowOn}
use Rattle.vdr_durability.specs.Retention.{Pin, Retains, at_places, within}
use Rattle.vdr_durability.specs.Readings.{next_after, ends_before}
use Rattle.vdr_durability.specs.Shown.{given_with, pins_on}
use Rattle.vdr_outside.specs.Disk.{Disk, Image, content}
use Rattle.vdr_outside.proofs.Moments.{size_read}
use Rattle.vdr_config.specs.Configuration.{Configuration}
use Rattle.vdr_segment.specs.Slots.{SameFront}
use Rattle.vdr_directory.specs.Sequence.{Placed, all_records, batches_in}
use Rattle.vdr_directory.specs.Order.{AreInOrder}
use Rattle.vdr_directory.specs.Holds.{HoldsPlaced}
use Rattle.vdr_ring.specs.Rings.{RingState}
use Rattle.vdr_ring.specs.Whole.{KeepsAll, is_filled}
use Rattle.vdr_ring.proofs.KeptPlaces.{begins_whole, kept_with}
use Rattle.vdr_opening.specs.Media.{further_in, members_with, IsMedium, AreThere, Contents, HoldsContents, reading_of, slots_on}
use Rattle.vdr_vault.specs.Vaults.{HoldsHistory, ShowsHistory}
use Rattle.vdr_ring.specs.Taking.{Lacks, Has}
use Rattle.vdr_vault.specs.Passes.{Passes}
use Rattle.vdr_ring.proofs.Allowed.{IsBefore, IsReady, IsAfter, done_after}
use Rattle.vdr_vault.proofs.ShownImages.{front_stays, table_stays, placed_there, RetainsGiven, shown_level, shown_passed}
use Rattle.std.proofs.lemmas.List.Elements.{All-contains, Contains-append_left}
use Rattle.std.proofs.lemmas.List.{take-append-drop}
use Rattle.vdr_core.specs.Histories.Act.{Commit}
use Rattle.vdr_core.specs.Taken.{Captured}
use Rattle.vdr_durability.proofs.Lists.{contains_filter, filter_test, filter_was}
use Rattle.vdr_incident.specs.Tables.{HoldsTable}
use Rattle.vdr_vault.proofs.Members.{chosen, chosen_is}
use Rattle.vdr_ring.proofs.Pinned.{HoldPins}
use Rattle.vdr_ring.proofs.Continuing.{waits}
use Rattle.vdr_vault.proofs.CommitReady.{are_there}
use Rattle.vdr_vault.proofs.Kept.{filled_there, keeps_window}
use Rattle.vdr_vault.proofs.Sounding.{AreFilled, IsSoundAlone, sound_level, sound_passed, unbroken_waiting}
use Rattle.vdr_durability.proofs.Unbroken.{unbroken_follows, unbroken_held}
use Rattle.vdr_durability.specs.Soundness.{IsUnbroken}
use Rattle.vdr_ring.proofs.Medium.{in_order_records}
use Rattle.vdr_config.specs.Sizes.{sizes_of, window_of}
use Rattle.vdr_durability.specs.Victims.{ArePinsOf}
use Rattle.vdr_media.proofs.Members.{front_numbers, front_of, numbers, of_all, of_each, rest_of}
use Rattle.vdr_durability.specs.Regular.{IsPaced}
use Rattle.vdr_terms.specs.Needs.{cost}
use Rattle.vdr_directory.specs.Sequence.{segments_in}
use Rattle.vdr_durability.specs.Readings.{IsPassedOn}
use Rattle.std.proofs.lemmas.Bool.{cases_eq, cases_lt}
use Rattle.vdr_durability.proofs.Restored.{follow_is_in_order}
use Rattle.vdr_durability.proofs.Following.{follow_in_order}
use Rattle.vdr_ring.proofs.Lacking.{HoldsBefore, before_of}

-- The numbers that a batch from the next place on meets.
pub record MeetsEnds (n : ℕ) (opening : Opening) (events : List Event) (placed : ℕ → List Placed) (records : List Record) : Type 0 where
  pub run : RunOn (next_place opening events) records
  pub some : 0 < length records
  pub level : (k : ℕ) → k < 2 + n → last (batches_in (placed k)) ≡ last (batches_in (placed 0))
  pub next : (k : ℕ) → k < 2 + n → next_after (last (all_records (placed k))) ≡ next_place opening events
  pub follow : All (λ m. FollowOn (last (given_with opening events m)) records) (members_with n)

module _ {tells tells_images : Type 0} where
  module _ (opening : Opening) (events : List Event) (c : Configuration) (m : ℕ) (ring : RingState) (placed : List Placed) (disk : Disk tells tells_images) (h : HoldsHistory opening events c m ring placed disk) where
    -- A medium is legible with these segments, where nothing before its slots was touched.
    pub legible_with : (told : tells) (now : List Placed) (bytes : List ℕ) → SameFront (content disk.reads m) bytes → HoldsPlaced ring.segment ring.slots now bytes → AreInOrder now → IsMedium m c opening.settings.text now bytes
    legible_with told now bytes same holds order = record {
      front = front_stays (content disk.reads m) bytes same m c opening.settings.text (h.front told);
      segments = record {
        holds = placed_there c disk.sizes m ring now bytes h.is_its (same.size ∙ size_read disk m told) holds;
        order = order;
      };
    }

-- What an image shows while a batch goes to one medium after the other.

-- What the media hold with these segments.
abbrev contents : (n : ℕ) → Opening → Configuration → (count : ℕ → ℕ) → List (Option Incident) → (ℕ → List Placed) → Contents
contents n opening c count table now = record { further = n; config = c; text = opening.settings.text; placed = now; table = table; filled = λ m. is_filled (count m) (now m) }

-- Pins of more records are those of fewer.
fewer_pins : (sizes : Sizes) (m : ℕ) (held more : List Record) (pins : List Pin) → ArePinsOf sizes m (held ++ more) pins → ArePinsOf sizes m held pins
fewer_pins sizes m held more pins h = record { few = h.few; short = λ pin there r s k l. h.short pin there r s (widen pin r k) (widen pin s l) }
  where
    widen : (pin : Pin) (r : Record) → Contains (at_places pin.a pin.b held) r → Contains (at_places pin.a pin.b (held ++ more)) r
    widen pin r k = contains_filter (within pin.a pin.b) (held ++ more) r (Contains-append_left held more r (filter_was (within pin.a pin.b) held r k)) (filter_test (within pin.a pin.b) held r k)

-- The image shows the events, or these with one more.
abbrev pub ShowsOneOf : Opening → List Event → Event → Image → Type 0
ShowsOneOf opening events e i = ShowsHistory opening events i ⊎ ShowsHistory opening (events ++ e ∷ []) i

module _ (n : ℕ) (opening : Opening) (events : List Event) (c : Configuration) (table : List (Option Incident)) (is_table : table ≡ incidents opening events) (few : c.incident_slots ≤ 32)
    (e : Event) (records : List Record) (taken : List Captured) (is : e.act ≡ Commit records taken) (placed : ℕ → List Placed) (meets : MeetsEnds n opening events placed records)
    (windows : (m : ℕ) → opening.settings.seconds m ≡ window_of c m) (roomy : (m : ℕ) → 0 < opening.settings.seconds m) where
  -- One medium after the other is given it.
  module _ {tells tells_images : Type 0} (ring : ℕ → RingState) (old : Disk tells tells_images) (history : (k : ℕ) → k < 2 + n → HoldsHistory opening events c k (ring k) (placed k) old)
      (window : (k : ℕ) → k < 2 + n → (ring k).seconds ≡ opening.settings.seconds k)
      (ready : (k : ℕ) → k < 2 + n → IsReady (sizes_of c) k (ring k).segment (ring k).slots (ring k).seconds (pins_on k (incidents opening events)) (given_with opening events k) records (placed k))
      (first : ℕ) (told : tells) (held : HoldsTable c.incident_slots table (content old.reads 1)) where
    abbrev count : ℕ → ℕ
    count k = (ring k).slots

    abbrev LacksIt : ℕ → List ℕ → Type 0
    LacksIt k = Lacks true (ring k) (pins_on k (incidents opening events)) (placed k) first records (content old.reads k)

    abbrev HasIt : ℕ → List ℕ → Type 0
    HasIt k = Has true (ring k) (pins_on k (incidents opening events)) (placed k) first records (content old.reads k)

    abbrev Before : ℕ → List ℕ → Type 0
    Before k = HoldsBefore (sizes_of c) k (ring k) (pins_on k (incidents opening events)) (given_with opening events k) records (placed k)

    module _ (k : ℕ) (lt : k < 2 + n) where
      follow : FollowOn (last (given_with opening events k)) records
      follow = of_each (λ m. FollowOn (last (given_with opening events m)) records) n meets.follow k lt

      before : (bytes : List ℕ) → LacksIt k bytes → Before k bytes
      before bytes l = before_of (sizes_of c) k (ring k) (pins_on k (incidents opening events)) (given_with opening events k) records (placed k) first (ready k lt) (content old.reads k) bytes l

      after : (bytes : List ℕ) (h : HasIt k bytes) → IsAfter (sizes_of c) k (ring k).seconds (pins_on k (incidents opening events)) (given_with opening events k) records (placed k) h.now
      after bytes h = done_after (sizes_of c) k (ring k).segment (ring k).slots (ring k).seconds (pins_on k (incidents opening events)) (given_with opening events k) records (placed k) first (ready k lt) h.stages h.are h.now h.stage

      before_retains : (now : List Placed) → IsBefore (ring k).seconds (pins_on k (incidents opening events)) (given_with opening events k) (placed k) now → RetainsGiven opening events (given_with opening events) (λ _. now) k
      before_retains now b = subst (λ (n : ℕ). Retains n (pins_on k (incidents opening events)) (given_with opening events k) (all_records now)) (window k lt) b.retains

      after_retains : (bytes : List ℕ) (h : HasIt k bytes) → RetainsGiven opening events (λ m. given_with opening events m ++ records) (λ _. h.now) k
      after_retains bytes h = subst (λ (n : ℕ). Retains n (pins_on k (incidents opening events)) (given_with opening events k ++ records) (all_records h.now)) (window k lt) (after bytes h).retains

      -- No place is skipped, with the batch either.
      unbroken_with : IsUnbroken (opening.settings.seconds k) (given_with opening events k ++ records)
      unbroken_with = unbroken_follows (opening.settings.seconds k) (given_with opening events k) records (roomy k) (history k lt).order follow (history k lt).unbroken

      -- It is sound by itself: lacking the batch as it is and with it, and having it.
      before_keeps : (bytes : List ℕ) (b : Before k bytes) → KeepsAll (window_of c k) (count k) b.now
      before_keeps bytes b = keeps_window c old.sizes k (ring k) b.now (history k lt).is_its (b.keeps (history k lt).keeps)

      before_sound : (bytes : List ℕ) (b : Before k bytes) → IsSoundAlone c k (count k) b.now table (all_records b.now)
      before_sound bytes b = record {
        keeps = before_keeps bytes b;
        regular = b.stays.regular;
        pins = subst (λ (t : List (Option Incident)). ArePinsOf (sizes_of c) k (all_records b.now) (pins_on k t)) (sym is_table) (fewer_pins (sizes_of c) k (all_records b.now) records (pins_on k (incidents opening events)) b.stays.pins_with);
        unbroken = subst (λ (n : ℕ). IsUnbroken n (all_records b.now)) (windows k)
            (unbroken_held (opening.settings.seconds k) (given_with opening events k) (all_records b.now) (history k lt).order (in_order_records b.now b.order) (before_retains b.now b.before).window (history k lt).unbroken);
      }

      lacking_sound : (bytes : List ℕ) (b : Before k bytes) → IsSoundAlone c k (count k) b.now table (all_records b.now ++ records)
      lacking_sound bytes b = record {
        keeps = before_keeps bytes b;
        regular = b.stays.regular;
        pins = subst (λ (t : List (Option Incident)). ArePinsOf (sizes_of c) k (all_records b.now ++ records) (pins_on k t)) (sym is_table) b.stays.pins_with;
        unbroken = subst (λ (n : ℕ). IsUnbroken n (all_records b.now ++ records)) (windows k)
            (unbroken_waiting (opening.settings.seconds k) (given_with opening events k) (all_records b.now) records (history k lt).order (in_order_records b.now b.order) follow b.stays.paced.order (pins_on k (incidents opening events))
            (before_retains b.now b.before) unbroken_with);
      }

      next_at : next_after (last (all_records (placed k))) ≡ next_place opening events
      next_at = meets.next k lt

      having_sound : (bytes : List ℕ) (h : HasIt k bytes) → IsSoundAlone c k (count k) h.now table (all_records h.now)
      having_sound bytes h = record {
        keeps = keeps_window c old.sizes k (ring k) h.now (history k lt).is_its
            (kept_with (sizes_of c) k (ring k).segment (ring k).slots (ring k).seconds (pins_on k (incidents opening events)) (given_with opening events k) records (placed k) first (ready k lt) h.stages h.are h.now h.stage
            (begins_whole (placed k) (next_place opening events) records next_at meets.run) (history k lt).keeps);
        regular = (after bytes h).regular;
        pins = subst (λ (t : List (Option Incident)). ArePinsOf (sizes_of c) k (all_records h.now) (pins_on k t)) (sym is_table) (after bytes h).pins_are;
        unbroken = subst (λ (n : ℕ). IsUnbroken n (all_records h.now)) (windows k)
            (unbroken_held (opening.settings.seconds k) (given_with opening events k ++ records) (all_records h.now) (follow_in_order (given_with opening events k) records (history k lt).order follow)
            (in_order_records h.now (h.order refl)) (after_retains bytes h).window unbroken_with);
      }

      waits_for : (bytes : List ℕ) (b : Before k bytes) → next_after (last (all_records (placed k))) ≡ next_place opening events → ends_before (Some records) (batches_in b.now) ≡ true
      waits_for bytes b next = waits b.now records (next_place opening events)
          (ap next_after (b.before.retains.window.newest ∙ sym (history k lt).retains.window.newest) ∙ next) meets.run meets.some b.stays.paced.order

    -- What medium k has where it has the batch, and where it waits for it.
    record Given (k : ℕ) (now : List Placed) : Type 0 where
      pub ends : last (batches_in now) ≡ Some records
      pub retains : RetainsGiven opening events (λ m. given_with opening events m ++ records) (λ _. now) k
      pub alone : IsSoundAlone c k (count k) now table (all_records now)

    record Waiting (k : ℕ) (now : List Placed) : Type 0 where
      pub ends : last (batches_in now) ≡ last (batches_in (placed k))
      pub waits : ends_before (Some records) (batches_in now) ≡ true
      pub retains : RetainsGiven opening events (given_with opening events) (λ _. now) k
      pub alone : IsSoundAlone c k (count k) now table (all_records now)
      pub with_it : IsSoundAlone c k (count k) now table (all_records now ++ records)
      pub paced : IsPaced (cost (sizes_of c)) c.batch (segments_in now) records

    record Stage (i : Image) (given k : ℕ) (now : List Placed) : Type 0 where
      pub legal : IsMedium k c opening.settings.text now (content i k)
      pub front : SameFront (content old.reads k) (content i k)
      pub order : AreInOrder now
      pub pinned : HoldPins (pins_on k (incidents opening events)) now
      pub has : k < given → Given k now
      pub lacks : given ≤ k → Waiting k now

    stage_at : (i : Image) (given : ℕ) → ((k : ℕ) → k < given → HasIt k (content i k)) → ((k : ℕ) → given ≤ k → k < 2 + n → LacksIt k (content i k)) → (k : ℕ) → k < 2 + n → (now : List Placed) × Stage i given k now
    stage_at i given has lack k lt = elim (cases_lt k given) [
      | inl below ↦
          let h = has k below in
          let done = after k lt (content i k) h in (
            h.now,
            record {
              legal = legible_with opening events c k (ring k) (placed k) old (history k lt) told h.now (content i k) h.front h.holds (h.order refl);
              front = h.front;
              order = h.order refl;
              pinned = done.pinned;
              has = λ _. record { ends = done.ends; retains = after_retains k lt (content i k) h; alone = having_sound k lt (content i k) h };
              lacks = λ above. absurd (omega (arith, above, below));
            },
          )
      | inr above ↦
          let l = lack k above lt in
          let y = before k lt (content i k) l in (
            y.now,
            record {
              legal = legible_with opening events c k (ring k) (placed k) old (history k lt) told y.now (content i k) l.front y.holds y.order;
              front = l.front;
              order = y.order;
              pinned = y.before.pinned;
              has = λ below. absurd (omega (arith, above, below));
              lacks = λ _. record {
                ends = y.before.ends;
                waits = waits_for k lt (content i k) y (meets.next k lt);
                retains = before_retains k lt y.now y.before;
                alone = before_sound k lt (content i k) y;
                with_it = lacking_sound k lt (content i k) y;
                paced = y.stays.paced;
              };
            },
          )
    ]

    -- Media of which so many have it, by the segments of each.
    module _ (i : Image) (version : n ≡ further_in i) (given : ℕ) (within : given ≤ 2 + n) (now : ℕ → List Placed) (stage : (k : ℕ) → k < 2 + n → Stage i given k (now k)) where
      abbrev x : Contents
      x = contents n opening c count table now

      holds : HoldsContents i x
      holds = record {
        further = version;
        media = of_all (λ m. IsMedium m c opening.settings.text (now m) (content i m)) n (λ k lt. (stage k lt).legal);
        table = table_stays (content old.reads 1) (content i 1) (stage 1 (omega arith)).front c.incident_slots table few held;
        there = subst (λ (t : List (Option Incident)). AreThere t (now 1)) (sym is_table) (are_there (incidents opening events) (now 1) (stage 1 (omega arith)).pinned);
        filled = of_all (λ m. is_filled (count m) (now m) ≡ is_filled (slots_on c i m) (now m)) n
            (λ k lt. filled_there c old.sizes k (ring k) (now k) (content i k) (history k lt).is_its ((stage k lt).front.size ∙ size_read old k told));
      }

      are_filled : AreFilled x count
      are_filled = of_all (λ m. is_filled (count m) (now m) ≡ is_filled (count m) (now m)) n (λ k lt. refl)

      -- None has it.
      none_has : given ≡ 0 → ShowsHistory opening events i
      none_has none =
          let lacking : (k : ℕ) → k < 2 + n → Waiting k (now k) = λ k lt. (stage k lt).lacks (omega (arith, none)) in
          let level = of_all (λ m. last (batches_in (now m)) ≡ last (batches_in (now 0))) n (λ k lt. (lacking k lt).ends ∙ meets.level k lt ∙ sym (lacking 0 (omega arith)).ends) in
          shown_level opening events x i holds
          (sound_level x count are_filled level (of_all (λ m. AreInOrder (now m)) n (λ k lt. (stage k lt).order)) (λ k lt. (lacking k lt).alone))
          refl is_table level
          (of_all (RetainsGiven opening events (given_with opening events) now) n (λ k lt. (lacking k lt).retains))

      -- The first have it.
      some_have : 1 ≤ given → ShowsHistory opening (events ++ e ∷ []) i
      some_have some =
          let ms = members_with n in
          let is_numbers = numbers n in
          let size = (front_numbers is_numbers given within).size in
          let has : (k : ℕ) → k < given → Given k (now k) = λ k lt. (stage k (omega (arith, lt, within))).has lt in
          let lacking : (k : ℕ) → given ≤ k → k < 2 + n → Waiting k (now k) = λ k above lt. (stage k lt).lacks above in
          let passed : IsPassedOn ms (take given ms) (drop given ms) records (reading_of x) = record {
            split = sym (take-append-drop given ms);
            some = omega (arith, size, some);
            given_end = front_of is_numbers (λ m. last (batches_in (now m)) ≡ Some records) given within (λ k lt. (has k lt).ends);
            waiting_end = rest_of is_numbers (λ m. ends_before (Some records) (batches_in (now m)) ≡ true) given (λ k above lt. (lacking k above lt).waits);
          } in
          let ordered = follow_is_in_order (last (given_with opening events 0)) records (of_each (λ m. FollowOn (last (given_with opening events m)) records) n meets.follow 0 (omega arith)) in
          shown_passed opening events x i holds
          (sound_passed x count (take given ms) (drop given ms) records are_filled passed ordered
          (rest_of is_numbers (λ m. IsPaced (cost (sizes_of c)) c.batch (segments_in (now m)) records) given (λ k above lt. (lacking k above lt).paced))
          (λ m there. (has m (All-contains (λ k. k < given) (take given ms) m (front_of is_numbers (λ k. k < given) given within (λ k lt. lt)) there)).alone)
          (λ m there.
          let side = All-contains (λ k. (given ≤ k) × (k < 2 + n)) (drop given ms) m (rest_of is_numbers (λ k. (given ≤ k) × (k < 2 + n)) given (λ k above lt. (above, lt))) there in
          (lacking m side.0 side.1).with_it))
          refl is_table e records taken (take given ms) (drop given ms) is passed meets.follow
          (front_of is_numbers (RetainsGiven opening events (λ m. given_with opening events m ++ records) now) given within (λ k lt. (has k lt).retains))
          (rest_of is_numbers (RetainsGiven opening events (given_with opening events) now) given (λ k above lt. (lacking k above lt).retains))

    -- At each moment the events are shown, or these with the commit.
    pub passing_shows : (i : Image) → n ≡ further_in i → (count : ℕ) → count ≡ 2 + n → Passes LacksIt HasIt 0 count old.now i → ShowsOneOf opening events e i
    passing_shows i version count is_count p =
        let stages = stage_at i p.given (λ k lt. p.has k (omega arith) lt) (λ k above lt. p.lack k above (omega (arith, lt, is_count))) in
        let below = p.below in
        let now = chosen [] (Stage i p.given) (2 + n) stages in
        let are = chosen_is [] (Stage i p.given) (2 + n) stages in
        elim (cases_eq p.given 0) [
          | inl none ↦ inl (none_has i version p.given (omega (arith, below, is_count)) now are none)
          | inr some ↦ inr (some_have i version p.given (omega (arith, below, is_count)) now are (grind (arith, some)))
        ]
