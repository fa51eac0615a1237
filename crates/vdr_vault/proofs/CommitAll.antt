-- A vault stands with a batch, once both media have it.
use Rattle.std.proofs.Common.{◌≡◌, ◌≢◌, ◌+◌, ◌-◌, ◌<◌, ℕ, ℤ, suc, List, [], ◌∷◌, ◌++◌, length, get_or, Option, Some, None, option_map, refl, sym, ap, ◌∙◌, subst, arith, length-append, inr, Bool, true, false, Result, Ok, ◌≤◌, Err, zero, All, if◌then◌else◌}
use Rattle.std.proofs.lemmas.Option.{none-some}
use Rattle.vdr_terms.specs.Order.{AreInOrder, RunOn}
use Rattle.vdr_terms.specs.Records.{Record, last}
use Rattle.vdr_core.specs.Histories.{Act, Event, Incident, Opening, all_records as all_given, incidents, last_stamp, next_place, recorded, records_of_act, stamp_of, table_after, Settings}
use Rattle.vdr_core.specs.Histories.Act.{Commit}
use Rattle.vdr_core.specs.Taken.{Captured}
use Rattle.vdr_durability.specs.Regular.{FollowOn, IsPaced}
use Rattle.vdr_durability.specs.Retention.{Retains, Pin}
use Rattle.vdr_durability.specs.Victims.{ArePinsOf}
use Rattle.vdr_durability.proofs.Following.{follow_in_order}
use Rattle.vdr_durability.specs.Readings.{next_after}
use Rattle.vdr_durability.specs.Shown.{given_with, pins_on, pins_of}
use Rattle.vdr_durability.proofs.Shows.{all_records_with, incidents_with, recorded_with}
use Rattle.std.proofs.lemmas.Bool.{ne_eqb}
use Rattle.vdr_outside.specs.Disk.{Disk, Image, SameBut, content}
use Rattle.vdr_outside.specs.Moments.{ChangesOnly, AtEachMoment}
use Rattle.vdr_outside.proofs.Moments.{moments_weaken, now_after}
use Rattle.vdr_config.specs.Configuration.{Configuration, IsConfiguration}
use Rattle.vdr_config.specs.Sizes.{sizes_of, window_of}
use Rattle.vdr_segment.specs.Slots.{SameFront}
use Rattle.vdr_directory.specs.Sequence.{Placed, all_records, batches_in, segments_in}
use Rattle.vdr_ring.specs.Rings.{RingState}
use Rattle.vdr_ring.specs.Rings as rings
use Rattle.vdr_directory.proofs.Runs.{last_index, after_last}
use Rattle.vdr_opening.specs.Media.{HasFront, AreThere}
use Rattle.vdr_opening.specs.Answers.{AreRingsOf, ring_at, further_on, members_on}
use Rattle.vdr_ring.specs.Openings.{IsRingOf}
use Rattle.vdr_durability.specs.Soundness.{IsUnbroken}
use Rattle.vdr_durability.proofs.Unbroken.{unbroken_follows}
use Rattle.vdr_vault.specs.Vaults.{HoldsHistory, of_stamp, tick_utc, VaultState, ShowsHistory, Stands, ring_of, working_from}
use Rattle.vdr_ring.specs.Whole.{KeepsAll}
use Rattle.vdr_ring.proofs.KeptPlaces.{begins_whole, kept_with}
use Rattle.vdr_vault.proofs.Kept.{keeps_after}
use Rattle.vdr_ring.proofs.Allowed.{IsAfter, last_of_both, IsReady, done_after}
use Rattle.vdr_vault.proofs.ShownImages.{front_stays, table_stays}
use Rattle.vdr_vault.proofs.ShownPlaces.{stamp_told}
use Rattle.std.specs.Prelude.{⊤}
use Rattle.vdr_terms.specs.Needs.{Sizes, cost, usable}
use Rattle.vdr_durability.proofs.Lists.{none_contained}
use Rattle.vdr_durability.specs.Keeping.{ShowsEither}
use Rattle.vdr_outside.specs.declared.fault.Fault.{Fault}
use Rattle.vdr_media.proofs.Members.{any_at, of_all, of_each}
use Rattle.vdr_media.specs.Formatted.{further_in, members_with}
use Rattle.vdr_durability.specs.Media.{IsAppended}
use Rattle.std.proofs.lemmas.Result.{on_ok_weaker}
use Rattle.vdr_ring.specs.Regularity.{IsAllowed}
use Rattle.vdr_vault.specs.Calls.{Commits, MayCommit, HasVaultCause}
use Rattle.vdr_ring.specs.Taking.{IsGiven, Waits}
use Rattle.vdr_vault.specs.Passes.{Passed, Passes, pins_at, HasCauseFrom}
use Rattle.vdr_vault.proofs.CommitImages.{passing_shows, MeetsEnds}
use Rattle.vdr_ring.proofs.Pinned.{HoldPins}
use Rattle.vdr_ring.proofs.Continuing.{begins_first, continues, one_end}
use Rattle.vdr_vault.proofs.CommitReady.{are_there, medium_is_ready, pins_there, windowed}
use Rattle.vdr_vault.proofs.Members.{chosen, chosen_is, inside, ring_is}
use Rattle.vdr_vault.specs.Openings.{HasCauseOnBoth}
use Rattle.vdr_outside.specs.Causes.{NoneFalls, Rose}
use Rattle.vdr_outside.proofs.Counts.{sum_rose}
use Rattle.vdr_ring.proofs.Taken.{reads_beside}

-- The history with a commit

module _ (opening : Opening) (events : List Event) (e : Event) (records : List Record) (taken : List Captured) (is : e.act ≡ Commit records taken) where
  pub given_more : (m : ℕ) → all_given opening m (events ++ e ∷ []) ≡ given_with opening events m ++ records
  given_more m = all_records_with opening m events e ∙ ap (λ (a : Act). all_given opening m events ++ records_of_act a) is

  pub same_incidents : incidents opening (events ++ e ∷ []) ≡ incidents opening events
  same_incidents = incidents_with opening events e ∙ ap (table_after (all_given opening 1 events) (incidents opening events)) is

  recorded_more : recorded (events ++ e ∷ []) ≡ recorded events ++ records
  recorded_more = recorded_with events e ∙ ap (λ (a : Act). recorded events ++ records_of_act a) is

  nonempty : (o : Option Record) (xs : List Record) → last xs ≡ o → 0 < length xs → (r : Record) × (o ≡ Some r)
  nonempty None [] h lt = absurd (omega (arith, lt))
  nonempty None (x ∷ xs) h lt = absurd (none-some _ (sym h))
  nonempty (Some r) xs h lt = (r, refl)

  pub next_with : RunOn (next_place opening events) records → 0 < length records → next_place opening (events ++ e ∷ []) ≡ next_after (last records)
  next_with run some =
      let r = nonempty (last records) records refl some in
      let a = after_last (next_place opening events) records r.0 run r.1 in
      let b : length (recorded (events ++ e ∷ [])) ≡ length (recorded events) + length records = ap length recorded_more ∙ length-append (recorded events) records in
      let c : next_place opening (events ++ e ∷ []) ≡ suc r.0.place = omega (arith, a, b) in
      c ∙ ap next_after (sym r.1)

  pub stamp_with : 0 < length records → last_stamp opening (events ++ e ∷ []) ≡ stamp_of (last records) None
  stamp_with some =
      let r = nonempty (last records) records refl some in
      ap (λ (rs : List Record). stamp_of (last rs) opening.last) recorded_more ∙ ap (λ (o : Option Record). stamp_of o opening.last) (last_of_both (recorded events) records some ∙ r.1)
      ∙ ap (λ (o : Option Record). stamp_of o None) (sym r.1)

  pub newest_with : 0 < length records → option_map tick_utc (last records) ≡ option_map of_stamp (last_stamp opening (events ++ e ∷ []))
  newest_with some = stamp_told (last records) ∙ ap (option_map of_stamp) (sym (stamp_with some))

  -- A medium with the batch
  module _ {tells tells_images : Type 0} where
    pub history_done : (c : Configuration) (m : ℕ) (ring new_ring : RingState) (placed now : List Placed) (old new : Disk tells tells_images) → HoldsHistory opening events c m ring placed old
        → IsRingOf c new.sizes m new_ring → rings.Reads new_ring now new → (tells → SameFront (content old.reads m) (content new.reads m))
        → ring.seconds ≡ opening.settings.seconds m → 0 < opening.settings.seconds m → FollowOn (last (given_with opening events m)) records
        → IsAfter (sizes_of c) m ring.seconds (pins_on m (incidents opening events)) (given_with opening events m) records placed now
        → KeepsAll new_ring.seconds new_ring.slots now
        → HoldsHistory opening (events ++ e ∷ []) c m new_ring now new
    history_done c m ring new_ring placed now old new h its reads front window some follow after keeps = record {
      keeps = keeps;
      is_its = its;
      reads = reads;
      front = λ told. front_stays (content old.reads m) (content new.reads m) (front told) m c opening.settings.text (h.front told);
      regular = after.regular;
      order = subst AreInOrder (sym (given_more m)) (follow_in_order (given_with opening events m) records h.order follow);
      retains = subst (λ (all : List Record). Retains (opening.settings.seconds m) (pins_on m (incidents opening (events ++ e ∷ []))) all (all_records now)) (sym (given_more m))
          (subst (λ (t : List (Option Incident)). Retains (opening.settings.seconds m) (pins_on m t) (given_with opening events m ++ records) (all_records now)) (sym same_incidents)
          (subst (λ (n : ℕ). Retains n (pins_on m (incidents opening events)) (given_with opening events m ++ records) (all_records now)) window after.retains));
      pins = subst (λ (t : List (Option Incident)). ArePinsOf (sizes_of c) m (all_records now) (pins_on m t)) (sym same_incidents) after.pins_are;
      unbroken = subst (IsUnbroken (opening.settings.seconds m)) (sym (given_more m)) (unbroken_follows (opening.settings.seconds m) (given_with opening events m) records some h.order follow h.unbroken);
    }

-- A medium while another changes
pub history_meanwhile : {tells tells_images : Type 0} (opening : Opening) (events : List Event) (c : Configuration) (m k : ℕ) (ring : RingState) (placed : List Placed) (P : List ℕ → Type 0) (old new : Disk tells tells_images)
    → k ≢ m → ChangesOnly m P old new → (tells → SameBut m old.reads new.reads) → new.sizes ≡ old.sizes → HoldsHistory opening events c k ring placed old → HoldsHistory opening events c k ring placed new
history_meanwhile opening events c m k ring placed P old new ne moments others sizes h = record {
  is_its = subst (λ (s : List ℕ). IsRingOf c s k ring) (sym sizes) h.is_its;
  reads = reads_beside ring placed m P old new differs moments others h.reads;
  front = λ told. subst (HasFront k c opening.settings.text) (sym (others told k ne)) (h.front told);
  regular = h.regular;
  order = h.order;
  retains = h.retains;
  pins = h.pins;
  unbroken = h.unbroken;
  keeps = h.keeps;
}
  where
    differs : ring.medium ≢ m
    differs = λ same. ne (sym h.is_its.medium ∙ same)

-- What the last record tells

pub told_next : (records : List Record) (r : Record) (place : ℕ) → 0 < length records → r ≡ get_or records (length records - 1) r → place ≡ r.place → place + 1 ≡ next_after (last records)
told_next records r place some is at =
    let e : last records ≡ Some r = last_index records records r refl some ∙ ap Some (sym is) in
    let n : place + 1 ≡ suc r.place = omega (arith, at) in
    n ∙ ap next_after (sym e)

pub told_last : (records : List Record) (r : Record) (tick : ℕ) (utc : ℤ) → 0 < length records → r ≡ get_or records (length records - 1) r → tick ≡ r.tick → utc ≡ r.utc
    → ◌≡◌ {A = Option (ℕ × ℤ)} (Some (tick, utc)) (option_map tick_utc (last records))
told_last records r tick utc some is at stamped =
    let e : last records ≡ Some r = last_index records records r refl some ∙ ap Some (sym is) in
    let n : ◌≡◌ {A = Option (ℕ × ℤ)} (Some (tick, utc)) (Some (r.tick, r.utc)) = cc in
    n ∙ ap (option_map tick_utc) (sym e)

-- A commit: one append after the other.

module _ {tells tells_images : Type 0} (opening : Opening) (events : List Event) (e : Event) (records : List Record) (taken : List Captured) (is : e.act ≡ Commit records taken)
    (vault : VaultState) (placed : ℕ → List Placed) (old : Disk tells tells_images) (stands : Stands opening events vault placed old) (may : MayCommit (members_on vault.rings) opening events vault.config placed records)
    (legal : IsConfiguration vault.config) (told : tells) (two : 2 ≤ length vault.rings) where
  abbrev n : ℕ
  n = further_on vault.rings

  count : length vault.rings ≡ 2 + n
  count = omega (arith, two)

  history : (k : ℕ) → k < 2 + n → HoldsHistory opening events vault.config k (ring_of vault k) (placed k) old
  history = of_each (λ k. HoldsHistory opening events vault.config k (ring_of vault k) (placed k) old) n stands.media

  paced : (k : ℕ) → k < 2 + n → IsPaced (cost (sizes_of vault.config)) vault.config.batch (segments_in (placed k)) records
  paced = of_each (λ k. IsPaced (cost (sizes_of vault.config)) vault.config.batch (segments_in (placed k)) records) n may.paced

  pinned : (k : ℕ) → k < 2 + n → HoldPins (pins_on k (incidents opening events)) (placed k)
  pinned zero lt = λ pin there. absurd (none_contained pin there)
  pinned (suc zero) lt = subst (λ (t : List (Option Incident)). HoldPins (pins_of t) (placed 1)) stands.incidents_are (pins_there vault.table (placed 1) stands.there)
  pinned (suc (suc k)) lt = subst (λ (b : Bool). HoldPins (if b then pins_of (incidents opening events) else []) (placed (suc (suc k)))) (sym (ne_eqb (suc (suc k)) 1 (λ is. omega (arith, is)))) (λ pin there. absurd (none_contained pin there))

  level : (k : ℕ) → k < 2 + n → last (batches_in (placed k)) ≡ last (batches_in (placed 0))
  level = of_each (λ k. last (batches_in (placed k)) ≡ last (batches_in (placed 0))) n stands.level

  follows : (k : ℕ) → k < 2 + n → FollowOn (last (given_with opening events k)) records
  follows k lt = subst (λ (o : Option Record). FollowOn o records) (history k lt).retains.window.newest (paced k lt).order

  meets : MeetsEnds n opening events placed records
  meets = record {
    run = may.places;
    some = (may.paced 0 0 (omega arith)).some;
    level = level;
    next = λ k lt. ap next_after
        (one_end (cost (sizes_of vault.config)) (usable (sizes_of vault.config)) vault.config.batch (placed k) (placed 0) (history k lt).regular (history 0 (omega arith)).regular (level k lt))
        ∙ sym stands.place;
    follow = of_all (λ m. FollowOn (last (given_with opening events m)) records) n follows;
  }

  next_at : (k : ℕ) → k < 2 + n → next_after (last (all_records (placed k))) ≡ next_place opening events
  next_at = meets.next

  ready : (k : ℕ) → k < 2 + n → IsReady (sizes_of vault.config) k (ring_of vault k).segment (ring_of vault k).slots (ring_of vault k).seconds (pins_on k (incidents opening events)) (given_with opening events k) records (placed k)
  ready k lt = medium_is_ready opening events vault.config k (ring_of vault k) (placed k) old records (history k lt) stands.settings legal told (paced k lt) (pinned k lt)

  waits : (k : ℕ) → k < 2 + n → Waits true (sizes_of vault.config) (ring_of vault k) (pins_on k (incidents opening events)) (placed k) (next_place opening events) (given_with opening events k) records old
  waits k lt = record {
    reads = (history k lt).reads;
    goes_on = continues (placed k) records (next_place opening events) (history k lt).reads.order (next_at k lt) may.places meets.some (paced k lt).order;
    may = λ o. record {
      allowed = subst (λ (n : ℕ). IsAllowed (sizes_of vault.config) n (ring_of vault k).segment (ring_of vault k).slots (ring_of vault k).seconds (pins_on k (incidents opening events)) (placed k) records)
          (sym (history k lt).is_its.medium) (ready k lt).allowed;
      begins = begins_first (placed k) (next_place opening events) (next_at k lt);
      retains = (ready k lt).retains;
    };
  }

  windows : (m : ℕ) → opening.settings.seconds m ≡ window_of vault.config m
  windows m = ap (λ (s : Settings). s.seconds m) stands.settings

  roomy : (m : ℕ) → 0 < opening.settings.seconds m
  roomy m = subst (λ (n : ℕ). 0 < n) (sym (windows m)) (windowed vault.config m legal)

  window : (k : ℕ) → k < 2 + n → (ring_of vault k).seconds ≡ opening.settings.seconds k
  window k lt = (history k lt).is_its.seconds ∙ sym (windows k)

  module _ (after : List RingState) (new : Disk tells tells_images) (result : Result ⊤ Fault) (passed : Passed true 0 vault.rings after (pins_of (incidents opening events)) placed (next_place opening events) records old new result)
      (are : AreRingsOf vault.config new.sizes after) (size : length after ≡ length vault.rings) (fronts : (k : ℕ) → SameFront (content old.reads k) (content new.reads k)) where
    moments : AtEachMoment old new (ShowsEither (ShowsHistory opening) events e old.now)
    moments = moments_weaken old new _ _ passed.moments (λ i p.
        inr (passing_shows n opening events vault.config vault.table stands.incidents_are legal.slots_high e records taken is placed meets windows roomy (ring_of vault) old history window ready (next_place opening events) told
        (stands.table told) i (stands.version p.image p.was) (length vault.rings) count p))

    -- Each medium has it.
    module _ (given : (k : ℕ) → k < 2 + n → IsGiven (ring_of vault k) (ring_at after k) (pins_on k (incidents opening events)) (placed k) (next_place opening events) records new) where
      done_by : (k : ℕ) (lt : k < 2 + n) (g : IsGiven (ring_of vault k) (ring_at after k) (pins_on k (incidents opening events)) (placed k) (next_place opening events) records new)
          → IsAfter (sizes_of vault.config) k (ring_of vault k).seconds (pins_on k (incidents opening events)) (given_with opening events k) records (placed k) g.stages.left
      done_by k lt g = done_after (sizes_of vault.config) k (ring_of vault k).segment (ring_of vault k).slots (ring_of vault k).seconds (pins_on k (incidents opening events)) (given_with opening events k) records (placed k)
          (next_place opening events) (ready k lt) g.stages g.are g.stages.left (inr refl)

      -- The segments that medium k has with it.
      record HasNow (k : ℕ) (ps : List Placed) : Type 0 where
        pub after_it : IsAfter (sizes_of vault.config) k (ring_of vault k).seconds (pins_on k (incidents opening events)) (given_with opening events k) records (placed k) ps
        pub reads : rings.Reads (ring_at after k) ps new
        pub keeps : KeepsAll (ring_at after k).seconds (ring_at after k).slots ps

      keeps_by : (k : ℕ) (lt : k < 2 + n) (g : IsGiven (ring_of vault k) (ring_at after k) (pins_on k (incidents opening events)) (placed k) (next_place opening events) records new)
          → KeepsAll (ring_at after k).seconds (ring_at after k).slots g.stages.left
      keeps_by k lt g = keeps_after vault.config k (ring_of vault k) (ring_at after k) g.stages.left old new told (history k lt).is_its (ring_is are k (omega (arith, lt, size, count))) (fronts k)
          (kept_with (sizes_of vault.config) k (ring_of vault k).segment (ring_of vault k).slots (ring_of vault k).seconds (pins_on k (incidents opening events)) (given_with opening events k) records (placed k)
          (next_place opening events) (ready k lt) g.stages g.are g.stages.left (inr refl) (begins_whole (placed k) (next_place opening events) records (next_at k lt) may.places) (history k lt).keeps)

      has_now : (k : ℕ) → k < 2 + n → (ps : List Placed) × HasNow k ps
      has_now k lt = ((given k lt).stages.left, record { after_it = done_by k lt (given k lt); reads = (given k lt).reads; keeps = keeps_by k lt (given k lt) })

      now : ℕ → List Placed
      now = chosen [] HasNow (2 + n) has_now

      now_is : (k : ℕ) → k < 2 + n → HasNow k (now k)
      unfolding now
      now_is = chosen_is [] HasNow (2 + n) has_now

      done : (k : ℕ) → k < 2 + n → IsAfter (sizes_of vault.config) k (ring_of vault k).seconds (pins_on k (incidents opening events)) (given_with opening events k) records (placed k) (now k)
      done k lt = (now_is k lt).after_it

      history_with : (k : ℕ) (lt : k < 2 + n) → HoldsHistory opening (events ++ e ∷ []) vault.config k (ring_at after k) (now k) new
      history_with k lt = history_done opening events e records taken is vault.config k (ring_of vault k) (ring_at after k) (placed k) (now k) old new (history k lt) (ring_is are k (omega (arith, lt, size, count)))
          (now_is k lt).reads (λ _. fronts k) (window k lt) (roomy k) (follows k lt) (done k lt) (now_is k lt).keeps

      rings_after : n ≡ further_on after
      rings_after = omega (arith, size)

      stands_with : Stands opening (events ++ e ∷ []) (working_from (last records) (record vault { rings = after })) now new
      stands_with =
          let first = done 0 (omega arith) in
          let second = done 1 (omega arith) in
          record {
            settings = stands.settings;
            working = refl;
            media = subst (λ (k : ℕ). All (λ m. HoldsHistory opening (events ++ e ∷ []) vault.config m (ring_at after m) (now m) new) (members_with k)) rings_after
                (of_all (λ m. HoldsHistory opening (events ++ e ∷ []) vault.config m (ring_at after m) (now m) new) n history_with);
            level = subst (λ (k : ℕ). All (λ m. last (batches_in (now m)) ≡ last (batches_in (now 0))) (members_with k)) rings_after
                (of_all (λ m. last (batches_in (now m)) ≡ last (batches_in (now 0))) n (λ k lt. (done k lt).ends ∙ sym first.ends));
            incidents_are = stands.incidents_are ∙ sym (same_incidents opening events e records taken is);
            slots = stands.slots;
            version = λ i there. sym rings_after ∙ versions i (now_after old new _ passed.moments i there);
            read_version = λ t. sym rings_after ∙ stands.read_version t;
            table = λ _. table_stays (content old.reads 1) (content new.reads 1) (fronts 1) vault.config.incident_slots vault.table legal.slots_high (stands.table told);
            there = subst (λ (t : List (Option Incident)). AreThere t (now 1)) (sym stands.incidents_are) (are_there (incidents opening events) (now 1) second.pinned);
            goes_on = sym (next_with opening events e records taken is may.places meets.some);
            newest = newest_with opening events e records taken is meets.some;
            place = next_with opening events e records taken is may.places meets.some ∙ ap next_after (sym first.ends_all);
            stamp = stamp_with opening events e records taken is meets.some ∙ ap (λ (o : Option Record). stamp_of o None) (sym first.ends_all);
          }
        where
          versions : {LacksIt HasIt : ℕ → List ℕ → Type 0} {count : ℕ} (i : Image) → Passes LacksIt HasIt 0 count old.now i → n ≡ further_in i
          versions i p = stands.version p.image p.was

    commits : Commits opening events e records placed (working_from (last records) (record vault { rings = after })) old new result
    commits = record {
      moments = moments;
      done = on_ok_weaker result
          (λ all. let given : (k : ℕ) → k < 2 + n → IsGiven (ring_of vault k) (ring_at after k) (pins_on k (incidents opening events)) (placed k) (next_place opening events) records new = λ k lt. all k (omega arith) (omega (arith, lt, count)) in (
            now given,
            stands_with given,
            subst (λ (j : ℕ). All (λ m. IsAppended (segments_in (placed m)) records (segments_in (now given m))) (members_with j)) (rings_after given)
                (of_all (λ m. IsAppended (segments_in (placed m)) records (segments_in (now given m))) n (λ k lt. (done given k lt).appended)),
          ))
          passed.done;
    }

  -- So it is committed.
  pub committed : (pins : List Pin) → pins ≡ pins_of vault.table → (after : List RingState) (new : Disk tells tells_images) (result : Result ⊤ Fault)
      → ((ordered : Bool) (sizes : Sizes) (placed : ℕ → List Placed) (first : ℕ) (all : ℕ → List Record) → tells
      → ((k : ℕ) → 0 ≤ k → k < length vault.rings → Waits ordered sizes (ring_of vault k) (pins_at k pins) (placed k) first (all k) records old) → Passed ordered 0 vault.rings after pins placed first records old new result)
      → AreRingsOf vault.config new.sizes after → length after ≡ length vault.rings → (tells → (k : ℕ) → SameFront (content old.reads k) (content new.reads k))
      → Commits opening events e records placed (working_from (last records) (record vault { rings = after })) old new result
  committed pins pins_are after new result call are size fronts =
      let is : pins ≡ pins_of (incidents opening events) = pins_are ∙ ap pins_of stands.incidents_are in
      commits after new result (subst (λ (ps : List Pin). Passed true 0 vault.rings after ps placed (next_place opening events) records old new result) is
      (call true (sizes_of vault.config) placed (next_place opening events) (given_with opening events) told
      (λ k low lt. subst (λ (ps : List Pin). Waits true (sizes_of vault.config) (ring_of vault k) (pins_at k ps) (placed k) (next_place opening events) (given_with opening events k) records old) (sym is) (waits k (omega (arith, lt, count))))))
      are size (fronts told)

-- What is said of the vault behind the last record is said of these numbers.
pub gone_on : {tells tells_images : Type 0} (opening : Opening) (events : List Event) (e : Event) (records : List Record) (placed : ℕ → List Placed) (vault : VaultState) (next : ℕ) (newest : Option (ℕ × ℤ))
    (old new : Disk tells tells_images) (result : Result ⊤ Fault) (x : ⊤) → result ≡ Ok x → next ≡ next_after (last records) → newest ≡ option_map tick_utc (last records)
    → Commits opening events e records placed (working_from (last records) vault) old new result
    → Commits opening events e records placed (record vault { next_place = next; last = newest; failed = false }) old new (Ok x)
gone_on opening events e records placed vault next newest old new result x ok is ends h =
    subst (λ (y : ℕ × Option (ℕ × ℤ) × Result ⊤ Fault). Commits opening events e records placed (record vault { next_place = y.0; last = y.1; failed = false }) old new y.2) (λ i. (sym is i, sym ends i, ok i)) h

-- Causes of the calls of a commit and of a reconciliation.

pub vault_cause : {T E : Type 0} (n count : ℕ) (before now : List ℕ) (r : Result T E) → count ≡ 2 + n → NoneFalls before now → HasCauseFrom 0 count before now r → HasVaultCause (members_with n) false before now r
vault_cause n count before now (Ok x) is later cause = record { later = later; by_medium = tt; in_all = tt }
vault_cause n count before now (Err f) is later cause = record {
  later = later;
  by_medium = inr (any_at (λ m. Rose (get_or before m 0) (get_or now m 0)) n cause.0 (let below = cause.2 in omega (arith, below, is)) cause.3);
  in_all = inr (sum_rose before now cause.0 later.same_media later.none_falls cause.3);
}

-- The media from a number on.
pub cause_on : {T E : Type 0} (from : ℕ) (rings : List RingState) (before now : List ℕ) (r : Result T E) → NoneFalls before now → HasCauseFrom from (length rings) before now r → HasCauseOnBoth (members_on rings) before now r
cause_on from rings before now (Ok x) later cause = record { later = later; by_medium = tt; in_all = tt }
cause_on from rings before now (Err f) later cause = record {
  later = later;
  by_medium = any_at (λ m. Rose (get_or before m 0) (get_or now m 0)) (further_on rings) cause.0 (inside rings cause.0 cause.2) cause.3;
  in_all = sum_rose before now cause.0 later.same_media later.none_falls cause.3;
}
