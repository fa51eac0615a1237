-- What the media have while the batch that some of them lack is appended to those.
use Rattle.std.proofs.Common.{◌≡◌, ℕ, zero, suc, Bool, ◌+◌, ◌<◌, ◌≤◌, if◌then◌else◌, List, [], ◌++◌, true, Some, Option, take, drop, inl, inr, refl, sym, ap, ◌∙◌, subst, arith}
use Rattle.std.proofs.lemmas.Bool.{cases_lt, ne_eqb}
use Rattle.std.proofs.lemmas.List.Elements.{All-contains}
use Rattle.vdr_terms.specs.Records.{Record, last}
use Rattle.vdr_terms.specs.Needs.{cost, usable}
use Rattle.vdr_terms.specs.Order.{AreInOrder as RecordsAreInOrder}
use Rattle.vdr_terms.specs.Slots.{slot_count}
use Rattle.vdr_durability.specs.Regular.{FollowOn, IsPaced}
use Rattle.vdr_durability.specs.Retention.{Retains}
use Rattle.vdr_durability.specs.Victims.{ArePinsOf}
use Rattle.vdr_durability.specs.Readings.{IsPassedOn, comes_next, ends_before, records_on, restored}
use Rattle.vdr_durability.specs.Shown.{pins_of, pins_on}
use Rattle.vdr_durability.specs.Soundness.{IsUnbroken}
use Rattle.vdr_durability.proofs.Following.{follow_in_order}
use Rattle.vdr_durability.proofs.Lists.{last_contained, none_contained}
use Rattle.vdr_durability.proofs.Shows.{retains_itself}
use Rattle.vdr_durability.proofs.Unbroken.{unbroken_held}
use Rattle.vdr_outside.specs.Disk.{Disk, Image, content}
use Rattle.vdr_outside.proofs.Moments.{size_read}
use Rattle.vdr_config.specs.Sizes.{sizes_of, window_of}
use Rattle.vdr_media.proofs.Members.{front_of, numbers, of_all, of_each, rest_of}
use Rattle.vdr_segment.specs.Slots.{SameFront}
use Rattle.vdr_directory.specs.Sequence.{Placed, all_records, batches_in, segments_in}
use Rattle.vdr_directory.specs.Order.{AreInOrder}
use Rattle.vdr_ring.specs.Rings.{RingState}
use Rattle.vdr_ring.specs.Regularity.{AreRegular}
use Rattle.vdr_ring.specs.Stages.{AreStages, Stages}
use Rattle.vdr_ring.specs.Taking.{HaveBatch}
use Rattle.vdr_ring.specs.Whole.{KeepsAll, is_filled}
use Rattle.vdr_ring.proofs.Allowed.{IsAfter, IsReady, done_after}
use Rattle.vdr_ring.proofs.Batching.{last_runs_on}
use Rattle.vdr_ring.proofs.KeptPlaces.{begins_whole, kept_with}
use Rattle.vdr_ring.proofs.Lacking.{HoldsBefore, before_of}
use Rattle.vdr_ring.proofs.Medium.{in_order_records}
use Rattle.vdr_ring.proofs.Pinned.{HoldPins}
use Rattle.vdr_ring.proofs.Records.{records_are}
use Rattle.vdr_opening.specs.Media.{members_with, Contents, HoldsContents, IsMedium, opening_of, reading_of, slots_on}
use Rattle.vdr_vault.specs.Vaults.{ShowsHistory}
use Rattle.vdr_vault.specs.Regularity.{AreSound, IsUnbrokenMedium, LacksNothing}
use Rattle.vdr_vault.proofs.CommitReady.{are_there, pins_there, windowed}
use Rattle.vdr_vault.proofs.Kept.{keeps_all, slots_there}
use Rattle.vdr_vault.proofs.Members.{chosen, chosen_is, in_front, in_rest, passed_by}
use Rattle.vdr_vault.proofs.OpenContents.{batches_in_order}
use Rattle.vdr_vault.proofs.ReconcileBatch.{IsPassing, Lacks, LacksIt, ends, first_place, front_there, had_order, lacked_follows, lacked_order, lacked_runs, legal_there, legal_with, next_is, order, slots_are, waits}
use Rattle.vdr_vault.proofs.ShownImages.{table_stays}
use Rattle.vdr_vault.proofs.Sounding.{AreFilled, AreOpened, IsSoundAlone, given_restored, leads, missing_is_paced, passing_shown, pins_read, segments_read, sound_passed, unbroken_waiting, waiting_restored, with_placed}

module _ {tells tells_images : Type 0} (x : Contents) (batch : List Record) (lacking : ℕ) (ring : ℕ → RingState) (disk : Disk tells tells_images) (h : Lacks x batch lacking ring disk) (sound : AreSound x) where
  abbrev n : ℕ
  n = x.further

  abbrev ms : List ℕ
  ms = members_with n

  -- What each medium is restored to
  abbrev given : ℕ → List Record
  given = records_on (restored ms (reading_of x))

  batch_ordered : RecordsAreInOrder batch
  batch_ordered = All-contains RecordsAreInOrder (batches_in (x.placed 0)) batch (batches_in_order (x.placed 0) (order x batch lacking ring disk h 0 (omega arith)))
      (last_contained (batches_in (x.placed 0)) batch (ends x batch lacking ring disk h 0 h.some))

  given_is : (k : ℕ) → k < lacking → given k ≡ all_records (x.placed k)
  given_is k lt = given_restored x (take lacking ms) (drop lacking ms) batch h.passed batch_ordered k (in_front n lacking h.within k lt)

  given_more : (k : ℕ) → lacking ≤ k → k < 2 + n → given k ≡ all_records (x.placed k) ++ batch
  given_more k low lt = waiting_restored x (take lacking ms) (drop lacking ms) batch h.passed batch_ordered k (in_rest n lacking k low lt)

  -- How many slots the media have, and what each keeps.
  abbrev count : ℕ → ℕ
  count m = slots_on x.config disk.reads m

  abbrev filled_with : (ℕ → List Placed) → ℕ → Bool
  filled_with now m = is_filled (count m) (now m)

  are_filled : (now : ℕ → List Placed) → AreFilled (with_placed x (filled_with now) now) count
  are_filled now = of_all (λ m. filled_with now m ≡ filled_with now m) n (λ k lt. refl)

  pinned : (k : ℕ) → k < 2 + n → HoldPins (pins_on k x.table) (x.placed k)
  pinned zero lt = λ pin there. absurd (none_contained pin there)
  pinned (suc zero) lt = pins_there x.table (x.placed 1) h.holds.there
  pinned (suc (suc k)) lt = subst (λ (b : Bool). HoldPins (if b then pins_of x.table else []) (x.placed (suc (suc k)))) (sym (ne_eqb (suc (suc k)) 1 (λ is. omega (arith, is)))) (λ pin there. absurd (none_contained pin there))

  module _ (k : ℕ) (lt : k < 2 + n) where
    slots_same : (ring k).slots ≡ count k
    slots_same = slots_there x.config disk.sizes k (ring k) (content disk.reads k) (h.is_its k lt) (size_read disk k h.told)

    -- By its configuration and by its ring.
    keeps_read : KeepsAll (window_of x.config k) (count k) (x.placed k)
    keeps_read = keeps_all x k (count k) (of_each (λ m. x.filled m ≡ is_filled (slots_on x.config disk.reads m) (x.placed m)) n h.holds.filled k lt) (of_each (LacksNothing x) n sound.kept k lt)

    pub ring_keeps : KeepsAll (ring k).seconds (ring k).slots (x.placed k)
    ring_keeps = subst (λ (p : ℕ × ℕ). KeepsAll p.0 p.1 (x.placed k)) (λ i. (sym (h.is_its k lt).seconds i, sym slots_same i)) keeps_read

    keeps_now : (now : List Placed) → KeepsAll (ring k).seconds (ring k).slots now → KeepsAll (window_of x.config k) (count k) now
    keeps_now now keeps = subst (λ (p : ℕ × ℕ). KeepsAll p.0 p.1 now) (λ i. ((h.is_its k lt).seconds i, slots_same i)) keeps

    regular_read : AreRegular (cost (sizes_of x.config)) (usable (sizes_of x.config)) x.config.batch (x.placed k)
    regular_read = of_each (λ m. AreRegular (cost (sizes_of x.config)) (usable (sizes_of x.config)) x.config.batch (x.placed m)) n (segments_read x sound.regular) k lt

    pins_as_read : ArePinsOf (sizes_of x.config) k (all_records (x.placed k)) (pins_on k x.table)
    pins_as_read = of_each (λ m. ArePinsOf (sizes_of x.config) m (all_records (x.placed m)) (pins_on m x.table)) n (pins_read x sound.regular) k lt

    unbroken_given : IsUnbroken (window_of x.config k) (given k)
    unbroken_given = of_each (IsUnbrokenMedium x) n sound.unbroken k lt

  -- What medium k has where it has the batch, and where it waits for it.
  pub record Having (k : ℕ) (now : List Placed) : Type 0 where
    pub ends : last (batches_in now) ≡ Some batch
    pub order : AreInOrder now
    pub pinned : HoldPins (pins_on k x.table) now
    pub retains : Retains (window_of x.config k) (pins_on k x.table) (given k) (all_records now)
    pub alone : IsSoundAlone x.config k (count k) now x.table (all_records now)

  record Lacking (k : ℕ) (now : List Placed) : Type 0 where
    pub order : AreInOrder now
    pub pinned : HoldPins (pins_on k x.table) now
    pub waits : ends_before (Some batch) (batches_in now) ≡ true
    pub retains : Retains (window_of x.config k) (pins_on k x.table) (all_records (x.placed k)) (all_records now)
    pub with_it : IsSoundAlone x.config k (count k) now x.table (all_records now ++ batch)
    pub paced : IsPaced (cost (sizes_of x.config)) x.config.batch (segments_in now) batch

  -- One that had it
  pub kept_has : (k : ℕ) → k < lacking → Having k (x.placed k)
  kept_has k below =
      let within = h.within in
      let lt : k < 2 + n = omega (arith, below, within) in
      record {
        ends = ends x batch lacking ring disk h k below;
        order = order x batch lacking ring disk h k lt;
        pinned = pinned k lt;
        retains = subst (λ (rs : List Record). Retains (window_of x.config k) (pins_on k x.table) rs (all_records (x.placed k))) (sym (given_is k below))
            (retains_itself (window_of x.config k) (pins_on k x.table) (all_records (x.placed k)));
        alone = record {
          keeps = keeps_read k lt;
          regular = regular_read k lt;
          pins = pins_as_read k lt;
          unbroken = subst (IsUnbroken (window_of x.config k)) (given_is k below) (unbroken_given k lt);
        };
      }

  module _ (k : ℕ) (low : lacking ≤ k) (lt : k < 2 + n) where
    follow : FollowOn (last (all_records (x.placed k))) batch
    follow = lacked_follows x batch lacking ring disk h k low lt

    ready : IsReady (sizes_of x.config) k (ring k).segment (ring k).slots (ring k).seconds (pins_on k x.table) (all_records (x.placed k)) batch (x.placed k)
    ready =
        let run = last_runs_on (x.placed 0) batch (order x batch lacking ring disk h 0 (omega arith)) (ends x batch lacking ring disk h 0 h.some) in
        record {
          allowed = record {
            regular = regular_read k lt;
            paced = missing_is_paced x sound.regular k lt batch run.0 (leads x (take lacking ms) (drop lacking ms) batch h.passed batch_ordered) (waits x batch lacking ring disk h k low lt) run.1;
            saves = pins_as_read k lt;
            slots = slots_are x batch lacking ring disk h k lt;
            segment = sym (h.is_its k lt).segment;
            room = let low = h.ranges.segment_low in let four = h.ranges.four_batches in omega (arith, low, four);
            window = sym (h.is_its k lt).seconds;
            some = subst (λ (n : ℕ). 0 < n) (sym (h.is_its k lt).seconds) (windowed x.config k h.ranges);
          };
          order = order x batch lacking ring disk h k lt;
          retains = retains_itself (ring k).seconds (pins_on k x.table) (all_records (x.placed k));
          pinned = pinned k lt;
        }

    unbroken_with : IsUnbroken (window_of x.config k) (all_records (x.placed k) ++ batch)
    unbroken_with = subst (IsUnbroken (window_of x.config k)) (given_more k low lt) (unbroken_given k lt)

    -- It lacks the batch
    before : (bytes : List ℕ) → LacksIt x batch lacking ring disk h k bytes → HoldsBefore (sizes_of x.config) k (ring k) (pins_on k x.table) (all_records (x.placed k)) batch (x.placed k) bytes
    before bytes l = before_of (sizes_of x.config) k (ring k) (pins_on k x.table) (all_records (x.placed k)) batch (x.placed k) (first_place batch) ready (content disk.reads k) bytes
        (record { now = l.now; holds = l.holds; stage = l.stage; order = λ o. lacked_order x batch lacking ring disk h k low lt bytes l; front = l.front })

    still_lacks : (bytes : List ℕ) (b : HoldsBefore (sizes_of x.config) k (ring k) (pins_on k x.table) (all_records (x.placed k)) batch (x.placed k) bytes) → Lacking k b.now
    still_lacks bytes b =
        let retained = subst (λ (n : ℕ). Retains n (pins_on k x.table) (all_records (x.placed k)) (all_records b.now)) (h.is_its k lt).seconds b.before.retains in
        record {
          order = b.order;
          pinned = b.before.pinned;
          waits = ap (λ (rs : List Record). comes_next (last rs) batch) (records_are b.now)
              ∙ ap (λ (o : Option Record). comes_next o batch) retained.window.newest
              ∙ sym (ap (λ (rs : List Record). comes_next (last rs) batch) (records_are (x.placed k))) ∙ waits x batch lacking ring disk h k low lt;
          retains = retained;
          with_it = record {
            keeps = keeps_now k lt b.now (b.keeps (ring_keeps k lt));
            regular = b.stays.regular;
            pins = b.stays.pins_with;
            unbroken = unbroken_waiting (window_of x.config k) (all_records (x.placed k)) (all_records b.now) batch (in_order_records (x.placed k) ready.order) (in_order_records b.now b.order) follow b.stays.paced.order
                (pins_on k x.table) retained unbroken_with;
          };
          paced = b.stays.paced;
        }

    -- It has it
    module _ (stages : Stages) (are : AreStages (ring k).segment (ring k).slots (ring k).seconds (pins_on k x.table) (x.placed k) (first_place batch) batch stages) (now : List Placed) (have : HaveBatch stages now) (in_order : AreInOrder now) where
      done : IsAfter (sizes_of x.config) k (ring k).seconds (pins_on k x.table) (all_records (x.placed k)) batch (x.placed k) now
      done = done_after (sizes_of x.config) k (ring k).segment (ring k).slots (ring k).seconds (pins_on k x.table) (all_records (x.placed k)) batch (x.placed k) (first_place batch) ready stages are now have

      pub done_keeps : KeepsAll (ring k).seconds (ring k).slots now
      done_keeps = kept_with (sizes_of x.config) k (ring k).segment (ring k).slots (ring k).seconds (pins_on k x.table) (all_records (x.placed k)) batch (x.placed k) (first_place batch) ready stages are now have
          (begins_whole (x.placed k) (first_place batch) batch (next_is x batch lacking ring disk h k low lt) (lacked_runs x batch lacking ring disk h k low lt)) (ring_keeps k lt)

      retained : Retains (window_of x.config k) (pins_on k x.table) (all_records (x.placed k) ++ batch) (all_records now)
      retained = subst (λ (n : ℕ). Retains n (pins_on k x.table) (all_records (x.placed k) ++ batch) (all_records now)) (h.is_its k lt).seconds done.retains

      pub done_has : Having k now
      done_has = record {
        ends = done.ends;
        order = in_order;
        pinned = done.pinned;
        retains = subst (λ (rs : List Record). Retains (window_of x.config k) (pins_on k x.table) rs (all_records now)) (sym (given_more k low lt)) retained;
        alone = record {
          keeps = keeps_now k lt now done_keeps;
          regular = done.regular;
          pins = done.pins_are;
          unbroken = unbroken_held (window_of x.config k) (all_records (x.placed k) ++ batch) (all_records now)
              (follow_in_order (all_records (x.placed k)) batch (in_order_records (x.placed k) ready.order) follow) (in_order_records now in_order) retained.window unbroken_with;
        };
      }

  -- Medium k of an image in which so many have it.
  record Stage (i : Image) (has_it k : ℕ) (now : List Placed) : Type 0 where
    pub legal : IsMedium k x.config x.text now (content i k)
    pub front : SameFront (content disk.reads k) (content i k)
    pub order : AreInOrder now
    pub pinned : HoldPins (pins_on k x.table) now
    pub has : k < has_it → Having k now
    pub lacks : has_it ≤ k → Lacking k now

  stage_at : (i : Image) (p : IsPassing x batch lacking ring disk h i) (k : ℕ) → k < 2 + n → (now : List Placed) × Stage i p.given k now
  stage_at i p k lt = elim (cases_lt k lacking) [
    | inl below ↦
        let kept = kept_has k below in
        let above = p.above in (
          x.placed k,
          record {
            legal = legal_there x batch lacking ring disk h i p k below;
            front = front_there x batch lacking ring disk h i p k below;
            order = kept.order;
            pinned = kept.pinned;
            has = λ _. kept;
            lacks = λ lacks. absurd (omega (arith, lacks, below, above));
          },
        )
    | inr low ↦ elim (cases_lt k p.given) [
      | inl has ↦
          let d = p.has k low has in
          let in_order = had_order x batch lacking ring disk h k low lt (content i k) d in
          let here = done_has k low lt d.stages d.are d.now d.stage in_order in (
            d.now,
            record {
              legal = legal_with x batch lacking ring disk h k lt d.now (content i k) d.front d.holds in_order;
              front = d.front;
              order = in_order;
              pinned = here.pinned;
              has = λ _. here;
              lacks = λ lacks. absurd (omega (arith, lacks, has));
            },
          )
      | inr lacks ↦
          let l = p.lack k lacks lt in
          let b = before k low lt (content i k) l in
          let here = still_lacks k low lt (content i k) b in (
            b.now,
            record {
              legal = legal_with x batch lacking ring disk h k lt b.now (content i k) l.front b.holds b.order;
              front = l.front;
              order = b.order;
              pinned = here.pinned;
              has = λ has. absurd (omega (arith, lacks, has));
              lacks = λ _. here;
            },
          )
    ]
  ]

  module _ (i : Image) (has_it : ℕ) (above : lacking ≤ has_it) (below : has_it ≤ 2 + n) (now : ℕ → List Placed) (stage : (k : ℕ) → k < 2 + n → Stage i has_it k (now k)) where
    some : 0 < has_it
    some = let first = h.some in omega (arith, first, above)

    has : (k : ℕ) → k < has_it → Having k (now k)
    has k lt = (stage k (omega (arith, lt, below))).has lt

    lacks : (k : ℕ) → has_it ≤ k → k < 2 + n → Lacking k (now k)
    lacks k low lt = (stage k lt).lacks low

    held : HoldsContents i (with_placed x (filled_with now) now)
    held = record {
      further = h.holds.further;
      media = of_all (λ m. IsMedium m x.config x.text (now m) (content i m)) n (λ k lt. (stage k lt).legal);
      table = table_stays (content disk.reads 1) (content i 1) (stage 1 (omega arith)).front x.config.incident_slots x.table h.ranges.slots_high h.holds.table;
      there = are_there x.table (now 1) (stage 1 (omega arith)).pinned;
      filled = of_all (λ m. filled_with now m ≡ is_filled (slots_on x.config i m) (now m)) n (λ k lt. ap (λ (size : ℕ). is_filled (slot_count x.config.segment size) (now k)) (sym (stage k lt).front.size));
    }

    still : IsPassedOn ms (take has_it ms) (drop has_it ms) batch (reading_of (with_placed x (filled_with now) now))
    still = passed_by n has_it batch (reading_of (with_placed x (filled_with now) now)) some below (λ k lt. (has k lt).ends) (λ k low lt. (lacks k low lt).waits)

    passing_sound : AreSound (with_placed x (filled_with now) now)
    passing_sound = sound_passed (with_placed x (filled_with now) now) count (take has_it ms) (drop has_it ms) batch (are_filled now) still batch_ordered
        (rest_of (numbers n) (λ m. IsPaced (cost (sizes_of x.config)) x.config.batch (segments_in (now m)) batch) has_it (λ k low lt. (lacks k low lt).paced))
        (λ m there. (has m (All-contains (λ k. k < has_it) (take has_it ms) m (front_of (numbers n) (λ k. k < has_it) has_it below (λ k lt. lt)) there)).alone)
        (λ m there.
        let side = All-contains (λ k. (has_it ≤ k) × (k < 2 + n)) (drop has_it ms) m (rest_of (numbers n) (λ k. (has_it ≤ k) × (k < 2 + n)) has_it (λ k low lt. (low, lt))) there in
        (lacks m side.0 side.1).with_it)

    shows : ShowsHistory (opening_of x) [] i
    shows = passing_shown x (take lacking ms) (drop lacking ms) batch h.passed batch_ordered (filled_with now) now (take has_it ms) (drop has_it ms) still
        (front_of (numbers n) (λ m. Retains (window_of x.config m) (pins_on m x.table) (given m) (all_records (now m))) has_it below (λ k lt. (has k lt).retains))
        (rest_of (numbers n) (λ m. (ends_before (Some batch) (batches_in (x.placed m)) ≡ true) × FollowOn (last (all_records (x.placed m))) batch) has_it
        (λ k low lt. (waits x batch lacking ring disk h k (omega (arith, low, above)) lt, follow k (omega (arith, low, above)) lt)))
        (rest_of (numbers n) (λ m. Retains (window_of x.config m) (pins_on m x.table) (all_records (x.placed m)) (all_records (now m))) has_it (λ k low lt. (lacks k low lt).retains))
        i passing_sound held

  -- At every moment they show what was opened.
  pub appending_shown : (i : Image) → IsPassing x batch lacking ring disk h i → ShowsHistory (opening_of x) [] i
  appending_shown i p = shows i p.given p.above p.below (chosen [] (Stage i p.given) (2 + n) (stage_at i p)) (chosen_is [] (Stage i p.given) (2 + n) (stage_at i p))

  -- Once each has it they are as opened.
  pub done_opened : (now : ℕ → List Placed) → ((k : ℕ) → k < 2 + n → Having k (now k)) → AreOpened x now
  done_opened now has = record {
    batch = (has 0 (omega arith)).ends ∙ sym (ends x batch lacking ring disk h 0 h.some);
    level = of_all (λ m. last (batches_in (now m)) ≡ last (batches_in (now 0))) n (λ k lt. (has k lt).ends ∙ sym (has 0 (omega arith)).ends);
    order = of_all (λ m. AreInOrder (now m)) n (λ k lt. (has k lt).order);
    retains = of_all (λ m. Retains (window_of x.config m) (pins_on m x.table) (given m) (all_records (now m))) n (λ k lt. (has k lt).retains);
    regular = of_all (λ m. AreRegular (cost (sizes_of x.config)) (usable (sizes_of x.config)) x.config.batch (now m)) n (λ k lt. (has k lt).alone.regular);
    pins = of_all (λ m. ArePinsOf (sizes_of x.config) m (all_records (now m)) (pins_on m x.table)) n (λ k lt. (has k lt).alone.pins);
    there = are_there x.table (now 1) (has 1 (omega arith)).pinned;
  }
