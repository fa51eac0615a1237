-- The last batch of a legal medium: its records are legal, and their places run on.
use Rattle.std.proofs.Common.{◌≡◌, ⊎_elim, ℕ, suc, ◌+◌, List, [], ◌∷◌, ◌++◌, get_or, take, drop, true, All, Option, Some, None, sym, ◌∙◌, subst, arith, inl, inr, ◌<◌, ◌≤◌, refl, ap, false}
use Rattle.std.proofs.lemmas.Bool.{and_parts, cases_lt, eqb-true, true≢false}
use Rattle.std.proofs.lemmas.List.{take-append-drop}
use Rattle.std.proofs.lemmas.List.Elements.{All-append, All-cons, All-nil, All-tail}
use Rattle.vdr_terms.specs.Records.{Record, last}
use Rattle.vdr_terms.specs.Order.{RunOn}
use Rattle.vdr_durability.proofs.Lists.{last_contained}
use Rattle.vdr_durability.specs.Readings.{begins_at, AreLevel, EndBy, EndsMeet, IsPassedOn, Reading, comes_next, ends_before, next_after}
use Rattle.vdr_directory.specs.Sequence.{Placed, batches_in, all_records}
use Rattle.vdr_directory.specs.Order.{AreInOrder}
use Rattle.vdr_directory.specs.Holds.{HoldsPlaced}
use Rattle.vdr_ring.proofs.Beginning.{legal_batches}
use Rattle.vdr_terms.specs.Needs.{needed_slots, slots_in}
use Rattle.vdr_terms.specs.Sizes.{batch_size}
use Rattle.vdr_durability.specs.Regular.{FollowOn}
use Rattle.vdr_durability.specs.Shown.{pins_on}
use Rattle.vdr_outside.specs.Disk.{Disk, Durable, Image, content}
use Rattle.vdr_outside.proofs.Moments.{size_read}
use Rattle.vdr_config.specs.Configuration.{IsConfiguration}
use Rattle.vdr_config.specs.Sizes.{sizes_of}
use Rattle.vdr_media.proofs.Members.{front_of, numbers, of_all, of_each, rest_of}
use Rattle.vdr_segment.specs.Slots.{SameFront}
use Rattle.vdr_segment.proofs.Fronts.{front_same}
use Rattle.vdr_ring.specs.Rings.{RingState}
use Rattle.vdr_directory.specs.Growing.{Continues}
use Rattle.vdr_ring.specs.Stages.{AreStages, Stages}
use Rattle.vdr_ring.specs.Regularity.{MissOneAtMost}
use Rattle.vdr_ring.specs.Keeping.{AreWhole}
use Rattle.vdr_ring.proofs.Staging.{stages_in_order}
use Rattle.vdr_opening.specs.Media.{members_with, Contents, HoldsContents, IsMedium, reading_of}
use Rattle.vdr_opening.specs.Answers.{IsMissing}
use Rattle.vdr_ring.specs.Openings.{IsRingOf}
use Rattle.vdr_vault.proofs.Members.{chosen, chosen_is, given_at, waiting_at}
use Rattle.vdr_vault.specs.Openings.{EndsWithin}
use Rattle.vdr_vault.specs.Passes.{Passes}
use Rattle.vdr_ring.proofs.Records.{records_are}
use Rattle.vdr_vault.proofs.ShownImages.{front_stays, table_stays, placed_there}
use Rattle.vdr_ring.proofs.Continuing.{begins_first, continues}
use Rattle.vdr_vault.proofs.CommitReady.{windowed}
use Rattle.vdr_ring.proofs.Allowed.{at_both}
use Rattle.vdr_ring.specs.Taking.{Has, Lacks as Waiting}
use Rattle.vdr_ring.proofs.Batching.{begun, follows, last_is_legal, last_runs_on, placed_goes_on, runs_from}

-- The place of a batch's first record.
abbrev pub first_place : List Record → ℕ
first_place [] = 0
first_place (r ∷ rs) = r.place

begins_first_place : (batch : List Record) (place : ℕ) → begins_at place batch ≡ true → place ≡ first_place batch
begins_first_place [] place is = absurd (true≢false (sym is))
begins_first_place (r ∷ rs) place is = sym (eqb-true r.place place is)

-- Media that meet: so many end with the batch, and the others before it.
module _ (r : Reading) (batch : Option (List Record)) where
  abbrev Ended : ℕ → Type 0
  Ended m = last (r.batches m) ≡ batch

  abbrev Waits : ℕ → Type 0
  Waits m = ends_before batch (r.batches m) ≡ true

  ends_split : (ms : List ℕ) → EndBy r batch ms → (j : ℕ) × All Ended (take j ms) × All Waits (drop j ms)
  ends_split [] h = (0, All-nil Ended, All-nil Waits)
  ends_split (m ∷ ms) (inl (has, rest)) = let s = ends_split ms rest in (suc s.0, All-cons Ended m (take s.0 ms) has s.1, s.2)
  ends_split (m ∷ ms) (inr waits) = (0, All-nil Ended, waits)

  behind_first : (m : ℕ) (ms : List ℕ) → Ended m → EndBy r batch (m ∷ ms) → (j : ℕ) × All Ended (take (suc j) (m ∷ ms)) × All Waits (drop j ms)
  behind_first m ms here (inl (has, rest)) = let s = ends_split ms rest in (s.0, All-cons Ended m (take s.0 ms) has s.1, s.2)
  behind_first m ms here (inr waits) = (0, All-cons Ended m [] here (All-nil Ended), All-tail Waits m ms waits)

-- What media whose ends meet lack
module _ (x : Contents) where
  -- the media from this number on
  pub record IsLacked (missing : List Record) (lacking : ℕ) : Type 0 where
    pub behind : 0 < lacking
    pub is : IsMissing (members_with x.further) missing lacking (reading_of x)

  missing_by : (o : Option (List Record)) → last (batches_in (x.placed 0)) ≡ o → (j : ℕ) → All (Ended (reading_of x) o) (take (suc j) (members_with x.further)) → All (Waits (reading_of x) o) (drop (suc j) (members_with x.further))
      → (missing : List Record) × (lacking : ℕ) × IsLacked missing lacking
  missing_by None is j given waits = ([], suc j, record { behind = omega arith; is = inl (refl, level) })
    where
      Level : ℕ → Type 0
      Level m = last (batches_in (x.placed m)) ≡ last (batches_in (x.placed 0))

      level : AreLevel (members_with x.further) (reading_of x)
      level = subst (All Level) (take-append-drop (suc j) (members_with x.further))
          (All-append Level (take (suc j) (members_with x.further)) (drop (suc j) (members_with x.further)) (λ i d lt. given i d lt ∙ sym is) (λ i d lt. absurd (true≢false (sym (waits i d lt)))))
  missing_by (Some batch) is j given waits = (
    batch,
    suc j,
    record {
      behind = omega arith;
      is = inr (record { split = sym (take-append-drop (suc j) (members_with x.further)); some = omega arith; given_end = given; waiting_end = waits });
    },
  )

  pub lacked : EndsMeet (members_with x.further) (reading_of x) → (missing : List Record) × (lacking : ℕ) × IsLacked missing lacking
  lacked meet =
      let s = behind_first (reading_of x) (last (batches_in (x.placed 0))) 0 (drop 1 (members_with x.further)) refl meet in
      missing_by (last (batches_in (x.placed 0))) refl s.0 s.1 s.2

-- Media that hold these contents lack no more than that.
pub held_within : (x : Contents) (image : Image) → EndsMeet (members_with x.further) (reading_of x) → HoldsContents image x → EndsWithin x image
held_within x image meet h =
    let lacks = lacked x meet in
    record {
      now = x.placed;
      media = h.media;
      table = h.table;
      missing = lacks.0;
      lacking = lacks.1;
      behind = lacks.2.behind;
      lacks = lacks.2.is;
      kept = λ i d lt. refl;
      whole = λ i d lt. record { kept = x.placed (get_or (drop lacks.1 (members_with x.further)) i d); missing = inl refl; batches = inl refl };
    }

-- What is known of the media before it: they hold these contents, they are durable, and these are their rings.
pub record Lacks {tells tells_images : Type 0} (x : Contents) (batch : List Record) (lacking : ℕ) (ring : ℕ → RingState) (disk : Disk tells tells_images) : Type 0 where
  pub told : tells
  pub holds : HoldsContents disk.reads x
  pub some : 0 < lacking
  pub within : lacking ≤ 2 + x.further
  pub passed : IsPassedOn (members_with x.further) (take lacking (members_with x.further)) (drop lacking (members_with x.further)) batch (reading_of x)
  pub durable : (k : ℕ) → k < 2 + x.further → Durable k disk
  pub is_its : (k : ℕ) → k < 2 + x.further → IsRingOf x.config disk.sizes k (ring k)
  pub reads : (k : ℕ) → k < 2 + x.further → HoldsPlaced (ring k).segment (ring k).slots (x.placed k) (content disk.reads k)
  pub ranges : IsConfiguration x.config
  pub fits : 64 + batch_size batch + 1 ≤ x.config.segment

module _ {tells tells_images : Type 0} (x : Contents) (batch : List Record) (lacking : ℕ) (ring : ℕ → RingState) (disk : Disk tells tells_images) (h : Lacks x batch lacking ring disk) where
  pub media : (k : ℕ) → k < 2 + x.further → IsMedium k x.config x.text (x.placed k) (content disk.reads k)
  media = of_each (λ m. IsMedium m x.config x.text (x.placed m) (content disk.reads m)) x.further h.holds.media

  pub order : (k : ℕ) → k < 2 + x.further → AreInOrder (x.placed k)
  order k lt = (media k lt).segments.order

  pub ends : (k : ℕ) → k < lacking → last (batches_in (x.placed k)) ≡ Some batch
  ends = given_at x.further lacking batch (reading_of x) h.passed h.within

  pub slots_are : (k : ℕ) → k < 2 + x.further → needed_slots (sizes_of x.config) k ≤ (ring k).slots
  slots_are k lt = subst (λ (n : ℕ). needed_slots (sizes_of x.config) k ≤ n) (sym ((h.is_its k lt).slots ∙ ap (λ (n : ℕ). slots_in (sizes_of x.config) n) (sym (size_read disk k h.told)))) (media k lt).front.configured.fits

  -- What the media have of the batch, in an image.
  abbrev pub LacksIt : ℕ → List ℕ → Type 0
  LacksIt k bytes = Waiting false (ring k) (pins_on k x.table) (x.placed k) (first_place batch) batch (content disk.reads k) bytes

  abbrev pub HasIt : ℕ → List ℕ → Type 0
  HasIt k bytes = Has false (ring k) (pins_on k x.table) (x.placed k) (first_place batch) batch (content disk.reads k) bytes

  -- An image of them while those from the number on are given it.
  abbrev pub IsPassing : Image → Type 0
  IsPassing = Passes LacksIt HasIt lacking (2 + x.further) disk.now

  -- Those before are as they were.
  pub same_there : (i : Image) → IsPassing i → (k : ℕ) → k < lacking → content i k ≡ content disk.reads k
  same_there i p k lt = p.others k (inl lt) ∙ (h.durable k (let within = h.within in omega (arith, lt, within))).each p.image p.was

  -- One of those that lack it
  module _ (k : ℕ) (low : lacking ≤ k) (lt : k < 2 + x.further) where
    pub waits : ends_before (Some batch) (batches_in (x.placed k)) ≡ true
    waits = waiting_at x.further lacking batch (reading_of x) h.passed k low lt

    comes : comes_next (last (all_records (x.placed k))) batch ≡ true
    comes = ap (λ (rs : List Record). comes_next (last rs) batch) (sym (records_are (x.placed k))) ∙ waits

    begins : begins_at (next_after (last (all_records (x.placed k)))) batch ≡ true
    begins = (and_parts _ _ comes).0

    pub next_is : next_after (last (all_records (x.placed k))) ≡ first_place batch
    next_is = begins_first_place batch (next_after (last (all_records (x.placed k)))) begins

    begins_there : begins_at (first_place batch) batch ≡ true
    begins_there = subst (λ (n : ℕ). begins_at n batch ≡ true) next_is begins

    pub lacked_runs : RunOn (first_place batch) batch
    lacked_runs =
        let run = last_runs_on (x.placed 0) batch (order 0 (omega arith)) (ends 0 h.some) in
        runs_from batch (first_place batch) run.0 run.1 begins_there

    pub lacked_follows : FollowOn (last (all_records (x.placed k))) batch
    lacked_follows =
        let goes_on = placed_goes_on None (x.placed 0) batch (order 0 (omega arith)) (last_contained (batches_in (x.placed 0)) batch (ends 0 h.some)) in
        follows (last (all_records (x.placed k))) batch goes_on.1 goes_on.3 (subst (λ (n : ℕ). RunOn n batch) (sym next_is) lacked_runs) (and_parts _ _ comes).1

    -- The batch goes on where the medium ends.
    pub lacked_goes_on : Continues (x.placed k) (first_place batch) batch
    lacked_goes_on = continues (x.placed k) batch (first_place batch) (order k lt) next_is lacked_runs (begun (first_place batch) batch begins_there) lacked_follows

    module _ (stages : Stages) (are : AreStages (ring k).segment (ring k).slots (ring k).seconds (pins_on k x.table) (x.placed k) (first_place batch) batch stages) where
      pub lacked_orders : AreInOrder stages.closed × AreInOrder stages.begun × AreInOrder stages.done × AreInOrder stages.left
      lacked_orders =
          let enough = slots_are k lt in
          let reads = h.reads k lt in
          let found = stages_in_order (ring k).segment (ring k).slots (ring k).seconds (pins_on k x.table) reads.slots (x.placed k) (first_place batch) batch stages (record {
            sequence = reads.sequence;
            every = reads.all_slots;
            order = order k lt;
            batches = legal_batches (ring k).segment (ring k).slots (x.placed k) (content disk.reads k) reads;
            goes_on = lacked_goes_on;
            legal = last_is_legal _ _ (x.placed 0) _ batch (media 0 (omega arith)).segments.holds (ends 0 h.some);
            fits = subst (λ (n : ℕ). 64 + batch_size batch + 1 ≤ n) (sym (h.is_its k lt).segment) h.fits;
            some = subst (λ (n : ℕ). 0 < n) (sym (h.is_its k lt).seconds) (windowed x.config k h.ranges);
            two = omega (arith, enough);
          }) are in
          (found.0, found.1 (begins_first (x.placed k) (first_place batch) next_is), found.2, found.3)

    pub lacked_order : (bytes : List ℕ) (l : LacksIt k bytes) → AreInOrder l.now
    lacked_order bytes l = ⊎_elim
        (λ (e : l.now ≡ x.placed k). subst AreInOrder (sym e) (order k lt))
        (λ s. ⊎_elim (λ (e : l.now ≡ s.0.closed). subst AreInOrder (sym e) (lacked_orders s.0 s.1).0) (λ (e : l.now ≡ s.0.begun). subst AreInOrder (sym e) (lacked_orders s.0 s.1).1) s.2)
        l.stage

    pub had_order : (bytes : List ℕ) (d : HasIt k bytes) → AreInOrder d.now
    had_order bytes d = let orders = lacked_orders d.stages d.are in at_both d.stages d.now d.stage AreInOrder orders.2 orders.3

  -- A medium with other segments behind the same front is legal.
  pub legal_with : (k : ℕ) → k < 2 + x.further → (now : List Placed) (bytes : List ℕ) → SameFront (content disk.reads k) bytes → HoldsPlaced (ring k).segment (ring k).slots now bytes → AreInOrder now → IsMedium k x.config x.text now bytes
  legal_with k lt now bytes front held in_order = record {
    front = front_stays (content disk.reads k) bytes front k x.config x.text (media k lt).front;
    segments = record { holds = placed_there x.config disk.sizes k (ring k) now bytes (h.is_its k lt) (front.size ∙ size_read disk k h.told) held; order = in_order };
  }

  -- One that has it already is as it was.
  pub legal_there : (i : Image) → IsPassing i → (k : ℕ) → k < lacking → IsMedium k x.config x.text (x.placed k) (content i k)
  legal_there i p k lt = subst (IsMedium k x.config x.text (x.placed k)) (sym (same_there i p k lt)) (media k (let within = h.within in omega (arith, lt, within)))

  pub front_there : (i : Image) → IsPassing i → (k : ℕ) → k < lacking → SameFront (content disk.reads k) (content i k)
  front_there i p k lt = subst (SameFront (content disk.reads k)) (sym (same_there i p k lt)) (front_same (content disk.reads k))

  -- Whole batches stand there at every moment.
  module _ (batches : (k : ℕ) (stages : Stages) → AreStages (ring k).segment (ring k).slots (ring k).seconds (pins_on k x.table) (x.placed k) (first_place batch) batch stages
      → MissOneAtMost stages.closed (x.placed k) × (batches_in stages.begun ≡ batches_in stages.closed) × (batches_in stages.done ≡ batches_in stages.closed ++ batch ∷ [])
      × (batches_in stages.left ≡ batches_in stages.done)) where
    whole_lacking : (k : ℕ) (bytes : List ℕ) (l : LacksIt k bytes) → AreWhole (x.placed k) l.now batch
    whole_lacking k bytes l = ⊎_elim
        (λ (e : l.now ≡ x.placed k). record { kept = x.placed k; missing = inl refl; batches = inl (ap batches_in e) })
        (λ s.
        let b = batches k s.0 s.1 in
        ⊎_elim
        (λ (e : l.now ≡ s.0.closed). record { kept = s.0.closed; missing = b.0; batches = inl (ap batches_in e) })
        (λ (e : l.now ≡ s.0.begun). record { kept = s.0.closed; missing = b.0; batches = inl (ap batches_in e ∙ b.1) })
        s.2)
        l.stage

    whole_having : (k : ℕ) (bytes : List ℕ) (d : HasIt k bytes) → AreWhole (x.placed k) d.now batch
    whole_having k bytes d =
        let b = batches k d.stages d.are in
        record { kept = d.stages.closed; missing = b.0; batches = inr (at_both d.stages d.now d.stage (λ ps. batches_in ps ≡ batches_in d.stages.closed ++ batch ∷ []) b.2 (b.3 ∙ b.2)) }

    -- What medium k has in an image.
    record Within (i : Image) (k : ℕ) (now : List Placed) : Type 0 where
      pub legal : IsMedium k x.config x.text now (content i k)
      pub front : SameFront (content disk.reads k) (content i k)
      pub kept : k < lacking → now ≡ x.placed k
      pub whole : lacking ≤ k → AreWhole (x.placed k) now batch

    within_at : (i : Image) → IsPassing i → (k : ℕ) → k < 2 + x.further → (now : List Placed) × Within i k now
    within_at i p k lt = elim (cases_lt k lacking) [
      | inl below ↦ (
        x.placed k,
        record { legal = legal_there i p k below; front = front_there i p k below; kept = λ _. refl; whole = λ low. absurd (omega (arith, low, below)) },
      )
      | inr low ↦ elim (cases_lt k p.given) [
        | inl has ↦
            let d = p.has k low has in (
              d.now,
              record {
                legal = legal_with k lt d.now (content i k) d.front d.holds (had_order k low lt (content i k) d);
                front = d.front;
                kept = λ below. absurd (omega (arith, low, below));
                whole = λ _. whole_having k (content i k) d;
              },
            )
        | inr lacks ↦
            let l = p.lack k lacks lt in (
              l.now,
              record {
                legal = legal_with k lt l.now (content i k) l.front l.holds (lacked_order k low lt (content i k) l);
                front = l.front;
                kept = λ below. absurd (omega (arith, low, below));
                whole = λ _. whole_lacking k (content i k) l;
              },
            )
      ]
    ]

    pub appending_within : (i : Image) → IsPassing i → EndsWithin x i
    appending_within i p =
        let now = chosen [] (Within i) (2 + x.further) (within_at i p) in
        let now_is : (k : ℕ) → k < 2 + x.further → Within i k (now k) = chosen_is [] (Within i) (2 + x.further) (within_at i p) in
        let within = h.within in
        record {
          now = now;
          media = of_all (λ m. IsMedium m x.config x.text (now m) (content i m)) x.further (λ k lt. (now_is k lt).legal);
          table = table_stays (content disk.reads 1) (content i 1) (now_is 1 (omega arith)).front x.config.incident_slots x.table h.ranges.slots_high h.holds.table;
          missing = batch;
          lacking = lacking;
          behind = h.some;
          lacks = inr h.passed;
          kept = front_of (numbers x.further) (λ m. now m ≡ x.placed m) lacking within (λ k lt. (now_is k (omega (arith, lt, within))).kept lt);
          whole = rest_of (numbers x.further) (λ m. AreWhole (x.placed m) (now m) batch) lacking (λ k low lt. (now_is k lt).whole low);
        }
