-- What one medium has at each stage of an append that its configuration allows.
use Rattle.std.proofs.Common.{◌≡◌, ◌≢◌, ⊎_elim, ℕ, ◌<◌, ◌≤◌, List, [], ◌∷◌, ◌++◌, length, flat_map, true, Contains, Some, refl, sym, ap, ◌∙◌, subst, arith, append_assoc, append-nil}
use Rattle.std.proofs.lemmas.Bool.{and_parts, leb-true}
use Rattle.std.proofs.lemmas.List.Elements.{Contains-append_cases, Contains-append_left, Contains-append_right}
use mathlib.Core.List.{Sublist, sublist-append_right}
use mathlib.Core.List.Sublist
use Rattle.vdr_terms.specs.Records.{Record, last_after, last}
use Rattle.vdr_terms.specs.Needs.{Sizes, cost, usable}
use Rattle.vdr_durability.specs.Layout.{Batches, records_in, segment_records}
use Rattle.vdr_durability.specs.Regular.{IsPaced}
use Rattle.vdr_durability.specs.Retention.{Pin, Retains, at_places, within}
use Rattle.vdr_durability.specs.Victims.{ArePinsOf, MayGo}
use Rattle.vdr_durability.proofs.Lists.{contains_filter, filter_test, filter_was, last_behind, last_contained}
use Rattle.vdr_durability.proofs.Appended.{remove_stays_paced}
use Rattle.vdr_durability.proofs.Paced.{begin_stays_paced}
use Rattle.vdr_durability.proofs.Needed.{last_stays}
use Rattle.vdr_durability.proofs.Ordered.{parts_in_order}
use Rattle.vdr_durability.proofs.Following.{follow_in_order}
use Rattle.vdr_durability.proofs.Restored.{all_with}
use Rattle.vdr_durability.specs.Media.{IsAppended}
use Rattle.vdr_directory.specs.Sequence.{Placed, all_records, batches_in, batches_of, records_of, segments_in}
use Rattle.vdr_directory.specs.Order.{AreInOrder, HasNone, MayPrecede}
use Rattle.vdr_directory.specs.Growing.{new_segment, next_seq, with_batch_in}
use Rattle.vdr_directory.specs.Leaving.{summarized}
use Rattle.vdr_ring.specs.Stages.{AreStages, Stages}
use Rattle.vdr_ring.specs.Regularity.{AreRegular, IsAllowed}
use Rattle.vdr_ring.proofs.Medium.{in_order_records}
use Rattle.vdr_directory.proofs.Ordering.{has_records}
use Rattle.vdr_directory.proofs.Behind.{in_the_middle}
use Rattle.vdr_ring.proofs.Going.{goes_by_records}
use Rattle.vdr_ring.proofs.Oldest.{victim_is_oldest}
use Rattle.vdr_ring.proofs.Retaining.{begun_retains, closed_retains, done_retains, left_retains, same_segments, stages_regular}
use Rattle.vdr_ring.proofs.Pinned.{HoldPins, more_places, pins_begun, pins_stay, pins_with, place_recorded, victim_in_place}
use Rattle.vdr_ring.specs.Taking.{HaveBatch}
use Rattle.vdr_ring.proofs.Records.{records_are}
use Rattle.vdr_directory.proofs.Endings.{batches_append}

-- Segments and their batches

pub records_append : (xs ys : List Placed) → all_records (xs ++ ys) ≡ all_records xs ++ all_records ys
records_append [] ys = refl
records_append (x ∷ xs) ys = ap (λ (rs : List Record). records_of x ++ rs) (records_append xs ys) ∙ sym (append_assoc (records_of x) (all_records xs) (all_records ys))

pub last_of_both : (xs ys : List Record) → 0 < length ys → last (xs ++ ys) ≡ last ys
last_of_both xs [] some = absurd (omega (arith, some))
last_of_both xs (y ∷ ys) some = last_behind xs y ys

pub segments_batches : (ps : List Placed) → flat_map (λ (segment : Batches). segment) (segments_in ps) ≡ batches_in ps
segments_batches [] = refl
segments_batches (p ∷ ps) = ap (λ (bs : Batches). batches_of p ++ bs) (segments_batches ps)

-- with a batch in the newest
pushed : (older : List Placed) (newest : Placed) (records : List Record) → batches_in (older ++ with_batch_in newest records ∷ []) ≡ batches_in (older ++ newest ∷ []) ++ records ∷ []
pushed older newest records =
    batches_append older (with_batch_in newest records ∷ [])
    ∙ ap (λ (bs : Batches). batches_in older ++ bs) (append-nil (batches_of newest ++ records ∷ []))
    ∙ sym (append_assoc (batches_in older) (batches_of newest) (records ∷ []))
    ∙ ap (λ (bs : Batches). (batches_in older ++ bs) ++ records ∷ []) (sym (append-nil (batches_of newest)))
    ∙ ap (λ (bs : Batches). bs ++ records ∷ []) (sym (batches_append older (newest ∷ [])))

-- The last batch stays: the victim doesn't have it.
last_stays_behind : (seconds : ℕ) (pins : List Pin) (before : List Placed) (v : Placed) (after : List Placed) → 0 < seconds → AreInOrder (before ++ v ∷ after)
    → MayGo seconds pins (all_records (before ++ v ∷ after)) (batches_of v) → after ≢ [] → last (batches_in (before ++ after)) ≡ last (batches_in (before ++ v ∷ after))
last_stays_behind seconds pins before v after some order may_go behind = go (batches_in after) refl
  where
    has : (after : List Placed) → after ≢ [] → MayPrecede v after → HasNone v → ⊥
    has [] some precedes none = some refl
    has (q ∷ rest) some precedes none = has_records v q rest precedes none

    nonempty : (rs : List Record) → (rs ≡ [] → ⊥) → (x : Record) × (xs : List Record) × (rs ≡ x ∷ xs)
    nonempty [] h = absurd (h refl)
    nonempty (x ∷ xs) h = (x, xs, refl)

    -- were there nothing behind it
    gone : batches_in after ≡ [] → ⊥
    gone e =
        let r = nonempty (records_of v) (has after behind (victim_in_place before v after order).1.precedes) in
        let none : all_records after ≡ [] = sym (records_are after) ∙ ap segment_records e in
        let ends : last (all_records (before ++ v ∷ after)) ≡ Some (last_after r.0 r.1) =
        ap last (records_append before (v ∷ after) ∙ ap (λ (rs : List Record). all_records before ++ (records_of v ++ rs)) none ∙ ap (λ (rs : List Record). all_records before ++ rs) (append-nil (records_of v) ∙ r.2))
        ∙ last_behind (all_records before) r.0 r.1 in
        last_stays seconds pins (all_records (before ++ v ∷ after)) (batches_of v) (last_after r.0 r.1) some ends
        (last_contained (records_of v) (last_after r.0 r.1) (ap last r.2)) may_go

    go : (bs : Batches) → batches_in after ≡ bs → last (batches_in (before ++ after)) ≡ last (batches_in (before ++ v ∷ after))
    go [] e = absurd (gone e)
    go (b ∷ bs) e =
        ap last (batches_append before after ∙ ap (λ (l : Batches). batches_in before ++ l) e) ∙ last_behind (batches_in before) b bs
        ∙ sym (ap last (batches_append before (v ∷ after) ∙ ap (λ (l : Batches). batches_in before ++ (batches_of v ++ l)) e ∙ sym (append_assoc (batches_in before) (batches_of v) (b ∷ bs)))
        ∙ last_behind (batches_in before ++ batches_of v) b bs)

-- Until the batch is there: its last batch, what it retains, and the pinned places, are as before.
pub record IsBefore (seconds : ℕ) (pins : List Pin) (all : List Record) (placed now : List Placed) : Type 0 where
  pub ends : last (batches_in now) ≡ last (batches_in placed)
  pub retains : Retains seconds pins all (all_records now)
  pub pinned : HoldPins pins now

-- And meanwhile the medium is regular, the batch may come next on it, and its pins are allowed with the batch too.
pub record StaysRegular (sizes : Sizes) (m : ℕ) (pins : List Pin) (records : List Record) (now : List Placed) : Type 0 where
  pub regular : AreRegular (cost sizes) (usable sizes) sizes.batch now
  pub paced : IsPaced (cost sizes) sizes.batch (segments_in now) records
  pub pins_with : ArePinsOf sizes m (all_records now ++ records) pins

-- What is said of both stages with the batch is said of the segments that have it.
pub at_both : (stages : Stages) (now : List Placed) → HaveBatch stages now → (P : List Placed → Type 0) → P stages.done → P stages.left → P now
at_both stages now have P done left = ⊎_elim (λ (e : now ≡ stages.done). subst P (sym e) done) (λ (e : now ≡ stages.left). subst P (sym e) left) have

-- Once it is.
pub record IsAfter (sizes : Sizes) (m seconds : ℕ) (pins : List Pin) (all records : List Record) (placed now : List Placed) : Type 0 where
  pub ends : last (batches_in now) ≡ Some records
  pub retains : Retains seconds pins (all ++ records) (all_records now)
  pub pinned : HoldPins pins now
  pub regular : AreRegular (cost sizes) (usable sizes) sizes.batch now
  pub pins_are : ArePinsOf sizes m (all_records now) pins
  pub appended : IsAppended (segments_in placed) records (segments_in now)
  pub ends_all : last (all_records now) ≡ last records

-- What is known of the medium before the call.
pub record IsReady (sizes : Sizes) (m size count seconds : ℕ) (pins : List Pin) (all records : List Record) (placed : List Placed) : Type 0 where
  pub allowed : IsAllowed sizes m size count seconds pins placed records
  pub order : AreInOrder placed
  pub retains : Retains seconds pins all (all_records placed)
  pub pinned : HoldPins pins placed

segments_append : (xs ys : List Placed) → segments_in (xs ++ ys) ≡ segments_in xs ++ segments_in ys
segments_append [] ys = refl
segments_append (x ∷ xs) ys = ap (λ (ss : List Batches). batches_of x ∷ ss) (segments_append xs ys)

module _ (sizes : Sizes) (m size count seconds : ℕ) (pins : List Pin) (all records : List Record) (placed : List Placed) (ready : IsReady sizes m size count seconds pins all records placed) where
  -- no new record has a pinned place
  new_unpinned : (pin : Pin) → Contains pins pin → (r : Record) → Contains records r → within pin.a pin.b r ≡ true → ⊥
  new_unpinned pin there r new inside =
      let parts = and_parts _ _ inside in
      let low : pin.a ≤ r.place = leb-true pin.a r.place parts.0 in
      let high : r.place ≤ pin.b = leb-true r.place pin.b parts.1 in
      let at = place_recorded pin.b placed ready.order (ready.pinned pin there pin.b (omega (arith, low, high)) (omega arith)) in
      let later = ((parts_in_order (all_records placed) records (follow_in_order (all_records placed) records (in_order_records placed ready.order) ready.allowed.paced.order)).2 at.0 r at.1 new).0 in
      let place = at.2 in
      omega (arith, later, place, high)

  -- What is left of the medium, while the batch may come next.
  stays : (now : List Placed) → ((r : Record) → Contains (all_records now) r → Contains (all_records placed) r) → AreRegular (cost sizes) (usable sizes) sizes.batch now
      → IsPaced (cost sizes) sizes.batch (segments_in now) records → StaysRegular sizes m pins records now
  stays now was regular paced = record {
    regular = regular;
    paced = paced;
    pins_with = record {
      few = ready.allowed.saves.few;
      short = λ pin there r s k l. ready.allowed.saves.short pin there r s (pinned pin there r k) (pinned pin there s l);
    };
  }
    where
      pinned : (pin : Pin) → Contains pins pin → (r : Record) → Contains (at_places pin.a pin.b (all_records now ++ records)) r → Contains (at_places pin.a pin.b (all_records placed)) r
      pinned pin there r h =
          let inside = filter_test (within pin.a pin.b) (all_records now ++ records) r h in
          ⊎_elim
          (λ (k : Contains (all_records now) r). contains_filter (within pin.a pin.b) (all_records placed) r (was r k) inside)
          (λ (k : Contains records r). absurd (new_unpinned pin there r k inside))
          (Contains-append_cases (all_records now) records r (filter_was (within pin.a pin.b) (all_records now ++ records) r h))

  pub placed_stays : StaysRegular sizes m pins records placed
  placed_stays = stays placed (λ r h. h) ready.allowed.regular ready.allowed.paced

module _ (sizes : Sizes) (m size count seconds : ℕ) (pins : List Pin) (all records : List Record) (placed : List Placed) (first : ℕ) (ready : IsReady sizes m size count seconds pins all records placed) (stages : Stages)
    (are : AreStages size count seconds pins placed first records stages) where
  -- Nothing goes, or a victim that isn't the newest: what holds of both holds of what is left.
  closed_from : (P : List Placed → List Placed → Type 0) → P placed placed
      → ((before : List Placed) (v : Placed) (after : List Placed) → AreInOrder (before ++ v ∷ after) → MayGo seconds pins (all_records (before ++ v ∷ after)) (batches_of v) → after ≢ [] → P (before ++ v ∷ after) (before ++ after))
      → P placed stages.closed
  closed_from P same gone = ⊎_elim
      (λ g. subst (P placed) (sym g.closed) same)
      (λ b. ⊎_elim
      (λ k. subst (P placed) (sym k.1) same)
      (λ k.
      let o = victim_is_oldest sizes m size count seconds pins placed records k.1 k.2 k.3 ready.allowed k.0 k.4 in
      subst (λ (p : List Placed × List Placed). P p.0 p.1) (λ i. (sym o.0.split i, sym k.6 i))
      (gone k.1 k.2 k.3 (subst AreInOrder o.0.split ready.order) (subst (λ (ps : List Placed). MayGo seconds pins (all_records ps) (batches_of k.2)) o.0.split
      (goes_by_records seconds pins placed k.2 ready.order (subst (λ (ps : List Placed). Contains ps k.2) (sym o.0.split) (in_the_middle k.1 k.2 k.3)) o.0.may_go)) o.1))
      b.place)
      are.0

  -- A segment is begun behind them, or none.
  begun_from : (P : List Placed → Type 0) → P stages.closed → ((slot seq : ℕ) → P (stages.closed ++ new_segment slot seq first ∷ [])) → P stages.begun
  begun_from P same begun = ⊎_elim (λ g. subst P (sym (g.begun ∙ sym g.closed)) same) (λ b. subst P (sym b.begun) (begun b.slot (next_seq (last placed)))) are.0

  -- The batch goes into the newest.
  done_from : (P : List Placed → List Placed → Type 0) → ((older : List Placed) (newest : Placed) → P (older ++ newest ∷ []) (older ++ with_batch_in newest records ∷ [])) → P stages.begun stages.done
  done_from P more = ⊎_elim
      (λ g. subst (λ (p : List Placed × List Placed). P p.0 p.1) (λ i. (sym (g.begun ∙ g.split) i, sym g.done i)) (more g.older g.newest))
      (λ b. subst (λ (p : List Placed × List Placed). P p.0 p.1) (λ i. (sym b.begun i, sym b.done i)) (more stages.closed (new_segment b.slot (next_seq (last placed)) first)))
      are.0

  pub begun_batches : batches_in stages.begun ≡ batches_in stages.closed
  begun_batches = begun_from (λ ps. batches_in ps ≡ batches_in stages.closed) refl (λ slot seq. batches_append stages.closed (new_segment slot seq first ∷ []) ∙ append-nil (batches_in stages.closed))

  pub done_batches : batches_in stages.done ≡ batches_in stages.closed ++ records ∷ []
  done_batches = done_from (λ begun done. batches_in done ≡ batches_in begun ++ records ∷ []) (λ older newest. pushed older newest records) ∙ ap (λ (bs : Batches). bs ++ records ∷ []) begun_batches

  pub left_batches : batches_in stages.left ≡ batches_in stages.done
  left_batches = sym (segments_batches stages.left) ∙ ap (flat_map (λ (segment : Batches). segment)) (same_segments records stages are.1) ∙ segments_batches stages.done

  closed_ends : last (batches_in stages.closed) ≡ last (batches_in placed)
  closed_ends = closed_from (λ was now. last (batches_in now) ≡ last (batches_in was)) refl (λ before v after order may_go some. last_stays_behind seconds pins before v after ready.allowed.some order may_go some)

  closed_pins : HoldPins pins stages.closed
  closed_pins = closed_from (λ was now. HoldPins pins was → HoldPins pins now) (λ h. h) (λ before v after order may_go some. pins_stay seconds pins _ before v after may_go order) ready.pinned

  begun_pins : HoldPins pins stages.begun
  begun_pins = begun_from (HoldPins pins) closed_pins (λ slot seq. pins_begun pins stages.closed (new_segment slot seq first ∷ []) closed_pins)

  done_pins : HoldPins pins stages.done
  done_pins = done_from (λ begun done. HoldPins pins begun → HoldPins pins done) (λ older newest. pins_with pins older newest (with_batch_in newest records) [] (λ place. more_places place newest records)) begun_pins

  left_pins : HoldPins pins stages.left
  left_pins = ⊎_elim
      (λ none. subst (HoldPins pins) (sym none.1) done_pins)
      (λ l. subst (HoldPins pins) (sym l.left)
      (pins_with pins l.behind.older l.behind.left (summarized l.behind.left l.summary) (with_batch_in l.behind.newest records ∷ []) (λ place h. record { from = h.from; below = h.below })
      (subst (HoldPins pins) l.done done_pins)))
      are.1

  pub closed_before : IsBefore seconds pins all placed stages.closed
  closed_before = record {
    ends = closed_ends;
    retains = closed_retains sizes m size count seconds pins placed first all records stages ready.allowed are ready.retains;
    pinned = closed_pins;
  }

  pub begun_before : IsBefore seconds pins all placed stages.begun
  begun_before = record {
    ends = ap last begun_batches ∙ closed_ends;
    retains = begun_retains sizes m size count seconds pins placed first all records stages ready.allowed are ready.retains;
    pinned = begun_pins;
  }

  -- Of the records that are left, and of the new ones

  was_there : (r : Record) → Contains (all_records stages.closed) r → Contains (all_records placed) r
  was_there r = closed_from (λ was now. Contains (all_records now) r → Contains (all_records was) r) (λ h. h) (λ before v after order may_go some h.
      subst (λ (rs : List Record). Contains rs r) (sym (records_append before (v ∷ after)))
      (⊎_elim
      (λ (l : Contains (all_records before) r). Contains-append_left (all_records before) (records_of v ++ all_records after) r l)
      (λ (l : Contains (all_records after) r). Contains-append_right (all_records before) (records_of v ++ all_records after) r (Contains-append_right (records_of v) (all_records after) r l))
      (Contains-append_cases (all_records before) (all_records after) r (subst (λ (rs : List Record). Contains rs r) (records_append before after) h))))

  some_kept : Sublist (batches_in stages.closed) (batches_in placed)
  some_kept = closed_from (λ was now. Sublist (batches_in now) (batches_in was)) (Sublist.refl (batches_in placed)) (λ before v after order may_go some.
      subst (λ (p : Batches × Batches). Sublist p.0 p.1) (λ i. (sym (batches_append before after) i, sym (batches_append before (v ∷ after)) i))
      (Sublist.append (Sublist.refl (batches_in before)) (sublist-append_right (batches_of v) (batches_in after))))

  closed_paced : IsPaced (cost sizes) sizes.batch (segments_in stages.closed) records
  closed_paced = closed_from (λ was now. IsPaced (cost sizes) sizes.batch (segments_in was) records → IsPaced (cost sizes) sizes.batch (segments_in now) records) (λ h. h) (λ before v after order may_go some h.
      subst (λ (ss : List Batches). IsPaced (cost sizes) sizes.batch ss records) (sym (segments_append before after))
      (remove_stays_paced (cost sizes) sizes.batch seconds pins (segments_in before) (batches_of v) (segments_in after) records ready.allowed.some
      (subst (λ (ss : List Batches). MayGo seconds pins (records_in ss) (batches_of v)) (segments_append before (v ∷ after)) may_go)
      (subst (λ (ss : List Batches). IsPaced (cost sizes) sizes.batch ss records) (segments_append before (v ∷ after)) h))) ready.allowed.paced

  begun_paced : IsPaced (cost sizes) sizes.batch (segments_in stages.begun) records
  begun_paced = begun_from (λ ps. IsPaced (cost sizes) sizes.batch (segments_in ps) records) closed_paced (λ slot seq.
      subst (λ (ss : List Batches). IsPaced (cost sizes) sizes.batch ss records) (sym (segments_append stages.closed (new_segment slot seq first ∷ [])))
      (begin_stays_paced (cost sizes) sizes.batch (segments_in stages.closed) records closed_paced))

  pub closed_stays : StaysRegular sizes m pins records stages.closed
  closed_stays = stays sizes m size count seconds pins all records placed ready stages.closed was_there
      (stages_regular sizes m size count seconds pins placed first records stages ready.allowed are).0 closed_paced

  pub begun_stays : StaysRegular sizes m pins records stages.begun
  begun_stays = stays sizes m size count seconds pins all records placed ready stages.begun
      (λ r h. was_there r (subst (λ (rs : List Record). Contains rs r) (sym (records_are stages.begun) ∙ ap segment_records begun_batches ∙ records_are stages.closed) h))
      (stages_regular sizes m size count seconds pins placed first records stages ready.allowed are).1 begun_paced

  -- The batch is there.
  module _ (now : List Placed) (have : HaveBatch stages now) where
    now_batches : batches_in now ≡ batches_in stages.closed ++ records ∷ []
    now_batches = at_both stages now have (λ ps. batches_in ps ≡ batches_in stages.closed ++ records ∷ []) done_batches
        (left_batches ∙ done_batches)

    now_records : all_records now ≡ all_records stages.closed ++ records
    now_records = sym (records_are now) ∙ ap segment_records now_batches ∙ all_with (batches_in stages.closed) records ∙ ap (λ (rs : List Record). rs ++ records) (records_are stages.closed)

    pub done_after : IsAfter sizes m seconds pins all records placed now
    done_after =
        let regular = stages_regular sizes m size count seconds pins placed first records stages ready.allowed are in
        record {
          ends = ap last now_batches ∙ last_behind (batches_in stages.closed) records [];
          retains = at_both stages now have (λ ps. Retains seconds pins (all ++ records) (all_records ps)) (done_retains sizes m size count seconds pins placed first all records stages ready.allowed are ready.retains)
              (left_retains sizes m size count seconds pins placed first all records stages ready.allowed are ready.retains);
          pinned = at_both stages now have (HoldPins pins) done_pins left_pins;
          regular = at_both stages now have (AreRegular (cost sizes) (usable sizes) sizes.batch) regular.2 regular.3;
          pins_are = subst (λ (rs : List Record). ArePinsOf sizes m rs pins) (sym now_records) closed_stays.pins_with;
          appended = record {
            kept = batches_in stages.closed;
            some = subst (Sublist (batches_in stages.closed)) (sym (segments_batches placed)) some_kept;
            order = segments_batches now ∙ now_batches;
          };
          ends_all = ap last now_records ∙ last_of_both (all_records stages.closed) records ready.allowed.paced.some;
        }
