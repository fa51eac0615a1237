-- What restored media retain: of a batch on its way each medium has it, by its own end or as it is restored.
use Rattle.std.proofs.Common.{ℕ, suc, ◌<◌, ◌≤◌, List, [], ◌∷◌, ◌++◌, length, Bool, ◌&&◌, true, false, All, Contains, ◌==◌, Option, Some, None, ◌≡◌, ⊎_elim, refl, sym, ap, ◌∙◌, subst, arith, append-nil}
use Rattle.std.specs.Prelude.{nat_le}
use Rattle.std.proofs.lemmas.Bool.{and_from, cond-true, cond-false, le-leb, ne_eqb}
use Rattle.std.proofs.lemmas.List.Elements.{All-append, All-contains}
use Rattle.std.proofs.lemmas.Grind.{flat_map-append}
use Rattle.vdr_terms.specs.Records.{Record, last_after, last}
use Rattle.vdr_terms.specs.Order.{AreInOrder}
use Rattle.vdr_durability.specs.Layout.{Batches, segment_records}
use Rattle.vdr_durability.specs.Retention.{Pin, Retains}
use Rattle.vdr_durability.specs.Regular.{FollowOn}
use Rattle.vdr_durability.proofs.Lists.{all_from, contains_cases, last_behind, last_contained}
use Rattle.vdr_durability.proofs.Ordered.{parts_in_order, run_on_in_order}
use Rattle.vdr_durability.proofs.Following.{follow_no_earlier}
use Rattle.vdr_durability.proofs.Appended.{append_retains}
use Rattle.vdr_durability.specs.Readings.{Reading, AreLevel, EndBy, EndsMeet, IsPassedOn, begins_at, begins_since, comes_next, ends_before, leading_batch, next_after, records_on, restored, with_next}
use Rattle.vdr_durability.proofs.Meeting.{then_lack}

pub all_with : (batches : Batches) (batch : List Record) → segment_records (batches ++ batch ∷ []) ≡ segment_records batches ++ batch
all_with batches batch = flat_map-append (λ (b : List Record). b) batches (batch ∷ []) ∙ ap (λ (xs : List Record). segment_records batches ++ xs) (append-nil batch)

-- a list that has a last element ends with it
pub record EndsIn {X : Type 0} (xs : List X) (x : X) : Type 0 where
  pub front : List X
  pub split : xs ≡ front ++ x ∷ []

pub ends_in : {X : Type 0} (xs : List X) (x : X) → last xs ≡ Some x → EndsIn xs x
ends_in {X} [] x e = absurd (none e)
  where
    none : None ≡ Some x → ⊥
    none e = cc
ends_in {X} (y ∷ ys) x e = subst (λ (z : X). EndsIn (y ∷ ys) z) (same (last_after y ys) x e) (itself y ys)
  where
    same : (a b : X) → Some a ≡ Some b → a ≡ b
    same a b e = cc

    itself : (y : X) (ys : List X) → EndsIn (y ∷ ys) (last_after y ys)
    itself y [] = record { front = []; split = refl }
    itself y (z ∷ zs) = let k = itself z zs in record { front = y ∷ k.front; split = ap (λ (xs : List X). y ∷ xs) k.split }

-- A batch at the next place that follows the last record may come next.
pub comes_behind : (o : Option Record) (batch : List Record) → begins_at (next_after o) batch ≡ true → FollowOn o batch → comes_next o batch ≡ true
comes_behind None batch begins follow = and_from (begins_at 0 batch) true begins refl
comes_behind (Some newest) [] begins follow = begins
comes_behind (Some newest) (r ∷ rs) begins (run, rises) = and_from (r.place == suc newest.place) (nat_le newest.tick r.tick) begins (le-leb newest.tick r.tick rises.0)

-- What ends with a batch in order does not end before it.
pub ends_not_before : (batches : Batches) (batch : List Record) → AreInOrder batch → last batches ≡ Some batch → ends_before (Some batch) batches ≡ false
ends_not_before batches [] order e = refl
ends_not_before batches (r ∷ rs) order e = ap (λ (o : Option Record). comes_next o (r ∷ rs)) ends ∙ ap (λ (b : Bool). b && begins_since (Some (last_after r rs)) (r ∷ rs)) apart
  where
    k : EndsIn batches (r ∷ rs)
    k = ends_in batches (r ∷ rs) e

    ends : last (segment_records batches) ≡ Some (last_after r rs)
    ends = ap (λ (xs : Batches). last (segment_records xs)) k.split ∙ (ap last (all_with k.front (r ∷ rs)) ∙ last_behind (segment_records k.front) r rs)

    after : r.place ≤ (last_after r rs).place
    after = ⊎_elim
        (λ (e : r ≡ last_after r rs). let d = ap (λ (r : Record). r.place) e in omega (arith, d))
        (λ (k : Contains rs (last_after r rs)). let d = (All-contains (λ later. (r.place < later.place) × (r.tick ≤ later.tick)) rs (last_after r rs) order.0 k).0 in omega (arith, d))
        (contains_cases r rs (last_after r rs) (last_contained (r ∷ rs) (last_after r rs) refl))

    apart : (r.place == suc (last_after r rs).place) ≡ false
    apart = ne_eqb r.place (suc (last_after r rs).place) (λ e. absurd (omega (arith, e, after)))

-- Where it ends with the batch it stays, and where it ends before it the batch is added.
pub next_kept : (batches : Batches) (batch : List Record) → ends_before (Some batch) batches ≡ false → with_next (Some batch) batches ≡ batches
next_kept batches batch e = cond-false (ends_before (Some batch) batches) (batches ++ batch ∷ []) batches e

pub next_added : (batches : Batches) (batch : List Record) → ends_before (Some batch) batches ≡ true → segment_records (with_next (Some batch) batches) ≡ segment_records batches ++ batch
next_added batches batch e = ap segment_records (cond-true (ends_before (Some batch) batches) (batches ++ batch ∷ []) batches e) ∙ all_with batches batch

-- A batch that follows is in order.
pub follow_is_in_order : (o : Option Record) (batch : List Record) → FollowOn o batch → AreInOrder batch
follow_is_in_order None batch (place, run, rises) = run_on_in_order place 0 batch run rises
follow_is_in_order (Some newest) batch (run, rises) = run_on_in_order (suc newest.place) newest.tick batch run rises

-- The leading batch of media that a batch is passed on to is this batch.
first_given : (given waiting : List ℕ) (reading : Reading) (batch : List Record) → 0 < length given → All (λ m. last (reading.batches m) ≡ Some batch) given
    → leading_batch (given ++ waiting) reading ≡ Some batch
first_given [] waiting reading batch some h = absurd (omega (arith, some))
first_given (m ∷ ms) waiting reading batch some h = h 0 m (omega arith)

module _ (members given waiting : List ℕ) (batch : List Record) (reading : Reading) (h : IsPassedOn members given waiting batch reading) where
  pub passed_leads : leading_batch members reading ≡ Some batch
  passed_leads = ap (λ (ms : List ℕ). leading_batch ms reading) h.split ∙ first_given given waiting reading batch h.some h.given_end

  pub passed_meet : EndsMeet members reading
  passed_meet = subst (λ (ms : List ℕ). EndBy reading (leading_batch members reading) ms) (sym h.split)
      (subst (λ (o : Option (List Record)). EndBy reading o (given ++ waiting)) (sym passed_leads) (then_lack reading (Some batch) given waiting h.given_end h.waiting_end))

  -- what the restored medium has, where it has the batch and where it does not
  passed_there : AreInOrder batch → (m : ℕ) → Contains given m → records_on (restored members reading) m ≡ records_on reading m
  passed_there order m there =
      ap (λ (o : Option (List Record)). segment_records (with_next o (reading.batches m))) passed_leads
      ∙ ap segment_records (next_kept (reading.batches m) batch (ends_not_before (reading.batches m) batch order (All-contains (λ m. last (reading.batches m) ≡ Some batch) given m h.given_end there)))

  passed_added : (m : ℕ) → Contains waiting m → records_on (restored members reading) m ≡ records_on reading m ++ batch
  passed_added m there =
      ap (λ (o : Option (List Record)). segment_records (with_next o (reading.batches m))) passed_leads
      ∙ next_added (reading.batches m) batch (All-contains (λ m. ends_before (Some batch) (reading.batches m) ≡ true) waiting m h.waiting_end there)

  -- Each medium, restored, retains of all that it was given with the batch: what has it already, and what retained so much of all before it.
  pub passed_retained : (seconds : ℕ → ℕ) (pins : ℕ → List Pin) (before all : ℕ → List Record) → AreInOrder batch
      → All (λ m. FollowOn (last (before m)) batch) waiting
      → All (λ m. all m ≡ before m ++ batch) waiting
      → All (λ m. Retains (seconds m) (pins m) (all m) (records_on reading m)) given
      → All (λ m. Retains (seconds m) (pins m) (before m) (records_on reading m)) waiting
      → All (λ m. Retains (seconds m) (pins m) (all m) (records_on (restored members reading) m)) members
  passed_retained seconds pins before all order follow grown here there =
      subst (All Restored) (sym h.split) (All-append Restored given waiting
      (all_from Restored given (λ m c. subst (Retains (seconds m) (pins m) (all m)) (sym (passed_there order m c))
      (All-contains (λ m. Retains (seconds m) (pins m) (all m) (records_on reading m)) given m here c)))
      (all_from Restored waiting (λ m c. subst (λ (xs : List Record). Retains (seconds m) (pins m) xs (records_on (restored members reading) m)) (sym (All-contains (λ m. all m ≡ before m ++ batch) waiting m grown c))
      (subst (Retains (seconds m) (pins m) (before m ++ batch)) (sym (passed_added m c))
      (append_retains (seconds m) (pins m) (before m) (records_on reading m) batch (follow_no_earlier (before m) batch (All-contains (λ m. FollowOn (last (before m)) batch) waiting m follow c))
      (All-contains (λ m. Retains (seconds m) (pins m) (before m) (records_on reading m)) waiting m there c))))))
    where
      Restored : ℕ → Type 0
      Restored m = Retains (seconds m) (pins m) (all m) (records_on (restored members reading) m)

-- A medium's last batch is in order where its records are.
pub last_in_order : (batches : Batches) (batch : List Record) → AreInOrder (segment_records batches) → last batches ≡ Some batch → AreInOrder batch
last_in_order batches batch order e =
    let k = ends_in batches batch e in
    (parts_in_order (segment_records k.front) batch (subst AreInOrder (ap segment_records k.split ∙ all_with k.front batch) order)).1

-- Level media are restored as they are.
pub level_restored : (members : List ℕ) (reading : Reading) → AreLevel members reading → All (λ m. AreInOrder (records_on reading m)) members
    → (m : ℕ) → Contains members m → records_on (restored members reading) m ≡ records_on reading m
level_restored members reading level order m there = go (leading_batch members reading) (All-contains (λ m. last (reading.batches m) ≡ leading_batch members reading) members m level there)
  where
    go : (o : Option (List Record)) → last (reading.batches m) ≡ o → segment_records (with_next o (reading.batches m)) ≡ records_on reading m
    go None e = refl
    go (Some batch) e = ap segment_records (next_kept (reading.batches m) batch (ends_not_before (reading.batches m) batch
        (last_in_order (reading.batches m) batch (All-contains (λ m. AreInOrder (records_on reading m)) members m order there) e) e))

pub level_retained : (members : List ℕ) (reading : Reading) (seconds : ℕ → ℕ) (pins : ℕ → List Pin) (all : ℕ → List Record) → AreLevel members reading → All (λ m. AreInOrder (records_on reading m)) members
    → All (λ m. Retains (seconds m) (pins m) (all m) (records_on reading m)) members → All (λ m. Retains (seconds m) (pins m) (all m) (records_on (restored members reading) m)) members
level_retained members reading seconds pins all level order h =
    all_from (λ m. Retains (seconds m) (pins m) (all m) (records_on (restored members reading) m)) members
    (λ m c. subst (Retains (seconds m) (pins m) (all m)) (sym (level_restored members reading level order m c)) (All-contains (λ m. Retains (seconds m) (pins m) (all m) (records_on reading m)) members m h c))

-- Once no medium waits they are level.
pub reached_level : (members given : List ℕ) (batch : List Record) (reading : Reading) → IsPassedOn members given [] batch reading → AreLevel members reading
reached_level members given batch reading h =
    subst (λ (o : Option (List Record)). All (λ m. last (reading.batches m) ≡ o) members) (sym (passed_leads members given [] batch reading h))
    (subst (All (λ m. last (reading.batches m) ≡ Some batch)) (sym (h.split ∙ append-nil given)) h.given_end)
