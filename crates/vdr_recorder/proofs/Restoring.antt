-- What is restored of legible media has rising places.
use Rattle.std.proofs.Common.{◌≡◌, ◌+◌, ◌<◌, ◌≤◌, ℕ, suc, List, [], ◌∷◌, length, All, Contains, Bool, true, false, Option, Some, None, ⊎_elim, refl, sym, ap, subst, arith, true≢false}
use Rattle.std.proofs.lemmas.Bool.{and_parts, eqb-true}
use Rattle.std.proofs.lemmas.List.Elements.{All-append, All-contains, All-head, All-nil, All-weaker}
use Rattle.vdr_terms.specs.Order.{RunOn}
use Rattle.vdr_terms.specs.Records.{Record, last, last_after}
use Rattle.vdr_durability.specs.Layout.{Batches, segment_records}
use Rattle.vdr_durability.proofs.Lists.{all_from, contains_cases, contains_here, last_contained, none_contained}
use Rattle.vdr_outside.specs.Disk.{Image, content}
use Rattle.vdr_durability.specs.Readings.{begins_at, ends_before, leading_batch, next_after, records_on, restored, with_next}
use Rattle.vdr_durability.proofs.Restored.{next_added, next_kept}
use Rattle.vdr_media.specs.Formatted.{members}
use Rattle.vdr_opening.specs.Media.{members_with, Contents, HoldsContents, IsMedium, reading_of}
use Rattle.vdr_directory.specs.Order.{AreInOrder, AreInPlace, IsInPlace, next_place}
use Rattle.vdr_directory.specs.Sequence.{Placed, all_records, batches_in, first_of, records_of}
use Rattle.vdr_ring.proofs.Batching.{placed_runs_on}
use Rattle.vdr_ring.proofs.Records.{records_are}
use Rattle.vdr_recorder.proofs.Ordering.{PlacesRise, rise_join, run_bounds, run_rises}

-- The records of segments in a legal order

rise_from : (before : Option Placed) (placed : List Placed) → AreInPlace before placed → PlacesRise (all_records placed) × ((q : Placed) → before ≡ Some q → All (λ r. next_place q ≤ r.place) (all_records placed))
rise_from before [] h = (tt, λ q e. All-nil (λ (r : Record). next_place q ≤ r.place))
rise_from before (p ∷ ps) (here, more) =
    let behind = rise_from (Some p) ps more in
    let bounds = run_bounds (first_of p) (records_of p) here.runs_on.places in
    let after : All (λ r. next_place p ≤ r.place) (all_records ps) = behind.1 p refl in (
      rise_join (records_of p) (all_records ps) (next_place p) (run_rises (first_of p) (records_of p) here.runs_on.places) behind.0
          (All-weaker (λ r. (first_of p ≤ r.place) × (r.place < first_of p + length (records_of p))) (λ r. r.place < next_place p) (λ r b. b.1) (records_of p) bounds)
          after,
      λ q e. let low = before_it q before e here in
          All-append (λ r. next_place q ≤ r.place) (records_of p) (all_records ps)
          (All-weaker (λ r. (first_of p ≤ r.place) × (r.place < first_of p + length (records_of p))) (λ r. next_place q ≤ r.place) (λ r b. let c = b.0 in omega (arith, c, low)) (records_of p) bounds)
          (All-weaker (λ r. next_place p ≤ r.place) (λ r. next_place q ≤ r.place) (λ r b. omega (arith, b, low)) (all_records ps) after),
    )
  where
    before_it : (q : Placed) (before : Option Placed) → before ≡ Some q → IsInPlace before p ps → next_place q ≤ first_of p
    before_it q None e h = absurd (none e)
      where
        none : None ≡ Some q → ⊥
        none e = cc
    before_it q (Some k) e h = subst (λ (k : Placed). next_place k ≤ first_of p) (same k q e) h.follows.place
      where
        same : (k q : Placed) → Some k ≡ Some q → k ≡ q
        same k q e = cc

pub placed_rise : (placed : List Placed) → AreInOrder placed → PlacesRise (all_records placed)
placed_rise placed order = (rise_from None placed order).0

-- The batch that a medium lacks is behind all that it has.

below_next : (xs : List Record) → PlacesRise xs → All (λ r. r.place < next_after (last xs)) xs
below_next [] h = All-nil (λ (r : Record). r.place < 0)
below_next (x ∷ xs) h = all_from (λ r. r.place < suc (last_after x xs).place) (x ∷ xs) (λ r there. let a = no_higher x xs r h there in omega (arith, a))
  where
    no_higher : (x : Record) (xs : List Record) (r : Record) → PlacesRise (x ∷ xs) → Contains (x ∷ xs) r → r.place ≤ (last_after x xs).place
    no_higher x [] r h there = ⊎_elim
        (λ (e : x ≡ r). let d = ap (λ (r : Record). r.place) e in omega (arith, d))
        (λ (k : Contains [] r). absurd (none_contained r k))
        (contains_cases x [] r there)
    no_higher x (y ∷ ys) r h there = ⊎_elim
        (λ (e : x ≡ r).
        let d = ap (λ (r : Record). r.place) e in
        let a = All-head (λ later. x.place < later.place) y ys h.0 in
        let b = no_higher y ys y h.1 (contains_here y ys) in omega (arith, d, a, b))
        (λ (k : Contains (y ∷ ys) r). no_higher y ys r h.1 k)
        (contains_cases x (y ∷ ys) r there)

begins_there : (next k : ℕ) (b : List Record) → begins_at next b ≡ true → RunOn k b → All (λ r. next ≤ r.place) b
begins_there next k [] begins run = absurd (true≢false (sym begins))
begins_there next k (r ∷ rs) begins run =
    let e = eqb-true r.place next begins in
    let d = run.0 in
    All-weaker (λ r. (k ≤ r.place) × (r.place < k + length (r ∷ rs))) (λ r. next ≤ r.place) (λ x b. let c = b.0 in omega (arith, c, d, e)) (r ∷ rs) (run_bounds k (r ∷ rs) run)

with_next_rises : (leading : Option (List Record)) (bs : Batches) → PlacesRise (segment_records bs) → ((b : List Record) → leading ≡ Some b → (k : ℕ) × RunOn k b) → PlacesRise (segment_records (with_next leading bs))
with_next_rises None bs h runs = h
with_next_rises (Some b) bs h runs = go (ends_before (Some b) bs) refl
  where
    run : (k : ℕ) × RunOn k b
    run = runs b refl

    go : (ends : Bool) → ends_before (Some b) bs ≡ ends → PlacesRise (segment_records (with_next (Some b) bs))
    go true e = subst PlacesRise (sym (next_added bs b e))
        (rise_join (segment_records bs) b (next_after (last (segment_records bs))) h (run_rises run.0 b run.1) (below_next (segment_records bs) h)
        (begins_there (next_after (last (segment_records bs))) run.0 b (and_parts _ _ e).0 run.1))
    go false e = subst (λ (l : Batches). PlacesRise (segment_records l)) (sym (next_kept bs b e)) h

-- What is restored of legible media rises, medium by medium.
pub restored_rises : (image : Image) (y : Contents) → HoldsContents image y → (m : ℕ) → Contains members m → PlacesRise (records_on (restored members (reading_of y)) m)
restored_rises image y holds m there =
    with_next_rises (leading_batch members (reading_of y)) (batches_in (y.placed m))
    (subst PlacesRise (sym (records_are (y.placed m))) (placed_rise (y.placed m) (order m there)))
    (λ b e. placed_runs_on None (y.placed 0) b (order 0 (contains_here 0 (1 ∷ []))) (last_contained (batches_in (y.placed 0)) b e))
  where
    order : (m : ℕ) → Contains members m → AreInOrder (y.placed m)
    order m there = (All-contains (λ m. IsMedium m y.config y.text (y.placed m) (content image m)) (members_with y.further) m holds.media (subst (λ (n : ℕ). Contains (members_with n) m) (sym holds.further) there)).segments.order
