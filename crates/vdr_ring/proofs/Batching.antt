-- A batch of a medium in order: its places run on, its ticks never fall, and its records are legal.
use Rattle.std.proofs.Common.{◌≡◌, ⊎_elim, ℕ, suc, List, [], ◌∷◌, ◌++◌, length, true, All, Contains, Option, Some, None, sym, ◌∙◌, subst, arith, ◌<◌}
use Rattle.std.proofs.lemmas.Bool.{eqb-true, leb-true, true≢false}
use Rattle.std.proofs.lemmas.List.Elements.{All-nil, All-append, All-contains, All-head, All-tail, Contains-append_cases}
use Rattle.vdr_terms.specs.Records.{Record, last}
use Rattle.vdr_terms.specs.Order.{RunOn, NeverFalls}
use Rattle.vdr_segment.specs.Batches.{IsBatch}
use Rattle.vdr_durability.specs.Layout.{Batches, segment_records}
use Rattle.vdr_durability.proofs.Lists.{contains_cases, last_contained, none_contained}
use Rattle.vdr_durability.specs.Readings.{begins_at, begins_since, next_after}
use Rattle.vdr_directory.specs.Sequence.{Placed, batches_in, batches_of, first_of}
use Rattle.vdr_directory.specs.Order.{AreInOrder, AreInPlace}
use Rattle.vdr_directory.specs.Holds.{HoldsPlaced}
use Rattle.vdr_ring.proofs.Beginning.{legal_batches}
use Rattle.vdr_durability.specs.Regular.{FollowOn}

-- Records that go on: their places run, and their ticks never fall. So do those in front and those behind.

runs_in_front : (place from : ℕ) (xs ys : List Record) → RunOn place (xs ++ ys) → NeverFalls from (xs ++ ys) → RunOn place xs × NeverFalls from xs
runs_in_front place from [] ys run falls = (tt, tt)
runs_in_front place from (x ∷ xs) ys run falls = let k = runs_in_front (suc place) x.tick xs ys run.1 falls.1 in ((run.0, k.0), (falls.0, k.1))

runs_behind : (place from : ℕ) (xs ys : List Record) → RunOn place (xs ++ ys) → NeverFalls from (xs ++ ys) → (p : ℕ) × (t : ℕ) × RunOn p ys × NeverFalls t ys
runs_behind place from [] ys run falls = (place, from, run, falls)
runs_behind place from (x ∷ xs) ys run falls = runs_behind (suc place) x.tick xs ys run.1 falls.1

batch_goes_on : (place from : ℕ) (bs : Batches) (batch : List Record) → RunOn place (segment_records bs) → NeverFalls from (segment_records bs) → Contains bs batch → (p : ℕ) × (t : ℕ) × RunOn p batch × NeverFalls t batch
batch_goes_on place from [] batch run falls there = absurd (none_contained batch there)
batch_goes_on place from (b ∷ bs) batch run falls there =
    ⊎_elim
    (λ (e : b ≡ batch).
    let k = runs_in_front place from b (segment_records bs) run falls in
    let here : (p : ℕ) × (t : ℕ) × RunOn p batch × NeverFalls t batch = (place, from, subst (RunOn place) e k.0, subst (NeverFalls from) e k.1) in
    here)
    (λ (k : Contains bs batch). let l = runs_behind place from b (segment_records bs) run falls in batch_goes_on l.0 l.1 bs batch l.2 l.3 k)
    (contains_cases b bs batch there)

pub placed_goes_on : (o : Option Placed) (placed : List Placed) (batch : List Record) → AreInPlace o placed → Contains (batches_in placed) batch → (p : ℕ) × (t : ℕ) × RunOn p batch × NeverFalls t batch
placed_goes_on o [] batch order there = absurd (none_contained batch there)
placed_goes_on o (p ∷ placed) batch order there =
    ⊎_elim
    (λ (k : Contains (batches_of p) batch). batch_goes_on (first_of p) 0 (batches_of p) batch order.0.runs_on.places order.0.runs_on.ticks k)
    (λ (k : Contains (batches_in placed) batch). placed_goes_on (Some p) placed batch order.1 k)
    (Contains-append_cases (batches_of p) (batches_in placed) batch there)

pub placed_runs_on : (o : Option Placed) (placed : List Placed) (batch : List Record) → AreInPlace o placed → Contains (batches_in placed) batch → (from : ℕ) × RunOn from batch
placed_runs_on o placed batch order there = let k = placed_goes_on o placed batch order there in (k.0, k.2)

pub last_runs_on : (placed : List Placed) (batch : List Record) → AreInOrder placed → last (batches_in placed) ≡ Some batch → (from : ℕ) × RunOn from batch
last_runs_on placed batch order ends = placed_runs_on None placed batch order (last_contained (batches_in placed) batch ends)

-- From the place that it begins at.
pub runs_from : (batch : List Record) (from place : ℕ) → RunOn place batch → begins_at from batch ≡ true → RunOn from batch
runs_from [] from place run begins = tt
runs_from (r ∷ rs) from place run begins = subst (λ (n : ℕ). RunOn n (r ∷ rs)) (sym run.0 ∙ eqb-true r.place from begins) run

all_legal : (placed : List Placed) → All (λ p. All IsBatch (batches_of p)) placed → All IsBatch (batches_in placed)
all_legal [] h = All-nil IsBatch
all_legal (p ∷ placed) h = All-append IsBatch (batches_of p) (batches_in placed) (All-head (λ p. All IsBatch (batches_of p)) p placed h) (all_legal placed (All-tail (λ p. All IsBatch (batches_of p)) p placed h))

pub last_is_legal : (segment count : ℕ) (placed : List Placed) (bytes : List ℕ) (batch : List Record) → HoldsPlaced segment count placed bytes → last (batches_in placed) ≡ Some batch → IsBatch batch
last_is_legal segment count placed bytes batch holds ends =
    All-contains IsBatch (batches_in placed) batch (all_legal placed (legal_batches segment count placed bytes holds)) (last_contained (batches_in placed) batch ends)

-- What the long-term medium holds while the batch that it lacks is appended to it, whether the media are sound or not.

from_zero : (batch : List Record) (t : ℕ) → NeverFalls t batch → NeverFalls 0 batch
from_zero [] t falls = tt
from_zero (r ∷ rs) t falls = (omega arith, falls.1)

-- A batch whose first record may come next follows
pub follows : (newest : Option Record) (batch : List Record) (t : ℕ) → NeverFalls t batch → RunOn (next_after newest) batch → begins_since newest batch ≡ true → FollowOn newest batch
follows None batch t falls run since = (0, run, from_zero batch t falls)
follows (Some r) [] t falls run since = (run, tt)
follows (Some r) (x ∷ xs) t falls run since = (run, (leb-true r.tick x.tick since, falls.1))

pub begun : (place : ℕ) (batch : List Record) → begins_at place batch ≡ true → 0 < length batch
begun place [] h = absurd (true≢false (sym h))
begun place (r ∷ rs) h = omega arith
