-- Segments that were moved into the first slots of another medium stand there in a legal order.
use Rattle.std.proofs.Common.{◌≡◌, ◌⊎◌, inl, inr, ◌+◌, ◌-◌, ◌≤◌, ℕ, zero, suc, List, [], ◌∷◌, ◌++◌, length, map, drop, slice_get, replicate, All, Contains, Option, None, Some, refl, ap, subst, arith}
use Rattle.std.specs.Prelude.{IfSome}
use Rattle.std.proofs.lemmas.List.Elements.{All-cons, All-nil}
use Rattle.vdr_entry.specs.declared.summary.Summary.{Summary}
use Rattle.vdr_durability.proofs.Lists.{contains_here, contains_there}
use Rattle.vdr_segment.specs.Segments.{Segment}
use Rattle.vdr_segment.specs.Slots.{HoldsSlots}
use Rattle.vdr_directory.specs.Sequence.{AreInSequence, IsBefore, Placed, Rises, seq_of}
use Rattle.vdr_directory.specs.Order.{Agrees, AreInOrder, AreInPlace, Follows, HasNone, MayFollow, MayPrecede, RunsOn}
use Rattle.vdr_directory.specs.Holds.{HoldsPlaced}
use Rattle.vdr_remake.specs.Copies.{filled, moved, moved_from, segment_in}
use Rattle.vdr_remake.proofs.Copies.{length-filled}

abbrev in_slot : ℕ → Placed → Placed
in_slot k p = record { slot = k; segment = p.segment }

-- What a segment is among others does not depend on its slot

moved_runs : (k : ℕ) (p : Placed) → RunsOn p → RunsOn (in_slot k p)
moved_runs k p h = record { low = h.low; by_place = h.by_place; places = h.places; ticks = h.ticks }

moved_agrees : (k : ℕ) (p : Placed) (o : Option Summary) → IfSome o (Agrees p) → IfSome o (Agrees (in_slot k p))
moved_agrees k p None h = tt
moved_agrees k p (Some s) h = record { count = h.count; covered = h.covered }

moved_follows : (j k : ℕ) (q p : Placed) → Follows q p → Follows (in_slot j q) (in_slot k p)
moved_follows j k q p h = record { seq = h.seq; place = h.place; joined = h.joined; ticks = h.ticks; seconds = h.seconds; begun = h.begun }

moved_precedes : (j k : ℕ) (p : Placed) (ps : List Placed) → MayPrecede p ps → MayPrecede (in_slot j p) (moved_from k ps)
moved_precedes j k p [] h = h
moved_precedes j k p (q ∷ []) h = h
moved_precedes j k p (q ∷ x ∷ ps) h = h

moved_behind : (j k : ℕ) (q : Placed) (ps : List Placed) → AreInPlace (Some q) ps → AreInPlace (Some (in_slot j q)) (moved_from k ps)
moved_behind j k q [] h = tt
moved_behind j k q (p ∷ ps) h = (
  record {
    runs_on = moved_runs k p h.0.runs_on;
    agrees = moved_agrees k p p.segment.header.summary h.0.agrees;
    follows = moved_follows j k q p h.0.follows;
    precedes = moved_precedes k (suc k) p ps h.0.precedes;
  },
  moved_behind k (suc k) p ps h.1,
)

-- one that is not the newest has records
some_records : (p : Placed) (ps : List Placed) → MayPrecede p ps → 2 ≤ length (p ∷ ps) → HasNone p → ⊥
some_records p [] h two none = absurd (omega (arith, two))
some_records p (q ∷ []) h two none = h.0 none
some_records p (q ∷ x ∷ ps) h two none = h none

first_in_place : (before : Option Placed) (ps : List Placed) → AreInPlace before ps → (before ≡ None) ⊎ (2 ≤ length ps) → AreInPlace None (moved ps)
first_in_place before [] h c = tt
first_in_place before (p ∷ ps) h c = (
  record {
    runs_on = moved_runs 0 p h.0.runs_on;
    agrees = moved_agrees 0 p p.segment.header.summary h.0.agrees;
    follows = first c;
    precedes = moved_precedes 0 1 p ps h.0.precedes;
  },
  moved_behind 0 1 p ps h.1,
)
  where
    first : (before ≡ None) ⊎ (2 ≤ length (p ∷ ps)) → MayFollow None (in_slot 0 p)
    first (inl same) = subst (λ (b : Option Placed). MayFollow b p) same h.0.follows
    first (inr two) = λ none. absurd (some_records p ps h.0.precedes two none)

in_place_behind : (n : ℕ) (before : Option Placed) (ps : List Placed) → AreInPlace before ps → (b : Option Placed) × AreInPlace b (drop n ps)
in_place_behind zero before ps h = (before, h)
in_place_behind (suc n) before [] h = (None, tt)
in_place_behind (suc n) before (p ∷ ps) h = in_place_behind n (Some p) ps h.1

-- all but the first n of them, which are two at least where some are left out
pub moved_in_order : (n : ℕ) (placed : List Placed) → AreInOrder placed → (n ≡ 0) ⊎ (2 ≤ length (drop n placed)) → AreInOrder (moved (drop n placed))
moved_in_order zero placed h c = first_in_place None placed h (inl refl)
moved_in_order (suc n) placed h (inl none) = absurd (omega (arith, none))
moved_in_order (suc n) placed h (inr two) =
    let behind = in_place_behind (suc n) None placed h in
    first_in_place behind.0 (drop (suc n) placed) behind.1 (inr two)

-- Their sequence numbers rise

later_moved : (x : Placed) (j : ℕ) (p : Placed) (ps : List Placed) → seq_of x ≤ seq_of p → AreInPlace (Some p) ps → All (IsBefore x) (moved_from j ps)
later_moved x j p [] le h = All-nil (IsBefore x)
later_moved x j p (q ∷ qs) le h =
    let lt = h.0.follows.seq in
    All-cons (IsBefore x) (in_slot j q) (moved_from (suc j) qs) (inl (omega (arith, le, lt))) (later_moved x (suc j) q qs (omega (arith, le, lt)) h.1)

moved_rise : (before : Option Placed) (k : ℕ) (ps : List Placed) → AreInPlace before ps → Rises (moved_from k ps)
moved_rise before k [] h = tt
moved_rise before k (p ∷ ps) h = (later_moved (in_slot k p) (suc k) p ps (omega arith) h.1, moved_rise (Some p) (suc k) ps h.1)

-- They are those of the open slots

open_at : (ps : List Placed) (rest : List (Option Segment)) (i : ℕ) (p : Placed) → slice_get ps i ≡ Some p → slice_get (map segment_in ps ++ rest) i ≡ Some (Some p.segment)
open_at [] rest zero p is = let none : ⊥ = cc in absurd none
open_at [] rest (suc i) p is = let none : ⊥ = cc in absurd none
open_at (q ∷ ps) rest zero p is = let same : q ≡ p = cc in ap (λ (x : Placed). Some (Some x.segment)) same
open_at (q ∷ ps) rest (suc i) p is = open_at ps rest i p is

all_there : (slots : List (Option Segment)) (k : ℕ) (ps : List Placed) → ((i : ℕ) (p : Placed) → slice_get ps i ≡ Some p → slice_get slots (k + i) ≡ Some (Some p.segment))
    → All (λ p. slice_get slots p.slot ≡ Some (Some p.segment)) (moved_from k ps)
all_there slots k [] at = All-nil (λ (p : Placed). slice_get slots p.slot ≡ Some (Some p.segment))
all_there slots k (p ∷ ps) at =
    All-cons (λ (x : Placed). slice_get slots x.slot ≡ Some (Some x.segment)) (in_slot k p) (moved_from (suc k) ps)
    (subst (λ (n : ℕ). slice_get slots n ≡ Some (Some p.segment)) (omega arith) (at 0 p refl))
    (all_there slots (suc k) ps (λ i q is. subst (λ (n : ℕ). slice_get slots n ≡ Some (Some q.segment)) (omega arith) (at (suc i) q is)))

none_open : (n j : ℕ) (s : Segment) → slice_get (replicate n None) j ≡ Some (Some s) → ⊥
none_open zero zero s is = let none : ⊥ = cc in none
none_open zero (suc j) s is = let none : ⊥ = cc in none
none_open (suc n) zero s is = let none : ⊥ = cc in none
none_open (suc n) (suc j) s is = none_open n j s is

all_open : (k n : ℕ) (ps : List Placed) (j : ℕ) (s : Segment) → slice_get (map segment_in ps ++ replicate n None) j ≡ Some (Some s) → Contains (moved_from k ps) (record { slot = k + j; segment = s })
all_open k n [] j s is = absurd (none_open n j s is)
all_open k n (p ∷ ps) zero s is =
    let same : p.segment ≡ s = cc in
    subst (λ (x : Placed). Contains (moved_from k (p ∷ ps)) x) (λ i. record { slot = at i; segment = same i }) (contains_here (in_slot k p) (moved_from (suc k) ps))
  where
    at : k ≡ k + 0
    at = omega arith
all_open k n (p ∷ ps) (suc j) s is =
    subst (λ (m : ℕ). Contains (moved_from k (p ∷ ps)) (record { slot = m; segment = s })) at
    (contains_there (in_slot k p) (moved_from (suc k) ps) (record { slot = suc k + j; segment = s }) (all_open (suc k) n ps j s is))
  where
    at : suc k + j ≡ k + suc j
    at = omega arith

moved_in_sequence : (count : ℕ) (before : Option Placed) (ps : List Placed) → AreInPlace before ps → AreInSequence (filled count ps) (moved ps)
moved_in_sequence count before ps h = record {
  there = all_there (filled count ps) 0 ps (λ i p is. subst (λ (n : ℕ). slice_get (filled count ps) n ≡ Some (Some p.segment)) (omega arith) (open_at ps (replicate (count - length ps) None) i p is));
  all = λ j s is. subst (λ (n : ℕ). Contains (moved ps) (record { slot = n; segment = s })) (omega arith) (all_open 0 (count - length ps) ps j s is);
  rising = moved_rise before 0 ps h;
}

pub moved_placed : (segment count n : ℕ) (placed : List Placed) (b : List ℕ) → AreInOrder placed → length (drop n placed) ≤ count → HoldsSlots segment (filled count (drop n placed)) b → HoldsPlaced segment count (moved (drop n placed)) b
moved_placed segment count n placed b order room holds = record {
  slots = filled count (drop n placed);
  all_slots = length-filled count (drop n placed) room;
  holds = holds;
  sequence = moved_in_sequence count (in_place_behind n None placed order).0 (drop n placed) (in_place_behind n None placed order).1;
}
