-- The media of a vault, and the ring on each.
use Rattle.std.proofs.Common.{◌≡◌, ◌≢◌, ◌⊎◌, inl, inr, ◌≤◌, ◌<◌, ◌==◌, ℕ, Bool, true, false, List, get_or, length, take, drop, Some, Vec, Contains, refl, sym, ◌∙◌, subst, arith, ◌+◌, ◌-◌}
use Rattle.std.specs.Prelude.{All}
use Rattle.std.specs.Vec.{with_items}
use Rattle.std.proofs.lemmas.List.{get_or_default, get_or-drop, length-drop, take-append-drop, with_items_is}
use Rattle.std.proofs.lemmas.List.Elements.{Contains-get_or}
use Rattle.std.proofs.lemmas.Bool.{cases_lt, eqb-false, eqb-true}
use Rattle.vdr_terms.specs.Records.{Record, last}
use Rattle.vdr_durability.specs.Readings.{IsPassedOn, Reading, ends_before}
use Rattle.vdr_config.specs.Configuration.{Configuration}
use Rattle.vdr_media.proofs.Members.{each_of, front_numbers, front_of, numbers, of_each, rest_of}
use Rattle.vdr_media.specs.Formatted.{members_with}
use Rattle.vdr_ring.specs.Rings.{RingState}
use Rattle.vdr_opening.specs.Answers.{AreRingsOf, further_on, ring_at}
use Rattle.vdr_ring.specs.Openings.{IsRingOf}

-- What holds of the media from a number on holds of each of them, and each is among them; and so of those before it.
module _ (n j : ℕ) where
  pub rest_each : (P : ℕ → Type 0) → All P (drop j (members_with n)) → (k : ℕ) → j ≤ k → k < 2 + n → P k
  rest_each P all k low lt =
      let is = numbers n in
      let size = is.size in
      let left = length-drop j (members_with n) in
      let on : j + (k - j) ≡ k = omega (arith, low) in
      subst P (get_or-drop j (members_with n) (k - j) 0 ∙ is.at (j + (k - j)) 0 (omega (arith, low, lt)) ∙ on) (all (k - j) 0 (omega (arith, low, lt, left, size)))

  pub front_each : (P : ℕ → Type 0) → j ≤ 2 + n → All P (take j (members_with n)) → (k : ℕ) → k < j → P k
  front_each P within = each_of (front_numbers (numbers n) j within) P

  pub in_front : j ≤ 2 + n → (k : ℕ) → k < j → Contains (take j (members_with n)) k
  in_front within k lt =
      let front = front_numbers (numbers n) j within in
      let size = front.size in
      subst (Contains (take j (members_with n))) (front.at k 0 lt) (Contains-get_or (take j (members_with n)) k 0 (omega (arith, lt, size)))

  pub in_rest : (k : ℕ) → j ≤ k → k < 2 + n → Contains (drop j (members_with n)) k
  in_rest k low lt =
      let is = numbers n in
      let size = is.size in
      let left = length-drop j (members_with n) in
      let on : j + (k - j) ≡ k = omega (arith, low) in
      subst (Contains (drop j (members_with n))) (get_or-drop j (members_with n) (k - j) 0 ∙ is.at (j + (k - j)) 0 (omega (arith, low, lt)) ∙ on)
      (Contains-get_or (drop j (members_with n)) (k - j) 0 (omega (arith, low, lt, left, size)))

  -- The first media end with a batch, and each other one before it.
  module _ (batch : List Record) (r : Reading) where
    pub passed_by : 0 < j → j ≤ 2 + n → ((k : ℕ) → k < j → last (r.batches k) ≡ Some batch) → ((k : ℕ) → j ≤ k → k < 2 + n → ends_before (Some batch) (r.batches k) ≡ true)
        → IsPassedOn (members_with n) (take j (members_with n)) (drop j (members_with n)) batch r
    passed_by some within given waiting =
        let size = (front_numbers (numbers n) j within).size in
        record {
          split = sym (take-append-drop j (members_with n));
          some = omega (arith, size, some);
          given_end = front_of (numbers n) (λ m. last (r.batches m) ≡ Some batch) j within given;
          waiting_end = rest_of (numbers n) (λ m. ends_before (Some batch) (r.batches m) ≡ true) j waiting;
        }

    module _ (passed : IsPassedOn (members_with n) (take j (members_with n)) (drop j (members_with n)) batch r) where
      pub given_at : j ≤ 2 + n → (k : ℕ) → k < j → last (r.batches k) ≡ Some batch
      given_at within = front_each (λ m. last (r.batches m) ≡ Some batch) within passed.given_end

      pub waiting_at : (k : ℕ) → j ≤ k → k < 2 + n → ends_before (Some batch) (r.batches k) ≡ true
      waiting_at = rest_each (λ m. ends_before (Some batch) (r.batches m) ≡ true) passed.waiting_end

-- What holds of one number, and of each other one.
pub at_one : (P : ℕ → Type 0) (m : ℕ) → P m → ((k : ℕ) → k ≢ m → P k) → (k : ℕ) → P k
at_one P m here others k = go (k == m) refl
  where
    go : (b : Bool) → (k == m) ≡ b → P k
    go true is = subst P (sym (eqb-true k m is)) here
    go false is = others k (eqb-false k m is)

module _ {c : Configuration} {sizes : List ℕ} {rings : List RingState} (are : AreRingsOf c sizes rings) (m : ℕ) (lt : m < length rings) where
  pub ring_is : IsRingOf c sizes m (ring_at rings m)
  ring_is = of_each (λ k. IsRingOf c sizes k (ring_at rings k)) (further_on rings) are.each m (omega (arith, lt))

  -- That of an index.
  pub ring_there : (d : RingState) → get_or rings m d ≡ ring_at rings m
  ring_there d = get_or_default rings m d _ lt

-- What a vector of rings is whose slice has become these.
pub same_rings : {Z : Type 0} (v : Vec RingState Z) (rings : List RingState) → length rings ≡ length v.items → (with_items v rings).items ≡ rings
same_rings v rings size = with_items_is v rings (size ∙ sym v.ok.0)

-- One of each number below a count, as a function.
module _ {X : Type 0} (none : X) (P : ℕ → X → Type 0) (m : ℕ) (each : (k : ℕ) → k < m → (x : X) × P k x) where
  pick : (k : ℕ) → (k < m) ⊎ (m ≤ k) → X
  pick k (inl lt) = (each k lt).0
  pick k (inr above) = none

  pub chosen : ℕ → X
  chosen k = pick k (cases_lt k m)

  picked : (k : ℕ) (side : (k < m) ⊎ (m ≤ k)) → k < m → P k (pick k side)
  unfolding pick
  picked k (inl below) lt = (each k below).1
  picked k (inr above) lt = absurd (omega (arith, above, lt))

  pub chosen_is : (k : ℕ) → k < m → P k (chosen k)
  unfolding chosen pick
  chosen_is k lt = picked k (cases_lt k m) lt

-- The media that rings are on, by their count.
pub inside : (rings : List RingState) (k : ℕ) → k < length rings → k < 2 + further_on rings
inside rings k lt = omega (arith, lt)

pub count_of : (n : ℕ) (rings : List RingState) → n ≡ length rings → 2 ≤ length rings → n ≡ 2 + further_on rings
count_of n rings same two = omega (arith, same, two)
