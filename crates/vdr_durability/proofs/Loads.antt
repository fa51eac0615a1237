-- The records of a run are charged no more in a second than the rates of its groups allow.
use Rattle.std.proofs.Common.{ℕ, zero, suc, ◌+◌, ◌*◌, ◌<◌, ◌≤◌, ℤ, List, [], ◌∷◌, ◌++◌, length, map, filter, sum, sum_by, Bool, true, false, true≢false, ◌&&◌, ◌==◌, nat_lt, nat_le, if◌then◌else◌, ◌≡◌, ◌⊎◌, inl, inr, ⊎_elim, refl, sym, ap, ◌∙◌, subst, arith, append-nil, length-append}
use Rattle.std.specs.Prelude.{⊤}
use Rattle.std.proofs.lemmas.List.Sums.{sum_by-append}
use Rattle.std.proofs.lemmas.Bool.{cases_eq, cases_Bool, and_parts, cond-true, cond-false, eq-eqb, eqb-true, ne_eqb, ltb-true, leb-true}
use Rattle.vdr_terms.specs.declared.counts.Counts.{Counts}
use Rattle.vdr_terms.specs.Records.{Record, total, second, payload_of, is_datagram}
use Rattle.vdr_terms.specs.Rates.{Limit, is_configured, lengths_in, has_room}
use Rattle.vdr_terms.specs.Rates.Limit.{NotConfigured, Unlimited, AtMost}
use Rattle.vdr_terms.proofs.Lengths.{lengths_in-append}
use Rattle.vdr_terms.specs.Counting.{Pending, with_missed}
use Rattle.vdr_core.specs.Runs.{RunStart, base_of}
use Rattle.vdr_core.specs.Taken.{Captured}
use Rattle.vdr_core.specs.Recorder.{Recorder, begun, next_in, gap_unless_none, gap_of, datagram_of, passed, tick_with, admits, took, taken_all, recorder_after}
use Rattle.vdr_durability.proofs.Charges.{charge, charge_at}

-- the sum over the groups below n
abbrev pub over_groups : ℕ → (ℕ → ℕ) → ℕ
over_groups zero f = 0
over_groups (suc n) f = f n + over_groups n f

-- What the Datagrams of a group in a second are charged, each with a Gap before it.
abbrev pub load : ℕ → ℕ → List Record → ℕ
load g s records = 140 * length (lengths_in g s records) + sum (lengths_in g s records)

pub over_most : (n : ℕ) (f g : ℕ → ℕ) → ((k : ℕ) → f k ≤ g k) → over_groups n f ≤ over_groups n g
over_most zero f g h = omega arith
over_most (suc n) f g h = let a = h n in let b = over_most n f g h in omega (arith, a, b)

over_bump : (n : ℕ) (f g : ℕ → ℕ) (k x : ℕ) → k < n → ((i : ℕ) → f i ≤ g i) → f k + x ≤ g k → over_groups n f + x ≤ over_groups n g
over_bump zero f g k x l h e = absurd (omega (arith, l))
over_bump (suc n) f g k x l h e =
    ⊎_elim
    (λ (q : k ≡ n). let a = over_most n f g h in let b = subst (λ (i : ℕ). f i + x ≤ g i) q e in omega (arith, a, b))
    (λ (ne : k ≡ n → ⊥). let a = over_bump n f g k x (below ne l) h e in let b = h n in omega (arith, a, b))
    (cases_eq k n)
  where
    below : (k ≡ n → ⊥) → k < suc n → k < n
    below ne l = omega (arith, ne, l)

load_append : (g s : ℕ) (xs ys : List Record) → load g s (xs ++ ys) ≡ load g s xs + load g s ys
load_append g s xs ys =
    let e = lengths_in-append g s xs ys in
    let a = ap length e ∙ length-append (lengths_in g s xs) (lengths_in g s ys) in
    let b = ap sum e ∙ sum_by-append (λ x. x) (lengths_in g s xs) (lengths_in g s ys) in
    omega (arith, a, b)

gap_lengths : (start : RunStart) (h g s place first tick : ℕ) (utc : ℤ) (m : Counts) (k : ℕ) → lengths_in g s (gap_unless_none start h place first tick utc m k) ≡ []
gap_lengths start h g s place first tick utc m zero = refl
gap_lengths start h g s place first tick utc m (suc k) = refl

-- the Datagram's length counts for its own group and second
own_length : (g s : ℕ) (d : Record) → is_datagram d.content ≡ true → d.group ≡ g → second d.tick ≡ s → lengths_in g s (d ∷ []) ≡ length (payload_of d.content) ∷ []
own_length g s d is_data here now =
    ap (λ (rs : List Record). map (λ r. length (payload_of r.content)) (filter (λ r. second r.tick == s) rs)) (cond-true (is_datagram d.content && d.group == g) (d ∷ []) [] (both is_data (eq-eqb d.group g here)))
    ∙ ap (λ (rs : List Record). map (λ r. length (payload_of r.content)) rs) (cond-true (second d.tick == s) (d ∷ []) [] (eq-eqb (second d.tick) s now))
  where
    both : is_datagram d.content ≡ true → (d.group == g) ≡ true → (is_datagram d.content && d.group == g) ≡ true
    both p q = ap (λ (t : Bool). t && d.group == g) p ∙ q

-- and for no other
other_length : (g s : ℕ) (d : Record) → (d.group ≡ g → second d.tick ≡ s → ⊥) → lengths_in g s (d ∷ []) ≡ []
other_length g s d ne =
    ⊎_elim
    (λ (e : (is_datagram d.content && d.group == g) ≡ true). ⊎_elim
    (λ (now : (second d.tick == s) ≡ true). absurd (ne (eqb-true d.group g (and_parts (is_datagram d.content) (d.group == g) e).1) (eqb-true (second d.tick) s now)))
    (λ (no_more : (second d.tick == s) ≡ false).
    ap (λ (rs : List Record). lengths (filter (λ r. second r.tick == s) rs)) (cond-true (is_datagram d.content && d.group == g) (d ∷ []) [] e)
    ∙ ap lengths (cond-false (second d.tick == s) (d ∷ []) [] no_more))
    (cases_Bool (second d.tick == s)))
    (λ (e : (is_datagram d.content && d.group == g) ≡ false). ap (λ (rs : List Record). lengths (filter (λ r. second r.tick == s) rs)) (cond-false (is_datagram d.content && d.group == g) (d ∷ []) [] e))
    (cases_Bool (is_datagram d.content && d.group == g))
  where
    lengths : List Record → List ℕ
    lengths rs = map (λ r. length (payload_of r.content)) rs

-- what a Gap is charged
pub gap_charge : (start : RunStart) (h s place first tick : ℕ) (utc : ℤ) (m : Counts) (k : ℕ) → sum_by (charge_at s) (gap_unless_none start h place first tick utc m k) ≤ (if second tick == s then 84 else 0)
gap_charge start h s place first tick utc m zero = omega arith
gap_charge start h s place first tick utc m (suc k) =
    let a : sum_by (charge_at s) (gap_unless_none start h place first tick utc m (suc k)) ≡ 0 + (if second tick == s then 84 + 0 else 0) = refl in
    go (second tick == s) a
  where
    go : (t : Bool) → sum_by (charge_at s) (gap_unless_none start h place first tick utc m (suc k)) ≡ 0 + (if t then 84 + 0 else 0) → sum_by (charge_at s) (gap_unless_none start h place first tick utc m (suc k)) ≤ (if t then 84 else 0)
    go true e = omega (arith, e)
    go false e = omega (arith, e)

-- What the records of a run are charged in a second: Start, and the loads of the groups below n.
abbrev pub IsLight : ℕ → Recorder → Type 0
IsLight n r = (s : ℕ) → sum_by (charge_at s) r.made ≤ 49 + over_groups n (λ g. load g s r.made)

-- What a group's limit allows of a second.
abbrev pub IsWithin : Limit → List ℕ → Type 0
IsWithin NotConfigured lengths = lengths ≡ []
IsWithin Unlimited lengths = ⊤
IsWithin (AtMost rate) lengths = (length lengths ≤ rate.datagrams) × (sum lengths ≤ rate.bytes)

-- Each group has no more than its rate in each second.
abbrev pub AreWithin : RunStart → List Record → Type 0
AreWithin start records = (g s : ℕ) → IsWithin (start.limits g) (lengths_in g s records)

nothing_within : (limit : Limit) → IsWithin limit []
nothing_within NotConfigured = refl
nothing_within Unlimited = tt
nothing_within (AtMost rate) = (omega arith, omega arith)

-- one more item is within, as it was admitted
room_within : (limit : Limit) (lengths : List ℕ) (n : ℕ) → has_room limit lengths n ≡ true → IsWithin limit (lengths ++ n ∷ [])
room_within NotConfigured lengths n h = absurd (true≢false (sym h))
room_within Unlimited lengths n h = tt
room_within (AtMost rate) lengths n h =
    let p = and_parts (nat_lt (length lengths) rate.datagrams) (nat_le (sum lengths + n) rate.bytes) h in
    let a = ltb-true (length lengths) rate.datagrams p.0 in
    let b = leb-true (sum lengths + n) rate.bytes p.1 in
    let c = length-append lengths (n ∷ []) in
    let d = sum_by-append (λ x. x) lengths (n ∷ []) in
    (omega (arith, a, c), omega (arith, b, d))

room_configured : (limit : Limit) (lengths : List ℕ) (n : ℕ) → has_room limit lengths n ≡ true → is_configured limit ≡ true
room_configured NotConfigured lengths n h = h
room_configured Unlimited lengths n h = refl
room_configured (AtMost rate) lengths n h = refl

module _ (start : RunStart) (n : ℕ) (below : (g : ℕ) → is_configured (start.limits g) ≡ true → g < n) (r : Recorder) (c : Captured) where
  abbrev p : Pending
  p = with_missed c.missed (r.pending c.group)

  abbrev tick : ℕ
  tick = tick_with start r c

  abbrev gap : List Record
  gap = gap_of start c.group (next_in start r.made) (tick_with start r c) c.utc (with_missed c.missed (r.pending c.group))

  abbrev datagram : Record
  datagram = datagram_of start c (tick_with start r c) (next_in start r.made + length gap)

  more_lengths : (g s : ℕ) → lengths_in g s (r.made ++ (gap ++ datagram ∷ [])) ≡ lengths_in g s r.made ++ lengths_in g s (datagram ∷ [])
  more_lengths g s =
      lengths_in-append g s r.made (gap ++ datagram ∷ [])
      ∙ ap (λ (xs : List ℕ). lengths_in g s r.made ++ xs)
      (lengths_in-append g s gap (datagram ∷ [])
      ∙ ap (λ (xs : List ℕ). xs ++ lengths_in g s (datagram ∷ [])) (gap_lengths start c.group g s (next_in start r.made) p.first tick c.utc p.missed (total p.missed)))

  took_within : AreWithin start r.made → AreWithin start (took start r c).made
  took_within h = go (admits start r c) refl
    where
      mine : admits start r c ≡ true → IsWithin (start.limits c.group) (lengths_in c.group (second tick) (r.made ++ (gap ++ datagram ∷ [])))
      mine e = subst (λ (xs : List ℕ). IsWithin (start.limits c.group) xs)
          (sym (more_lengths c.group (second tick) ∙ ap (λ (xs : List ℕ). lengths_in c.group (second tick) r.made ++ xs) (own_length c.group (second tick) datagram refl refl refl)))
          (room_within (start.limits c.group) (lengths_in c.group (second tick) r.made) (length c.bytes) e)

      here : admits start r c ≡ true → (g s : ℕ) → (c.group ≡ g) ⊎ (c.group ≡ g → ⊥) → (second tick ≡ s) ⊎ (second tick ≡ s → ⊥) → IsWithin (start.limits g) (lengths_in g s (r.made ++ (gap ++ datagram ∷ [])))
      here e g s (inl same) (inl now) = subst (λ (s : ℕ). IsWithin (start.limits g) (lengths_in g s (r.made ++ (gap ++ datagram ∷ [])))) now
          (subst (λ (g : ℕ). IsWithin (start.limits g) (lengths_in g (second tick) (r.made ++ (gap ++ datagram ∷ [])))) same (mine e))
      here e g s (inr other) t = subst (λ (xs : List ℕ). IsWithin (start.limits g) xs) (sym (more_lengths g s ∙ (ap (λ (xs : List ℕ). lengths_in g s r.made ++ xs) (other_length g s datagram (λ a b. other a)) ∙ append-nil (lengths_in g s r.made)))) (h g s)
      here e g s (inl same) (inr later) = subst (λ (xs : List ℕ). IsWithin (start.limits g) xs) (sym (more_lengths g s ∙ (ap (λ (xs : List ℕ). lengths_in g s r.made ++ xs) (other_length g s datagram (λ a b. later b)) ∙ append-nil (lengths_in g s r.made)))) (h g s)

      go : (passes : Bool) → admits start r c ≡ passes → AreWithin start (passed passes start c (tick_with start r c) r (with_missed c.missed (r.pending c.group))).made
      go false e = h
      go true e = λ g s. here e g s (cases_eq c.group g) (cases_eq (second tick) s)

  more_load : (g s : ℕ) → load g s r.made ≤ load g s (r.made ++ (gap ++ datagram ∷ []))
  more_load g s = let a = load_append g s r.made (gap ++ datagram ∷ []) in omega (arith, a)

  own_load : (s : ℕ) → second tick ≡ s → load c.group s r.made + (140 + length c.bytes) ≤ load c.group s (r.made ++ (gap ++ datagram ∷ []))
  own_load s now =
      let e : lengths_in c.group s (r.made ++ (gap ++ datagram ∷ [])) ≡ lengths_in c.group s r.made ++ length c.bytes ∷ [] =
      more_lengths c.group s ∙ ap (λ (xs : List ℕ). lengths_in c.group s r.made ++ xs) (own_length c.group s datagram refl refl now) in
      let a = ap length e ∙ length-append (lengths_in c.group s r.made) (length c.bytes ∷ []) in
      let b = ap sum e ∙ sum_by-append (λ x. x) (lengths_in c.group s r.made) (length c.bytes ∷ []) in
      omega (arith, a, b)

  took_light : IsLight n r → IsLight n (took start r c)
  took_light h = go (admits start r c) refl
    where
      charged : c.group < n → (s : ℕ) → (second tick ≡ s) ⊎ (second tick ≡ s → ⊥) → sum_by (charge_at s) (r.made ++ (gap ++ datagram ∷ [])) ≤ 49 + over_groups n (λ g. load g s (r.made ++ (gap ++ datagram ∷ [])))
      charged grouped s t =
          let a = sum_by-append (charge_at s) r.made (gap ++ datagram ∷ []) in
          let b = sum_by-append (charge_at s) gap (datagram ∷ []) in
          let d = gap_charge start c.group s (next_in start r.made) p.first tick c.utc p.missed (total p.missed) in
          let f = h s in
          ⊎_elim
          (λ (now : second tick ≡ s).
          let e = over_bump n (λ g. load g s r.made) (λ g. load g s (r.made ++ (gap ++ datagram ∷ []))) c.group (140 + length c.bytes) grouped (λ g. more_load g s) (own_load s now) in
          let k = cond-true {A = ℕ} (second tick == s) 84 0 (eq-eqb (second tick) s now) in
          let m = cond-true {A = ℕ} (second tick == s) (charge datagram) 0 (eq-eqb (second tick) s now) in
          omega (arith, a, b, d, e, f, k, m))
          (λ (later : second tick ≡ s → ⊥).
          let e = over_most n (λ g. load g s r.made) (λ g. load g s (r.made ++ (gap ++ datagram ∷ []))) (λ g. more_load g s) in
          let k = cond-false {A = ℕ} (second tick == s) 84 0 (ne_eqb (second tick) s later) in
          let m = cond-false {A = ℕ} (second tick == s) (charge datagram) 0 (ne_eqb (second tick) s later) in
          omega (arith, a, b, d, e, f, k, m))
          t

      go : (passes : Bool) → admits start r c ≡ passes → IsLight n (passed passes start c (tick_with start r c) r (with_missed c.missed (r.pending c.group)))
      go false e = h
      go true e =
          let grouped = below c.group (room_configured (start.limits c.group) (lengths_in c.group (second tick) r.made) (length c.bytes) e) in
          λ s. charged grouped s (cases_eq (second tick) s)

begun_light : (start : RunStart) (n : ℕ) → IsLight n (begun start)
begun_light start n s = go (second (base_of start) == s) refl
  where
    go : (t : Bool) → (second (base_of start) == s) ≡ t → sum_by (charge_at s) (begun start).made ≤ 49 + over_groups n (λ g. load g s (begun start).made)
    go true e = let k = cond-true {A = ℕ} (second (base_of start) == s) 49 0 e in omega (arith, k)
    go false e = let k = cond-false {A = ℕ} (second (base_of start) == s) 49 0 e in omega (arith, k)

all_paced : (start : RunStart) (n : ℕ) → ((g : ℕ) → is_configured (start.limits g) ≡ true → g < n) → (r : Recorder) (items : List Captured)
    → IsLight n r → AreWithin start r.made → IsLight n (taken_all start r items) × AreWithin start (taken_all start r items).made
all_paced start n below r [] light within = (light, within)
all_paced start n below r (c ∷ items) light within =
    all_paced start n below (took start r c) items (took_light start n below r c light) (took_within start n below r c within)

-- The records made of these items are charged no more than Start and the loads, and each group is within its limit.
pub recorder_paced : (start : RunStart) (n : ℕ) → ((g : ℕ) → is_configured (start.limits g) ≡ true → g < n) → (items : List Captured)
    → IsLight n (recorder_after start items) × AreWithin start (recorder_after start items).made
recorder_paced start n below items = all_paced start n below (begun start) items (begun_light start n) (λ g s. nothing_within (start.limits g))
