-- What a step spends of its budget, and what goes from it as a segment is entered.
use Rattle.std.proofs.Common.{◌≡◌, ◌≢◌, ◌≤◌, ◌+◌, ◌-◌, ◌*◌, ◌^◌, ◌&&◌, if◌then◌else◌, cond, ℕ, zero, suc, Bool, true, false, List, [], ◌∷◌, length, get_or, min, Option, Some, None, refl, sym, ap, ◌∙◌, subst, arith, count_by, Result, OnOk, get_or-set_same, length-set, zero-add, nat_lt}
use Rattle.std.proofs.Math.ListN.{get_or-eq_default}
use Rattle.std.proofs.Math.Nat.{mul-le-mul_left, mul-add}
use Rattle.std.proofs.lemmas.Bool.{and_from, and_parts, eqb-true, eq-eqb, lt-ltb, le-ltb, ltb-true, ltb-false, false≢true, true≢false}
use Rattle.std.proofs.lemmas.List.Sums.{sum_by-cons}
use Rattle.std.proofs.lemmas.Option.{get_or_from_slice_get}
use Rattle.std.proofs.lemmas.Result.{on_ok_weaker}
use Rattle.vdr_terms.specs.Queries.{Query, Span, meets}
use Rattle.vdr_outside.specs.Causes.{counted}
use Rattle.vdr_index.specs.declared.known.Known.{Known}
use Rattle.vdr_index.specs.Indexes.{IsAbove, passes_by, summary_of}
use Rattle.vdr_ring.specs.Meets.{IsKnownToMeet}
use Rattle.vdr_ring.specs.Rings.{RingState}
use Rattle.vdr_ring.specs.declared.cursor.Standing.{Standing}
use Rattle.vdr_ring.specs.Budgets.{Spends, budget, is_in, is_later, is_to_enter, owed, to_enter}
use Rattle.vdr_ring.specs.Walks.{seq_in}

-- How many pass

one_less : (u v : Bool) → (u ≡ true → v ≡ true) → cond u 1 0 ≤ cond v 1 0
one_less false v h = omega arith
one_less true v h = subst (λ (b : Bool). 1 ≤ cond b 1 0) (sym (h refl)) (omega arith)

sums : (a b c d x y : ℕ) → a ≡ x + c → b ≡ y + d → x ≤ y → c ≤ d → a ≤ b
sums a b c d x y e f less rest = omega (arith, e, f, less, rest)

sums_fewer : (a b c d x y : ℕ) → a ≡ x + c → b ≡ y + d → x + 1 ≤ y → c ≤ d → a + 1 ≤ b
sums_fewer a b c d x y e f less rest = omega (arith, e, f, less, rest)

sums_behind : (a b c d x y : ℕ) → a ≡ x + c → b ≡ y + d → x ≤ y → c + 1 ≤ d → a + 1 ≤ b
sums_behind a b c d x y e f less rest = omega (arith, e, f, less, rest)

module _ {X : Type 0} (p q : X → Bool) where
  -- what passes the first test passes the second
  pub count_less : ((x : X) → p x ≡ true → q x ≡ true) → (xs : List X) → count_by p xs ≤ count_by q xs
  count_less h [] = omega arith
  count_less h (x ∷ xs) =
      sums (count_by p (x ∷ xs)) (count_by q (x ∷ xs)) (count_by p xs) (count_by q xs) (cond (p x) 1 0) (cond (q x) 1 0) (sum_by-cons (λ y. cond (p y) 1 0) x xs) (sum_by-cons (λ y. cond (q y) 1 0) x xs)
      (one_less (p x) (q x) (h x)) (count_less h xs)

  one_fewer : (x : X) → p x ≡ false → q x ≡ true → cond (p x) 1 0 + 1 ≤ cond (q x) 1 0
  one_fewer x fails passes =
      subst (λ (b : Bool). cond (p x) 1 0 + 1 ≤ cond b 1 0) (sym passes) (subst (λ (b : Bool). cond b 1 0 + 1 ≤ 1) (sym fails) (omega arith))

  -- and one passes the second alone
  pub count_fewer : ((x : X) → p x ≡ true → q x ≡ true) → (xs : List X) (i : ℕ) (d : X) → q d ≡ false → p (get_or xs i d) ≡ false → q (get_or xs i d) ≡ true → count_by p xs + 1 ≤ count_by q xs
  count_fewer h [] i d none fails passes = absurd (true≢false (sym passes ∙ none))
  count_fewer h (x ∷ xs) zero d none fails passes =
      sums_fewer (count_by p (x ∷ xs)) (count_by q (x ∷ xs)) (count_by p xs) (count_by q xs) (cond (p x) 1 0) (cond (q x) 1 0) (sum_by-cons (λ y. cond (p y) 1 0) x xs) (sum_by-cons (λ y. cond (q y) 1 0) x xs)
      (one_fewer x fails passes) (count_less h xs)
  count_fewer h (x ∷ xs) (suc i) d none fails passes =
      sums_behind (count_by p (x ∷ xs)) (count_by q (x ∷ xs)) (count_by p xs) (count_by q xs) (cond (p x) 1 0) (cond (q x) 1 0) (sum_by-cons (λ y. cond (p y) 1 0) x xs) (sum_by-cons (λ y. cond (q y) 1 0) x xs)
      (one_less (p x) (q x) (h x)) (count_fewer h xs i d none fails passes)

-- A segment is entered

module _ (query : Query) (span : Span) (old : Option Standing) (slot seq : ℕ) (above : IsAbove (seq_in old) seq) where
  -- what is later than this segment is later than the one before it
  later_too : (n : ℕ) → is_later (Some (record { slot = slot; seq = seq })) n ≡ true → is_later old n ≡ true
  later_too n is = go old above
    where
      go : (o : Option Standing) → IsAbove (seq_in o) seq → is_later o n ≡ true
      go None a = refl
      go (Some s) a = let b = ltb-true seq n is in lt-ltb s.seq n (omega (arith, a, b))

  itself_later : is_later old seq ≡ true
  itself_later = go old above
    where
      go : (o : Option Standing) → IsAbove (seq_in o) seq → is_later o seq ≡ true
      go None a = refl
      go (Some s) a = lt-ltb s.seq seq a

  entered_too : (o : Option Known) → passes_by (is_to_enter query span (Some (record { slot = slot; seq = seq }))) o ≡ true → passes_by (is_to_enter query span old) o ≡ true
  entered_too None h = h
  entered_too (Some k) h =
      let p = and_parts (is_later (Some (record { slot = slot; seq = seq })) k.seq) (meets query span (summary_of k)) h in and_from (is_later old k.seq) (meets query span (summary_of k)) (later_too k.seq p.0) p.1

  -- the segment that is entered was to enter, and is no longer
  pub entered_fewer : (index : List (Option Known)) → IsKnownToMeet query span index slot seq
      → to_enter query span (Some (record { slot = slot; seq = seq })) index + 1 ≤ to_enter query span old index
  entered_fewer index known =
      let at = get_or_from_slice_get index slot (Some known.known) None known.there in
      count_fewer (passes_by (is_to_enter query span (Some (record { slot = slot; seq = seq })))) (passes_by (is_to_enter query span old)) entered_too index slot None refl
      (ap (passes_by (is_to_enter query span (Some (record { slot = slot; seq = seq })))) at
      ∙ ap (λ (b : Bool). b && meets query span (summary_of known.known)) (le-ltb seq known.known.seq (let a = known.number in omega (arith, a))))
      (ap (passes_by (is_to_enter query span old)) at
      ∙ and_from (is_later old known.known.seq) (meets query span (summary_of known.known)) (ap (is_later old) known.number ∙ itself_later) known.meets_it)

owed_one : (loaded : Option ℕ) (standing : Option Standing) → owed loaded standing ≤ 1
owed_one loaded None = omega arith
owed_one loaded (Some s) = go (is_in loaded s.slot)
  where
    go : (b : Bool) → (if b then 0 else 1) ≤ 1
    go true = omega arith
    go false = omega arith

-- its own bytes go from those of the segments that were to enter
pub entered_budget : (query : Query) (span : Span) (ring : RingState) (old : Option Standing) (slot seq : ℕ) → IsAbove (seq_in old) seq → IsKnownToMeet query span ring.directory.index slot seq
    → budget ring query span (Some (record { slot = slot; seq = seq })) ≤ budget ring query span old
entered_budget query span ring old slot seq above known =
    let a = entered_fewer query span old slot seq above ring.directory.index known in
    let b = owed_one ring.loaded (Some (record { slot = slot; seq = seq })) in
    mul-le-mul_left ring.segment (omega (arith, a, b))

-- A step in a segment

pub counted_most : (counts : List ℕ) (m n : ℕ) → get_or (counted counts m n) m 0 ≤ get_or counts m 0 + n
counted_most counts m n = go (nat_lt m (length counts)) refl
  where
    go : (b : Bool) → nat_lt m (length counts) ≡ b → get_or (counted counts m n) m 0 ≤ get_or counts m 0 + n
    go true lt = let a = get_or-set_same counts m (min (get_or counts m 0 + n) (2 ^ 64 - 1)) 0 (ltb-true m (length counts) lt) in omega (arith, a)
    go false ge =
        let a = get_or-eq_default (counted counts m n) 0 {n = m} (subst (λ (k : ℕ). k ≤ m) (sym (length-set counts m (min (get_or counts m 0 + n) (2 ^ 64 - 1)))) (ltb-false m (length counts) ge)) in omega (arith, a)

in_loaded : (loaded : Option ℕ) (slot : ℕ) → is_in loaded slot ≡ true → loaded ≡ Some slot
in_loaded None slot h = absurd (false≢true h)
in_loaded (Some n) slot h = ap (λ (k : ℕ). Some k) (eqb-true n slot h)

not_in_loaded : (loaded : Option ℕ) (slot : ℕ) → is_in loaded slot ≡ false → loaded ≢ Some slot
not_in_loaded loaded slot h is = true≢false (sym (eq-eqb slot slot refl) ∙ sym (ap (λ (o : Option ℕ). is_in o slot) is) ∙ h)

owed_none : (loaded : Option ℕ) (s : Standing) → loaded ≡ Some s.slot → owed loaded (Some s) ≡ 0
owed_none loaded s is = ap (λ (o : Option ℕ). owed o (Some s)) is ∙ ap (λ (b : Bool). if b then 0 else 1) (eq-eqb s.slot s.slot refl)

module _ {T E : Type 0} (segment n m : ℕ) (before now : List ℕ) (was loaded : Option ℕ) (s : Standing) (result : Result T E) (is_loaded : OnOk result (loaded ≡ Some s.slot))
    (again : was ≡ Some s.slot → now ≡ before) (once : was ≢ Some s.slot → now ≡ counted before m segment) where
  spends_by : (b : Bool) → is_in was s.slot ≡ b → Spends m (segment * ((if b then 0 else 1) + n)) (segment * (owed loaded (Some s) + n)) before now result
  spends_by true is =
      let same : get_or now m 0 ≡ get_or before m 0 = ap (λ (xs : List ℕ). get_or xs m 0) (again (in_loaded was s.slot is)) in
      record {
        within = omega (arith, same);
        left = on_ok_weaker result (λ held. let a : segment * (owed loaded (Some s) + n) ≡ segment * (0 + n) = ap (λ (k : ℕ). segment * (k + n)) (owed_none loaded s held) in omega (arith, same, a)) is_loaded;
      }
  spends_by false is =
      let read : get_or now m 0 ≤ get_or before m 0 + segment =
      subst (λ (xs : List ℕ). get_or xs m 0 ≤ get_or before m 0 + segment) (sym (once (not_in_loaded was s.slot is))) (counted_most before m segment) in
      let parts : segment * (1 + n) ≡ segment * 1 + segment * n = mul-add segment 1 n in
      record {
        within = omega (arith, read, parts);
        left = on_ok_weaker result
            (λ held. let a : segment * (owed loaded (Some s) + n) ≡ segment * n = ap (λ (k : ℕ). segment * (k + n)) (owed_none loaded s held) ∙ ap (λ (k : ℕ). segment * k) (zero-add n) in omega (arith, read, parts, a)) is_loaded;
      }

-- a step in the segment in which it stands reads it where its slot is not the one that is loaded
pub step_spends : {T E : Type 0} (query : Query) (span : Span) (old new : RingState) (standing : Option Standing) (s : Standing) (before now : List ℕ) (result : Result T E) → standing ≡ Some s
    → new ≡ record old { buffer = new.buffer; loaded = new.loaded } → OnOk result (new.loaded ≡ Some s.slot) → (old.loaded ≡ Some s.slot → now ≡ before)
    → (old.loaded ≢ Some s.slot → now ≡ counted before old.medium old.segment) → Spends old.medium (budget old query span standing) (budget new query span standing) before now result
step_spends query span old new standing s before now result stands ring loaded again once =
    subst (λ (o : Option Standing). Spends old.medium (budget old query span o) (budget new query span o) before now result) (sym stands)
    (subst (λ (r : RingState). Spends old.medium (budget old query span (Some s)) (budget r query span (Some s)) before now result) (sym ring)
    (spends_by old.segment (to_enter query span (Some s) old.directory.index) old.medium before now old.loaded new.loaded s result loaded again once (is_in old.loaded s.slot) refl))
