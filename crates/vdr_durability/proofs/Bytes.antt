-- The bytes of records that all fall into a span of seconds are at most what these seconds may have.
use Rattle.std.proofs.Common.{ℕ, zero, suc, ◌+◌, ◌*◌, ◌<◌, ◌≤◌, List, [], ◌∷◌, length, Bool, true, false, cond, Contains, count_by, sum_by, ◌==◌, if◌then◌else◌, ◌≡◌, ⊎_elim, refl, ap, arith, suc-mul, add-mul}
use Rattle.std.proofs.lemmas.Bool.{cases_eq, cond_both, cond-true, eq-eqb}
use Rattle.std.proofs.lemmas.List.Sums.{sum_by-cons}
use Rattle.vdr_terms.specs.Records.{Record, second}
use Rattle.vdr_terms.specs.Sizes.{batch_size, record_size}
use Rattle.vdr_durability.specs.Layout.{Batches, batch_size_at, batches_size, batches_size_at, head_size_at, record_size_at, segment_records}
use Rattle.vdr_durability.proofs.Lists.{contains_here, contains_there, contains_flat}

-- the sum over so many numbers from this one on
abbrev pub total : ℕ → ℕ → (ℕ → ℕ) → ℕ
total low zero f = 0
total low (suc n) f = f (low + n) + total low n f

pub total_most : (low n c : ℕ) (f : ℕ → ℕ) → ((s : ℕ) → f s ≤ c) → total low n f ≤ n * c
total_most low zero c f h = omega arith
total_most low (suc n) c f h = let a = h (low + n) in let b = total_most low n c f h in let d : suc n * c ≡ n * c + c = suc_times n c in omega (arith, a, b, d)
  where
    suc_times : (n c : ℕ) → suc n * c ≡ n * c + c
    suc_times n c = suc-mul n c

pub total_rises : (low n : ℕ) (f g : ℕ → ℕ) → ((s : ℕ) → f s ≤ g s) → total low n f ≤ total low n g
total_rises low zero f g h = omega arith
total_rises low (suc n) f g h = let a = h (low + n) in let b = total_rises low n f g h in omega (arith, a, b)

total_plus : (low n : ℕ) (f g : ℕ → ℕ) → total low n (λ s. f s + g s) ≡ total low n f + total low n g
total_plus low zero f g = refl
total_plus low (suc n) f g = let b = total_plus low n f g in omega (arith, b)

-- what counts at one of the numbers counts
total_hit : (low n s x : ℕ) → low ≤ s → s < low + n → x ≤ total low n (λ t. if s == t then x else 0)
total_hit low zero s x a b = absurd (omega (arith, a, b))
total_hit low (suc n) s x a b =
    ⊎_elim
    (λ (e : s ≡ low + n). let c = cond-true (s == low + n) x 0 (eq-eqb s (low + n) e) in omega (arith, c))
    (λ (ne : s ≡ low + n → ⊥). let c = total_hit low n s x a (below ne b) in omega (arith, c))
    (cases_eq s (low + n))
  where
    below : (s ≡ low + n → ⊥) → s < low + suc n → s < low + n
    below ne b = omega (arith, ne, b)

-- weights that are spread over these numbers
pub spread : {X : Type 0} (w : X → ℕ) (at : ℕ → X → ℕ) (low n : ℕ) (xs : List X) → ((x : X) → Contains xs x → w x ≤ total low n (λ t. at t x))
    → sum_by w xs ≤ total low n (λ t. sum_by (at t) xs)
spread w at low n [] h = omega arith
spread w at low n (x ∷ xs) h =
    let a = sum_by-cons w x xs in
    let b = h x (contains_here x xs) in
    let c = spread w at low n xs (λ y m. h y (contains_there x xs y m)) in
    let d = total_plus low n (λ t. at t x) (λ t. sum_by (at t) xs) in
    let e = total_rises low n (λ t. at t x + sum_by (at t) xs) (λ t. sum_by (at t) (x ∷ xs)) (λ t. let k = sum_by-cons (at t) x xs in omega (arith, k)) in
    omega (arith, a, b, c, d, e)

abbrev pub IsIn : ℕ → ℕ → Record → Type 0
IsIn low n r = (low ≤ second r.tick) × (second r.tick < low + n)

batch_spread : (low n : ℕ) (b : List Record) → 0 < length b → ((r : Record) → Contains b r → IsIn low n r) → batch_size b ≤ total low n (λ s. batch_size_at s b)
batch_spread low n [] some h = absurd (omega (arith, some))
batch_spread low n (r ∷ rs) some h =
    let i = h r (contains_here r rs) in
    let a = total_hit low n (second r.tick) 5 i.0 i.1 in
    let b = spread record_size record_size_at low n (r ∷ rs) (λ x m. let k = h x m in total_hit low n (second x.tick) (record_size x) k.0 k.1) in
    let c = total_plus low n (λ s. head_size_at s (r ∷ rs)) (λ s. sum_by (record_size_at s) (r ∷ rs)) in
    omega (arith, a, b, c)

pub segment_spread : (low n : ℕ) (segment : Batches) → ((b : List Record) → Contains segment b → 0 < length b) → ((r : Record) → Contains (segment_records segment) r → IsIn low n r)
    → batches_size segment ≤ total low n (λ s. batches_size_at s segment)
segment_spread low n segment some h = spread batch_size batch_size_at low n segment (λ b m. batch_spread low n b (some b m) (λ r k. h r (contains_flat (λ (b : List Record). b) segment b r m k)))

weighed : (inside : Batches → Bool) (usable : ℕ) (segments : List Batches) → ((s : Batches) → Contains segments s → usable < batches_size s)
    → count_by inside segments * usable ≤ sum_by (λ s. cond (inside s) (batches_size s) 0) segments
weighed inside usable [] filled = omega arith
weighed inside usable (s ∷ ss) filled =
    let a = sum_by-cons (λ (s : Batches). cond (inside s) 1 0) s ss in
    let b = sum_by-cons (λ (s : Batches). cond (inside s) (batches_size s) 0) s ss in
    let c = weighed inside usable ss (λ t m. filled t (contains_there s ss t m)) in
    let d = one (inside s) (batches_size s) (filled s (contains_here s ss)) in
    let e : (cond (inside s) 1 0 + count_by inside ss) * usable ≡ cond (inside s) 1 0 * usable + count_by inside ss * usable = add-mul (cond (inside s) 1 0) (count_by inside ss) usable in
    let f : count_by inside (s ∷ ss) * usable ≡ (cond (inside s) 1 0 + count_by inside ss) * usable = ap (λ (n : ℕ). n * usable) a in
    omega (arith, b, c, d, e, f)
  where
    one : (t : Bool) (n : ℕ) → usable < n → cond t 1 0 * usable ≤ cond t n 0
    one true n h = omega (arith, h)
    one false n h = omega arith

-- Of segments that have more than the usable bytes, so many lie in these seconds altogether.
pub inside_most : (inside : Batches → Bool) (low n c usable : ℕ) (segments : List Batches)
    → ((s : Batches) → Contains segments s → usable < batches_size s)
    → ((s : Batches) → Contains segments s → inside s ≡ true → batches_size s ≤ total low n (λ t. batches_size_at t s))
    → ((t : ℕ) → sum_by (batches_size_at t) segments ≤ c)
    → count_by inside segments * usable ≤ n * c
inside_most inside low n c usable segments filled spreads paced =
    let a : count_by inside segments * usable ≤ sum_by weight segments = weighed inside usable segments filled in
    let b : sum_by weight segments ≤ total low n (λ t. sum_by (batches_size_at t) segments) = spread weight batches_size_at low n segments (λ s m. weight_spread s (spreads s m)) in
    let d = total_most low n c (λ t. sum_by (batches_size_at t) segments) paced in
    omega (arith, a, b, d)
  where
    weight : Batches → ℕ
    weight s = cond (inside s) (batches_size s) 0

    weight_spread : (s : Batches) → (inside s ≡ true → batches_size s ≤ total low n (λ u. batches_size_at u s)) → weight s ≤ total low n (λ u. batches_size_at u s)
    weight_spread s h = cond_both (inside s) (batches_size s) 0 (λ (x : ℕ). x ≤ total low n (λ u. batches_size_at u s)) h (λ _. omega arith)
