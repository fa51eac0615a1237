-- How many runs a series has.
use Rattle.std.proofs.Common.{◌≡◌, ◌≤◌, ◌<◌, ◌+◌, ◌-◌, subst, ◌/◌, ◌||◌, ◌==◌, ℕ, suc, Bool, true, false, not, cond, nat_lt, List, [], ◌∷◌, length, refl, sym, ap, arith}
use Rattle.std.specs.Bool.{beq}
use Rattle.std.specs.Option.{option_eq}
use Rattle.std.proofs.lemmas.Bool.{eqb-true, le-ltb}
use Rattle.std.proofs.lemmas.Bool.Decides.{nat_tests}
use Rattle.std.proofs.lemmas.Nat.{le-div}
use Rattle.std.proofs.Math.Nat.{div-mul-le_self}
use Rattle.vdr_thin.specs.Laws.{NeverFalls, breaks_in, bucket_of, is_broken, last_of}
use Rattle.vdr_thin.specs.Runs.{Reading, Run, begun, ends, grown, is_missed, runs_from, runs_of}

-- Where a stamp does not fall a run ends at another bucket, or at a break.
by_break : (same fell silent changed : Bool) → fell ≡ false → same ≡ true → (not same || fell || silent || changed) ≡ true → (silent || changed) ≡ true
by_break true true silent changed f s e = let none : ⊥ = cc in absurd none
by_break true false silent changed f s e = e
by_break false fell silent changed f s e = let none : ⊥ = cc in absurd none

counted : (b same : Bool) (p q n m broken last breaks : ℕ) → p ≤ q → (same ≡ true → p ≡ q) → (same ≡ false → suc p ≤ q) → (same ≡ true → b ≡ true → broken ≡ 1)
    → n + q ≤ 1 + last + breaks → m + q ≤ 1 + last + breaks → cond b (suc n) m + p ≤ 1 + last + (broken + breaks)
counted true true p q n m broken last breaks le at up one new more = let is = at refl in let by = one refl refl in let sum : suc n + p ≤ 1 + last + (broken + breaks) = omega (arith, is, by, new) in sum
counted true false p q n m broken last breaks le at up one new more = let next = up refl in let sum : suc n + p ≤ 1 + last + (broken + breaks) = omega (arith, next, new) in sum
counted false same p q n m broken last breaks le at up one new more = let sum : m + p ≤ 1 + last + (broken + breaks) = omega (arith, le, more) in sum

length_either : (b : Bool) (run : Run) (new more : List Run) → length (cond b (run ∷ new) more) ≡ cond b (suc (length new)) (length more)
length_either true run new more = refl
length_either false run new more = refl

another : (a b : ℕ) → a ≤ b → (a == b) ≡ false → suc a ≤ b
another a b le e = grind (arith, nat_tests)

bucket_rises : (a b step : ℕ) → 0 < step → a ≤ b → a / step ≤ b / step
bucket_rises a b step positive le = let most = div-mul-le_self a step in le-div (a / step) b step positive (omega (arith, most, le))

one_of : (b : Bool) → b ≡ true → ◌≡◌ {A = ℕ} (cond b 1 0) 1
one_of b e = ap (λ (b : Bool). cond {A = ℕ} b 1 0) e

module _ (step longest : ℕ) (positive : 0 < step) where
  few : (run : Run) (rs : List Reading) → NeverFalls (run.last.reading ∷ rs)
      → length (runs_from step longest run rs) + run.last.reading.utc / step ≤ 1 + bucket_of step (last_of (run.last.reading ∷ rs)) + breaks_in longest (run.last.reading ∷ rs)
  few run [] h = let sum : 1 + run.last.reading.utc / step ≤ 1 + run.last.reading.utc / step + 0 = omega arith in sum
  few run (r ∷ rs) h =
      let p : Reading = run.last.reading in
      let new : List Run = runs_from step longest (begun (is_missed p r) r) rs in
      let more : List Run = runs_from step longest (grown run r) rs in
      let rises : p.utc / step ≤ r.utc / step = bucket_rises p.utc r.utc step positive h.0 in
      subst (λ (n : ℕ). n + p.utc / step ≤ 1 + bucket_of step (last_of (r ∷ rs)) + (cond (is_broken longest p r) 1 0 + breaks_in longest (r ∷ rs)))
      (sym (length_either (ends step longest p r) run new more))
      (counted (ends step longest p r) (p.utc / step == r.utc / step) (p.utc / step) (r.utc / step) (length new) (length more) (cond (is_broken longest p r) 1 0)
      (bucket_of step (last_of (r ∷ rs))) (breaks_in longest (r ∷ rs)) rises (eqb-true (p.utc / step) (r.utc / step)) (another (p.utc / step) (r.utc / step) rises)
      (λ same e. one_of (is_broken longest p r) (by_break (p.utc / step == r.utc / step) (nat_lt r.utc p.utc) (nat_lt longest (r.utc - p.utc)) (not (option_eq beq p.valid r.valid)) (le-ltb r.utc p.utc h.0) same e))
      (few (begun (is_missed p r) r) rs h.1) (few (grown run r) rs h.1))

  pub runs_few : (first : Reading) (readings : List Reading) → NeverFalls (first ∷ readings)
      → length (runs_of step longest (first ∷ readings)) + first.utc / step ≤ 1 + bucket_of step (last_of (first ∷ readings)) + breaks_in longest (first ∷ readings)
  runs_few first readings h = few (begun true first) readings h
