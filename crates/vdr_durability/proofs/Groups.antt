-- Sums over the groups of a configuration.
use Rattle.std.specs.Prelude.{slice_index_or}
use Rattle.std.proofs.Common.{ℕ, zero, suc, ◌+◌, ◌*◌, ◌<◌, ◌≤◌, List, [], ◌∷◌, length, sum_by, true, true≢false, Option, Some, None, ◌≡◌, refl, sym, arith}
use Rattle.std.proofs.lemmas.List.Sums.{sum_by-cons}
use Rattle.vdr_terms.specs.declared.rate.Rate.{Rate}
use Rattle.vdr_terms.specs.Needs.{group_cost}
use Rattle.vdr_terms.specs.Rates.{limit_of, is_configured}
use Rattle.vdr_durability.proofs.Loads.{over_groups}

-- the rate that stands at a group's number
abbrev pub rate_at : List (Option Rate) → ℕ → Option Rate
rate_at rates g = slice_index_or rates g None

-- what a group's Datagrams may be charged in a second, and its closing gap
abbrev pub data_cost : Option Rate → ℕ
data_cost None = 0
data_cost (Some rate) = 140 * rate.datagrams + rate.bytes

abbrev pub gap_cost : Option Rate → ℕ
gap_cost None = 0
gap_cost (Some rate) = 84

over_shift : (n : ℕ) (f : ℕ → ℕ) → over_groups (suc n) f ≡ f 0 + over_groups n (λ g. f (suc g))
over_shift zero f = refl
over_shift (suc n) f = let a = over_shift n f in omega (arith, a)

-- Of the rates that stand at some numbers, the sum is at most that of all rates.
pub over_some : (f : Option Rate → ℕ) → f None ≡ 0 → (n : ℕ) (rates : List (Option Rate)) → over_groups n (λ g. f (rate_at rates g)) ≤ sum_by f rates
over_some f none zero rates = omega arith
over_some f none (suc n) [] = let a = over_some f none n [] in omega (arith, a, none)
over_some f none (suc n) (r ∷ rates) =
    let a = over_shift n (λ g. f (rate_at (r ∷ rates) g)) in
    let b = over_some f none n rates in
    let c = sum_by-cons f r rates in
    omega (arith, a, b, c)

pub parts_within : (rates : List (Option Rate)) → sum_by data_cost rates + sum_by gap_cost rates ≤ sum_by group_cost rates
parts_within [] = omega arith
parts_within (r ∷ rates) =
    let a = sum_by-cons data_cost r rates in
    let b = sum_by-cons gap_cost r rates in
    let c = sum_by-cons group_cost r rates in
    let d = parts_within rates in
    let e = one r in
    omega (arith, a, b, c, d, e)
  where
    one : (o : Option Rate) → data_cost o + gap_cost o ≤ group_cost o
    one None = omega arith
    one (Some rate) = omega arith

-- A group that is configured is one of the rates.
pub is_one_of : (rates : List (Option Rate)) (g : ℕ) → is_configured (limit_of (rate_at rates g)) ≡ true → g < length rates
is_one_of [] g e = absurd (true≢false (sym e))
is_one_of (r ∷ rates) zero e = omega arith
is_one_of (r ∷ rates) (suc g) e = let a = is_one_of rates g e in omega (arith, a)
