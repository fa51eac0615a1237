-- What a legal configuration admits.
use Rattle.std.proofs.Common.{◌≡◌, ◌≤◌, ℕ, zero, suc, List, [], ◌∷◌, All, Option, Some, None, slice_index_or, subst}
use Rattle.std.specs.Prelude.{IfSome}
use Rattle.std.proofs.lemmas.List.Elements.{All-head, All-tail}
use Rattle.vdr_terms.specs.declared.rate.Rate.{Rate}
use Rattle.vdr_terms.specs.Rates.{limit_of}
use Rattle.vdr_terms.specs.Rates.Limit.{AtMost}
use Rattle.vdr_core.specs.Law.{Admits}
use Rattle.vdr_config.specs.Configuration.{Configuration, IsConfiguration, IsRate}
use Rattle.vdr_config.specs.Sizes.{limits_in}

-- A legal configuration admits a datagram a second of each of its groups.
rate_at : (rates : List (Option Rate)) (g : ℕ) → All (λ rate. IfSome rate IsRate) rates → IfSome (slice_index_or rates g None) IsRate
rate_at [] g h = tt
rate_at (rate ∷ rates) zero h = All-head (λ (rate : Option Rate). IfSome rate IsRate) rate rates h
rate_at (rate ∷ rates) (suc g) h = rate_at rates g (All-tail (λ (rate : Option Rate). IfSome rate IsRate) rate rates h)

pub admits_all : (c : Configuration) → IsConfiguration c → Admits (limits_in c.groups)
admits_all c legal g rate is = go (slice_index_or c.groups g None) (rate_at c.groups g legal.rates) is
  where
    go : (o : Option Rate) → IfSome o IsRate → limit_of o ≡ AtMost rate → 1 ≤ rate.datagrams
    go None h e = let none : ⊥ = cc in absurd none
    go (Some r) h e = subst (λ (r : Rate). 1 ≤ r.datagrams) (same r e) h.0
      where
        same : (r : Rate) → AtMost r ≡ AtMost rate → r ≡ rate
        same r e = cc
