-- What a run's meter knows, if it has one.
use Rattle.std.specs.Prelude.{◌≡◌, ◌<◌, ℕ, List, Option, None, Some}
use Rattle.vdr_terms.specs.declared.rate.Rate.{Rate}
use Rattle.vdr_terms.specs.Records.{Record}
use Rattle.vdr_terms.specs.Rates.{Limit}
use Rattle.vdr_terms.specs.Rates.Limit.{Unlimited}
use Rattle.vdr_config.specs.Sizes.{limits_in}
use Rattle.vdr_meter.specs.Metering.{Metering, Measures}

-- It has the groups' limits, and knows these records.
pub record IsMeterOf (limits : ℕ → Limit) (meter : Metering) (made : List Record) : Type 0 where
  pub rates : (g : ℕ) → g < 16 → limits_in meter.rates g ≡ limits g
  pub measures : Measures meter made

-- Without a meter no group has a limit.
abbrev pub IsMetered : (ℕ → Limit) → Option Metering → List Record → Type 0
IsMetered limits None made = (g : ℕ) → g < 16 → limits g ≡ Unlimited
IsMetered limits (Some meter) made = IsMeterOf limits meter made

-- The rates of its groups.
abbrev pub rates_of : Option Metering → Option (List (Option Rate))
rates_of None = None
rates_of (Some meter) = Some meter.rates

-- The second of the last item that was admitted.
abbrev pub second_of : Option Metering → ℕ
second_of None = 0
second_of (Some meter) = meter.second
