use Rattle.std.proofs.Common.{◌≡◌, ◌<◌, ℕ, false, length, get_or}
use Rattle.vdr_terms.specs.Rates.{is_configured}
use Rattle.vdr_config.specs.Sizes.{limits_in}
use Rattle.vdr_session.proofs.plan.Plan.new.Given as goal

abbrev pub invariant-loop-group : goal.invariant-loop-group
invariant-loop-group l =
    ((k : ℕ) → k < l.group → get_or l.configured k false ≡ is_configured (limits_in l.config.groups k)) × (length l.configured ≡ 16)
