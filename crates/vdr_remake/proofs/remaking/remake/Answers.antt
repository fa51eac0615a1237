use Rattle.std.proofs.Common.{ℕ, ◌∙◌, ap}
use Rattle.vdr_terms.specs.Needs.{slots_in}
use Rattle.vdr_config.specs.Sizes.{sizes_of}
use Rattle.vdr_outside.proofs.Moments.{unchanged_none}
use Rattle.vdr_remake.proofs.Refusals.{refused_by}
use Rattle.vdr_remake.proofs.Remade.{remakes_nothing}
use Rattle.vdr_remake.proofs.remaking.remake.Goals as goal

pub returns-in_err-tested-clause-moments : goal.returns-in_err-tested-clause-moments
returns-in_err-tested-clause-moments g c placed told holds = remakes_nothing _ _ _ _ _ c.from_residual.ensures.0 (unchanged_none _)

pub returns-clause-damaged : goal.returns-clause-damaged
returns-clause-damaged g c m offset is =
    let h = c.remake_in.ensures.damaged m offset is in
    let a = c.area_of-source.ensures in
    (h.0 ∙ a.medium, λ told. refused_by _ _ _ _ _ _ _ offset a.segment (a.slots ∙ ap (λ (n : ℕ). slots_in (sizes_of c.args.config.now) n) c.size-2.ensures) a.medium (h.1 told))
