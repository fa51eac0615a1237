use Rattle.std.proofs.Common.{◌≡◌, false, Option, Some, None, is_some, get_or, ap, ◌∙◌, arith, refl}
use Rattle.std.proofs.lemmas.List.{length-set}
use Rattle.vdr_terms.specs.Rates.{is_configured, limit_of}
use Rattle.vdr_terms.specs.declared.rate.Rate.{Rate}
use Rattle.vdr_config.specs.Configuration.{Configuration}
use Rattle.vdr_config.specs.Sizes.{limits_in}
use Rattle.vdr_desk.proofs.Lists.{at_each}
use Rattle.vdr_session.proofs.plan.Plan.new.Goals as goal

some_configured : (o : Option Rate) → is_some o ≡ is_configured (limit_of o)
some_configured None = refl
some_configured (Some rate) = refl

pub loop-group-preserved : goal.loop-group-preserved
loop-group-preserved c =
    let i = c.loop-group.invariant in
    let n = c.loop-group.group in
    let here : c.is_some.result ≡ is_configured (limits_in c.args.config.now.groups n) =
    c.is_some.ensures ∙ some_configured (get_or c.config.inside.groups n None) ∙ ap (λ (config : Configuration). is_configured (limits_in config.groups n)) c.config.view_is in (
      (λ k small. at_each c.loop-group.configured n c.is_some.result (omega (arith, i.1, c.loop-group-test.true)) (λ k b. b ≡ is_configured (limits_in c.args.config.now.groups k)) false here k
          (λ ne. i.0 k (omega (arith, small, ne)))),
      length-set c.loop-group.configured n c.is_some.result ∙ i.1,
    )
