use Rattle.std.proofs.Common.{◌≡◌, ◌<◌, ◌∙◌, List, Option, None, length, get_or, ap, arith}
use Rattle.std.proofs.lemmas.List.{length-set}
use Rattle.vdr_desk.proofs.Lists.{at_each}
use Rattle.vdr_terms.specs.declared.rate.Rate.{Rate}
use Rattle.vdr_config.specs.Configuration.{Configuration}
use Rattle.vdr_health.specs.Runs.{account_if}
use Rattle.vdr_reply.proofs.health.accounts.Goals as goal

pub loop-group-preserved : goal.loop-group-preserved
loop-group-preserved c =
    let i = c.loop-group.invariant in
    let n = c.loop-group.group in
    let low = c.loop-group-test.true in
    let rate : get_or c.rates_of-rates.result n None ≡ get_or c.args.recorder.now.vault.config.groups n None =
    ap (λ (rates : List (Option Rate)). get_or rates n None) (c.rates_of-rates.ensures ∙ ap (λ (config : Configuration). config.groups) c.config.ensures) in
    let few : n < length c.loop-group.sums = omega (arith, i.1, low) in (
      (λ start popped makes tallies k small. at_each c.loop-group.sums n c.account_of.result few (λ k s. s ≡ account_if start popped k) None
          (c.account_of.ensures start popped makes rate (tallies.groups n low)) k
          (λ ne. i.0 start popped makes tallies k (omega (arith, small, ne)))),
      length-set c.loop-group.sums n c.account_of.result ∙ i.1,
    )
