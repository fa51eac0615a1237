use Rattle.std.proofs.Common.{◌∙◌, ℤ, Option, ap}
use Rattle.vdr_health.specs.Health.{health_text}
use Rattle.vdr_health.specs.Runs.{account_if}
use Rattle.vdr_reply.specs.Texts.{page_text}
use Rattle.vdr_reply.proofs.Answered.{page_is}
use Rattle.vdr_reply.proofs.health.page_of.Goals as goal

pub returns : goal.returns
returns c = λ start popped makes tallies.
    c.of_lines.ensures
    ∙ c.health_page.ensures (account_if start popped) (c.accounts-sums.ensures start popped makes tallies)
    ∙ page_is (health_text (account_if start popped) c.since.result c.args.gauged.now)
    ∙ ap (λ (since : Option ℤ). page_text (health_text (account_if start popped) since c.args.gauged.now)) (c.since.ensures.same ∙ tallies.since)
