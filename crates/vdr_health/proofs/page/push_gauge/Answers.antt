use Rattle.std.specs.Prelude.{codes}
use Rattle.vdr_health.specs.Health.{count_text, gauge_text, told_number}
use Rattle.vdr_health.proofs.Joining.{join3}
use Rattle.vdr_health.proofs.page.push_gauge.Goals as goal

pub returns-clause-text : goal.returns-clause-text
unfolding gauge_text
returns-clause-text c = rw (c.push_text.ensures, c.push_told-2.ensures.text, c.push_told.ensures.text)
    (join3 c.args.page.now.items (count_text (codes " kernel ") (told_number c.args.gauge.now.kernel)) (count_text (codes " ago ") (told_number c.args.gauge.now.ago)) (codes "\n"))
