use Rattle.std.proofs.Common.{◌++◌}
use Rattle.std.specs.Prelude.{codes}
use Rattle.vdr_health.specs.Health.{count_text, ends_text, since_text, told_number}
use Rattle.vdr_health.proofs.Joining.{join5}
use Rattle.vdr_health.proofs.page.push_ends.Goals as goal

pub returns-clause-text : goal.returns-clause-text
unfolding ends_text
returns-clause-text c = rw (c.push_text-2.ensures, c.push_since.ensures.text, c.push_text.ensures, c.push_told-2.ensures.text, c.push_told.ensures.text)
    (join5 c.args.page.now.items (count_text (codes "capsule sync ") (told_number c.args.gauged.now.capsule_sync)) (count_text (codes "\nlongterm sync ") (told_number c.args.gauged.now.long_term_sync))
    (codes "\nrun since ") (since_text c.args.since) (codes "\n"))
