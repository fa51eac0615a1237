use Rattle.std.proofs.Common.{◌∙◌}
use Rattle.vdr_outside.specs.Disk.{content}
use Rattle.vdr_config.specs.Sizes.{window_of}
use Rattle.vdr_compare.proofs.Surveyed.{surveyed}
use Rattle.vdr_compare.proofs.survey.survey_alone.Goals as goal

pub returns-clause-surveyed : goal.returns-clause-surveyed
returns-clause-surveyed g c told m x alone rescued =
    let image = (g.M.Media.disk c.args.media.now).reads in
    let law = c.law_of_alone.ensures in
    let read = c.in-Ok.ensures in
    surveyed m (content image m) (content image c.args.alone.cursor.area.medium) x c.args.alone c.read_through.new.alone _ law.read law.found
    (law.same m (content image m) c.args.alone x alone rescued).0 alone rescued read.same (λ i. content image (alone.medium i)) (read.read told) c.in-Ok-findings.ensures c.into_cursor.ensures
    (c.window-seconds.ensures.window ∙ (λ i. window_of (c.config.ensures i) (c.medium.ensures i))) (read.second told m x alone rescued)
