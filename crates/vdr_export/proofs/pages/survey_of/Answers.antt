use Rattle.std.proofs.Common.{List, subst}
use Rattle.vdr_terms.specs.Records.{Record}
use Rattle.vdr_page.specs.Surveyed.{HasSurveyed}
use Rattle.vdr_export.proofs.Paging.{never_damaged}
use Rattle.vdr_export.proofs.pages.survey_of.Goals as goal

pub returns-in-Ok-clause-found : goal.returns-in-Ok-clause-found
returns-in-Ok-clause-found g c records told =
    let v = c.in-Ok.ensures.handed c.new-surveyor.result c.new-surveyor.ensures in
    c.survey.ensures records (subst (λ (rs : List Record). HasSurveyed c.visit.new.visitor rs) (v.are records told) v.made.0)

pub returns-in-Err-clause-undamaged : goal.returns-in-Err-clause-undamaged
returns-in-Err-clause-undamaged g c m offset is records told =
    let v = c.in-Err.ensures.handed c.new-surveyor.result c.new-surveyor.ensures in
    never_damaged v.seen records c.in-Err.stop m offset is (v.are records told)
