use Rattle.std.proofs.Common.{◌∙◌, subst}
use Rattle.std.proofs.lemmas.Result.{err_from_is_err_and}
use Rattle.vdr_terms.proofs.Results.{same_err}
use Rattle.vdr_outside.specs.Disk.{Image, content}
use Rattle.vdr_outside.proofs.Counts.{none_falls_join}
use Rattle.vdr_outside.proofs.Moments.{unchanged_join}
use Rattle.vdr_rescue.specs.Alones.{IsAloneOn, Rescued}
use Rattle.vdr_compare.specs.Surveys.{IsSurveyOf}
use Rattle.vdr_compare.proofs.Opened.{part_failed}
use Rattle.vdr_compare.proofs.opening.read_both.Goals as goal

pub returns-in_err-capsule-clause-damaged : goal.returns-in_err-capsule-clause-damaged
returns-in_err-capsule-clause-damaged g c =
    let p = err_from_is_err_and c.from_residual.result c.from_residual.ensures.1 in
    rw (p.1, p.2) (λ k offset e. c.in_err-capsule.ensures.damaged k offset (same_err _ _ e))

pub returns-in_err-first-clause-damaged : goal.returns-in_err-first-clause-damaged
returns-in_err-first-clause-damaged g c =
    let p = err_from_is_err_and c.from_residual-in_err-first.result c.from_residual-in_err-first.ensures.1 in
    rw (p.1, p.2) (λ k offset e t. absurd (c.in_err-first.ensures.damaged k offset (same_err _ _ e)))

pub returns-in_err-first-clause-cause : goal.returns-in_err-first-clause-cause
returns-in_err-first-clause-cause g c =
    let p = err_from_is_err_and c.from_residual-in_err-first.result c.from_residual-in_err-first.ensures.1 in
    part_failed c.in_ok-capsule.capsule.cursor.area.medium _ _ _ c.survey_alone.result c.in_err-first.field-0.0 c.from_residual-in_err-first.result p.0 c.in_err-first.was p.1 p.2 c.open_both.ensures.cause.later c.survey_alone.ensures.cause

pub returns-in_err-second-clause-damaged : goal.returns-in_err-second-clause-damaged
returns-in_err-second-clause-damaged g c =
    let p = err_from_is_err_and c.from_residual-in_err-second.result c.from_residual-in_err-second.ensures.1 in
    rw (p.1, p.2) (λ k offset e t. absurd (c.in_err-second.ensures.damaged k offset (same_err _ _ e)))

pub returns-in_err-second-clause-cause : goal.returns-in_err-second-clause-cause
returns-in_err-second-clause-cause g c =
    let p = err_from_is_err_and c.from_residual-in_err-second.result c.from_residual-in_err-second.ensures.1 in
    part_failed c.in_ok-capsule.longterm.cursor.area.medium _ _ _ c.survey_alone-2.result c.in_err-second.field-0.0 c.from_residual-in_err-second.result p.0 c.in_err-second.was p.1 p.2
    (none_falls_join _ _ _ c.open_both.ensures.cause.later c.survey_alone.ensures.cause.later) c.survey_alone-2.ensures.cause

pub returns-clause-surveyed : goal.returns-clause-surveyed
returns-clause-surveyed g c told y z first second =
    let x = c.in_ok-capsule in
    let opened = c.open_both.ensures.unchanged.reads told in
    let both = c.survey_alone.ensures.unchanged.reads told ∙ opened in (
      (subst (λ (image : Image). IsAloneOn 0 (content image 0) x.capsule → Rescued 0 (content image 0) y → IsSurveyOf 0 (content image 0) y c.in_ok-first.first) opened
          (c.in_ok-first.ensures.surveyed told 0 y)) (x.ensures.capsule told) first,
      (subst (λ (image : Image). IsAloneOn 1 (content image 1) x.longterm → Rescued 1 (content image 1) z → IsSurveyOf 1 (content image 1) z c.in_ok-second.second) both
          (c.in_ok-second.ensures.surveyed told 1 z)) (x.ensures.longterm told) second,
    )

pub returns-clause-unchanged : goal.returns-clause-unchanged
returns-clause-unchanged g c = unchanged_join _ _ _ (unchanged_join _ _ _ c.open_both.ensures.unchanged c.survey_alone.ensures.unchanged) c.survey_alone-2.ensures.unchanged
