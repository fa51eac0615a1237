use Rattle.std.proofs.Common.{None, Some, refl, sym, ◌∙◌, ap}
use Rattle.std.proofs.lemmas.Bool.{both_ways}
use Rattle.std.proofs.lemmas.Result.{err_from_is_err_and}
use Rattle.vdr_outside.specs.Disk.{Image, content}
use Rattle.vdr_terms.proofs.Results.{same_err}
use Rattle.vdr_directory.proofs.CostLemmas.{reads_bare, reads_both}
use Rattle.vdr_directory.proofs.Surveying.{breaks_still, survey_still}
use Rattle.vdr_directory.proofs.Latest.{without, survey_empty, extent_there}
use Rattle.vdr_directory.proofs.surveys.survey_entry.Goals as goal

pub returns-then-branch-clause-legal : goal.returns-then-branch-clause-legal
returns-then-branch-clause-legal g c told =
    survey_empty _ _ _ _ _ _ (without _ (sym c.is_some.ensures ∙ c.if-is_some.false)) ((c.in_ok-is_newest_empty.ensures.empty told).0 c.if-branch.true) c.empty.ensures.survey

pub returns-then-branch-clause-held : goal.returns-then-branch-clause-held
returns-then-branch-clause-held g c told = (
  λ older none. absurd (both_ways c.args.newest older (c.in_ok-is_newest_empty.ensures.newest c.if-branch.true)),
  λ newest. (λ read. let bad : ⊥ = cc in absurd bad, λ some. absurd (some (c.empty.ensures.survey 0).extent)),
  λ read. let bad : ⊥ = cc in absurd bad,
)

pub returns-in_err-survey-clause-damaged : goal.returns-in_err-survey-clause-damaged
returns-in_err-survey-clause-damaged g c =
    let p = err_from_is_err_and c.from_residual-in_err-survey.result c.from_residual-in_err-survey.ensures.1 in
    rw (p.1, p.2) (λ k offset e.
    let h = c.in_err-survey.ensures.damaged k offset (same_err _ _ e) in (
      h.0,
      without _ (sym c.is_some.ensures ∙ c.if-is_some.false),
      λ told. breaks_still _ _ _ _ _ (ap (λ (image : Image). content image c.args.area.medium) (c.is_newest_empty.ensures.unchanged.reads told)) (h.1 told),
    ))

pub returns-in_err-survey-clause-counts : goal.returns-in_err-survey-clause-counts
returns-in_err-survey-clause-counts g c =
    reads_both _ _ _ _ _ _ c.is_newest_empty.ensures.counts (reads_bare _ _ _ _ _ (without _ (sym c.is_some.ensures ∙ c.if-is_some.false)) c.survey_slot.ensures.counts)

pub returns-clause-held : goal.returns-clause-held
returns-clause-held g c told =
    let same = ap (λ (image : Image). content image c.args.area.medium) (c.is_newest_empty.ensures.unchanged.reads told) in (
      λ older none. refl,
      λ newest. (
        λ read. extent_there _ _ _ _ _ (survey_still _ _ _ None (Some c.in_ok-survey.survey) _ _ same (c.in_ok-survey.ensures.legal told))
            (λ batches are none. both_ways _ c.if-branch.false ((c.in_ok-is_newest_empty.ensures.empty told).1 newest batches are none)),
        λ some. refl,
      ),
      λ read. without _ (sym c.is_some.ensures ∙ c.if-is_some.false),
    )

pub returns-clause-counts : goal.returns-clause-counts
returns-clause-counts g c =
    reads_both _ _ _ _ _ _ c.is_newest_empty.ensures.counts (reads_bare _ _ _ _ _ (without _ (sym c.is_some.ensures ∙ c.if-is_some.false)) c.survey_slot.ensures.counts)
