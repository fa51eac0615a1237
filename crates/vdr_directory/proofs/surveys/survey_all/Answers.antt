use Rattle.std.proofs.Common.{rules, ◌<◌, ◌+◌, length, refl, ap, ◌∙◌, arith}
use Rattle.std.proofs.Math.Seq.{map-set_same}
use Rattle.std.proofs.lemmas.List.Elements.{All-get_or, All-set}
use Rattle.std.proofs.lemmas.Option.{none-some}
use Rattle.std.proofs.lemmas.Result.{err_from_is_err_and}
use Rattle.vdr_outside.specs.Disk.{Image, content}
use Rattle.vdr_outside.proofs.Counts.{none_falls_join}
use Rattle.vdr_outside.proofs.Moments.{unchanged_join}
use Rattle.vdr_terms.proofs.Results.{same_err}
use Rattle.vdr_directory.specs.Fronts.{head_of}
use Rattle.vdr_directory.proofs.CostLemmas.{reads_front, reads_next, reads_none, reads_none_more, reads_one_more}
use Rattle.vdr_directory.proofs.Latest.{held_none, held_more, holds_latest, not_last}
use Rattle.vdr_directory.proofs.Surveying.{breaks_still, held_next, survey_still, breaks_among, surveyed_more}
use Rattle.vdr_directory.proofs.surveys.survey_all.Goals as goal

pub returns-in_err-found-clause-damaged : goal.returns-in_err-found-clause-damaged
returns-in_err-found-clause-damaged g c =
    let p = err_from_is_err_and c.from_residual.result c.from_residual.ensures.1 in
    rw (p.1, p.2) (λ k offset e.
    let h = c.in_err-found.ensures.damaged k offset (same_err _ _ e) in (
      h.0,
      λ told.
          breaks_among _ _ c.loop-i.opened c.loop-i.i _ (omega arith) (c.loop-i.invariant.told told) offset
          h.1 (breaks_still _ _ _ _ _ (ap (λ (image : Image). content image c.args.area.medium) (c.loop-i.invariant.unchanged.reads told)) (h.2 told)),
    ))

pub loop-i-init : goal.loop-i-init
loop-i-init g c = record {
  unchanged = search rules;
  later = search rules;
  heads = refl;
  within = c.requires.within;
  counts = λ below. reads_none _ _ _ _ refl;
  counts_all = reads_none _ _ _ _ refl;
  held = λ told slot is. absurd (none-some slot is);
  latest = λ told. held_none c.args.opened.now;
  told = λ told. search rules;
}

pub loop-i-preserved : goal.loop-i-preserved
loop-i-preserved g c =
    let lt : c.loop-i.i < length c.loop-i.opened = omega arith in
    let more = reads_next _ _ c.args.opened.now c.loop-i.opened c.loop-i.i _ _ _ _ _ c.loop-i.invariant.heads lt (c.loop-i.invariant.counts lt) c.survey_entry.ensures.counts in
    record {
      unchanged = unchanged_join _ _ _ c.loop-i.invariant.unchanged c.survey_entry.ensures.unchanged;
      later = none_falls_join _ _ _ c.loop-i.invariant.later c.survey_entry.ensures.cause.later;
      heads = map-set_same head_of c.loop-i.opened c.loop-i.i _ _ refl ∙ c.loop-i.invariant.heads;
      within = All-set (λ e. e.slot < c.args.area.slots) c.loop-i.opened c.loop-i.i _ (All-get_or (λ e. e.slot < c.args.area.slots) c.loop-i.opened c.loop-i.i _ lt c.loop-i.invariant.within) c.loop-i.invariant.within;
      counts = λ below. reads_none_more _ _ _ _ _ (not_last _ c.loop-i.i _ below) more;
      counts_all = reads_one_more _ _ _ _ _ more;
      latest = λ told. held_more c.loop-i.opened c.loop-i.i _ c.in_ok-found.found.survey lt c.in_ok-found.found.held c.loop-i.held _ (c.in_ok-found.ensures.held told) c.held_after-held.ensures (c.loop-i.invariant.latest told);
      held = λ told. held_next _ _ c.in_ok-found.found.held c.loop-i.held _ _ _ _ _ told (ap (λ (image : Image). content image c.args.area.medium) (c.loop-i.invariant.unchanged.reads told)) c.in_ok-found.ensures.bytes
          c.held_after-held.ensures (c.loop-i.invariant.held told);
      told = λ told. surveyed_more _ _ c.loop-i.opened c.loop-i.i _ lt (c.loop-i.invariant.told told) c.in_ok-found.found.survey
          (survey_still _ _ _ _ _ _ _ (ap (λ (image : Image). content image c.args.area.medium) (c.loop-i.invariant.unchanged.reads told)) (c.in_ok-found.ensures.legal told));
    }

pub returns-clause-surveyed : goal.returns-clause-surveyed
returns-clause-surveyed g c told k d inside = c.loop-i.invariant.told told k d (omega arith) (omega (arith, inside))

pub returns-clause-latest : goal.returns-clause-latest
returns-clause-latest g c told = holds_latest _ c.loop-i.i _ (omega arith) (c.loop-i.invariant.latest told)

pub returns-in_err-found-clause-counts : goal.returns-in_err-found-clause-counts
returns-in_err-found-clause-counts g c =
    reads_front _ _ c.args.opened.now (c.loop-i.i + 1) _ _
    (reads_one_more _ _ _ _ _ (reads_next _ _ c.args.opened.now c.loop-i.opened c.loop-i.i _ _ _ _ _ c.loop-i.invariant.heads (omega arith) (c.loop-i.invariant.counts (omega arith)) c.in_err-found.ensures.counts))

pub returns-clause-counts : goal.returns-clause-counts
returns-clause-counts g c = reads_front _ _ c.args.opened.now c.loop-i.i _ _ c.loop-i.invariant.counts_all
