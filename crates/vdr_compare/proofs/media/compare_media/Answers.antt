use Rattle.std.proofs.Common.{Result, subst}
use Rattle.vdr_outside.proofs.Moments.{unchanged_join}
use Rattle.vdr_compare.specs.declared.comparing.CompareRefused.{CompareRefused}
use Rattle.vdr_compare.specs.declared.difference.Verdict.{Verdict}
use Rattle.vdr_compare.specs.Comparisons.{Compares}
use Rattle.vdr_compare.specs.Media.{OfBoth}
use Rattle.vdr_compare.proofs.Opened.{media_failed, of_both, on_media}
use Rattle.vdr_compare.proofs.media.compare_media.Goals as goal

pub returns-in-Ok-clause-compares : goal.returns-in-Ok-clause-compares
returns-in-Ok-clause-compares g c t =
    let image = (g.M.Media.disk c.args.media.now).reads in
    let x = c.in_ok-capsule in
    let old = g.O.Sink.taken c.args.out.now in
    let new = g.O.Sink.taken c.compare.new.out in
    subst (λ (r : Result Verdict CompareRefused). OfBoth image (λ k w places. Compares k w places old new r)) c.in-Ok.is
    (of_both image x.alike x.capsule x.longterm old new c.compare.result (x.ensures.surveyed t) (x.ensures.alike t)
    (on_media image _ x.alike x.capsule x.longterm old new c.compare.result (c.read_both.ensures.unchanged.reads t) x.ensures.capsule.medium x.ensures.longterm.medium (c.compare.ensures.compares t)))

pub returns-in-Ok-clause-unchanged : goal.returns-in-Ok-clause-unchanged
returns-in-Ok-clause-unchanged g c = unchanged_join _ _ _ c.read_both.ensures.unchanged c.compare.ensures.unchanged

pub returns-in-Err-clause-compares : goal.returns-in-Err-clause-compares
returns-in-Err-clause-compares g c t =
    let image = (g.M.Media.disk c.args.media.now).reads in
    let x = c.in_ok-capsule in
    let old = g.O.Sink.taken c.args.out.now in
    let new = g.O.Sink.taken c.compare.new.out in
    subst (λ (r : Result Verdict CompareRefused). OfBoth image (λ k w places. Compares k w places old new r)) c.in-Err.is
    (of_both image x.alike x.capsule x.longterm old new c.compare.result (x.ensures.surveyed t) (x.ensures.alike t)
    (on_media image _ x.alike x.capsule x.longterm old new c.compare.result (c.read_both.ensures.unchanged.reads t) x.ensures.capsule.medium x.ensures.longterm.medium (c.compare.ensures.compares t)))

pub returns-in-Err-clause-unchanged : goal.returns-in-Err-clause-unchanged
returns-in-Err-clause-unchanged g c = unchanged_join _ _ _ c.read_both.ensures.unchanged c.compare.ensures.unchanged

pub returns-in-Err-clause-cause : goal.returns-in-Err-clause-cause
returns-in-Err-clause-cause g c = media_failed _ _ _ _ _ c.compare.result c.in-Err.why c.in-Err.is c.read_both.ensures.cause.later c.compare.ensures.cause
