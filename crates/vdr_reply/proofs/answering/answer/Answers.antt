use Rattle.std.proofs.Common.{rules, ◌≡◌, inl, inr, ℕ, ℤ, List, None, pos, refl, ap, sym, subst, ◌∙◌, arith, to_z, of_z, w64}
use Rattle.std.proofs.lemmas.Int.{ints}
use Rattle.std.specs.Prelude.{sum}
use Rattle.vdr_terms.specs.Stamps.{IsStamp, last_stamp}
use Rattle.vdr_terms.proofs.Stamping.{stamp_kept}
use Rattle.vdr_outside.specs.Causes.{Rose}
use Rattle.vdr_control.specs.Exports.{IsExportLine}
use Rattle.vdr_control.specs.Lines.{AsksFor, IsPlayLine}
use Rattle.vdr_control.specs.Orders.PlainOrder.{Export as ExportOrder}
use Rattle.vdr_control.specs.Orders.PlainOrder.{Play as PlayOrder}
use Rattle.vdr_control.specs.Plays.{SpellsBound}
use Rattle.vdr_control.specs.Orders.{PlainOrder, plain}
use Rattle.vdr_reply.specs.Answers.{HasAnsweredSoFar}
use Rattle.vdr_reply.proofs.Answered.{failed_answer}
use Rattle.vdr_reply.proofs.Plays.{whole_answer}
use Rattle.vdr_reply.proofs.answering.answer.Goals as goal

pub returns-then-failed-clause-answered : goal.returns-then-failed-clause-answered
returns-then-failed-clause-answered g c = λ opening events t0 told h knows.
    whole_answer _ _ opening events t0 _ _ _ _ _ _ g.W.Watch.hears _ _ (failed_answer opening events t0 c.args.recorder.now (g.M.Media.disk c.args.media.now) h c.args.recorder.now.vault.config.channels _ c.of_line.result g.W.Watch.hears (g.W.Watch.seen c.args.watch.now) _ (plain c.args.order) (search rules) c.of_line.ensures (λ heard. refl))

pub returns-in-Status-clause-answered : goal.returns-in-Status-clause-answered
returns-in-Status-clause-answered g c = λ opening events t0 told h knows.
    subst (λ (order : PlainOrder). HasAnsweredSoFar c.args.recorder.now.vault.config.channels (Rose (sum (g.M.Media.faults c.args.media.now)) (sum (g.M.Media.faults c.args.media.now))) opening events t0 order
    c.answer_status.result None c.args.recorder.now c.args.recorder.now (g.M.Media.disk c.args.media.now) (g.M.Media.disk c.args.media.now) g.W.Watch.hears (g.W.Watch.seen c.args.watch.now) (g.W.Watch.seen c.answer_status.new.watch))
    (sym (ap plain c.in-Status.is)) (whole_answer _ _ opening events t0 _ _ _ _ _ _ g.W.Watch.hears _ _ (c.answer_status.ensures.answered opening events t0 h))

pub returns-in-Save-clause-answered : goal.returns-in-Save-clause-answered
returns-in-Save-clause-answered g c = λ opening events t0 told h knows.
    subst (λ (order : PlainOrder). HasAnsweredSoFar c.args.recorder.now.vault.config.channels (Rose (sum (g.M.Media.faults c.args.media.now)) (sum (g.M.Media.faults c.answer_save.new.media))) opening events t0 order
    c.answer_save.result None c.args.recorder.now c.answer_save.new.recorder (g.M.Media.disk c.args.media.now) (g.M.Media.disk c.answer_save.new.media) g.W.Watch.hears (g.W.Watch.seen c.args.watch.now) (g.W.Watch.seen c.answer_save.new.watch))
    (sym (ap plain c.in-Save.is)) (whole_answer _ _ opening events t0 _ _ _ _ _ _ g.W.Watch.hears _ _ (c.answer_save.ensures.answered opening events t0 told h))

pub returns-in-Release-clause-answered : goal.returns-in-Release-clause-answered
returns-in-Release-clause-answered g c = λ opening events t0 told h knows.
    subst (λ (order : PlainOrder). HasAnsweredSoFar c.args.recorder.now.vault.config.channels (Rose (sum (g.M.Media.faults c.args.media.now)) (sum (g.M.Media.faults c.answer_release.new.media))) opening events t0 order
    c.answer_release.result None c.args.recorder.now c.answer_release.new.recorder (g.M.Media.disk c.args.media.now) (g.M.Media.disk c.answer_release.new.media) g.W.Watch.hears (g.W.Watch.seen c.args.watch.now) (g.W.Watch.seen c.answer_release.new.watch))
    (sym (ap plain c.in-Release.is)) (whole_answer _ _ opening events t0 _ _ _ _ _ _ g.W.Watch.hears _ _ (c.answer_release.ensures.answered opening events t0 told h))

pub returns-in-Incidents-clause-answered : goal.returns-in-Incidents-clause-answered
returns-in-Incidents-clause-answered g c = λ opening events t0 told h knows.
    subst (λ (order : PlainOrder). HasAnsweredSoFar c.args.recorder.now.vault.config.channels (Rose (sum (g.M.Media.faults c.args.media.now)) (sum (g.M.Media.faults c.args.media.now))) opening events t0 order
    c.answer_incidents.result None c.args.recorder.now c.args.recorder.now (g.M.Media.disk c.args.media.now) (g.M.Media.disk c.args.media.now) g.W.Watch.hears (g.W.Watch.seen c.args.watch.now) (g.W.Watch.seen c.answer_incidents.new.watch))
    (sym (ap plain c.in-Incidents.is)) (whole_answer _ _ opening events t0 _ _ _ _ _ _ g.W.Watch.hears _ _ (c.answer_incidents.ensures.answered opening events t0 h))

pub returns-in-Health-clause-answered : goal.returns-in-Health-clause-answered
returns-in-Health-clause-answered g c = λ opening events t0 told h knows.
    subst (λ (order : PlainOrder). HasAnsweredSoFar c.args.recorder.now.vault.config.channels (Rose (sum (g.M.Media.faults c.args.media.now)) (sum (g.M.Media.faults c.args.media.now))) opening events t0 order
    c.answer_health.result None c.args.recorder.now c.args.recorder.now (g.M.Media.disk c.args.media.now) (g.M.Media.disk c.args.media.now) g.W.Watch.hears (g.W.Watch.seen c.args.watch.now) (g.W.Watch.seen c.answer_health.new.watch))
    (sym (ap plain c.in-Health.is)) (whole_answer _ _ opening events t0 _ _ _ _ _ _ g.W.Watch.hears _ _ (c.answer_health.ensures.answered opening events t0 h (knows (ap plain c.in-Health.is) (search rules))))

pub returns-in-Evidence-clause-answered : goal.returns-in-Evidence-clause-answered
returns-in-Evidence-clause-answered g c = λ opening events t0 told h knows.
    subst (λ (order : PlainOrder). HasAnsweredSoFar c.args.recorder.now.vault.config.channels (Rose (sum (g.M.Media.faults c.args.media.now)) (sum (g.M.Media.faults c.answer_evidence.new.media))) opening events t0 order
    c.answer_evidence.result None c.args.recorder.now c.answer_evidence.new.recorder (g.M.Media.disk c.args.media.now) (g.M.Media.disk c.answer_evidence.new.media) g.W.Watch.hears (g.W.Watch.seen c.args.watch.now) (g.W.Watch.seen c.answer_evidence.new.watch))
    (sym (ap plain c.in-Evidence.is)) (whole_answer _ _ opening events t0 _ _ _ _ _ _ g.W.Watch.hears _ _ (c.answer_evidence.ensures.answered opening events t0 told h))

pub returns-in-Tell-clause-answered : goal.returns-in-Tell-clause-answered
returns-in-Tell-clause-answered g c = λ opening events t0 told h knows.
    subst (λ (order : PlainOrder). HasAnsweredSoFar c.args.recorder.now.vault.config.channels (Rose (sum (g.M.Media.faults c.args.media.now)) (sum (g.M.Media.faults c.answer_tell.new.media))) opening events t0 order
    c.answer_tell.result None c.args.recorder.now c.answer_tell.new.recorder (g.M.Media.disk c.args.media.now) (g.M.Media.disk c.answer_tell.new.media) g.W.Watch.hears (g.W.Watch.seen c.args.watch.now) (g.W.Watch.seen c.answer_tell.new.watch))
    (sym (ap plain c.in-Tell.is)) (whole_answer _ _ opening events t0 _ _ _ _ _ _ g.W.Watch.hears _ _ (c.answer_tell.ensures.answered opening events t0 told h))

bound_kept : (unbounded : ℤ) (word : List ℕ) (utc : ℤ) → IsStamp unbounded → SpellsBound unbounded word utc → to_z w64 (of_z w64 utc) ≡ utc
bound_kept unbounded word utc legal (inl is) = stamp_kept utc (subst IsStamp (sym is.1) legal)
bound_kept unbounded word utc legal (inr is) = stamp_kept utc is.0

bound_stamp : (unbounded : ℤ) (word : List ℕ) (utc : ℤ) → IsStamp unbounded → SpellsBound unbounded word utc → IsStamp utc
bound_stamp unbounded word utc legal (inl is) = subst IsStamp (sym is.1) legal
bound_stamp unbounded word utc legal (inr is) = is.0

first_is : IsStamp (pos 0)
first_is = record { whole = omega (arith, ints); in_time = omega (arith, ints) }

last_is : IsStamp (pos last_stamp)
last_is = record { whole = omega (arith, ints); in_time = omega (arith, ints) }

pub returns-in-Play-clause-answered : goal.returns-in-Play-clause-answered
returns-in-Play-clause-answered g c = λ opening events t0 told h knows.
    let asked : IsPlayLine c.requires.asked.0 (PlayOrder c.in-Play.medium c.in-Play.channel.now c.in-Play.from c.in-Play.to) = subst (λ (order : PlainOrder). AsksFor c.requires.asked.0 order) (ap plain c.in-Play.is) c.requires.asked.1 in
    let from : to_z w64 (of_z w64 c.in-Play.from) ≡ c.in-Play.from = bound_kept (pos 0) asked.from c.in-Play.from first_is asked.spelled.2 in
    let to : to_z w64 (of_z w64 c.in-Play.to) ≡ c.in-Play.to = bound_kept (pos last_stamp) asked.to c.in-Play.to last_is asked.spelled.3 in
    subst (λ (order : PlainOrder). HasAnsweredSoFar c.args.recorder.now.vault.config.channels (Rose (sum (g.M.Media.faults c.args.media.now)) (sum (g.M.Media.faults c.answer_play.new.media))) opening events t0 order
    c.answer_play.result.0 c.answer_play.result.1 c.args.recorder.now c.answer_play.new.recorder (g.M.Media.disk c.args.media.now) (g.M.Media.disk c.answer_play.new.media) g.W.Watch.hears (g.W.Watch.seen c.args.watch.now) (g.W.Watch.seen c.answer_play.new.watch))
    ((λ i. PlayOrder c.in-Play.medium c.in-Play.channel.now (from i) (to i)) ∙ sym (ap plain c.in-Play.is)) (c.answer_play.ensures.answered opening events t0 told h)

pub returns-in-Export-clause-answered : goal.returns-in-Export-clause-answered
returns-in-Export-clause-answered g c = λ opening events t0 told h knows.
    let asked : IsExportLine c.requires.asked.0 c.in-Export.medium c.in-Export.channel.now c.in-Export.from c.in-Export.to c.in-Export.exporting =
    subst (λ (order : PlainOrder). AsksFor c.requires.asked.0 order) (ap plain c.in-Export.is) c.requires.asked.1 in
    let from : to_z w64 (of_z w64 c.in-Export.from) ≡ c.in-Export.from = bound_kept (pos 0) asked.spelled.since c.in-Export.from first_is asked.spelled.spelled.2 in
    let to : to_z w64 (of_z w64 c.in-Export.to) ≡ c.in-Export.to = bound_kept (pos last_stamp) asked.spelled.until c.in-Export.to last_is asked.spelled.spelled.3 in
    subst (λ (order : PlainOrder). HasAnsweredSoFar c.args.recorder.now.vault.config.channels (Rose (sum (g.M.Media.faults c.args.media.now)) (sum (g.M.Media.faults c.answer_export.new.media))) opening events t0 order
    c.answer_export.result None c.args.recorder.now c.answer_export.new.recorder (g.M.Media.disk c.args.media.now) (g.M.Media.disk c.answer_export.new.media) g.W.Watch.hears (g.W.Watch.seen c.args.watch.now) (g.W.Watch.seen c.answer_export.new.watch))
    ((λ i. ExportOrder c.in-Export.medium c.in-Export.channel.now (from i) (to i) c.in-Export.exporting) ∙ sym (ap plain c.in-Export.is)) (whole_answer _ _ opening events t0 _ _ _ _ _ _ g.W.Watch.hears _ _ (c.answer_export.ensures.answered opening events t0 (subst IsStamp (sym from) (bound_stamp (pos 0) asked.spelled.since c.in-Export.from first_is asked.spelled.spelled.2)) told h))
