use Rattle.std.proofs.Common.{[], ◌≡◌, Err, ap, ◌∙◌, arith, false}
use Rattle.std.proofs.lemmas.Result.{err_from_is_err_and}
use Rattle.vdr_outside.proofs.Counts.{none_falls_join, sum_not_less}
use Rattle.vdr_outside.proofs.Moments.{unchanged_join}
use Rattle.vdr_opening.specs.Media.{opening_of}
use Rattle.vdr_vault.specs.Vaults.{ShowsHistory}
use Rattle.vdr_vault.proofs.Reading.{reads_keep_failed}
use Rattle.vdr_recorder.proofs.Answering.{in_this_call}
use Rattle.vdr_tool.proofs.CountLemmas.{both_counted, first_stopped, open_fault, open_moments, open_own, open_stop, second_stopped, then_reads}
use Rattle.vdr_tool.proofs.TrialLemmas.{rose_wider}
use Rattle.vdr_tool.proofs.counting.count_windows.Goals as goal

pub returns-in_err-recorder-clause-stops : goal.returns-in_err-recorder-clause-stops
returns-in_err-recorder-clause-stops g c =
    let p = err_from_is_err_and c.from_residual.result c.from_residual.ensures.1 in
    rw (p.1, p.2) (open_stop c.in_err-recorder.field-0.0)

pub returns-in_err-recorder-clause-counts : goal.returns-in_err-recorder-clause-counts
returns-in_err-recorder-clause-counts g c = λ x told holds meet sound.
    let t = c.open.ensures in
    let p = err_from_is_err_and c.from_residual.result c.from_residual.ensures.1 in
    let old = g.M.Media.disk c.args.media.now in
    rw (p.1, p.2)
    (record {
      cause = open_own old.reads (c.law_of_openings.ensures old.reads) x holds meet c.in_err-recorder.field-0.0 c.open.result c.in_err-recorder.was (λ is. t.refused.unformatted is told) (λ m offset is. t.refused.damaged m offset is told);
      moments = open_moments old (g.M.Media.disk c.open.new.media) c.open.result (ShowsHistory (opening_of x) []) (t.moments x told holds meet sound);
      counted = tt;
    })

pub returns-in_err-recorder-clause-fault : goal.returns-in_err-recorder-clause-fault
returns-in_err-recorder-clause-fault g c =
    let p = err_from_is_err_and c.from_residual.result c.from_residual.ensures.1 in
    rw (p.1, p.2) (λ is. c.open.ensures.writes.cause.in_all (c.in_err-recorder.was ∙ ap (λ e. Err e) (open_fault c.in_err-recorder.field-0.0 is)))

pub returns-in_err-capsule-clause-stops : goal.returns-in_err-capsule-clause-stops
returns-in_err-capsule-clause-stops g c =
    let p = err_from_is_err_and c.from_residual-in_err-capsule.result c.from_residual-in_err-capsule.ensures.1 in
    rw (p.1, p.2) c.in_err-capsule.ensures.stops

pub returns-in_err-capsule-clause-counts : goal.returns-in_err-capsule-clause-counts
returns-in_err-capsule-clause-counts g c = λ x told holds meet sound.
    let p = err_from_is_err_and c.from_residual-in_err-capsule.result c.from_residual-in_err-capsule.ensures.1 in
    let t = c.in_ok-recorder.ensures in
    let old = g.M.Media.disk c.args.media.now in
    let mid = g.M.Media.disk c.open.new.media in
    rw (p.1, p.2)
    (first_stopped old mid c.in_ok-recorder.recorder t.opened.works t.opened.opened x told holds sound (open_moments old mid c.open.result (ShowsHistory (opening_of x) []) (c.open.ensures.moments x told holds meet sound))
    (g.M.Media.disk c.count_window.new.media) c.in_err-capsule.field-0.0 c.in_err-capsule.ensures.looked.read.unchanged c.in_err-capsule.ensures.counted)

pub returns-in_err-capsule-clause-fault : goal.returns-in_err-capsule-clause-fault
returns-in_err-capsule-clause-fault g c =
    let p = err_from_is_err_and c.from_residual-in_err-capsule.result c.from_residual-in_err-capsule.ensures.1 in
    let first = c.open.ensures.writes.cause.later in
    let low = sum_not_less (g.M.Media.faults c.args.media.now) (g.M.Media.faults c.open.new.media) first.same_media first.none_falls in
    rw (p.1, p.2)
    (λ is. rose_wider _ _ _ _ low (omega arith) (in_this_call _ _ c.in_ok-recorder.ensures.opened.works (c.in_err-capsule.ensures.looked.cause.in_all is)))

pub returns-in_err-long_term-clause-stops : goal.returns-in_err-long_term-clause-stops
returns-in_err-long_term-clause-stops g c =
    let p = err_from_is_err_and c.from_residual-in_err-long_term.result c.from_residual-in_err-long_term.ensures.1 in
    rw (p.1, p.2) c.in_err-long_term.ensures.stops

pub returns-in_err-long_term-clause-counts : goal.returns-in_err-long_term-clause-counts
returns-in_err-long_term-clause-counts g c = λ x told holds meet sound.
    let p = err_from_is_err_and c.from_residual-in_err-long_term.result c.from_residual-in_err-long_term.ensures.1 in
    let t = c.in_ok-recorder.ensures in
    let old = g.M.Media.disk c.args.media.now in
    let mid = g.M.Media.disk c.open.new.media in
    let look = c.in_ok-capsule.ensures.looked in
    rw (p.1, p.2)
    (second_stopped old mid c.in_ok-recorder.recorder t.opened.works t.opened.opened x told holds sound (open_moments old mid c.open.result (ShowsHistory (opening_of x) []) (c.open.ensures.moments x told holds meet sound))
    (g.M.Media.disk c.count_window.new.media) (g.M.Media.disk c.count_window-2.new.media) c.count_window.new.recorder.vault look.read.unchanged c.in_err-long_term.ensures.looked.read.unchanged look.read.readable
    c.in_err-long_term.field-0.0 c.in_err-long_term.ensures.counted)

pub returns-in_err-long_term-clause-fault : goal.returns-in_err-long_term-clause-fault
returns-in_err-long_term-clause-fault g c =
    let p = err_from_is_err_and c.from_residual-in_err-long_term.result c.from_residual-in_err-long_term.ensures.1 in
    let first = none_falls_join _ _ _ c.open.ensures.writes.cause.later c.count_window.ensures.looked.cause.later in
    let low = sum_not_less (g.M.Media.faults c.args.media.now) (g.M.Media.faults c.count_window.new.media) first.same_media first.none_falls in
    let works : c.count_window.new.recorder.vault.failed ≡ false = reads_keep_failed 0 c.in_ok-recorder.recorder.vault c.count_window.new.recorder.vault c.count_window.ensures.looked.read.vault ∙ c.in_ok-recorder.ensures.opened.works in
    rw (p.1, p.2)
    (λ is. rose_wider _ _ _ _ low (omega arith) (in_this_call _ _ works (c.in_err-long_term.ensures.looked.cause.in_all is)))

pub returns-clause-counts : goal.returns-clause-counts
returns-clause-counts g c = λ x told holds meet sound.
    let t = c.in_ok-recorder.ensures in
    let old = g.M.Media.disk c.args.media.now in
    let mid = g.M.Media.disk c.open.new.media in
    let look = c.in_ok-capsule.ensures.looked in
    let again = c.in_ok-long_term.ensures.looked in
    both_counted old mid c.in_ok-recorder.recorder t.opened.works t.opened.opened x told holds sound (open_moments old mid c.open.result (ShowsHistory (opening_of x) []) (c.open.ensures.moments x told holds meet sound))
    (g.M.Media.disk c.count_window.new.media) (g.M.Media.disk c.count_window-2.new.media) c.count_window.new.recorder.vault look.read.unchanged again.read.unchanged look.read.readable
    c.count_window-2.new.recorder.vault _ look.read.stands again.read.stands c.in_ok-capsule.ensures.counted c.in_ok-long_term.ensures.counted

pub returns-in_err-capsule-clause-later : goal.returns-in_err-capsule-clause-later
returns-in_err-capsule-clause-later g c = none_falls_join _ _ _ c.open.ensures.writes.cause.later c.count_window.ensures.looked.cause.later

pub returns-in_err-long_term-clause-later : goal.returns-in_err-long_term-clause-later
returns-in_err-long_term-clause-later g c =
    none_falls_join _ _ _ (none_falls_join _ _ _ c.open.ensures.writes.cause.later c.count_window.ensures.looked.cause.later) c.count_window-2.ensures.looked.cause.later

pub returns-clause-later : goal.returns-clause-later
returns-clause-later g c =
    none_falls_join _ _ _ (none_falls_join _ _ _ c.open.ensures.writes.cause.later c.count_window.ensures.looked.cause.later) c.count_window-2.ensures.looked.cause.later

pub returns-in_err-capsule-clause-others : goal.returns-in_err-capsule-clause-others
returns-in_err-capsule-clause-others g c = λ told. then_reads (g.M.Media.disk c.args.media.now) (g.M.Media.disk c.open.new.media) (g.M.Media.disk c.count_window.new.media) told (c.open.ensures.writes.others told) c.count_window.ensures.looked.read.unchanged

pub returns-in_err-long_term-clause-others : goal.returns-in_err-long_term-clause-others
returns-in_err-long_term-clause-others g c = λ told.
    then_reads (g.M.Media.disk c.args.media.now) (g.M.Media.disk c.open.new.media) (g.M.Media.disk c.count_window-2.new.media) told (c.open.ensures.writes.others told)
    (unchanged_join (g.M.Media.disk c.open.new.media) (g.M.Media.disk c.count_window.new.media) (g.M.Media.disk c.count_window-2.new.media) c.count_window.ensures.looked.read.unchanged c.count_window-2.ensures.looked.read.unchanged)

pub returns-clause-others : goal.returns-clause-others
returns-clause-others g c = λ told.
    then_reads (g.M.Media.disk c.args.media.now) (g.M.Media.disk c.open.new.media) (g.M.Media.disk c.count_window-2.new.media) told (c.open.ensures.writes.others told)
    (unchanged_join (g.M.Media.disk c.open.new.media) (g.M.Media.disk c.count_window.new.media) (g.M.Media.disk c.count_window-2.new.media) c.count_window.ensures.looked.read.unchanged c.count_window-2.ensures.looked.read.unchanged)
