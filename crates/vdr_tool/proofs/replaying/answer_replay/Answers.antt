use Rattle.std.proofs.Common.{Err, ap, refl, ◌∙◌}
use Rattle.std.proofs.lemmas.Result.{err_from_is_err_and}
use Rattle.vdr_replay.specs.declared.ended.ReplayRefused.{ReplayRefused}
use Rattle.vdr_tool.proofs.ReplayEndings.{replay_ends, replays_so, run_at_done, run_at_input, run_at_output, stop_at_input, stop_not_done, stop_not_output, tells_run, tells_stop}
use Rattle.vdr_tool.proofs.replaying.answer_replay.Goals as goal

pub returns-in_err-run-clause-owed : goal.returns-in_err-run-clause-owed
returns-in_err-run-clause-owed g c =
    let told = c.replay.ensures.replays in
    let stop = c.in_err-run.field-0.0 in
    let p = err_from_is_err_and c.from_residual.result c.from_residual.ensures.1 in
    rw (p.1, p.2)
    (replays_so _ _ g.W.Watch.hears _ _ c.replay.result (c.law_of_openings.ensures (g.M.Media.disk c.args.world.now.media).reads)
    (λ is. absurd (stop_not_done stop is)) (tells_stop c.replay.result stop _ _ c.in_err-run.was refl)
    (λ is. told.input_failed (c.in_err-run.was ∙ ap (λ (s : ReplayRefused). Err s) (stop_at_input stop is))) (λ is. absurd (stop_not_output stop is))
    (replay_ends g.M.Media g.I.Source _ _ _ _ g.W.Watch.hears _ c.replay.result told))

pub returns-clause-owed : goal.returns-clause-owed
returns-clause-owed g c =
    let run = c.in_ok-run.run' in
    let told = c.in_ok-run.ensures.replays in
    let prints = c.print_run.ensures.printed in
    replays_so _ _ g.W.Watch.hears _ _ c.replay.result (c.law_of_openings.ensures (g.M.Media.disk c.args.world.now.media).reads)
    (λ is. told.whole (run_at_done run.end _ _ _ _ prints is)) (tells_run c.replay.result run _ _ _ c.in_ok-run.was prints)
    (λ is. told.input_ends (run_at_input run.end _ _ _ _ prints is)) (λ is. run_at_output run.end _ _ _ _ prints is)
    (replay_ends g.M.Media g.I.Source _ _ _ _ g.W.Watch.hears _ c.replay.result c.replay.ensures.replays)
