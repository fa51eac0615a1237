use Rattle.std.proofs.Common.{Some, Err, List, ℕ, ap, subst, arith}
use Rattle.std.proofs.lemmas.Result.{err_from_is_err_and}
use Rattle.vdr_vault.proofs.SoundMedia.{sound_nothing}
use Rattle.vdr_replay.specs.Answers.{TellsHeader}
use Rattle.vdr_tool.specs.Trials.{bench, bench_text, fresh}
use Rattle.vdr_tool.proofs.TrialRuns.{run_refused, run_stopped, run_whole}
use Rattle.vdr_tool.proofs.trying.record_items.Goals as goal

pub returns-in_err-run-clause-run : goal.returns-in_err-run-clause-run
returns-in_err-run-clause-run g c = λ told holds.
    let t = c.in_err-run.ensures.replays in
    let p = err_from_is_err_and c.from_residual.result c.from_residual.ensures.1 in
    let law = c.law_of_openings.ensures (g.M.Media.disk c.args.media.now).reads in
    let whole = c.law_of_generated_feeds.ensures c.args.seed c.args.count c.requires.few in
    rw (p.1, p.2)
    (run_stopped c.args.seed c.args.count _ (g.M.Media.disk c.args.media.now) (g.M.Media.disk c.replay.new.media) whole law holds (Some c.replay.new.input) c.in_err-run.field-0.0
    (t.replayed fresh _ told holds (sound_nothing bench bench_text) (ap (λ (bytes : List ℕ). Some bytes) c.new-feed.ensures))
    (subst (λ (bytes : List ℕ). TellsHeader (Some bytes) (Some c.replay.new.input) (Err c.in_err-run.field-0.0)) c.new-feed.ensures t.header)
    (λ is. let rose = t.input_failed is in let none : ⊥ = omega (arith, rose) in none)
    (λ is. t.unformatted is told)
    (λ m offset is. t.damaged m offset is told))

pub returns-in-Whole-clause-run : goal.returns-in-Whole-clause-run
returns-in-Whole-clause-run g c = λ told holds.
    let whole = c.law_of_generated_feeds.ensures c.args.seed c.args.count c.requires.few in
    run_whole c.args.seed c.args.count _ (g.M.Media.disk c.args.media.now) (g.M.Media.disk c.replay.new.media) whole c.law_of_feeds.ensures.items _ c.in_ok-run.run'
    (c.in_ok-run.ensures.replays.replayed fresh _ told holds (sound_nothing bench bench_text) (ap (λ (bytes : List ℕ). Some bytes) c.new-feed.ensures)) c.in-Whole.is c.sums_of.result c.sums_of.ensures

pub returns-in-Refused-clause-run : goal.returns-in-Refused-clause-run
returns-in-Refused-clause-run g c = λ told holds.
    let whole = c.law_of_generated_feeds.ensures c.args.seed c.args.count c.requires.few in
    run_refused c.args.seed c.args.count _ (g.M.Media.disk c.args.media.now) (g.M.Media.disk c.replay.new.media) whole _ c.in_ok-run.run'
    (c.in_ok-run.ensures.replays.replayed fresh _ told holds (sound_nothing bench bench_text) (ap (λ (bytes : List ℕ). Some bytes) c.new-feed.ensures)) c.in-Refused.number c.in-Refused.offset c.in-Refused.is
