use Rattle.std.proofs.Common.{[], ◌++◌, Err, sym, ap, ◌∙◌, subst}
use Rattle.std.proofs.lemmas.Result.{err_from_is_err_and}
use Rattle.vdr_config.specs.Configuration.{Configuration}
use Rattle.vdr_core.specs.Feed.{feed_records, items_of}
use Rattle.vdr_feed.specs.Reader.{IfKnown}
use Rattle.vdr_recorder.specs.Recordings.{start_of_opening}
use Rattle.vdr_replay.specs.Feeding.{AreConfigured, ReadsFeed}
use Rattle.vdr_replay.specs.Answers.{RefusesRun}
use Rattle.vdr_replay.specs.Ran.{DecidesRun, Runs}
use Rattle.vdr_replay.specs.Summary.{AreSums}
use Rattle.vdr_replay.specs.declared.ended.ReplayRefused.{ReplayRefused}
use Rattle.vdr_replay.proofs.Calls.{run_begins}
use Rattle.vdr_replay.proofs.Causes.{replay_joined}
use Rattle.vdr_replay.proofs.Passing.{takes_break, takes_close}
use Rattle.vdr_replay.proofs.Reading.{known_feed}
use Rattle.vdr_replay.proofs.Starts.{may_begin, not_begun, untold_by, ok_is_no_place, ok_is_no_tick, run_total, start_decides, start_stops, start_unbegun, started_low}
use Rattle.vdr_replay.proofs.running.record_run.Goals as goal

pub returns-in_err-start_watched-clause-ran : goal.returns-in_err-start_watched-clause-ran
returns-in_err-start_watched-clause-ran g c = λ opening t0 told h.
    let p = err_from_is_err_and c.from_residual.result c.from_residual.ensures.1 in
    let rates = c.args.recorder.now.vault.config.groups in
    subst (Runs opening t0 (g.I.Source.left c.args.input.now) c.args.reader.now (g.I.Source.left c.args.input.now) rates c.start_watched.new.self (g.M.Media.disk c.args.media.now) (g.M.Media.disk c.start_watched.new.media) g.W.Watch.hears (g.W.Watch.seen c.args.watch.now) (g.W.Watch.seen c.start_watched.new.watch))
    (sym (p.1 ∙ ap (λ (stop : ReplayRefused). Err stop) p.2))
    (start_stops opening t0 c.args.recorder.now (g.M.Media.disk c.args.media.now) h c.start_watched.result (c.start_watched.ensures.limits.place c.requires.works) (c.start_watched.ensures.limits.tick c.requires.works)
    (g.I.Source.left c.args.input.now) c.args.reader.now (g.I.Source.left c.args.input.now) rates c.start_watched.new.self (g.M.Media.disk c.start_watched.new.media) g.W.Watch.hears (g.W.Watch.seen c.args.watch.now) (g.W.Watch.seen c.start_watched.new.watch) c.requires.works c.in_err-start_watched.field-0.0 c.in_err-start_watched.was
    (λ either. let q = c.start_watched.ensures.refuses.refused either in
    not_begun opening t0 _ _ _ _ c.args.recorder.now c.start_watched.new.self (g.M.Media.disk c.args.media.now) (g.M.Media.disk c.start_watched.new.media) g.W.Watch.hears (g.W.Watch.seen c.args.watch.now) (g.W.Watch.seen c.start_watched.new.watch) h q.0 (λ i. g.M.Media.disk (q.1 i))
    (untold_by c.start_watched.result c.in_err-start_watched.field-0.0 c.in_err-start_watched.was c.start_watched.ensures.untold))
    (λ not_place not_tick. c.start_watched.ensures.started opening [] t0 told c.requires.works h not_place not_tick))

pub returns-in_err-end-clause-ran : goal.returns-in_err-end-clause-ran
returns-in_err-end-clause-ran g c = λ opening t0 told h.
    let p = err_from_is_err_and c.from_residual-in_err-end.result c.from_residual-in_err-end.ensures.1 in
    let rates = c.args.recorder.now.vault.config.groups in
    let not_place = ok_is_no_place c.start_watched.result _ c.in_ok-start_watched.was in
    let not_tick = ok_is_no_tick c.start_watched.result _ c.in_ok-start_watched.was in
    let done = c.start_watched.ensures.started opening [] t0 told c.requires.works h not_place not_tick in
    let takes = run_begins opening t0 c.args.recorder.now c.start_watched.new.self (g.M.Media.disk c.args.media.now) (g.M.Media.disk c.start_watched.new.media) g.W.Watch.hears (g.W.Watch.seen c.args.watch.now) (g.W.Watch.seen c.start_watched.new.watch) h c.requires.works done c.in_ok-start_watched.ensures.begins.works in
    let b = c.in_err-end.ensures.broken in
    subst (Runs opening t0 (g.I.Source.left c.args.input.now) c.args.reader.now (g.I.Source.left c.record_items.new.input) rates c.record_items.new.recorder (g.M.Media.disk c.args.media.now) (g.M.Media.disk c.record_items.new.media) g.W.Watch.hears (g.W.Watch.seen c.args.watch.now) (g.W.Watch.seen c.record_items.new.watch))
    (sym (p.1 ∙ ap (λ (stop : ReplayRefused). Err stop) p.2))
    (record {
      feed = b.feed;
      read = b.read;
      known = subst (λ (config : Configuration). AreConfigured config.groups b.feed) c.start_watched.ensures.begins.config b.known;
      low = b.low;
      may = may_begin opening t0 c.args.recorder.now (g.M.Media.disk c.args.media.now) h c.start_watched.result (c.start_watched.ensures.limits.place c.requires.works) (c.start_watched.ensures.limits.tick c.requires.works) not_place not_tick;
      breaks = takes_break opening [] t0 _ _ _ (g.M.Media.disk c.start_watched.new.media) _ [] [] g.W.Watch.hears _ (g.W.Watch.seen c.start_watched.new.watch) _ takes b.feed (b.told opening ([] ++ takes.more) t0 told takes.taken);
    })

pub returns-in_err-end-clause-cause : goal.returns-in_err-end-clause-cause
returns-in_err-end-clause-cause g c = replay_joined _ _ _ _ c.from_residual-in_err-end.result c.start_watched.ensures.writes.cause.later c.in_err-end.ensures.cause

pub returns-clause-ran : goal.returns-clause-ran
returns-clause-ran g c = λ opening t0 told h.
    let not_place = ok_is_no_place c.start_watched.result _ c.in_ok-start_watched.was in
    let not_tick = ok_is_no_tick c.start_watched.result _ c.in_ok-start_watched.was in
    let done = c.start_watched.ensures.started opening [] t0 told c.requires.works h not_place not_tick in
    let takes = run_begins opening t0 c.args.recorder.now c.start_watched.new.self (g.M.Media.disk c.args.media.now) (g.M.Media.disk c.start_watched.new.media) g.W.Watch.hears (g.W.Watch.seen c.args.watch.now) (g.W.Watch.seen c.start_watched.new.watch) h c.requires.works done c.in_ok-start_watched.ensures.begins.works in
    let b = c.in_ok-end.ensures.recorded in
    let closes = takes_close opening [] t0 _ _ _ (g.M.Media.disk c.start_watched.new.media) _ [] [] g.W.Watch.hears _ (g.W.Watch.seen c.start_watched.new.watch) _ takes b.feed (b.told opening ([] ++ takes.more) t0 told takes.taken) in
    record {
      feed = b.feed;
      read = λ first k. subst (λ (config : Configuration). IfKnown first (λ bytes. ReadsFeed config.groups bytes (g.I.Source.left c.record_items.new.input) c.in_ok-end.end b.feed)) c.start_watched.ensures.begins.config (b.read first k);
      known = subst (λ (config : Configuration). AreConfigured config.groups b.feed) c.start_watched.ensures.begins.config b.known;
      low = b.low;
      may = may_begin opening t0 c.args.recorder.now (g.M.Media.disk c.args.media.now) h c.start_watched.result (c.start_watched.ensures.limits.place c.requires.works) (c.start_watched.ensures.limits.tick c.requires.works) not_place not_tick;
      works = c.in_ok-end.ensures.works;
      closes = closes;
      sums = subst (λ (config : Configuration). AreSums config.groups (λ n. items_of n b.feed) (feed_records (start_of_opening opening) b.feed) c.sums.result) (c.record_items.ensures.config ∙ c.start_watched.ensures.begins.config)
          (c.sums.ensures (start_of_opening opening) b.feed b.low closes.counts b.counts);
      total = run_total opening b.feed t0 c.args.recorder.now c.record_items.new.recorder (g.M.Media.disk c.args.media.now) (g.M.Media.disk c.args.media.now) (g.M.Media.disk c.record_items.new.media) g.W.Watch.hears (g.W.Watch.seen c.args.watch.now) (g.W.Watch.seen c.record_items.new.watch) h c.in_ok-end.ensures.works closes
          _ _ _ c.status-first.ensures.records c.status.ensures.records c.saturating_sub.ensures;
    }

pub returns-in_err-start_watched-clause-decided : goal.returns-in_err-start_watched-clause-decided
returns-in_err-start_watched-clause-decided g c =
    let p = err_from_is_err_and c.from_residual.result c.from_residual.ensures.1 in
    let m = c.args.recorder.now.vault in
    subst (DecidesRun m.next_place m.last (g.I.Source.left c.args.input.now) c.args.reader.now (g.I.Source.left c.args.input.now) m.config.groups) (sym (p.1 ∙ ap (λ (stop : ReplayRefused). Err stop) p.2))
    (start_decides m.next_place m.last c.start_watched.result (c.start_watched.ensures.limits.place c.requires.works) (c.start_watched.ensures.limits.tick c.requires.works)
    (g.I.Source.left c.args.input.now) c.args.reader.now (g.I.Source.left c.args.input.now) m.config.groups c.in_err-start_watched.field-0.0 c.in_err-start_watched.was)

pub returns-in_err-end-clause-decided : goal.returns-in_err-end-clause-decided
returns-in_err-end-clause-decided g c =
    let p = err_from_is_err_and c.from_residual-in_err-end.result c.from_residual-in_err-end.ensures.1 in
    let m = c.args.recorder.now.vault in
    subst (DecidesRun m.next_place m.last (g.I.Source.left c.args.input.now) c.args.reader.now (g.I.Source.left c.record_items.new.input) m.config.groups) (sym (p.1 ∙ ap (λ (stop : ReplayRefused). Err stop) p.2)) tt

pub returns-clause-decided : goal.returns-clause-decided
returns-clause-decided g c =
    let m = c.args.recorder.now.vault in
    let b = c.in_ok-end.ensures.recorded in
    let low = started_low m.next_place m.last c.start_watched.result (c.start_watched.ensures.limits.place c.requires.works) (c.start_watched.ensures.limits.tick c.requires.works)
    (ok_is_no_place c.start_watched.result _ c.in_ok-start_watched.was) (ok_is_no_tick c.start_watched.result _ c.in_ok-start_watched.was) in
    let known = subst (λ (config : Configuration). AreConfigured config.groups b.feed) c.start_watched.ensures.begins.config b.known in (
      low.0,
      low.1,
      λ first k. known_feed m.config.groups first (g.I.Source.left c.record_items.new.input) c.in_ok-end.end b.feed known
          (subst (λ (config : Configuration). IfKnown first (λ bytes. ReadsFeed config.groups bytes (g.I.Source.left c.record_items.new.input) c.in_ok-end.end b.feed)) c.start_watched.ensures.begins.config (b.read first k)),
    )

pub returns-in_err-start_watched-clause-unbegun : goal.returns-in_err-start_watched-clause-unbegun
returns-in_err-start_watched-clause-unbegun g c = λ refuses.
    let p = err_from_is_err_and c.from_residual.result c.from_residual.ensures.1 in
    start_unbegun c.start_watched.result c.in_err-start_watched.field-0.0 c.in_err-start_watched.was (λ either. (c.start_watched.ensures.refuses.refused either).1) (subst RefusesRun (p.1 ∙ ap (λ (stop : ReplayRefused). Err stop) p.2) refuses)

pub returns-in_err-end-clause-unbegun : goal.returns-in_err-end-clause-unbegun
returns-in_err-end-clause-unbegun g c = λ refuses.
    let p = err_from_is_err_and c.from_residual-in_err-end.result c.from_residual-in_err-end.ensures.1 in
    absurd (subst RefusesRun (p.1 ∙ ap (λ (stop : ReplayRefused). Err stop) p.2) refuses)

pub returns-clause-unbegun : goal.returns-clause-unbegun
returns-clause-unbegun g c = λ refuses. absurd refuses
