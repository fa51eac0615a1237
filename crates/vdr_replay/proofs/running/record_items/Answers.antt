use Rattle.std.proofs.Common.{◌≤◌, [], ◌++◌, ℕ, length, ap, ◌∙◌, subst, arith}
use Rattle.vdr_terms.specs.declared.counts.Counts.{Counts}
use Rattle.vdr_terms.specs.Records.{total}
use Rattle.vdr_core.specs.RunStates.{state_left}
use Rattle.vdr_config.specs.Configuration.{Configuration}
use Rattle.vdr_outside.proofs.Counts.{none_falls_join, on_err}
use Rattle.vdr_run.specs.Making.{rest_of}
use Rattle.vdr_replay.specs.Feeding.{AreConfigured}
use Rattle.vdr_replay.proofs.Calls.{close_breaks, closed_now}
use Rattle.vdr_replay.proofs.Causes.{cause_joined, vault_joined}
use Rattle.vdr_replay.proofs.Fitting.{numbers_fit}
use Rattle.vdr_replay.proofs.Given.{quiet_group}
use Rattle.vdr_run.proofs.Given.{rests}
use Rattle.vdr_replay.proofs.Passing.{takes_break, takes_close, takes_join}
use Rattle.vdr_replay.proofs.Reading.{known_reach}
use Rattle.vdr_replay.proofs.running.record_items.Goals as goal

pub returns-in_err-record-clause-broken : goal.returns-in_err-record-clause-broken
returns-in_err-record-clause-broken g c =
    let t = c.in_ok-end.ensures.taken in
    on_err c.from_residual-in_err-record.result (record {
      feed = t.feed;
      read = λ first h. known_reach c.args.recorder.now.vault.config.groups first _ c.in_ok-end.end t.feed (t.read first h);
      known = subst (λ (config : Configuration). AreConfigured config.groups t.feed) c.take_all.ensures.config t.held.known;
      low = t.held.low;
      told = λ opening events t0 told h.
          let a = t.told opening events t0 told h in
          takes_break opening events t0 _ _ _ (g.M.Media.disk c.take_all.new.media) _ t.feed _ g.W.Watch.hears _ (g.W.Watch.seen c.take_all.new.watch) _ a t.feed (c.in_err-record.ensures.broken opening t.feed (events ++ a.more) t0 told a.taken);
    })

pub returns-in_err-record-clause-cause : goal.returns-in_err-record-clause-cause
returns-in_err-record-clause-cause g c = cause_joined _ _ _ _ c.from_residual-in_err-record.result c.take_all.ensures.cause.later c.in_err-record.ensures.cause

pub stop_watched-requires-clause-fits : goal.stop_watched-requires-clause-fits
stop_watched-requires-clause-fits g c =
    let t = c.in_ok-end.ensures.taken in
    let held = c.in_ok-record.ensures.held t.feed t.held in
    let same = rests t.feed c.record.new.self.ports c.rest.result held.counts held.low c.rest.ensures.sixteen c.rest.ensures.each in
    record {
      quiet = λ n off. ap (λ (f : ℕ → Counts). total (f n)) same ∙ quiet_group c.record.new.recorder.vault.config.groups t.feed n held.known off;
      place = let place = held.fits.place in let few : length t.feed ≤ 4_294_967_295 = held.few in omega (arith, place, few);
      numbers = λ n low.
          let missed = ap (λ (f : ℕ → Counts). total (f n)) same in
          let fits = numbers_fit t.feed c.record.new.self.batch.items c.record.new.recorder.maker held.fits held.few n low in
          omega (arith, missed, fits);
    }

pub returns-in_err-stop_watched-clause-broken : goal.returns-in_err-stop_watched-clause-broken
returns-in_err-stop_watched-clause-broken g c =
    let t = c.in_ok-end.ensures.taken in
    let held = c.in_ok-record.ensures.held t.feed t.held in
    let same = rests t.feed c.record.new.self.ports c.rest.result held.counts held.low c.rest.ensures.sixteen c.rest.ensures.each in
    on_err c.from_residual-in_err-stop_watched.result (record {
      feed = t.feed;
      read = λ first h. known_reach c.args.recorder.now.vault.config.groups first _ c.in_ok-end.end t.feed (t.read first h);
      known = subst (λ (config : Configuration). AreConfigured config.groups t.feed) c.take_all.ensures.config t.held.known;
      low = t.held.low;
      told = λ opening events t0 told h.
          let a = t.told opening events t0 told h in
          let b = c.in_ok-record.ensures.taken opening t.feed (events ++ a.more) t0 told a.taken in
          let ab = takes_join opening events t0 _ _ _ (g.M.Media.disk c.take_all.new.media) _ t.feed _ g.W.Watch.hears _ (g.W.Watch.seen c.take_all.new.watch) (g.W.Watch.seen c.record.new.watch) a t.feed [] b in
          let done = c.stop_watched.ensures.stopped opening (events ++ ab.more) t0 told c.in_ok-record.ensures.works ab.taken.has in
          takes_break opening events t0 _ _ _ (g.M.Media.disk c.record.new.media) _ t.feed [] g.W.Watch.hears _ (g.W.Watch.seen c.record.new.watch) _ ab t.feed
          (close_breaks opening (events ++ ab.more) t0 c.record.new.recorder c.stop_watched.new.self _ _ g.W.Watch.hears (g.W.Watch.seen c.record.new.watch) (g.W.Watch.seen c.stop_watched.new.watch) t.feed (rest_of c.rest.result) ab.taken same done);
    })

pub returns-in_err-stop_watched-clause-cause : goal.returns-in_err-stop_watched-clause-cause
returns-in_err-stop_watched-clause-cause g c =
    vault_joined _ _ _ _ _ c.from_residual-in_err-stop_watched.result c.in_ok-record.ensures.works (none_falls_join _ _ _ c.take_all.ensures.cause.later c.record.ensures.cause.later) c.in_err-stop_watched.ensures.writes.cause

pub returns-clause-recorded : goal.returns-clause-recorded
returns-clause-recorded g c =
    let t = c.in_ok-end.ensures.taken in
    let held = c.in_ok-record.ensures.held t.feed t.held in
    let same = rests t.feed c.record.new.self.ports c.rest.result held.counts held.low c.rest.ensures.sixteen c.rest.ensures.each in
    record {
      feed = t.feed;
      read = t.read;
      counts = held.counts;
      known = subst (λ (config : Configuration). AreConfigured config.groups t.feed) c.take_all.ensures.config t.held.known;
      low = t.held.low;
      told = λ opening events t0 told h.
          let a = t.told opening events t0 told h in
          let b = c.in_ok-record.ensures.taken opening t.feed (events ++ a.more) t0 told a.taken in
          let ab = takes_join opening events t0 _ _ _ (g.M.Media.disk c.take_all.new.media) _ t.feed _ g.W.Watch.hears _ (g.W.Watch.seen c.take_all.new.watch) (g.W.Watch.seen c.record.new.watch) a t.feed [] b in
          let done = c.stop_watched.ensures.stopped opening (events ++ ab.more) t0 told c.in_ok-record.ensures.works ab.taken.has in
          let left = state_left opening (events ++ ab.more) in
          let counted = c.stop_watched.ensures.counted left.start left.popped ((ab.taken.has.works c.in_ok-record.ensures.works).makes c.record.ensures.open).makes.counts in
          takes_close opening events t0 _ _ _ (g.M.Media.disk c.record.new.media) _ t.feed [] g.W.Watch.hears _ (g.W.Watch.seen c.record.new.watch) _ ab t.feed
          (closed_now opening (events ++ ab.more) t0 c.record.new.recorder c.stop_watched.new.self _ _ g.W.Watch.hears (g.W.Watch.seen c.record.new.watch) (g.W.Watch.seen c.stop_watched.new.watch) t.feed (rest_of c.rest.result) ab.taken same done counted);
    }
