use Rattle.std.proofs.Common.{◌<◌, ◌∷◌, ◌++◌, [], List, length, refl, sym, ◌∙◌, subst, arith}
use Rattle.vdr_core.specs.Taken.{Captured}
use Rattle.vdr_config.specs.Configuration.{Configuration}
use Rattle.vdr_outside.proofs.Counts.{none_falls_join, none_fell, on_err}
use Rattle.vdr_feed.specs.Feed.{longest_feed}
use Rattle.vdr_replay.specs.Given.{HoldsFeed}
use Rattle.vdr_replay.specs.Taking.{HasTaken}
use Rattle.vdr_replay.proofs.Causes.{cause_joined}
use Rattle.vdr_replay.proofs.Passing.{takes_break, takes_join, takes_none}
use Rattle.vdr_feed.proofs.Progress.{read_next}
use Rattle.vdr_replay.proofs.Reading.{reached}
use Rattle.vdr_replay.proofs.feeding.take_all.Goals as goal

pub loop-end-init : goal.loop-end-init
loop-end-init g c = record {
  walked = (
    [],
    λ first h. h,
    c.requires.held,
    λ opening events t0 told h. takes_none opening [] _ events t0 _ _ g.W.Watch.hears _
        (subst (λ (batch : List Captured). HasTaken opening [] batch events t0 c.args.recorder.now (g.M.Media.disk c.args.media.now)) (sym c.requires.empty) h),
  );
  works = c.requires.works;
  watched = c.requires.watched;
  opened = c.requires.open;
  config = refl;
  rings = c.requires.rings;
  others = λ told k apart. refl;
  sizes = refl;
  falls = none_fell _;
  later = omega arith;
}

pub loop-end-preserved : goal.loop-end-preserved
loop-end-preserved g c =
    let w = c.loop-end.invariant.walked in
    let gave = c.in_default.ensures.gave in
    let some = w.1 c.requires.read.0 c.requires.read.1 in
    let few : length w.0 < longest_feed = omega (arith, gave.1.few, some.count, some.limit) in
    let held = subst (λ (config : Configuration). HoldsFeed config w.0 c.loop-end.lanes c.loop-end.recorder.maker) (sym c.loop-end.invariant.config) w.2 in
    record {
      walked = (
        w.0 ++ gave.0 ∷ [],
        λ first h. read_next first _ _ _ _ _ w.0 gave.0 (w.1 first h) gave.1 gave.2,
        subst (λ (config : Configuration). HoldsFeed config (w.0 ++ gave.0 ∷ []) c.take_item.new.lanes c.take_item.new.recorder.maker) (c.take_item.ensures.config ∙ c.loop-end.invariant.config)
            (c.in_ok-take_item.ensures.held w.0 gave.0 held few gave.1.holds),
        λ opening events t0 told h.
            let t = w.3 opening events t0 told h in
            takes_join opening events t0 _ _ _ (g.M.Media.disk c.loop-end.media) _ w.0 _ g.W.Watch.hears _ (g.W.Watch.seen c.loop-end.watch) _ t (w.0 ++ gave.0 ∷ []) _
            (c.in_ok-take_item.ensures.taken opening w.0 gave.0 (events ++ t.more) t0 told gave.1.holds held t.taken),
      );
      works = c.in_ok-take_item.ensures.works;
      watched = c.take_item.ensures.watched;
      opened = c.take_item.ensures.open;
      config = c.take_item.ensures.config ∙ c.loop-end.invariant.config;
      rings = c.take_item.ensures.rings;
      others = λ told k apart. c.take_item.ensures.others told k apart ∙ c.loop-end.invariant.others told k apart;
      sizes = c.take_item.ensures.sizes ∙ c.loop-end.invariant.sizes;
      falls = none_falls_join _ _ _ c.loop-end.invariant.falls c.in_ok-take_item.ensures.cause.later;
      later = omega (arith, c.loop-end.invariant.later, c.read_next.ensures.later);
    }

pub returns-in_err-take_item-clause-broken : goal.returns-in_err-take_item-clause-broken
returns-in_err-take_item-clause-broken g c =
    let w = c.loop-end.invariant.walked in
    on_err c.from_residual.result (record {
      feed = w.0;
      read = λ first h. reached first _ _ w.0 (w.1 first h);
      known = w.2.known;
      low = w.2.low;
      told = λ opening events t0 told h.
          let t = w.3 opening events t0 told h in
          takes_break opening events t0 _ _ _ (g.M.Media.disk c.loop-end.media) _ w.0 _ g.W.Watch.hears _ (g.W.Watch.seen c.loop-end.watch) _ t w.0
          (c.in_err-take_item.ensures.broken opening w.0 (events ++ t.more) t0 told t.taken);
    })

pub returns-in_err-take_item-clause-cause : goal.returns-in_err-take_item-clause-cause
returns-in_err-take_item-clause-cause g c = cause_joined _ _ _ _ c.from_residual.result c.loop-end.invariant.falls c.in_err-take_item.ensures.cause
