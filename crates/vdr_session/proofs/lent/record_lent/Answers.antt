use Rattle.std.proofs.Common.{[], sym, subst}
use Rattle.vdr_recorder.specs.Watched.{IsWatched, Watched}
use Rattle.vdr_session.specs.Standing.{IsKept}
use Rattle.vdr_session.proofs.Steps.{first_kept, fresh_kept, taking_kept}
use Rattle.vdr_session.proofs.lent.record_lent.Goals as goal

pub under_latch-requires-clause-leaves : goal.under_latch-requires-clause-leaves
under_latch-requires-clause-leaves g c = λ _ _. (
  subst (λ (w : Watched). IsKept (record { clock = g.O.Lent.clock; now = g.O.Lent.now; since = g.O.Lent.since; until = g.O.Lent.until; reads = g.O.Lent.reads; channels = g.O.Lent.channels; hears = g.W.Watch.hears; heard = g.O.Lent.heard }) g.O.Lent.began g.O.Lent.rates g.O.Lent.room g.O.Lent.sizes g.O.Lent.faults [] w c.args.recorder (g.M.Media.disk c.args.media.now) (g.M.Media.faults c.args.media.now))
      (sym c.requires.heard)
      (first_kept (record { clock = g.O.Lent.clock; now = g.O.Lent.now; since = g.O.Lent.since; until = g.O.Lent.until; reads = g.O.Lent.reads; channels = g.O.Lent.channels; hears = g.W.Watch.hears; heard = g.O.Lent.heard }) g.O.Lent.began g.O.Lent.rates g.O.Lent.room g.O.Lent.sizes g.O.Lent.faults c.args.recorder (g.M.Media.disk c.args.media.now) (g.M.Media.faults c.args.media.now)
      c.requires.config c.requires.channels c.requires.rings c.requires.new c.requires.may c.requires.sizes c.requires.faults c.requires.before c.requires.began
      (subst (λ (w : Watched). IsWatched g.W.Watch.hears w c.args.recorder (g.M.Media.disk c.args.media.now)) c.requires.heard c.requires.watched)),
  sym c.requires.name,
  sym c.requires.watch_name,
  c.new.ensures,
)

pub under_latch-requires-clause-fresh : goal.under_latch-requires-clause-fresh
under_latch-requires-clause-fresh g c = λ _ _ history x k e. fresh_kept (record { clock = g.O.Lent.clock; now = g.O.Lent.now; since = g.O.Lent.since; until = g.O.Lent.until; reads = g.O.Lent.reads; channels = g.O.Lent.channels; hears = g.W.Watch.hears; heard = g.O.Lent.heard }) g.O.Lent.began g.O.Lent.rates g.O.Lent.room g.O.Lent.sizes g.O.Lent.faults history (g.W.Watch.seen x.watch.now) x.recorder (g.M.Media.disk x.media.now) (g.M.Media.faults x.media.now) k.0 e

pub under_latch-requires-clause-takes : goal.under_latch-requires-clause-takes
under_latch-requires-clause-takes g c = λ _ _ history x k is. taking_kept (record { clock = g.O.Lent.clock; now = g.O.Lent.now; since = g.O.Lent.since; until = g.O.Lent.until; reads = g.O.Lent.reads; channels = g.O.Lent.channels; hears = g.W.Watch.hears; heard = g.O.Lent.heard }) g.O.Lent.began g.O.Lent.rates g.O.Lent.room g.O.Lent.sizes g.O.Lent.faults history (g.W.Watch.seen x.watch.now) x.recorder (g.M.Media.disk x.media.now) (g.M.Media.faults x.media.now) k.0 is
