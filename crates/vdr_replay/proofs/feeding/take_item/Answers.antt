use Rattle.std.proofs.Common.{sym, subst}
use Rattle.vdr_config.specs.Configuration.{Configuration}
use Rattle.vdr_config.specs.Sizes.{limits_in}
use Rattle.vdr_outside.proofs.Counts.{on_err}
use Rattle.vdr_replay.specs.Feeding.{HasRate}
use Rattle.vdr_replay.proofs.Calls.{takes_more}
use Rattle.vdr_replay.proofs.Fitting.{holds_more}
use Rattle.vdr_replay.proofs.feeding.take_item.Goals as goal

pub take-requires-clause-sized : goal.take-requires-clause-sized
take-requires-clause-sized g c = let held = c.requires.held in (c.in_ok-make_room.ensures.held held.0 held.1).batch.sized

pub take-requires-clause-fits : goal.take-requires-clause-fits
take-requires-clause-fits g c =
    let held = c.requires.held in
    let now = c.in_ok-make_room.ensures.held held.0 held.1 in (
      limits_in c.make_room.new.recorder.vault.config.groups,
      now.ahead.popped,
      held.0,
      now.counts,
      held.2,
      now.ahead.charged,
      c.in_ok-make_room.ensures.room (limits_in c.make_room.new.recorder.vault.config.groups) now.ahead.popped held.0 now.counts now.ahead.charged,
    )

pub returns-clause-taken : goal.returns-clause-taken
returns-clause-taken g c = λ opening feed x events t0 told holds held h.
    takes_more opening feed x c.make_room.new.lanes.batch.items _ events t0 _ _ _ g.W.Watch.hears _ _ (c.in_ok-make_room.ensures.taken opening feed events t0 told h)
    (c.take.ensures.batch feed x (c.in_ok-make_room.ensures.held feed held).counts holds)

pub returns-clause-held : goal.returns-clause-held
returns-clause-held g c = λ feed x h few holds.
    let held = c.in_ok-make_room.ensures.held feed h in
    holds_more c.make_room.new.recorder.vault.config feed x c.args.item.now c.make_room.new.lanes _ c.make_room.new.recorder.maker held few holds c.requires.legal.group
    (subst (λ (config : Configuration). HasRate config.groups c.args.item.now.group) (sym c.make_room.ensures.config) c.requires.configured)
    (c.take.ensures.counts feed x held.counts holds) (c.take.ensures.batch feed x held.counts holds) c.take.ensures.room c.take.ensures.sized
    (record {
      start = held.ahead.start;
      popped = held.ahead.popped;
      makes = held.ahead.makes;
      charged = c.take.ensures.charged (limits_in c.make_room.new.recorder.vault.config.groups) held.ahead.popped feed held.counts held.ahead.charged
          (c.in_ok-make_room.ensures.room (limits_in c.make_room.new.recorder.vault.config.groups) held.ahead.popped feed held.counts held.ahead.charged);
    })

pub returns-in_err-make_room-clause-broken : goal.returns-in_err-make_room-clause-broken
returns-in_err-make_room-clause-broken g c = λ opening feed events t0 told h. on_err c.from_residual.result (c.in_err-make_room.ensures.broken opening feed events t0 told h)
