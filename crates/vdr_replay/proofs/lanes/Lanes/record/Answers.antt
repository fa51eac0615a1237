use Rattle.std.proofs.Common.{◌≤◌, List, length, subst, refl, sym, arith}
use Rattle.vdr_outside.proofs.Counts.{on_err}
use Rattle.vdr_core.specs.Taken.{Captured}
use Rattle.vdr_recorder.specs.Calls.{FitBatch}
use Rattle.vdr_replay.proofs.Calls.{breaks_batch, takes_batch}
use Rattle.vdr_replay.proofs.Fitting.{holds_recorded, numbers_fit}
use Rattle.vdr_replay.proofs.lanes.Lanes.record.Goals as goal

pub take_batch_watched-requires-clause-fits : goal.take_batch_watched-requires-clause-fits
take_batch_watched-requires-clause-fits g c =
    let feed = c.requires.held.0 in
    let held = c.requires.held.1 in
    subst (λ (items : List Captured). FitBatch items c.args.recorder.now) (sym c.as_slice.ensures) (record {
      short = record {
        start = held.ahead.start;
        popped = held.ahead.popped;
        makes = held.ahead.makes;
        fit = let bytes = held.ahead.charged.bytes in let room = held.batch.room in omega (arith, bytes, room);
      };
      configured = held.batch.configured;
      places = let place = held.fits.place in let few : length feed ≤ 4_294_967_295 = held.few in omega (arith, place, few);
      numbers = λ n low. let fit = numbers_fit feed c.args.self.now.batch.items c.args.recorder.now.maker held.fits held.few n low in omega (arith, fit);
    })

pub returns-in_err-take_batch_watched-clause-broken : goal.returns-in_err-take_batch_watched-clause-broken
returns-in_err-take_batch_watched-clause-broken g c = λ opening feed events t0 told h.
    on_err c.from_residual.result (breaks_batch opening events t0 _ _ _ _ g.W.Watch.hears _ _ feed c.args.self.now.batch.items _ c.as_slice.ensures h c.requires.works
    (c.take_batch_watched.ensures.taken opening events t0 told c.requires.works h.has))

pub returns-clause-taken : goal.returns-clause-taken
returns-clause-taken g c = λ opening feed events t0 told h.
    takes_batch opening events t0 _ _ _ _ g.W.Watch.hears _ _ feed c.args.self.now.batch.items _ c.as_slice.ensures h c.requires.works
    (c.take_batch_watched.ensures.taken opening events t0 told c.requires.works h.has) c.in_ok-take_batch_watched.ensures.failing.works

pub returns-clause-held : goal.returns-clause-held
returns-clause-held g c = λ feed h.
    holds_recorded feed c.args.self.now _ c.args.recorder.now c.take_batch_watched.new.self _ c.as_slice.result.now h c.as_slice.ensures c.requires.works c.take_batch_watched.ensures.goes_on
    c.clear.ensures.empty c.clear.ensures.capacity refl refl refl refl
