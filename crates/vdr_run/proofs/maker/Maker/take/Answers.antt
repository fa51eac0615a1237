use Rattle.std.proofs.Common.{◌≡◌, ◌<◌, ◌+◌, ℕ, max, length, slice_set, get_or, true, false, refl, sym, ap, ◌∙◌, subst, arith, Option}
use Rattle.std.proofs.lemmas.List.{get_or_default}
use Rattle.vdr_core.specs.Taken.{Captured}
use Rattle.vdr_core.specs.Recorder.{Recorder, tick_with, admits, took, recorder_after}
use Rattle.vdr_meter.specs.Metering.{Metering}
use Rattle.vdr_run.specs.declared.maker.Maker.{Maker}
use Rattle.vdr_run.specs.Accounts.{nothing_counted, with_refused}
use Rattle.vdr_run.specs.Making.{counted_of, item_told}
use Rattle.vdr_run.specs.Meters.{IsMetered}
use Rattle.vdr_terms.proofs.Stamping.{stamp_kept}
use Rattle.vdr_run.proofs.Taking.{recorded_making, refused_making}
use Rattle.vdr_run.proofs.maker.Maker.take.Goals as goal

pub returns-then-admit-clause-making : goal.returns-then-admit-clause-making
returns-then-admit-clause-making c start popped before t =
    let r : Recorder = recorder_after start popped in
    let x : Captured = item_told c.args.item c.args.bytes.now in
    let old : Maker = c.args.self.now in
    let later : c.max-self.result ≡ max old.greatest x.received = c.max-self.ensures in
    let ticks : tick_with start r x ≡ c.tick-tick.result =
    sym (c.tick-tick.ensures.tick ∙ (λ i. t.makes.base i + (later ∙ ap (λ (n : ℕ). max n x.received) t.makes.greatest) i)) in
    let utc = stamp_kept x.utc c.requires.fits.stamp in
    let metered = c.admit.ensures.measures start r x t.makes.metered refl ticks refl in
    let admitted : admits start r x ≡ true = sym (c.admit.ensures.decides start r x t.makes.metered refl ticks refl) ∙ c.if-admit.true in
    recorded_making c.args.config.now start popped before old c.record.new.self x t c.requires.fits.group c.requires.fits.not_by_rate (c.law_of_sums.ensures.item start r x)
    (subst (λ (m : Option Metering). IsMetered start.limits m (took start r x).made) (sym c.record.ensures.meter) metered)
    _ c.record.ensures (record { base = refl; greatest = later; utc = utc; place = refl; accounts = refl; records = refl }) admitted

pub returns-else-admit-clause-making : goal.returns-else-admit-clause-making
returns-else-admit-clause-making c start popped before t =
    let r : Recorder = recorder_after start popped in
    let x : Captured = item_told c.args.item c.args.bytes.now in
    let old : Maker = c.args.self.now in
    let later : c.max-self.result ≡ max old.greatest x.received = c.max-self.ensures in
    let ticks : tick_with start r x ≡ c.tick-tick.result =
    sym (c.tick-tick.ensures.tick ∙ (λ i. t.makes.base i + (later ∙ ap (λ (n : ℕ). max n x.received) t.makes.greatest) i)) in
    let utc = stamp_kept x.utc c.requires.fits.stamp in
    let metered = c.admit.ensures.measures start r x t.makes.metered refl ticks refl in
    let within : x.group < length old.accounts = omega (arith, c.requires.fits.group) in
    let same : get_or old.accounts x.group c.index-self-item.result ≡ counted_of old x.group =
    get_or_default old.accounts x.group c.index-self-item.result nothing_counted within in
    let accounts = ap (slice_set old.accounts x.group) (c.refuse.ensures ∙ ap (with_refused x.missed) same) in
    let refused : admits start r x ≡ false = sym (c.admit.ensures.decides start r x t.makes.metered refl ticks refl) ∙ c.if-admit.false in
    refused_making c.args.config.now start popped before old _ x t c.requires.fits.group c.requires.fits.not_by_rate (c.law_of_sums.ensures.item start r x) metered
    (record { base = refl; greatest = later; utc = utc; place = refl; accounts = accounts; records = refl }) refused
