use Rattle.std.proofs.Common.{◌≡◌, ◌∙◌, ℕ, sym, ap, subst, refl, arith, false, List, []}
use Rattle.vdr_terms.specs.Rates.{is_configured}
use Rattle.vdr_terms.specs.Records.{Record, total}
use Rattle.vdr_core.specs.Histories.Act.{Commit}
use Rattle.vdr_core.specs.RunStates.{state_left}
use Rattle.vdr_config.specs.Configuration.{Configuration}
use Rattle.vdr_config.specs.Sizes.{limits_in}
use Rattle.vdr_durability.specs.Commits.{IsDoneIn}
use Rattle.vdr_run.specs.Making.{Makes, rest_of}
use Rattle.vdr_recorder.specs.Recordings.{KeepsEvent, RecorderState}
use Rattle.vdr_recorder.proofs.Running.{close_done, close_goes_on, close_is_short, closing_is, kept_of, makes_now}
use Rattle.vdr_recorder.proofs.recorder.Recorder.stop.Goals as goal

pub commit-requires-clause-short : goal.commit-requires-clause-short
commit-requires-clause-short g c =
    let opened = ap (λ (s : RecorderState). s.is_open) c.self.view_is ∙ c.requires.open in
    let m = c.self.invariant.makes opened in
    let makes = subst (λ (config : Configuration). Makes config m.0 m.1 c.self.inside.maker) (sym c.config.ensures) m.2.makes in
    close_is_short c.self.inside.vault.config c.args.rest.now c.records.result.now m.0 m.1 c.self.invariant.legal.batch_low (c.records.ensures ∙ c.close.ensures.records m.0 m.1 makes)

pub returns-clause-stopped : goal.returns-clause-stopped
returns-clause-stopped g c = rw (sym c.self.view_is) (λ opening events t0 told works h.
    let opened = ap (λ (s : RecorderState). s.is_open) c.self.view_is ∙ c.requires.open in
    let makes = subst (λ (config : Configuration). Makes config (state_left opening events).start (state_left opening events).popped c.self.inside.maker) (sym c.config.ensures)
    (makes_now opening events t0 _ _ h works opened).makes in
    let are = closing_is (state_left opening events).start (state_left opening events).popped c.args.rest.now c.records.result.now c.close.new.self.records.items c.records.ensures
    (c.close.ensures.records (state_left opening events).start (state_left opening events).popped makes) in
    let done = close_goes_on opening events t0 _ _ h works opened (rest_of c.args.rest.now)
    (subst (λ (s : RecorderState). (g : ℕ) → is_configured (limits_in s.vault.config.groups g) ≡ false → total (rest_of c.args.rest.now g) ≡ 0) (sym c.self.view_is) c.requires.fits.quiet) in
    let k = c.commit.ensures.event opening events t0 [] told (kept_of opening events t0 _ _ h) (omega (arith, c.self.invariant.legal.batch_low))
    (subst (λ (rs : List Record). IsDoneIn opening.settings.limits c.self.inside.vault.config.batch (state_left opening events) (Commit rs [])) (sym are) done) in
    close_done opening events t0 _ _ h works opened (rest_of c.args.rest.now) _ _
    (subst (λ (rs : List Record). KeepsEvent opening events t0 (Commit rs []) c.commit.new.vault (g.M.Media.disk c.args.media.now) (g.M.Media.disk c.commit.new.media)) are k) refl)
