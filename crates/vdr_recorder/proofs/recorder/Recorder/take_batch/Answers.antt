use Rattle.std.proofs.Common.{◌≡◌, ◌++◌, ◌∙◌, sym, ap, subst, arith, true, List, All}
use Rattle.vdr_terms.specs.Rates.{is_configured}
use Rattle.vdr_terms.specs.Records.{Record}
use Rattle.vdr_core.specs.Recorder.{recorder_after}
use Rattle.vdr_core.specs.RunStates.{recorder_in, state_left}
use Rattle.vdr_config.specs.Configuration.{Configuration}
use Rattle.vdr_config.specs.Sizes.{limits_in}
use Rattle.vdr_run.specs.Making.{Makes}
use Rattle.vdr_recorder.specs.Making.{FitBehind, MakesBy}
use Rattle.vdr_recorder.specs.Recordings.{RecorderState}
use Rattle.vdr_recorder.proofs.Running.{batch_done, batch_goes_on, batch_is_short, kept_of, makes_now, none_made}
use Rattle.vdr_recorder.proofs.recorder.Recorder.take_batch.Goals as goal

pub make-requires-clause-short : goal.make-requires-clause-short
make-requires-clause-short g c =
    subst (λ (config : Configuration). FitBehind config c.self.inside.maker c.args.items.now config.batch) (sym c.config.ensures)
    (subst (λ (s : RecorderState). FitBehind s.vault.config s.maker c.args.items.now s.vault.config.batch) (sym c.self.view_is) c.requires.fits.short)

pub commit-requires-clause-short : goal.commit-requires-clause-short
commit-requires-clause-short g c =
    batch_is_short c.self.inside.vault.config c.self.inside.maker c.args.items.now c.records.result.now
    (subst (λ (s : RecorderState). FitBehind s.vault.config s.maker c.args.items.now s.vault.config.batch) (sym c.self.view_is) c.requires.fits.short)
    (λ start popped makes.
    c.make.ensures.records start popped (subst (λ (config : Configuration). Makes config start popped c.self.inside.maker) (sym c.config.ensures) makes)
    ∙ ap (λ (rs : List Record). (recorder_after start popped).made ++ rs) (sym c.records.ensures))

pub returns-clause-taken : goal.returns-clause-taken
returns-clause-taken g c = rw (sym c.self.view_is) (λ opening events t0 told works h.
    let opened = ap (λ (s : RecorderState). s.is_open) c.self.view_is ∙ c.requires.open in
    let makes = subst (λ (config : Configuration). MakesBy config (state_left opening events).start (state_left opening events).popped c.self.inside.maker) (sym c.config.ensures)
    (makes_now opening events t0 _ _ h works opened) in
    let made = c.make.ensures.records (state_left opening events).start (state_left opening events).popped makes.makes
    ∙ ap (λ (rs : List Record). (recorder_in (state_left opening events)).made ++ rs) (sym c.records.ensures) in
    let short = batch_is_short c.self.inside.vault.config c.self.inside.maker c.args.items.now c.records.result.now
    (subst (λ (s : RecorderState). FitBehind s.vault.config s.maker c.args.items.now s.vault.config.batch) (sym c.self.view_is) c.requires.fits.short)
    (λ start popped makes.
    c.make.ensures.records start popped (subst (λ (config : Configuration). Makes config start popped c.self.inside.maker) (sym c.config.ensures) makes)
    ∙ ap (λ (rs : List Record). (recorder_after start popped).made ++ rs) (sym c.records.ensures)) in
    let done = batch_goes_on opening events t0 _ _ h works opened c.args.items.now c.records.result.now made short
    (subst (λ (s : RecorderState). All (λ c. is_configured (limits_in s.vault.config.groups c.group) ≡ true) c.args.items.now) (sym c.self.view_is) c.requires.fits.configured)
    c.note_lengths.ensures in
    let k = c.commit.ensures.event opening events t0 c.args.items.now told (kept_of opening events t0 _ _ h) (omega (arith, c.self.invariant.legal.batch_low)) done in (
      c.records.result.now,
      made,
      batch_done opening events t0 _ _ h works opened c.args.items.now _ _ c.records.result.now made k opened
          (subst (λ (config : Configuration). MakesBy config (state_left opening events).start ((state_left opening events).popped ++ c.args.items.now) c.make.new.maker) (c.config.ensures ∙ sym c.commit.ensures.config)
          (c.make.ensures.makes (state_left opening events).start (state_left opening events).popped makes)),
    ))

pub returns-clause-nothing : goal.returns-clause-nothing
returns-clause-nothing g c = rw (sym c.self.view_is) (λ start popped makes same.
    let made = c.make.ensures.records start popped (subst (λ (config : Configuration). Makes config start popped c.self.inside.maker) (sym c.config.ensures) makes) in
    (c.commit.ensures.nothing (none_made (recorder_after start popped).made (recorder_after start (popped ++ c.args.items.now)).made c.records.result.now
    (made ∙ ap (λ (rs : List Record). (recorder_after start popped).made ++ rs) (sym c.records.ensures)) same)).1)
