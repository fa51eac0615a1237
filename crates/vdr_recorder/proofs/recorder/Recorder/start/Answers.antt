use Rattle.std.proofs.Common.{◌∙◌, sym, refl, ap, subst, arith, true≢false, [], Err}
use Rattle.std.proofs.lemmas.Result.{err_from_is_err_and}
use Rattle.vdr_core.specs.Runs.{RunStart}
use Rattle.vdr_config.specs.Configuration.{Configuration}
use Rattle.vdr_recorder.specs.Making.{MakesBy}
use Rattle.vdr_recorder.specs.Recordings.{RecorderState}
use Rattle.vdr_recorder.specs.declared.run.StartRefused.{StartRefused}
use Rattle.vdr_recorder.proofs.Running.{kept_of}
use Rattle.vdr_recorder.proofs.Starting.{fault_or_place, fault_or_tick, late_by, ok_or_place, ok_or_tick, place_or_tick, start_done, start_event, starts_next}
use Rattle.vdr_recorder.proofs.recorder.Recorder.start.Goals as goal

pub returns-then-place-ge-LIMIT-clause-limits : goal.returns-then-place-ge-LIMIT-clause-limits
returns-then-place-ge-LIMIT-clause-limits g c = record {
  place = rw (sym c.self.view_is) (λ works.
      let at = c.next_place-place.ensures in
      (λ _. omega (arith, at, c.if-place-ge-LIMIT.true), λ _. refl));
  tick = rw (sym c.self.view_is) (λ works.
      let at = c.next_place-place.ensures in
      (λ e. absurd (place_or_tick e), λ k. absurd (omega (arith, at, c.if-place-ge-LIMIT.true, k.0))));
}

pub returns-then-is_late-clause-limits : goal.returns-then-is_late-clause-limits
returns-then-is_late-clause-limits g c = record {
  place = rw (sym c.self.view_is) (λ works.
      let at = c.next_place-place.ensures in
      (λ e. absurd (place_or_tick (sym e)), λ k. absurd (omega (arith, at, c.if-place-ge-LIMIT.false, k))));
  tick = rw (sym c.self.view_is) (λ works.
      let at = c.next_place-place.ensures in
      (λ _. (omega (arith, at, c.if-place-ge-LIMIT.false), late_by _ _ c.last-last.ensures (c.is_late.ensures.0 c.if-is_late.true)), λ _. refl));
}

pub returns-in_err-commit-clause-limits : goal.returns-in_err-commit-clause-limits
returns-in_err-commit-clause-limits g c = record {
  place = rw (sym c.self.view_is) (λ works.
      let at = c.next_place-place.ensures in
      let p = err_from_is_err_and c.from_residual.result c.from_residual.ensures.1 in
      (λ e. absurd (fault_or_place c.from_residual.result (p.1 ∙ ap (λ (x : StartRefused). Err x) p.2) e), λ k. absurd (omega (arith, at, c.if-place-ge-LIMIT.false, k))));
  tick = rw (sym c.self.view_is) (λ works.
      let p = err_from_is_err_and c.from_residual.result c.from_residual.ensures.1 in (
        λ e. absurd (fault_or_tick c.from_residual.result (p.1 ∙ ap (λ (x : StartRefused). Err x) p.2) e),
        λ k. absurd (true≢false (sym (c.is_late.ensures.1 (late_by _ _ (sym c.last-last.ensures) k.1)) ∙ c.if-is_late.false)),
      ));
}

pub returns-clause-limits : goal.returns-clause-limits
returns-clause-limits g c = record {
  place = rw (sym c.self.view_is) (λ works.
      let at = c.next_place-place.ensures in
      (λ e. absurd (ok_or_place e), λ k. absurd (omega (arith, at, c.if-place-ge-LIMIT.false, k))));
  tick = rw (sym c.self.view_is) (λ works.
      (λ e. absurd (ok_or_tick e), λ k. absurd (true≢false (sym (c.is_late.ensures.1 (late_by _ _ (sym c.last-last.ensures) k.1)) ∙ c.if-is_late.false))));
}

pub returns-in_err-commit-clause-started : goal.returns-in_err-commit-clause-started
returns-in_err-commit-clause-started g c = rw (sym c.self.view_is) (λ opening events t0 told works h not_place not_tick.
    let begins = starts_next opening events t0 _ _ h works told c.config.result.now c.config.ensures c.next_place-place.result c.next_place-place.ensures c.last-last.result c.in_range.result c.last-last.ensures
    c.in_range.ensures.same in
    let k = start_event opening events t0 _ _ h works (ap (λ (s : RecorderState). s.is_open) c.self.view_is ∙ c.requires.closed) _ begins c.records.result.now (c.records.ensures ∙ c.start_run.ensures.records)
    c.commit.new.vault (g.M.Media.disk c.commit.new.media)
    (λ done. c.commit.ensures.event opening events t0 [] told (kept_of opening events t0 _ _ h) (omega (arith, c.self.invariant.legal.batch_low)) done) in
    start_done opening events t0 _ _ h works _ _ k (λ goes. absurd (true≢false (sym c.in_err-commit.ensures.fails ∙ goes))))

pub returns-clause-started : goal.returns-clause-started
returns-clause-started g c = rw (sym c.self.view_is) (λ opening events t0 told works h not_place not_tick.
    let begins = starts_next opening events t0 _ _ h works told c.config.result.now c.config.ensures c.next_place-place.result c.next_place-place.ensures c.last-last.result c.in_range.result c.last-last.ensures
    c.in_range.ensures.same in
    let k = start_event opening events t0 _ _ h works (ap (λ (s : RecorderState). s.is_open) c.self.view_is ∙ c.requires.closed) _ begins c.records.result.now (c.records.ensures ∙ c.start_run.ensures.records)
    c.commit.new.vault (g.M.Media.disk c.commit.new.media)
    (λ done. c.commit.ensures.event opening events t0 [] told (kept_of opening events t0 _ _ h) (omega (arith, c.self.invariant.legal.batch_low)) done) in
    start_done opening events t0 _ _ h works _ _ k (λ goes. (
      refl,
      subst (λ (x : Configuration × RunStart). MakesBy x.0 x.1 [] c.start_run.new.maker) (λ i. ((c.config.ensures ∙ sym c.commit.ensures.config) i, begins i)) c.start_run.ensures.makes,
    )))
