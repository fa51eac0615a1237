use Rattle.std.proofs.Common.{refl}
use Rattle.std.proofs.lemmas.Result.{err_from_is_err_and}
use Rattle.vdr_config.specs.Grammar.{top_of}
use Rattle.vdr_config.proofs.Elements.{stops}
use Rattle.vdr_config.proofs.reading.top_entry.Goals as goal

pub returns-in_err-long_seconds-clause-exact : goal.returns-in_err-long_seconds-clause-exact
unfolding top_of
returns-in_err-long_seconds-clause-exact c =
    let p = err_from_is_err_and c.from_residual-in_err-long_seconds.result c.from_residual-in_err-long_seconds.ensures.1 in
    rw (p.1, p.2, c.in_ok-profile.ensures, c.in_ok-capsule_seconds.ensures.exact) (stops _ _ _ c.in_err-long_seconds.ensures.exact)

pub returns-in_err-float_seconds-clause-exact : goal.returns-in_err-float_seconds-clause-exact
unfolding top_of
returns-in_err-float_seconds-clause-exact c =
    let p = err_from_is_err_and c.from_residual-in_err-float_seconds.result c.from_residual-in_err-float_seconds.ensures.1 in
    rw (p.1, p.2, c.in_ok-profile.ensures, c.in_ok-capsule_seconds.ensures.exact, c.in_ok-long_seconds.ensures.exact, ← c.longer-longest.ensures) (stops _ _ _ c.in_err-float_seconds.ensures.exact)

pub returns-in_err-incident_seconds-clause-exact : goal.returns-in_err-incident_seconds-clause-exact
unfolding top_of
returns-in_err-incident_seconds-clause-exact c =
    let p = err_from_is_err_and c.from_residual-in_err-incident_seconds.result c.from_residual-in_err-incident_seconds.ensures.1 in
    rw (p.1, p.2, c.in_ok-profile.ensures, c.in_ok-capsule_seconds.ensures.exact, c.in_ok-long_seconds.ensures.exact, ← c.longer-longest.ensures, c.in_ok-float_seconds.ensures.exact) (stops _ _ _ c.in_err-incident_seconds.ensures.exact)

pub returns-in_err-incident_slots-clause-exact : goal.returns-in_err-incident_slots-clause-exact
unfolding top_of
returns-in_err-incident_slots-clause-exact c =
    let p = err_from_is_err_and c.from_residual-in_err-incident_slots.result c.from_residual-in_err-incident_slots.ensures.1 in
    rw (p.1, p.2, c.in_ok-profile.ensures, c.in_ok-capsule_seconds.ensures.exact, c.in_ok-long_seconds.ensures.exact, ← c.longer-longest.ensures, c.in_ok-float_seconds.ensures.exact, c.in_ok-incident_seconds.ensures.exact) (stops _ _ _ c.in_err-incident_slots.ensures.exact)

pub returns-in_err-segment-clause-exact : goal.returns-in_err-segment-clause-exact
unfolding top_of
returns-in_err-segment-clause-exact c =
    let p = err_from_is_err_and c.from_residual-in_err-segment.result c.from_residual-in_err-segment.ensures.1 in
    rw (p.1, p.2, c.in_ok-profile.ensures, c.in_ok-capsule_seconds.ensures.exact, c.in_ok-long_seconds.ensures.exact, ← c.longer-longest.ensures, c.in_ok-float_seconds.ensures.exact, c.in_ok-incident_seconds.ensures.exact, c.in_ok-incident_slots.ensures.exact) (stops _ _ _ c.in_err-segment.ensures.exact)

pub returns-in_err-batch-clause-exact : goal.returns-in_err-batch-clause-exact
unfolding top_of
returns-in_err-batch-clause-exact c =
    let p = err_from_is_err_and c.from_residual-in_err-batch.result c.from_residual-in_err-batch.ensures.1 in
    rw (p.1, p.2, c.in_ok-profile.ensures, c.in_ok-capsule_seconds.ensures.exact, c.in_ok-long_seconds.ensures.exact, ← c.longer-longest.ensures, c.in_ok-float_seconds.ensures.exact, c.in_ok-incident_seconds.ensures.exact, c.in_ok-incident_slots.ensures.exact, c.in_ok-segment.ensures.exact) (stops _ _ _ c.in_err-batch.ensures.exact)

pub returns-in_err-queue-clause-exact : goal.returns-in_err-queue-clause-exact
unfolding top_of
returns-in_err-queue-clause-exact c =
    let p = err_from_is_err_and c.from_residual-in_err-queue.result c.from_residual-in_err-queue.ensures.1 in
    rw (p.1, p.2, c.in_ok-profile.ensures, c.in_ok-capsule_seconds.ensures.exact, c.in_ok-long_seconds.ensures.exact, ← c.longer-longest.ensures, c.in_ok-float_seconds.ensures.exact, c.in_ok-incident_seconds.ensures.exact, c.in_ok-incident_slots.ensures.exact, c.in_ok-segment.ensures.exact, c.in_ok-batch.ensures.exact) (stops _ _ _ c.in_err-queue.ensures.exact)

pub returns-clause-exact : goal.returns-clause-exact
unfolding top_of
returns-clause-exact c = rw (c.in_ok-profile.ensures, c.in_ok-capsule_seconds.ensures.exact, c.in_ok-long_seconds.ensures.exact, ← c.longer-longest.ensures, c.in_ok-float_seconds.ensures.exact, c.in_ok-incident_seconds.ensures.exact, c.in_ok-incident_slots.ensures.exact, c.in_ok-segment.ensures.exact, c.in_ok-batch.ensures.exact, c.in_ok-queue.ensures.exact, c.unwrap_or.ensures, c.is_some.ensures) refl
