use Rattle.std.proofs.Common.{false, Some, refl}
use Rattle.vdr_tool.specs.Trials.{bench_text}
use Rattle.vdr_tool.proofs.FormatLemmas.{done_answers, refused_answers}
use Rattle.vdr_tool.proofs.TrialLemmas.{stops_at_bench}
use Rattle.vdr_tool.proofs.trying.format_bench.Goals as goal

pub returns-in-Ok-clause-ends : goal.returns-in-Ok-clause-ends
returns-in-Ok-clause-ends g c =
    let told = c.in-Ok.ensures in
    done_answers false (Some bench_text) bench_text _ _ (λ config is. refl) told.writes.others told.writes.others_meanwhile told.tested.config told.tested.formatted told.tested.small told.done told.moments

pub returns-in-Err-clause-ends : goal.returns-in-Err-clause-ends
returns-in-Err-clause-ends g c =
    let told = c.in-Err.ensures in
    rw c.status_of.ensures
    (refused_answers false (Some bench_text) bench_text _ _ (λ config is. refl) told.writes.others told.writes.others_meanwhile c.in-Err.refused told.tested.config told.tested.formatted told.tested.small told.refused.untouched told.writes.cause.in_all told.moments)

pub returns-in-Err-clause-stops : goal.returns-in-Err-clause-stops
returns-in-Err-clause-stops g c = rw c.status_of.ensures (stops_at_bench c.in-Err.refused c.in-Err.ensures.tested.config)
