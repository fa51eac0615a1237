use Rattle.std.proofs.Common.{ℕ, ◌+◌, ◌*◌, ◌/◌, ◌%◌, ◌∙◌, ap}
use Rattle.vdr_export.proofs.Tracking.{by_parts}
use Rattle.vdr_export.proofs.track.samples_in.Goals as goal

pub returns-clause-samples : goal.returns-clause-samples
returns-clause-samples c =
    ap (λ (rate : ℕ). c.args.milliseconds / 1000 * rate + c.args.milliseconds % 1000 * rate / 1000) c.from-rate.ensures ∙ by_parts c.args.rate c.args.milliseconds
